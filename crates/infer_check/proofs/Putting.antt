-- The type of an application while it is walked: from one call of a reducer to the next, and with an argument more.
use Rattle.std.proofs.Common.{List, [], ◌∷◌, ◌++◌, ◌≡◌, ◌+◌, ℕ, suc, Bool, true, false, refl, ap, ◌∙◌, arith, map, sym as flip, subst, length}
use Rattle.dk_model.specs.Trees.{Tree, product}
use Rattle.dk_model.specs.Signatures.{PlainSignature}
use Rattle.dk_model.specs.Substitution.{substitute}
use Rattle.dk_model.specs.Erasure.{erased}
use Rattle.dk_model.specs.Captures.{mentions_others}
use Rattle.dk_model.specs.Bounds.{IsClosedAt}
use Rattle.dk_model.specs.Typing.{Judged, answer, after, as_product, parts_of_product}
use Rattle.dk_model.specs.declared.code.Code.TheVariants.{E20}
use Rattle.dk_model.proofs.Closed.{closed_further, substitute_closed}
use Rattle.dk_model.proofs.Turns.{whnf_stands}
use Rattle.shared_term.specs.Changes.{substitute_all}
use Rattle.shared_term.proofs.Together.{all_closed, all_none, all_pushed, all_unmentioned}
use Rattle.dk_model.specs.declared.node.NodeOf.{NodeOf}
use Rattle.signature_log.specs.Reducers.{Keeps, AreOwned, built}
use Rattle.infer_check.specs.declared.applied.Applied.{Applied}
use Rattle.infer_check.specs.Applied.{put_together, OwnsApplied}
use Rattle.infer_check.proofs.Contexts.{owned_kept, owned_pushed, types_kept}
use Rattle.infer_check.proofs.Spines.{map_pushed}

-- trees

product_for_a_unit : (S : PlainSignature) (A B : Tree) (m : ℕ) → as_product S E20 (product A B) (suc m) ≡ answer (A, B) m
product_for_a_unit S A B m = ap (λ x. after x (parts_of_product E20)) (whnf_stands S m (product A B) refl refl)

-- the parts of a product with these put in
parts_put : (S : PlainSignature) (us : List Tree) (t A B : Tree) (n m : ℕ) → t ≡ product A B → n ≡ m + 1
    → as_product S E20 (substitute_all 0 us t) n ≡ answer (substitute_all 0 us A, substitute_all 1 us B) m
parts_put S us t A B n m e f =
    let g : n ≡ suc m = omega (arith, f) in
    ap (λ x. as_product S E20 (substitute_all 0 us x) n) e ∙ ap (as_product S E20 (product (substitute_all 0 us A) (substitute_all 1 us B))) g
    ∙ product_for_a_unit S (substitute_all 0 us A) (substitute_all 1 us B) m

-- a codomain that mentions no variable
closed_put : (us vs : List Tree) (e t : Tree) → IsClosedAt 0 t → substitute_all 0 vs t ≡ substitute 0 e (substitute_all 1 us t)
closed_put us vs e t h =
    all_closed 0 vs t h ∙ flip (ap (substitute 0 e) (all_closed 1 us t (closed_further 0 1 t (omega arith) h)) ∙ substitute_closed 0 e t h)

-- one argument more
argument_put : (us : List Tree) (x e t : Tree) → (mentions_others 0 1 [] t ≡ true → x ≡ e) → substitute_all 0 (us ++ x ∷ []) t ≡ substitute 0 e (substitute_all 1 us t)
argument_put us x e t h = by (mentions_others 0 1 [] t) refl
  where
    by : (b : Bool) → mentions_others 0 1 [] t ≡ b → substitute_all 0 (us ++ x ∷ []) t ≡ substitute 0 e (substitute_all 1 us t)
    by true q = ap (λ y. substitute_all 0 (us ++ y ∷ []) t) (h q) ∙ all_pushed 0 us e t
    by false q = all_unmentioned 0 us x e t q ∙ all_pushed 0 us e t

-- over a reducer

module _ {R T : Type 0} (owns : R → T → Type 0) (denotes : R → T → Tree) where
  pub none_put : (r : R) (d : ℕ) (a : Applied T) → a.arguments.items ≡ [] → put_together owns denotes r d a ≡ denotes r a.typ
  none_put r d a e = ap (λ ts. substitute_all d (map (denotes r) ts) (denotes r a.typ)) e ∙ all_none d (denotes r a.typ)

  pub empty_put : (r : R) (t : T) (ts : List T) → length ts ≡ 0 → denotes r t ≡ substitute_all 0 (map (denotes r) ts) (denotes r t)
  empty_put r t [] e = flip (all_none 0 (denotes r t))
  empty_put r t (x ∷ ts) e = absurd (omega (arith, e))

  pub none_owned : (r : R) (a : Applied T) → a.arguments.items ≡ [] → owns r a.typ → OwnsApplied owns denotes r a
  none_owned r a e o = record { typ = o; arguments = subst (AreOwned owns r) (flip e) tt }

  module _ (old new : R) (k : Keeps owns denotes old new) where
    pub applied_kept : (a : Applied T) → OwnsApplied owns denotes old a → OwnsApplied owns denotes new a
    applied_kept a o = record { typ = k.own a.typ o.typ; arguments = owned_kept old new a.arguments.items k o.arguments }

    pub together_kept : (d : ℕ) (a : Applied T) → OwnsApplied owns denotes old a → put_together owns denotes new d a ≡ put_together owns denotes old d a
    together_kept d a o =
        ap (λ us. substitute_all d us (denotes new a.typ)) (types_kept old new a.arguments.items k o.arguments)
        ∙ ap (substitute_all d (map (denotes old) a.arguments.items)) (k.same a.typ o.typ)

  -- the parts of a product, from the state before it was opened to that in which its domain was made
  pub function_given : (S : PlainSignature) (old mid new : R) (t d c made : T) (ts : List T) (n m : ℕ) → Keeps owns denotes old mid → Keeps owns denotes mid new
      → AreOwned owns old ts → denotes old t ≡ product (denotes mid d) (denotes mid c) → owns mid c
      → denotes new made ≡ substitute_all 0 (map (denotes mid) ts) (denotes mid d) → n ≡ m + 1
      → as_product S E20 (substitute_all 0 (map (denotes old) ts) (denotes old t)) n ≡ answer (denotes new made, substitute_all 1 (map (denotes new) ts) (denotes new c)) m
  function_given S old mid new t d c made ts n m h k o e w g f =
      let p = types_kept old mid ts h o in
      let q = types_kept mid new ts k (owned_kept old mid ts h o) in
      parts_put S (map (denotes old) ts) (denotes old t) (denotes mid d) (denotes mid c) n m e f
      ∙ ap (λ x. answer (x, substitute_all 1 (map (denotes old) ts) (denotes mid c)) m) (flip (g ∙ ap (λ us. substitute_all 0 us (denotes mid d)) p))
      ∙ ap (λ us. answer (denotes new made, substitute_all 1 us (denotes mid c)) m) (flip (q ∙ p))
      ∙ ap (λ x. answer (denotes new made, substitute_all 1 (map (denotes new) ts) x) m) (flip (k.same c w))

  pub closed_given : (r : R) (a b : Applied T) (x : T) → a.typ ≡ b.typ → IsClosedAt 0 (denotes r b.typ)
      → put_together owns denotes r 0 a ≡ substitute 0 (erased (denotes r x)) (put_together owns denotes r 1 b)
  closed_given r a b x e h =
      ap (λ t. substitute_all 0 (map (denotes r) a.arguments.items) (denotes r t)) e
      ∙ closed_put (map (denotes r) b.arguments.items) (map (denotes r) a.arguments.items) (erased (denotes r x)) (denotes r b.typ) h

  pub argument_given : (old new : R) (k : Keeps owns denotes old new) (a b : Applied T) (x y : T) → OwnsApplied owns denotes old b
      → a.typ ≡ b.typ → a.arguments.items ≡ b.arguments.items ++ y ∷ []
      → (mentions_others 0 1 [] (denotes old b.typ) ≡ true → denotes new y ≡ erased (denotes old x))
      → put_together owns denotes new 0 a ≡ substitute 0 (erased (denotes old x)) (put_together owns denotes old 1 b)
  argument_given old new k a b x y o e f h =
      ap (λ t. substitute_all 0 (map (denotes new) a.arguments.items) (denotes new t)) e
      ∙ ap (λ ts. substitute_all 0 (map (denotes new) ts) (denotes new b.typ)) f
      ∙ ap (λ us. substitute_all 0 us (denotes new b.typ)) (map_pushed (denotes new) b.arguments.items y ∙ ap (λ (us : List Tree). us ++ denotes new y ∷ []) (types_kept old new b.arguments.items k o.arguments))
      ∙ ap (substitute_all 0 (map (denotes old) b.arguments.items ++ denotes new y ∷ [])) (k.same b.typ o.typ)
      ∙ argument_put (map (denotes old) b.arguments.items) (denotes new y) (erased (denotes old x)) (denotes old b.typ) h

  pub argument_owned : (old new : R) (k : Keeps owns denotes old new) (a b : Applied T) (y : T) → OwnsApplied owns denotes old b
      → a.typ ≡ b.typ → a.arguments.items ≡ b.arguments.items ++ y ∷ [] → owns new y → OwnsApplied owns denotes new a
  argument_owned old new k a b y o e f w = record {
    typ = subst (owns new) (flip e) (k.own b.typ o.typ);
    arguments = subst (AreOwned owns new) (flip f) (owned_pushed owns new b.arguments.items y (owned_kept old new b.arguments.items k o.arguments) w);
  }

  -- the whole type, from the state before it was opened to that in which it was put together
  pub whole_given : (old opened built_in new : R) (a : Applied T) (n : NodeOf T) (t whole : T) (ts : List T) → Keeps owns denotes old built_in → OwnsApplied owns denotes old a
      → denotes old a.typ ≡ built denotes opened n → denotes built_in t ≡ built denotes opened n → ts ≡ a.arguments.items
      → denotes new whole ≡ substitute_all 0 (map (denotes built_in) ts) (denotes built_in t) → denotes new whole ≡ put_together owns denotes old 0 a
  whole_given old opened built_in new a n t whole ts k o e f h g =
      g ∙ ap (λ us. substitute_all 0 (map (denotes built_in) us) (denotes built_in t)) h
      ∙ ap (substitute_all 0 (map (denotes built_in) a.arguments.items)) (f ∙ flip e)
      ∙ ap (λ us. substitute_all 0 us (denotes old a.typ)) (types_kept old built_in a.arguments.items k o.arguments)

  pub found_given : (r : R) (d : T) (a : Applied T) (n : ℕ) → a.arguments.items ≡ []
      → ◌≡◌ {A = Judged (Tree × Tree)} (answer (denotes r d, denotes r a.typ) n) (answer (denotes r d, put_together owns denotes r 1 a) n)
  found_given r d a n e = ap (λ t. answer (denotes r d, t) n) (flip (none_put r 1 a e))
