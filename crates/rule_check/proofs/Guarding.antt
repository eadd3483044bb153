-- Guards from one call of a reducer to the next.
use Rattle.std.proofs.Common.{List, [], ◌∷◌, ◌++◌, ◌≡◌, ◌∙◌, ℕ, map, ap, refl, sym as flip, subst}
use Rattle.std.specs.Prelude.{Ok, length}
use Rattle.dk_model.specs.Trees.{Tree}
use Rattle.dk_model.specs.Substitution.{shift}
use Rattle.dk_model.specs.Erasure.{erased}
use Rattle.dk_model.specs.Signatures.{PlainSignature}
use Rattle.dk_model.specs.Bindings.{Bindings as PlainBindings, under}
use Rattle.dk_model.specs.Typing.{Judged, answer, next, checked}
use Rattle.dk_model.specs.RuleTyping.{Guard as PlainGuard, guard_walked, guards_fit}
use Rattle.dk_model.specs.declared.stop.TypeFault.{TypeFault}
use Rattle.signature_log.specs.Reducers.{Keeps, Makes, AreOwned, OwnsSomes}
use Rattle.signature_log.proofs.Keeping.{keeps_further}
use Rattle.infer_check.specs.declared.context.Context.{Context}
use Rattle.infer_check.specs.Contexts.{innermost_first, bound_types, OwnsContext}
use Rattle.infer_check.specs.Given.{Fails}
use Rattle.infer_check.proofs.Contexts.{innermost_kept, bound_types_kept, length_bound_types, types_kept as values_kept}
use Rattle.infer_check.proofs.Judging.{fails_next}
use Rattle.infer_check.proofs.Moving.{checked_same}
use Rattle.rule_check.specs.declared.found.Guard.{Guard}
use Rattle.rule_check.specs.declared.found.Found.{Found}
use Rattle.rule_check.specs.declared.found.Bindings.{Bindings}
use Rattle.rule_check.specs.Founds.{types_of, terms_of, guard_of, guards_of, found_of, OwnsGuard, OwnsGuards, OwnsBindings, OwnsFound, IsGuardUnder}
use Rattle.rule_check.specs.Given.{IsGuardAt, GivesTerm}
use Rattle.rule_check.specs.Clauses.{guard_due}
use Rattle.rule_check.proofs.Founds.{same_found, found_kept, types_of_kept, terms_kept, guards_of_kept, guards_pushed, owned_guard_pushed}
use Rattle.rule_check.proofs.Moving.{same_walked}

same_guard : {xs ys : List Tree} {t u A B : Tree} → xs ≡ ys → t ≡ u → A ≡ B → (let p : PlainGuard = record { context = xs; term = t; typ = A } in p) ≡ (let p : PlainGuard = record { context = ys; term = u; typ = B } in p)
same_guard {xs} {ys} {t} {u} {A} {B} e f h = ap (λ (x : List Tree). (let p : PlainGuard = record { context = x; term = t; typ = A } in p)) e ∙ ap (λ (x : Tree). (let p : PlainGuard = record { context = ys; term = x; typ = A } in p)) f
    ∙ ap (λ (x : Tree). (let p : PlainGuard = record { context = ys; term = u; typ = x } in p)) h

abbrev reversed : List Tree → List Tree
reversed [] = []
reversed (t ∷ ts) = reversed ts ++ t ∷ []

innermost_is : {R T : Type 0} (denotes : R → T → Tree) (r : R) (ts : List T) → innermost_first denotes r ts ≡ reversed (map (denotes r) ts)
innermost_is denotes r [] = refl
innermost_is denotes r (t ∷ ts) = ap (λ (l : List Tree). l ++ denotes r t ∷ []) (innermost_is denotes r ts)

pub innermost_same : {R T : Type 0} (denotes : R → T → Tree) (r s : R) (ts us : List T) → map (denotes r) ts ≡ map (denotes s) us → innermost_first denotes r ts ≡ innermost_first denotes s us
innermost_same denotes r s ts us e = innermost_is denotes r ts ∙ ap reversed e ∙ flip (innermost_is denotes s us)

map_append : (f : Tree → Tree) (xs ys : List Tree) → map f (xs ++ ys) ≡ map f xs ++ map f ys
map_append f [] ys = refl
map_append f (x ∷ xs) ys = ap (λ (zs : List Tree). f x ∷ zs) (map_append f xs ys)

reversed_under : (f : Tree → Tree) (ts : List Tree) → reversed (map f ts) ≡ map f (reversed ts)
reversed_under f [] = refl
reversed_under f (t ∷ ts) = ap (λ (l : List Tree). l ++ f t ∷ []) (reversed_under f ts) ∙ flip (map_append f (reversed ts) (t ∷ []))

pub innermost_under : {R T : Type 0} (denotes : R → T → Tree) (r q : R) (s : PlainBindings) (ts us : List T) → map (denotes r) ts ≡ map (under s) (map (denotes q) us)
    → innermost_first denotes r ts ≡ map (under s) (innermost_first denotes q us)
innermost_under denotes r q s ts us e = innermost_is denotes r ts ∙ ap reversed e ∙ reversed_under (under s) (map (denotes q) us) ∙ flip (ap (map (under s)) (innermost_is denotes q us))

module _ {R T : Type 0} {owns : R → T → Type 0} {denotes : R → T → Tree} (S : PlainSignature) (old at mid : R) (k : Keeps owns denotes old at) (l : Keeps owns denotes at mid) where
  -- a guard under the bindings, checked against types that were given back
  pub guard_under_is : (types given : List T) (w : Found T) (g h : Guard T) (n : ℕ) → given ≡ types → AreOwned owns old types → OwnsGuard owns old g → OwnsBindings owns denotes old w.bindings
      → IsGuardUnder owns denotes at w.bindings g mid h
      → guard_due denotes S mid given h n ≡ checked S (map (denotes old) types) (map (under (terms_of denotes old w.bindings)) (guard_of denotes old g).context)
      (under (terms_of denotes old w.bindings) (denotes old g.term)) (under (terms_of denotes old w.bindings) (denotes old g.typ)) n
  guard_under_is types given w g h n e o q b i =
      let s : terms_of denotes at w.bindings ≡ terms_of denotes old w.bindings = terms_kept old at k w.bindings b in
      checked_same S n (ap (map (denotes mid)) e ∙ values_kept old mid types (keeps_further old at mid k l) o)
      (i.context ∙ ap (λ z. map (under z) (innermost_first denotes at g.bound)) s ∙ ap (map (under (terms_of denotes old w.bindings))) (innermost_kept old at g.bound k q.bound))
      (i.term ∙ ap (λ z. under z (denotes at g.term)) s ∙ ap (under (terms_of denotes old w.bindings)) (k.same g.term q.term))
      (i.typ ∙ ap (λ z. under z (denotes at g.typ)) s ∙ ap (under (terms_of denotes old w.bindings)) (k.same g.typ q.typ))

module _ {R T : Type 0} (denotes : R → T → Tree) (S : PlainSignature) (r : R) (types : List T) (b : Bindings T) where
  -- the guards that are left
  abbrev pub rest_due : List (Guard T) → ℕ → Judged (Unit {0})
  rest_due gs n = guards_fit S (terms_of denotes r b) (map (denotes r) types) (guards_of denotes r gs) n

  abbrev pub one_due : Guard T → ℕ → Judged (Unit {0})
  one_due g n = checked S (map (denotes r) types) (map (under (terms_of denotes r b)) (guard_of denotes r g).context) (under (terms_of denotes r b) (denotes r g.term)) (under (terms_of denotes r b) (denotes r g.typ)) n

  pub guards_fail : (f : TypeFault) (spare : ℕ) (g : Guard T) (rest others : List (Guard T)) (n : ℕ) → rest ≡ g ∷ others → Fails f spare (one_due g n) → Fails f spare (rest_due rest n)
  guards_fail f spare g rest others n e h = let P : List (Guard T) → Type 0 = λ gs. Fails f spare (rest_due gs n) in
      subst P (flip e) (fails_next f spare (one_due g n) (λ u m. rest_due others m) h)

  pub guards_go_on : (g : Guard T) (rest others : List (Guard T)) (n m : ℕ) → rest ≡ g ∷ others → one_due g n ≡ answer tt m → rest_due others m ≡ rest_due rest n
  guards_go_on g rest others n m e h = let P : List (Guard T) → Type 0 = λ gs. rest_due others m ≡ rest_due gs n in
      subst P (flip e) (flip (ap (λ x. next x (λ u i. rest_due others i)) h))

module _ {R T : Type 0} {owns : R → T → Type 0} {denotes : R → T → Tree} (old mid end : R) (k : Keeps owns denotes old mid) (l : Keeps owns denotes mid end) (c : Context T) (h : OwnsContext owns old c) where
  pub guard_found : (w found : Found T) (q : OwnsFound owns denotes old w) (A : T) (a : owns old A) (t : T) (u : Tree) (d : ℕ) (g : Guard T) → d ≡ length c.bound
      → Makes owns denotes mid (shift 0 d (erased u)) t → IsGuardAt owns denotes mid c t A end g → found.types.items ≡ w.types.items → found.guards.items ≡ w.guards.items ++ g ∷ [] → found.bindings ≡ w.bindings
      → (n : ℕ) → GivesTerm owns denotes (denotes old A) (answer (guard_walked (bound_types denotes old c) u (denotes old A) (found_of denotes old w)) n) end found (Ok t) n
  guard_found w found q A a t u d g e made at x y z n =
      let kept : Keeps owns denotes old end = keeps_further old mid end k l in
      let owned : OwnsFound owns denotes end w = found_kept old end kept w q in
      let depth : d ≡ length (bound_types denotes old c) = e ∙ flip (length_bound_types denotes old c) in
      let term : denotes end t ≡ shift 0 (length (bound_types denotes old c)) (erased u) = l.same t made.1 ∙ made.0 ∙ ap (λ j. shift 0 j (erased u)) depth in
      let types : types_of denotes end found.types.items ≡ types_of denotes old w.types.items = ap (types_of denotes end) x ∙ types_of_kept old end kept w.types.items q.types in
      let guard : guard_of denotes end g ≡ (let p : PlainGuard = record { context = bound_types denotes old c; term = shift 0 (length (bound_types denotes old c)) (erased u); typ = denotes old A } in p) =
      same_guard (at.context ∙ bound_types_kept old mid c k h) (at.term ∙ made.0 ∙ ap (λ j. shift 0 j (erased u)) depth) (at.typ ∙ k.same A a) in
      let guards : guards_of denotes end found.guards.items ≡ guards_of denotes old w.guards.items ++ (let p : PlainGuard = record { context = bound_types denotes old c; term = shift 0 (length (bound_types denotes old c)) (erased u); typ = denotes old A } in p) ∷ [] =
      ap (guards_of denotes end) y ∙ guards_pushed owns denotes end w.guards.items g
      ∙ ap (λ (gs : List PlainGuard). gs ++ guard_of denotes end g ∷ []) (guards_of_kept old end kept w.guards.items q.guards)
      ∙ ap (λ (p : PlainGuard). guards_of denotes old w.guards.items ++ p ∷ []) guard in (
        ap (λ a. answer a n) (same_walked (flip term) (same_found (flip types) (flip guards) (flip (ap (terms_of denotes end) z ∙ terms_kept old end kept w.bindings q.bindings)))),
        l.own t made.1,
        record { types = subst (OwnsSomes owns end) (flip x) owned.types; guards = subst (OwnsGuards owns end) (flip y) (owned_guard_pushed owns denotes end w.guards.items g owned.guards at.own); bindings = subst (OwnsBindings owns denotes end) (flip z) owned.bindings },
      )
