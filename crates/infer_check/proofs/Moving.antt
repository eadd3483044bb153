-- What typing gives after a call of a reducer is what it gave before it.
use Rattle.std.proofs.Common.{List, [], ◌∷◌, ◌++◌, ◌≡◌, ◌+◌, ◌<◌, ℕ, Option, Some, None, map, ap, ◌∙◌, sym as flip, subst, refl, false, arith}
use Rattle.std.specs.Prelude.{Result}
use Rattle.dk_model.specs.Trees.{Tree, bare, annotated}
use Rattle.dk_model.specs.Signatures.{PlainSignature}
use Rattle.dk_model.specs.Typing.{Judged, inferred, checked, as_convertible, is_abstraction}
use Rattle.dk_model.specs.declared.code.Code.TheVariants.{E21}
use Rattle.dk_model.specs.declared.node.NodeOf.{NodeOf}
use Rattle.dk_model.specs.declared.node.NodeOf.TheVariants.{Star, Kind, Sym, Var, Rvar, App, Abs, Prod}
use Rattle.dk_model.specs.declared.stop.TypeFault.{TypeFault}
use Rattle.signature_log.specs.Reducers.{Keeps, OwnsParts, built}
use Rattle.infer_check.specs.declared.context.Context.{Context}
use Rattle.infer_check.specs.Contexts.{with_bound, rule_types, bound_types, OwnsContext}
use Rattle.infer_check.specs.Given.{GivesType, GivesFit}
use Rattle.infer_check.specs.Spine.{size, total_size, argument_type, domain_fits}
use Rattle.infer_check.proofs.Contexts.{context_kept, context_bound, rule_types_kept, bound_types_kept, bound_types_pushed}
use Rattle.dk_model.proofs.Winding.{total_pushed}
use Rattle.infer_check.proofs.Spines.{map_pushed}

module _ {R T : Type 0} {owns : R → T → Type 0} {denotes : R → T → Tree} (old new : R) (k : Keeps owns denotes old new) where
  pub same_size : (t : T) → owns old t → size (denotes new t) ≡ size (denotes old t)
  same_size t o = ap size (k.same t o)

  module _ (c d : Context T) (h : OwnsContext owns old c) where
    pub context_moved : d ≡ c → OwnsContext owns new d
    context_moved e = subst (OwnsContext owns new) (flip e) (context_kept old new c k h)

    pub rule_types_moved : d ≡ c → rule_types denotes new d ≡ rule_types denotes old c
    rule_types_moved e = ap (rule_types denotes new) e ∙ rule_types_kept old new c k h

    pub bound_types_moved : d ≡ c → bound_types denotes new d ≡ bound_types denotes old c
    bound_types_moved e = ap (bound_types denotes new) e ∙ bound_types_kept old new c k h

    pub context_under : (x : T) → d ≡ with_bound c x → owns new x → OwnsContext owns new d
    context_under x e o = subst (OwnsContext owns new) (flip e) (context_bound new c x (context_kept old new c k h) o)

    pub rule_types_under : (x : T) → d ≡ with_bound c x → rule_types denotes new d ≡ rule_types denotes old c
    rule_types_under x e = ap (rule_types denotes new) e ∙ rule_types_kept old new c k h

    pub bound_types_under : (x : T) → d ≡ with_bound c x → bound_types denotes new d ≡ denotes new x ∷ bound_types denotes old c
    bound_types_under x e = ap (bound_types denotes new) e ∙ bound_types_pushed denotes new c x ∙ ap (λ (l : List Tree). denotes new x ∷ l) (bound_types_kept old new c k h)

module _ (S : PlainSignature) where
  pub inferred_same : {V W G H : List Tree} {t u : Tree} (n : ℕ) → V ≡ W → G ≡ H → t ≡ u → inferred S V G t n ≡ inferred S W H u n
  inferred_same n e f g = cc

  pub checked_same : {V W G H : List Tree} {t u A B : Tree} (n : ℕ) → V ≡ W → G ≡ H → t ≡ u → A ≡ B → checked S V G t A n ≡ checked S W H u B n
  checked_same n e f g h = cc

  pub domain_same : {V W G H : List Tree} {t u : Tree} (n : ℕ) → V ≡ W → G ≡ H → t ≡ u → domain_fits S V G t n ≡ domain_fits S W H u n
  domain_same {V} {W} {G} {H} {t} {u} n e f g = ap (λ x. domain_fits S x G t n) e ∙ ap (λ x. domain_fits S W x t n) f ∙ ap (λ x. domain_fits S W H x n) g

  pub argument_same : {V W G H : List Tree} {a b A B : Tree} (n : ℕ) → V ≡ W → G ≡ H → a ≡ b → A ≡ B → argument_type S V G a A n ≡ argument_type S W H b B n
  argument_same {V} {W} {G} {H} {a} {b} {A} {B} n e f g h = ap (λ x. argument_type S x G a A n) e ∙ ap (λ x. argument_type S W x a A n) f ∙ ap (λ x. argument_type S W H x A n) g
      ∙ ap (λ x. argument_type S W H b x n) h

  pub same_same : {A B C D : Tree} (n : ℕ) → A ≡ B → C ≡ D → as_convertible S E21 A C n ≡ as_convertible S E21 B D n
  same_same {A} {B} {C} {D} n e f = ap (λ x. as_convertible S E21 x C n) e ∙ ap (λ x. as_convertible S E21 B x n) f

pub fit_is : {x y : Judged (Unit {0})} (o : Result Unit TypeFault) (n : ℕ) → x ≡ y → GivesFit y o n → GivesFit x o n
fit_is o n e h = subst (λ (z : Judged (Unit {0})). GivesFit z o n) (flip e) h

pub type_is : {R T : Type 0} (owns : R → T → Type 0) (denotes : R → T → Tree) {x y : Judged Tree} (r : R) (o : Result T TypeFault) (n : ℕ) → x ≡ y
    → GivesType owns denotes y r o n → GivesType owns denotes x r o n
type_is owns denotes r o n e h = subst (λ (z : Judged Tree). GivesType owns denotes z r o n) (flip e) h

-- an abstraction by its outermost node

module _ {R T : Type 0} (owns : R → T → Type 0) (denotes : R → T → Tree) (r : R) (n : NodeOf T) (a : Option T) (b : T) where
  pub opened_bare : (t : Tree) → n ≡ Abs a b → a ≡ None → t ≡ built denotes r n → t ≡ bare (denotes r b)
  opened_bare t e f h = h ∙ ap (built denotes r) (e ∙ ap (λ x. Abs x b) f)

  pub owned_bare : n ≡ Abs a b → a ≡ None → OwnsParts owns r n → owns r b
  owned_bare e f h = subst (OwnsParts owns r) (e ∙ ap (λ x. Abs x b) f) h

  pub opened_annotated : (d : T) (t : Tree) → n ≡ Abs a b → a ≡ Some d → t ≡ built denotes r n → t ≡ annotated (denotes r d) (denotes r b)
  opened_annotated d t e f h = h ∙ ap (built denotes r) (e ∙ ap (λ x. Abs x b) f)

  pub owned_annotated : (d : T) → n ≡ Abs a b → a ≡ Some d → OwnsParts owns r n → owns r d × owns r b
  owned_annotated d e f h = subst (OwnsParts owns r) (e ∙ ap (λ x. Abs x b) f) h

pub not_abstraction : {R T : Type 0} (denotes : R → T → Tree) (r : R) (n : NodeOf T) → ((a : Option T) (b : T) → n ≡ Abs a b → ⊥) → is_abstraction (built denotes r n) ≡ false
not_abstraction denotes r Star h = refl
not_abstraction denotes r Kind h = refl
not_abstraction denotes r (Sym k) h = refl
not_abstraction denotes r (Var k) h = refl
not_abstraction denotes r (Rvar k) h = refl
not_abstraction denotes r (App f a) h = refl
not_abstraction denotes r (Abs None b) h = absurd (h None b refl)
not_abstraction denotes r (Abs (Some d) b) h = absurd (h (Some d) b refl)
not_abstraction denotes r (Prod a b) h = refl

-- the last argument of a stack

pub last_smaller : {R T : Type 0} (denotes : R → T → Tree) (r : R) (ts us : List T) (t : T) (n : ℕ) → ts ≡ us ++ t ∷ [] → total_size (map (denotes r) ts) < n → size (denotes r t) < n
last_smaller denotes r ts us t n e h =
    let q : total_size (map (denotes r) ts) ≡ total_size (map (denotes r) us) + size (denotes r t) =
    ap (λ x. total_size (map (denotes r) x)) e ∙ ap total_size (map_pushed (denotes r) us t) ∙ total_pushed (map (denotes r) us) (denotes r t) in
    omega (arith, q, h)
