-- What comes behind the walk of a left side, from one call of a reducer to the next.
use Rattle.std.proofs.Common.{List, [], ◌≡◌, ◌∙◌, ℕ, Option, map, ap, refl, sym as flip}
use Rattle.dk_model.specs.Trees.{Tree}
use Rattle.dk_model.specs.Signatures.{PlainSignature, PlainRule}
use Rattle.dk_model.specs.Bindings.{Bindings as PlainBindings, under}
use Rattle.dk_model.specs.Typing.{Judged, answer, next, checked}
use Rattle.dk_model.specs.RuleTyping.{Guard as PlainGuard, guards_fit, types_under}
use Rattle.dk_model.specs.declared.stop.TypeFault.{TypeFault}
use Rattle.signature_log.specs.Reducers.{Keeps}
use Rattle.signature_log.proofs.Keeping.{keeps_further}
use Rattle.infer_check.specs.Given.{Fails}
use Rattle.infer_check.proofs.Contexts.{types_kept as values_kept}
use Rattle.infer_check.proofs.Judging.{fails_next, fails_is}
use Rattle.infer_check.proofs.Moving.{checked_same}
use Rattle.rule_check.specs.declared.found.Left.{Left}
use Rattle.rule_check.specs.Founds.{types_of, terms_of, guards_of, AreAllTypes, OwnsFound}
use Rattle.rule_check.specs.Clauses.{notes_due, guards_due, right_due, terms_due, sides_due}
use Rattle.rule_check.proofs.Founds.{types_of_kept, guards_of_kept, terms_kept}

module _ {R T : Type 0} {owns : R → T → Type 0} {denotes : R → T → Tree} (S : PlainSignature) (old one : R) (k : Keeps owns denotes old one) (right : Tree) (l : Left T) (o : owns old l.typ) (q : OwnsFound owns denotes old l.found) where
  -- the guards, with the types of all rule variables
  guards_are : (types : List T) (n : ℕ) → AreAllTypes owns denotes old l.found one types → guards_due denotes S one types l.found n
      ≡ guards_fit S (terms_of denotes old l.found.bindings) (types_under (terms_of denotes old l.found.bindings) (types_of denotes old l.found.types.items)) (guards_of denotes old l.found.guards.items) n
  guards_are types n a =
      ap (λ s. guards_fit S s (map (denotes one) types) (guards_of denotes one l.found.guards.items) n) (terms_kept old one k l.found.bindings q.bindings)
      ∙ ap (λ (V : List Tree). guards_fit S (terms_of denotes old l.found.bindings) V (guards_of denotes one l.found.guards.items) n) a.same
      ∙ ap (λ (ps : List PlainGuard). guards_fit S (terms_of denotes old l.found.bindings) (types_under (terms_of denotes old l.found.bindings) (types_of denotes old l.found.types.items)) ps n)
      (guards_of_kept old one k l.found.guards.items q.guards)

  pub terms_fail : (f : TypeFault) (spare : ℕ) (types : List T) (n : ℕ) → AreAllTypes owns denotes old l.found one types → Fails f spare (guards_due denotes S one types l.found n) → Fails f spare (terms_due denotes S old right l n)
  terms_fail f spare types n a h = let s : PlainBindings = terms_of denotes old l.found.bindings in
      fails_next f spare (guards_fit S s (types_under s (types_of denotes old l.found.types.items)) (guards_of denotes old l.found.guards.items) n) _ (fails_is f spare _ _ (flip (guards_are types n a)) h)

  pub terms_go_on : (two : R) (j : Keeps owns denotes one two) (types given : List T) (n m : ℕ) → AreAllTypes owns denotes old l.found one types → given ≡ types
      → guards_due denotes S one types l.found n ≡ answer tt m → terms_due denotes S old right l n ≡ right_due denotes S two given right l m
  terms_go_on two j types given n m a g h =
      let s : PlainBindings = terms_of denotes old l.found.bindings in
      let V : List Tree = types_under s (types_of denotes old l.found.types.items) in
      let bound : terms_of denotes two l.found.bindings ≡ s = terms_kept old two (keeps_further old one two k j) l.found.bindings q.bindings in
      ap (λ y. next y (λ v i. checked S V [] (under s right) (under s (denotes old l.typ)) i)) (flip (guards_are types n a) ∙ h)
      ∙ flip (checked_same S m (ap (λ (ts : List T). map (denotes two) ts) g ∙ values_kept one two types j a.own ∙ a.same) refl (ap (λ z. under z right) bound)
      (ap (λ z. under z (denotes two l.typ)) bound ∙ ap (under s) (j.same l.typ (k.own l.typ o) ∙ k.same l.typ o)))

abbrev terms_with : PlainSignature → Tree → ℕ → PlainBindings → List (Option Tree) → List PlainGuard → Tree → Judged (Unit {0})
terms_with S right m b ts gs A = next (guards_fit S b (types_under b ts) gs m) (λ v i. checked S (types_under b ts) [] (under b right) (under b A) i)

terms_same : (S : PlainSignature) (right : Tree) (m : ℕ) {b c : PlainBindings} {ts us : List (Option Tree)} {gs hs : List PlainGuard} {A B : Tree} → b ≡ c → ts ≡ us → gs ≡ hs → A ≡ B
    → terms_with S right m b ts gs A ≡ terms_with S right m c us hs B
terms_same S right m {b} {c} {ts} {us} {gs} {hs} {A} {B} w x y z =
    ap (λ i. terms_with S right m i ts gs A) w ∙ ap (λ i. terms_with S right m c i gs A) x ∙ ap (λ i. terms_with S right m c us i A) y ∙ ap (λ i. terms_with S right m c us hs i) z

module _ {R T : Type 0} {owns : R → T → Type 0} {denotes : R → T → Tree} (S : PlainSignature) where
  pub sides_go_on : (old s : R) (k : Keeps owns denotes old s) (rule : PlainRule) (l : Left T) (o : owns old l.typ) (q : OwnsFound owns denotes old l.found) (t : Tree) (notes : List (Option Tree)) (n m : ℕ)
      → notes ≡ rule.notes → notes_due denotes S old notes l.found n ≡ answer tt m → sides_due denotes S old rule l t n ≡ terms_due denotes S s rule.right l m
  sides_go_on old s k rule l o q t notes n m e h =
      ap (λ y. next y (λ u i. terms_due denotes S old rule.right l i)) (ap (λ ns. notes_due denotes S old ns l.found n) (flip e) ∙ h)
      ∙ flip (terms_same S rule.right m (terms_kept old s k l.found.bindings q.bindings) (types_of_kept old s k l.found.types.items q.types) (guards_of_kept old s k l.found.guards.items q.guards) (k.same l.typ o))
