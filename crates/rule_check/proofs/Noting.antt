-- The annotations of rule variables, one after another.
use Rattle.std.specs.Prelude.{map}
use Rattle.std.proofs.Common.{List, ◌∷◌, ◌≡◌, ℕ, Option, Some, None, refl, ap, ◌∙◌, sym as flip}
use Rattle.dk_model.specs.Trees.{Tree}
use Rattle.dk_model.specs.Signatures.{PlainSignature, maybe_by, maybe_tree}
use Rattle.dk_model.specs.Bindings.{Bindings as PlainBindings}
use Rattle.dk_model.specs.Typing.{answer, next}
use Rattle.dk_model.specs.RuleTyping.{notes_agree}
use Rattle.dk_model.specs.declared.term.Term.{Term}
use Rattle.dk_model.specs.declared.stop.TypeFault.{TypeFault}
use Rattle.signature_log.specs.Reducers.{Keeps, OwnsSome}
use Rattle.infer_check.specs.Given.{Fails}
use Rattle.infer_check.proofs.Judging.{fails_next, fails_is}
use Rattle.rule_check.specs.declared.found.Bindings.{Bindings}
use Rattle.rule_check.specs.Founds.{types_of, terms_of, OwnsBindings}
use Rattle.rule_check.specs.Steps.{note_agrees}
use Rattle.rule_check.proofs.Founds.{maybe_kept, terms_kept}

notes_go_on : (S : PlainSignature) (s : PlainBindings) (a o : Option Tree) (notes types : List (Option Tree)) (n : ℕ)
    → notes_agree S s (a ∷ notes) (o ∷ types) n ≡ next (note_agrees S s a o n) (λ u m. notes_agree S s notes types m)
notes_go_on S s (Some a) (Some T) notes types n = refl
notes_go_on S s (Some a) None notes types n = refl
notes_go_on S s None o notes types n = refl

module _ {R T : Type 0} {owns : R → T → Type 0} {D : R → T → Tree} (S : PlainSignature) (r at : R) (k : Keeps owns D r at) (b : Bindings T) (w : OwnsBindings owns D r b) (rest others : List (Option Term)) (known further : List (Option T))
    (note : Option Term) (typ : Option T) (n : ℕ) (e : rest ≡ note ∷ others) (f : known ≡ typ ∷ further) (o : OwnsSome owns r typ) where
  note_kept : note_agrees S (terms_of D at b) (maybe_tree note) (maybe_by (D at) typ) n ≡ note_agrees S (terms_of D r b) (maybe_tree note) (maybe_by (D r) typ) n
  note_kept = ap (λ z. note_agrees S z (maybe_tree note) (maybe_by (D at) typ) n) (terms_kept r at k b w) ∙ ap (λ z. note_agrees S (terms_of D r b) (maybe_tree note) z n) (maybe_kept r at k typ o)

  notes_first : notes_agree S (terms_of D r b) (map maybe_tree rest) (types_of D r known) n
      ≡ next (note_agrees S (terms_of D at b) (maybe_tree note) (maybe_by (D at) typ) n) (λ u m. notes_agree S (terms_of D r b) (map maybe_tree others) (types_of D r further) m)
  notes_first = ap (λ z. notes_agree S (terms_of D r b) (map maybe_tree z) (types_of D r known) n) e ∙ ap (λ z. notes_agree S (terms_of D r b) (maybe_tree note ∷ map maybe_tree others) (types_of D r z) n) f
      ∙ notes_go_on S (terms_of D r b) (maybe_tree note) (maybe_by (D r) typ) (map maybe_tree others) (types_of D r further) n
      ∙ ap (λ x. next x (λ u m. notes_agree S (terms_of D r b) (map maybe_tree others) (types_of D r further) m)) (flip note_kept)

  pub notes_fail : (x : TypeFault) (spare : ℕ) → Fails x spare (note_agrees S (terms_of D at b) (maybe_tree note) (maybe_by (D at) typ) n) → Fails x spare (notes_agree S (terms_of D r b) (map maybe_tree rest) (types_of D r known) n)
  notes_fail x spare h = fails_is x spare _ _ notes_first (fails_next x spare (note_agrees S (terms_of D at b) (maybe_tree note) (maybe_by (D at) typ) n) _ h)

  pub notes_rest : (m : ℕ) → note_agrees S (terms_of D at b) (maybe_tree note) (maybe_by (D at) typ) n ≡ answer tt m
      → notes_agree S (terms_of D r b) (map maybe_tree others) (types_of D r further) m ≡ notes_agree S (terms_of D r b) (map maybe_tree rest) (types_of D r known) n
  notes_rest m h = flip (notes_first ∙ ap (λ x. next x (λ u i. notes_agree S (terms_of D r b) (map maybe_tree others) (types_of D r further) i)) h)
