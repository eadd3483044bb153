use Rattle.std.proofs.Common.{◌≡◌, ◌∙◌, ap, length, refl, subst}
use Rattle.std.specs.Prelude.{slice_set}
use Rattle.std.proofs.lemmas.Option.{slice_get_read}
use Rattle.edit_session.specs.Grounds.{IsGround, texts_in}
use Rattle.edit_session.proofs.Counting.{set_same}
use Rattle.edit_session.proofs.Searching.{given_err}
use Rattle.edit_session.proofs.fold.Fold.answered.Goals as goal

pub returns-in_err-findings-clause-err : goal.returns-in_err-findings-clause-err
returns-in_err-findings-clause-err g c = given_err (slice_set c.args.slots.now.items c.args.at c.answer.new.slot ≡ c.args.slots.now.items) c.from_residual-in_err-findings.result
    (ap (λ s. slice_set c.args.slots.now.items c.args.at s) c.in_err-findings.ensures.err
    ∙ set_same c.args.slots.now.items c.args.at c.index_mut.result.now (slice_get_read c.args.slots.now.items (length c.args.slots.now.items) c.args.at c.index_mut.result.now refl c.requires.within c.index_mut.ensures.value))

pub returns-clause-ok : goal.returns-clause-ok
returns-clause-ok g c = record {
  slot = c.index_mut.result.now;
  here = slice_get_read c.args.slots.now.items (length c.args.slots.now.items) c.args.at c.index_mut.result.now refl c.requires.within c.index_mut.ensures.value;
  slot' = c.answer.new.slot;
  slots_are = refl;
  places = c.in_ok-places.places.items;
  rest = c.in_ok-places.ensures.places;
  resting = c.in_ok-places.ensures.added;
  basis = c.in_ok-basis.basis;
  is_ground = subst (λ slots. IsGround (texts_in slots) c.in_ok-places.places.items c.args.at c.in_ok-basis.basis) c.as_slice.ensures.value c.in_ok-basis.ensures;
  answered = c.in_ok-findings.field-0;
  findings_are = refl;
  right = c.in_ok-findings.ensures.right;
  listed = c.in_ok-findings.ensures.list;
  counts = c.in_ok-findings.ensures.checks;
  text = c.in_ok-findings.ensures.text;
  raw = c.in_ok-findings.ensures.raw;
  checked = refl;
  same = record { most = refl; budget = refl; names = refl; version = refl; lines = refl };
}
