use Rattle.std.proofs.Common.{rules, arith, ◌≤◌, ◌∙◌, sym as flip, subst}
use Rattle.signature_log.specs.Versions.{entries_of}
use Rattle.signature_log.specs.Reducers.{OwnsSomes}
use Rattle.infer_check.proofs.Judging.{fails_is}
use Rattle.rule_check.proofs.Continuing.{follows_further}
use Rattle.rule_check.proofs.Founds.{bindings_kept}
use Rattle.rule_check.proofs.Noting.{notes_fail, notes_rest}
use Rattle.rule_check.proofs.sides.check_notes.Goals as goal

pub check_note-requires-clause-bindings : goal.check_note-requires-clause-bindings
check_note-requires-clause-bindings g c = bindings_kept c.args.r.now c.loop-note.r c.loop-note.invariant.follows.keeps c.args.found.now.bindings c.requires.found.bindings

pub returns-in_err-check_note-in-Some-split_first-clause-gives : goal.returns-in_err-check_note-in-Some-split_first-clause-gives
returns-in_err-check_note-in-Some-split_first-clause-gives g c =
    let r = c.args.r.now in
    let i = c.loop-note.invariant in
    let f = c.in_err-check_note-in-Some-split_first.field-0.0 in
    let first = c.in-Some.ensures.cases.0 in
    let second = c.in-Some-split_first.ensures.cases.0 in
    let o = (subst (OwnsSomes g.R.Reducer.owns r) second i.known).0 in
    let p = fails_is f _ _ _ (flip i.same) (notes_fail (entries_of c.args.version.now) r c.loop-note.r i.follows.keeps c.args.found.now.bindings c.requires.found.bindings c.loop-note.rest.now c.in-Some.others.now c.loop-note.known.now c.in-Some-split_first.further.now
    c.in-Some.note.now c.in-Some-split_first.typ.now c.loop-note.left first second o f _ c.in_err-check_note-in-Some-split_first.ensures.gives) in
    search rules

pub loop-note-preserved : goal.loop-note-preserved
loop-note-preserved g c =
    let r = c.args.r.now in
    let at = c.loop-note.r in
    let i = c.loop-note.invariant in
    let first = c.in-Some.ensures.cases.0 in
    let second = c.in-Some-split_first.ensures.cases.0 in
    let owned = subst (OwnsSomes g.R.Reducer.owns r) second i.known in
    let given = c.in_ok-check_note-in-Some-split_first.ensures in
    record {
      same = notes_rest (entries_of c.args.version.now) r at i.follows.keeps c.args.found.now.bindings c.requires.found.bindings c.loop-note.rest.now c.in-Some.others.now c.loop-note.known.now c.in-Some-split_first.further.now
          c.in-Some.note.now c.in-Some-split_first.typ.now c.loop-note.left first second owned.0 c.check_note.new.left given.gives ∙ i.same;
      known = owned.1;
      follows = follows_further r at c.check_note.new.r i.follows given.follows;
      spent = let p : c.check_note.new.left ≤ c.loop-note.left = given.spent in let q : c.loop-note.left ≤ c.args.left.now = i.spent in omega (arith, p, q);
    }
