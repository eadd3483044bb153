use Rattle.std.proofs.Common.{◌≡◌, ◌≤◌, ◌<◌, ◌∙◌, ◌++◌, ◌+◌, ℕ, List, [], arith, ap, sym, drop, get_or, length, take}
use Rattle.dk_io.proofs.Gather.{moves_then}
use Rattle.verdict_book.specs.Places.{total}
use Rattle.verdict_book.specs.Report.{line_of}
use Rattle.verdict_book.specs.declared.shown.Kind.TheVariants as kind
use Rattle.verdict_book.specs.declared.title.Spot.{Spot}
use Rattle.verdict_book.proofs.Lines.{lines_cut, lines_next, spot_shown}
use Rattle.verdict_book.proofs.Naming.{known_there, read_own, total_next}
use Rattle.verdict_book.proofs.book.put_titles.Goals as goal

abbrev none : Spot
none = record { kind = kind.Name; length = 0; line = 0; module_at = 0 }

fits : (ss : List Spot) (i : ℕ) (rest : List ℕ) → i < length ss → total (drop i ss) ≤ length rest → (get_or ss i none).length ≤ length rest
fits ss i rest lt within = let next = total_next ss i none lt in omega (arith, next, within)

fits_behind : (ss : List Spot) (i : ℕ) (rest behind : List ℕ) → i < length ss → total (drop i ss) ≤ length rest → length behind + (get_or ss i none).length ≡ length rest → total (drop (i + 1) ss) ≤ length behind
fits_behind ss i rest behind lt within parts = let next = total_next ss i none lt in omega (arith, next, within, parts)

pub split_at-requires : goal.split_at-requires
split_at-requires g c = fits c.args.titles.now.spots.now c.loop-spot.spot-index c.loop-spot.rest.now c.loop-spot-test.true c.loop-spot.invariant.within

pub bounds-titles-spot : goal.bounds-titles-spot
bounds-titles-spot g c = known_there c.args.titles.now.modules.now c.args.titles.now.spots.now c.loop-spot.spot-index none c.requires.held.known c.loop-spot-test.true

pub loop-spot-preserved : goal.loop-spot-preserved
loop-spot-preserved g c =
    let inv = c.loop-spot.invariant in
    let modules = c.args.titles.now.modules.now in
    let ss = c.args.titles.now.spots.now in
    let i = c.loop-spot.spot-index in
    let rest = c.loop-spot.rest.now in
    let text = c.split_at.result.0.now in
    let behind = c.split_at.result.1.now in
    let home = c.as_slice.result.now in
    let text_is : text ≡ take (get_or ss i none).length rest = c.split_at.ensures.front in
    let behind_is : behind ≡ drop (get_or ss i none).length rest = c.split_at.ensures.back in
    let there = known_there modules ss i none c.requires.held.known c.loop-spot-test.true in
    let home_is : home ≡ get_or modules (get_or ss i none).module_at [] = c.as_slice.ensures ∙ sym c.index-titles-spot.is ∙ read_own modules (get_or ss i none).module_at c.index-titles-spot.result there c.index-titles-spot.is in
    record {
      number = ap (λ n. n + 1) inv.number;
      within = fits_behind ss i rest behind c.loop-spot-test.true inv.within c.split_at.ensures.back_len;
      before = (
        inv.before.0 ++ line_of c.args.quiet c.loop-spot.number (spot_shown (get_or ss i none) text home),
        moves_then inv.before.1 c.in-Ok.ensures.put.whole,
        lines_next modules c.args.quiet inv.before.0 _ _ i rest text behind home ss none c.loop-spot-test.true text_is behind_is home_is inv.number inv.before.2,
      );
      faults = c.in-Ok.ensures.cause.stands ∙ inv.faults;
    }

pub returns-in-Err-clause-put : goal.returns-in-Err-clause-put
returns-in-Err-clause-put g c =
    let inv = c.loop-spot.invariant in
    let modules = c.args.titles.now.modules.now in
    let ss = c.args.titles.now.spots.now in
    let i = c.loop-spot.spot-index in
    let rest = c.loop-spot.rest.now in
    let text = c.split_at.result.0.now in
    let behind = c.split_at.result.1.now in
    let home = c.as_slice.result.now in
    let text_is : text ≡ take (get_or ss i none).length rest = c.split_at.ensures.front in
    let behind_is : behind ≡ drop (get_or ss i none).length rest = c.split_at.ensures.back in
    let there = known_there modules ss i none c.requires.held.known c.loop-spot-test.true in
    let home_is : home ≡ get_or modules (get_or ss i none).module_at [] = c.as_slice.ensures ∙ sym c.index-titles-spot.is ∙ read_own modules (get_or ss i none).module_at c.index-titles-spot.result there c.index-titles-spot.is in
    lines_cut inv.before.0 _ _ _ inv.before.1 c.in-Err.ensures.put
    (lines_next modules c.args.quiet inv.before.0 _ _ i rest text behind home ss none c.loop-spot-test.true text_is behind_is home_is inv.number inv.before.2)
