use Rattle.std.proofs.Common.{◌≡◌, ◌<◌, length, map, get_or, refl, ◌∙◌, sym, subst, ap, Some}
use Rattle.std.proofs.lemmas.Option.{slice_get_read}
use Rattle.dk_model.specs.Scoping.{plain_command}
use Rattle.prune_theory.specs.Reaching.{places_from}
use Rattle.prune_theory.proofs.Reached.{none_of}
use Rattle.prune_theory.proofs.Edges.{index_for, got_map}
use Rattle.prune_theory.proofs.Turning.{begun_as, place_bound, place_in_index, mentions_below, rules_below, turn_as, all_rest, only_rest, rest_ascending}
use Rattle.prune_theory.proofs.resting.rests.Goals as goal

pub loop-place-init : goal.loop-place-init
loop-place-init c = begun_as (map plain_command c.args.commands.now) c.args.k c.in_ok-index.index.items c.in_ok-marks.marks.items c.new-waiting.result.items c.reach.new.marks.items c.reach.new.waiting.items
    c.in_ok-marks.ensures c.new-waiting.ensures.items c.in_ok-reach.ensures

pub bounds-commands-place : goal.bounds-commands-place
bounds-commands-place c = place_bound (map plain_command c.args.commands.now) c.args.k c.in_ok-index.index.items c.loop-place.marks.items c.loop-place.waiting.items c.pop.new.self.items c.in-Some.place
    c.loop-place.invariant c.in-Some.ensures.items (length c.args.commands.now) c.requires.within

pub reach_all-requires : goal.reach_all-requires
reach_all-requires c = mentions_below (map plain_command c.args.commands.now) c.args.k c.in_ok-index.index.items c.loop-place.marks.items c.loop-place.waiting.items c.pop.new.self.items c.in-Some.place
    c.loop-place.invariant c.in-Some.ensures.items (index_for c.args.commands.now c.args.k c.in_ok-index.index.items c.in_ok-index.ensures) c.requires.before _ c.as_slice.result.now
    (got_map plain_command c.args.commands.now c.in-Some.place c.index-commands-place.result (slice_get_read c.args.commands.now (length c.args.commands.now) c.in-Some.place c.index-commands-place.result refl
    (place_bound (map plain_command c.args.commands.now) c.args.k c.in_ok-index.index.items c.loop-place.marks.items c.loop-place.waiting.items c.pop.new.self.items c.in-Some.place
    c.loop-place.invariant c.in-Some.ensures.items (length c.args.commands.now) c.requires.within) c.index-commands-place.is)) (c.as_slice.ensures ∙ c.in_ok-mentioned.ensures)

pub index-requires : goal.index-requires
index-requires c = subst (λ n. c.in-Some.place < n) (sym c.in_ok-index.index.ok.0) (place_in_index (map plain_command c.args.commands.now) c.args.k c.in_ok-index.index.items c.loop-place.marks.items
    c.loop-place.waiting.items c.pop.new.self.items c.in-Some.place
    c.loop-place.invariant c.in-Some.ensures.items (index_for c.args.commands.now c.args.k c.in_ok-index.index.items c.in_ok-index.ensures))

pub reach_all-requires-in-Some : goal.reach_all-requires-in-Some
reach_all-requires-in-Some c = rules_below (map plain_command c.args.commands.now) c.args.k c.in_ok-index.index.items c.loop-place.marks.items c.loop-place.waiting.items c.pop.new.self.items c.in-Some.place
    c.loop-place.invariant c.in-Some.ensures.items (index_for c.args.commands.now c.args.k c.in_ok-index.index.items c.in_ok-index.ensures) c.reach_all.new.marks.items c.reach_all.new.waiting.items
    c.as_slice.result.now c.as_slice-in-Some.result.now c.in_ok-reach_all.ensures
    (subst (λ z. z ≡ get_or c.in_ok-index.index.items c.in-Some.place z) (sym c.as_slice-in-Some.ensures) c.index.ensures)

pub loop-place-preserved : goal.loop-place-preserved
loop-place-preserved c = turn_as (map plain_command c.args.commands.now) c.args.k c.in_ok-index.index.items c.loop-place.marks.items c.loop-place.waiting.items c.pop.new.self.items c.in-Some.place
    c.loop-place.invariant c.in-Some.ensures.items (index_for c.args.commands.now c.args.k c.in_ok-index.index.items c.in_ok-index.ensures) _ c.as_slice.result.now c.as_slice-in-Some.result.now
    c.reach_all.new.marks.items c.reach_all.new.waiting.items c.reach_all-in-Some.new.marks.items c.reach_all-in-Some.new.waiting.items
    (got_map plain_command c.args.commands.now c.in-Some.place c.index-commands-place.result (slice_get_read c.args.commands.now (length c.args.commands.now) c.in-Some.place c.index-commands-place.result refl
    (place_bound (map plain_command c.args.commands.now) c.args.k c.in_ok-index.index.items c.loop-place.marks.items c.loop-place.waiting.items c.pop.new.self.items c.in-Some.place
    c.loop-place.invariant c.in-Some.ensures.items (length c.args.commands.now) c.requires.within) c.index-commands-place.is)) (c.as_slice.ensures ∙ c.in_ok-mentioned.ensures)
    (subst (λ z. z ≡ get_or c.in_ok-index.index.items c.in-Some.place z) (sym c.as_slice-in-Some.ensures) c.index.ensures)
    c.in_ok-reach_all.ensures c.in_ok-reach_all-2.ensures

pub returns-clause-all : goal.returns-clause-all
returns-clause-all c = all_rest (map plain_command c.args.commands.now) c.args.k c.in_ok-index.index.items c.loop-place.marks.items c.loop-place.waiting.items c.in_ok-places.field-0
    c.loop-place.invariant (none_of c.loop-place.waiting.items (sym c.loop-place.waiting.ok.0 ∙ c.in_default.ensures.cases.0)) (c.in_ok-places.ensures ∙ ap (places_from 0) c.as_slice-2.ensures.value)
    (index_for c.args.commands.now c.args.k c.in_ok-index.index.items c.in_ok-index.ensures)

pub returns-clause-only : goal.returns-clause-only
returns-clause-only c = only_rest (map plain_command c.args.commands.now) c.args.k c.in_ok-index.index.items c.loop-place.marks.items c.loop-place.waiting.items c.in_ok-places.field-0
    c.loop-place.invariant (none_of c.loop-place.waiting.items (sym c.loop-place.waiting.ok.0 ∙ c.in_default.ensures.cases.0)) (c.in_ok-places.ensures ∙ ap (places_from 0) c.as_slice-2.ensures.value)

pub returns-clause-ascending : goal.returns-clause-ascending
returns-clause-ascending c = rest_ascending (map plain_command c.args.commands.now) c.args.k c.in_ok-index.index.items c.loop-place.marks.items c.loop-place.waiting.items c.in_ok-places.field-0
    c.loop-place.invariant (none_of c.loop-place.waiting.items (sym c.loop-place.waiting.ok.0 ∙ c.in_default.ensures.cases.0)) (c.in_ok-places.ensures ∙ ap (places_from 0) c.as_slice-2.ensures.value)
