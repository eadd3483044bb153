use Rattle.std.proofs.Common.{◌∙◌, length, map, ap, arith, subst, sym}
use Rattle.dk_model.specs.Scoping.{plain_command}
use Rattle.text_law.specs.Cuts.{AreTextsOf}
use Rattle.command_texts.specs.Spans.{cut}
use Rattle.prune_theory.specs.Mentions.{MentionBefore, Rests}
use Rattle.prune_file.specs.Commands.{AllBelow, at_places, found_of}
use Rattle.prune_file.specs.Laws.{text_at}
use Rattle.prune_file.specs.Pruned.{IsPruned}
use Rattle.prune_file.proofs.Chosen.{all_below, as_many, is_pruned, mention_before, place_is}
use Rattle.prune_file.proofs.pruning.pruned_spans.Goals as goal

pub rests-requires-clause-within : goal.rests-requires-clause-within
rests-requires-clause-within c =
    let file = c.requires.accepted.1 in
    let texts = subst (λ spans. AreTextsOf c.args.limits c.args.bytes.now file.items (cut c.args.bytes.now spans)) (sym c.as_slice.ensures.value) (c.in_ok-spans.ensures.cuts file.items file.reads) in
    let l = place_is c.args.limits c.args.own.now c.requires.accepted.0 c.args.name.now c.args.bytes.now _ (found_of c.in_ok-found.found) file texts (c.in_ok-found.ensures file.items file.reads) c.in-Some.place c.in-Some.is in
    let n = as_many plain_command c.in_ok-found.found.scoped.items in
    let m = ap length c.as_slice-2.ensures.value in
    omega (arith, l, n, m)

pub rests-requires-clause-before : goal.rests-requires-clause-before
rests-requires-clause-before c =
    let file = c.requires.accepted.1 in
    let texts = subst (λ spans. AreTextsOf c.args.limits c.args.bytes.now file.items (cut c.args.bytes.now spans)) (sym c.as_slice.ensures.value) (c.in_ok-spans.ensures.cuts file.items file.reads) in
    subst (λ cs. MentionBefore (map plain_command cs)) (sym c.as_slice-2.ensures.value)
    (mention_before c.args.limits c.args.own.now c.requires.accepted.0 c.args.name.now c.args.bytes.now _ (found_of c.in_ok-found.found) file texts (c.in_ok-found.ensures file.items file.reads))

pub spans_at-requires : goal.spans_at-requires
spans_at-requires c =
    let file = c.requires.accepted.1 in
    let texts = subst (λ spans. AreTextsOf c.args.limits c.args.bytes.now file.items (cut c.args.bytes.now spans)) (sym c.as_slice.ensures.value) (c.in_ok-spans.ensures.cuts file.items file.reads) in
    let scoped = ap (map plain_command) c.as_slice-2.ensures.value in
    subst (λ n. AllBelow n c.as_slice-4.result.now) (ap length (sym c.as_slice-3.ensures.value))
    (subst (AllBelow (length c.in_ok-found.found.spans.items)) (sym c.as_slice-4.ensures)
    (all_below c.args.limits c.args.own.now c.requires.accepted.0 c.args.name.now c.args.bytes.now _ (found_of c.in_ok-found.found) file texts (c.in_ok-found.ensures file.items file.reads) c.in-Some.place c.in-Some.is
    c.in_ok-places.places (λ i r. c.in_ok-places.ensures.all i (subst (λ cs. Rests cs c.in-Some.place i) (sym scoped) r)) (λ i m. subst (λ cs. Rests cs c.in-Some.place i) scoped (c.in_ok-places.ensures.only i m))))

pub returns-clause-pruned : goal.returns-clause-pruned
returns-clause-pruned c = λ budget file.
    let texts = subst (λ spans. AreTextsOf c.args.limits c.args.bytes.now file.items (cut c.args.bytes.now spans)) (sym c.as_slice.ensures.value) (c.in_ok-spans.ensures.cuts file.items file.reads) in
    let scoped = ap (map plain_command) c.as_slice-2.ensures.value in
    subst (λ spans. IsPruned c.args.limits c.args.own.now budget c.args.name.now c.args.bytes.now (text_at c.args.bytes.now spans)) (sym (c.in_ok-spans_at.ensures ∙ ap (λ xs. at_places xs c.as_slice-4.result.now) c.as_slice-3.ensures.value ∙ ap (at_places c.in_ok-found.found.spans.items) c.as_slice-4.ensures))
    (is_pruned c.args.limits c.args.own.now budget c.args.name.now c.args.bytes.now _ (found_of c.in_ok-found.found) file texts (c.in_ok-found.ensures file.items file.reads) c.in-Some.place c.in-Some.is
    c.in_ok-places.places (λ i r. c.in_ok-places.ensures.all i (subst (λ cs. Rests cs c.in-Some.place i) (sym scoped) r)) (λ i m. subst (λ cs. Rests cs c.in-Some.place i) scoped (c.in_ok-places.ensures.only i m)) c.in_ok-places.ensures.ascending)
