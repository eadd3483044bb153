use Rattle.std.proofs.Common.{◌∙◌, ap, inl, subst, sym}
use Rattle.theory_walk.specs.BookNames.{own_module}
use Rattle.prune_file.specs.Files.{IsAccepted}
use Rattle.prune_file.specs.Laws.{text_at}
use Rattle.prune_file.specs.Pruned.{IsPruned}
use Rattle.dk_check_run.proofs.PruneRows.{some_of}
use Rattle.dk_check_run.proofs.pruning.put_pruned.Goals as goal

pub pruned_spans-requires : goal.pruned_spans-requires
pruned_spans-requires g c =
    let own_is = c.in-Ok.ensures ∙ ap own_module c.as_bytes.ensures.value in
    record { accepted = (c.args.request.now.budget, subst (λ own. IsAccepted c.args.limits own c.args.request.now.budget c.args.bytes.now) (sym own_is) c.requires) }

pub returns-in-Ok-Some : goal.returns-in-Ok-Some
returns-in-Ok-Some g c =
    let q = c.args.request.now in
    let bytes = c.args.bytes.now in
    let text = text_at bytes c.as_slice.result.now in
    let own_is = c.in-Ok.ensures ∙ ap own_module c.as_bytes.ensures.value in
    let file = subst (λ own. IsAccepted c.args.limits own q.budget bytes) (sym own_is) c.requires in
    let pruned = some_of _ c.in-Ok-Some.field-0 c.in-Ok-Some.spans c.in-Ok-Some.field-0-is c.in-Ok-Some.ensures.pruned q.budget file in
    inl (
      text,
      subst (λ own. IsPruned c.args.limits own q.budget q.name.now bytes text) own_is
          (subst (λ name. IsPruned c.args.limits c.in-Ok.own q.budget name bytes text) c.as_bytes-2.ensures.value
          (subst (λ spans. IsPruned c.args.limits c.in-Ok.own q.budget c.as_bytes-2.result.now bytes (text_at bytes spans)) (sym c.as_slice.ensures.value) pruned)),
      c.put_texts.ensures,
    )
