use Rattle.std.proofs.Common.{◌∙◌, [], ◌∷◌, ◌++◌, refl}
use Rattle.dk_io.proofs.Gather.{gathers_stop_at, moves_none, moves_then}
use Rattle.prune_file.specs.Laws.{text_at}
use Rattle.prune_file.proofs.Chosen.{texts_next}
use Rattle.prune_file.proofs.pruning.put_texts.Goals as goal

pub loop-span-init : goal.loop-span-init
loop-span-init g c = record { before = ([], moves_none _ _, refl); faults = refl }

pub loop-span-preserved : goal.loop-span-preserved
loop-span-preserved g c =
    let inv = c.loop-span.invariant in
    record {
      before = (
        inv.before.0 ++ (c.text.result.now ++ 10 ∷ []),
        moves_then inv.before.1 c.in-Ok.ensures.put.whole,
        texts_next c.args.bytes.now _ _ _ _ _ _ c.in-Some.ensures.cases.0 c.text.ensures inv.before.2,
      );
      faults = c.in-Ok.ensures.cause.stands ∙ inv.faults;
    }

pub returns-in-Err-clause-put : goal.returns-in-Err-clause-put
returns-in-Err-clause-put g c =
    let inv = c.loop-span.invariant in
    gathers_stop_at inv.before.0 (c.text.result.now ++ 10 ∷ []) (text_at c.args.bytes.now c.in-Some.others.now) _ inv.before.1 c.in-Err.ensures.put
    (texts_next c.args.bytes.now _ _ _ _ _ _ c.in-Some.ensures.cases.0 c.text.ensures inv.before.2)
