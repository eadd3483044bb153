use Rattle.prune_file.proofs.Scans.{stands_first, tells}
use Rattle.prune_file.proofs.commands.read_commands.Goals as goal

pub returns : goal.returns
returns c = tells c.read_on-all.result _ _ c.read_on-all.ensures (λ all told.
    told c.args.limits c.args.own.now c.args.bytes.now (stands_first c.args.limits c.args.own.now c.args.name.now c.args.bytes.now c.args.spans.now _ _ _ (c.new-reader.ensures.behind c.args.bytes.now) c.new-found.ensures c.in_ok-names_in.ensures))
