use Rattle.std.proofs.Common.{[], ◌∷◌, ◌++◌}
use Rattle.dk_parser.specs.RawViews.{written_command}
use Rattle.file_reader.specs.Nexts.{raw_of}
use Rattle.prune_file.proofs.Scans.{stands_last, stands_next, takes_next, whole_found, whole_read}
use Rattle.prune_file.proofs.commands.Commands.read_on.Goals as goal

pub items-init : goal.items-init
items-init c = record {
  begun = c.requires;
  stands = λ limits own bytes given. ([], given);
}

pub items-preserved : goal.items-preserved
items-preserved c =
    let inv = c.items.invariant in
    let taken = c.in_ok-rest-in-Ok.ensures in
    record {
      begun = c.in-Ok.ensures.begun;
      stands = λ limits own bytes given.
          let here = inv.stands limits own bytes given in
          let next = c.in-Ok.ensures.answers limits bytes here.0 here.1.behind in (
            here.0 ++ written_command (raw_of c.in-Ok.next) ∷ [],
            stands_next limits own c.args.name.now bytes c.args.spans.now here.0 (written_command (raw_of c.in-Ok.next)) _ _ _ _ _ _ _ _ _
                here.1 next.0 taken.first (takes_next c.args.name.now c.in-Ok.next _ _ _ next.1 taken.takes),
          );
    }

pub returns-in-Err : goal.returns-in-Err
returns-in-Err c =
    whole_found c.found_whole.result c.in-Err.end c.items.self _ c.found_whole.ensures (λ is limits own bytes given items are.
    let here = c.items.invariant.stands limits own bytes given in
    stands_last limits own c.args.name.now bytes c.args.spans.now here.0 _ _ _ _ here.1
    (whole_read limits own c.args.name.now bytes c.args.spans.now here.0 _ c.next.new.self c.in-Err.end is (c.in-Err.ensures.answers limits bytes here.0 here.1.behind)) items are)
