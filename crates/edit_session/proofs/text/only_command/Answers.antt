use Rattle.std.proofs.Common.{[], ◌∷◌}
use Rattle.dk_parser.specs.RawViews.{written_command}
use Rattle.edit_session.proofs.Reading.{behind_none, behind_one, directive_first, fault_first, fault_second, nothing_read, one_read, second_read}
use Rattle.edit_session.proofs.text.only_command.Goals as goal

pub returns-in-Ok-Directive : goal.returns-in-Ok-Directive
returns-in-Ok-Directive c = let limits = c.args.limits in
    let text = c.args.text.now in
    directive_first limits text _ c.next.new.self c.in-Ok-Directive.field-0 c.in-Ok-Directive.field-0-0 c.in-Ok-Directive.field-0-is
    (c.in-Ok-Directive.ensures.answers limits text [] (behind_none limits text _ c.new-reader.result c.in_ok-shelf.ensures (c.new-reader.ensures.behind text)))

pub returns-in-Err-Whole : goal.returns-in-Err-Whole
returns-in-Err-Whole c = let limits = c.args.limits in
    let text = c.args.text.now in
    nothing_read limits text _ c.next.new.self c.in-Err-Whole.field-0 c.in-Err-Whole.field-0-is
    (c.in-Err-Whole.ensures.answers limits text [] (behind_none limits text _ c.new-reader.result c.in_ok-shelf.ensures (c.new-reader.ensures.behind text)))

pub returns-in-Err-Refused : goal.returns-in-Err-Refused
returns-in-Err-Refused c = let limits = c.args.limits in
    let text = c.args.text.now in
    fault_first limits text _ c.next.new.self c.in-Err-Refused.field-0 c.in-Err-Refused.field-0-0 c.in-Err-Refused.field-0-1 c.in-Err-Refused.field-0-is
    (c.in-Err-Refused.ensures.answers limits text [] (behind_none limits text _ c.new-reader.result c.in_ok-shelf.ensures (c.new-reader.ensures.behind text)))

pub returns-in-Ok : goal.returns-in-Ok
returns-in-Ok c = let limits = c.args.limits in
    let text = c.args.text.now in
    let raw = c.in-Ok-Command.raw in
    let one = behind_one limits text _ c.next.new.self c.in-Ok-Command.field-0 raw c.in-Ok-Command.field-0-is
    (c.in-Ok-Command.ensures.answers limits text [] (behind_none limits text _ c.new-reader.result c.in_ok-shelf.ensures (c.new-reader.ensures.behind text))) in
    second_read limits text (written_command raw) _ c.next-2.new.self c.in-Ok.field-0 (c.in-Ok.ensures.answers limits text (written_command raw ∷ []) one.0)

pub returns-in-Err-Whole-next : goal.returns-in-Err-Whole-next
returns-in-Err-Whole-next c = let limits = c.args.limits in
    let text = c.args.text.now in
    let raw = c.in-Ok-Command.raw in
    let one = behind_one limits text _ c.next.new.self c.in-Ok-Command.field-0 raw c.in-Ok-Command.field-0-is
    (c.in-Ok-Command.ensures.answers limits text [] (behind_none limits text _ c.new-reader.result c.in_ok-shelf.ensures (c.new-reader.ensures.behind text))) in
    one_read limits text raw _ c.next-2.new.self c.in-Err-Whole-next.field-0 c.in-Err-Whole-next.field-0-is (c.in-Err-Whole-next.ensures.answers limits text (written_command raw ∷ []) one.0) one.1

pub returns-in-Err-Refused-next : goal.returns-in-Err-Refused-next
returns-in-Err-Refused-next c = let limits = c.args.limits in
    let text = c.args.text.now in
    let raw = c.in-Ok-Command.raw in
    let one = behind_one limits text _ c.next.new.self c.in-Ok-Command.field-0 raw c.in-Ok-Command.field-0-is
    (c.in-Ok-Command.ensures.answers limits text [] (behind_none limits text _ c.new-reader.result c.in_ok-shelf.ensures (c.new-reader.ensures.behind text))) in
    fault_second limits text (written_command raw) _ c.next-2.new.self c.in-Err-Refused-next.field-0 c.in-Err-Refused-next.field-0-0 c.in-Err-Refused-next.field-0-1 c.in-Err-Refused-next.field-0-is
    (c.in-Err-Refused-next.ensures.answers limits text (written_command raw ∷ []) one.0)
