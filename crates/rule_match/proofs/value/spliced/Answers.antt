use Rattle.rule_match.proofs.Following.{put_there}
use Rattle.rule_match.proofs.value.spliced.Goals as goal

pub returns : goal.returns
returns c =
    put_there c.args.columns.items c.split_off.new.self.items c.truncate.new.self.items c.push.new.self.items c.append.new.self.items c.append-2.new.self.items c.in_ok-behind.behind.items c.args.parts.items
    c.args.at c.args.value c.column_of-depth.result (rw c.as_slice.ensures.value at c.column_of-depth.ensures) c.in_ok-behind.ensures.items c.truncate.ensures.items c.in_ok-push.ensures.items
    c.in_ok-append.ensures.items c.in_ok-behind.ensures.tail c.in_ok-append-2.ensures.items
