use Rattle.std.proofs.Common.{rules}
use Rattle.signature_log.proofs.Keeping.{keeps_further}
use Rattle.infer_check.proofs.Unwinding.{unwound, unwound_owned}
use Rattle.split_check.proofs.spine.unwind.Goals as goal

pub loop-head-preserved : goal.loop-head-preserved
loop-head-preserved g c = let i = c.loop-head.invariant in let k = c.in_ok-head-in-App.ensures.keeps in record {
  same = unwound g.R.Reducer.owns g.R.Reducer.denotes c.loop-head.r c.open.new.self c.in-App.f c.in-App.a c.loop-head.head c.loop-head.arguments.items c.push.new.self.items
      c.in_ok-head-in-App.head _ (search rules) (search rules) k i.parts i.arguments c.in_ok-head-in-App.ensures.node.0 i.same;
  parts = c.in_ok-head-in-App.ensures.node.1;
  arguments = unwound_owned g.R.Reducer.owns g.R.Reducer.denotes c.loop-head.r c.open.new.self c.in-App.f c.in-App.a c.loop-head.head c.loop-head.arguments.items c.push.new.self.items
      (search rules) (search rules) k i.parts i.arguments;
  keeps = keeps_further c.args.r.now c.loop-head.r c.open.new.self i.keeps k;
  serves = λ S h. c.in_ok-head-in-App.ensures.serves S (i.serves S h);
}
