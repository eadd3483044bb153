use Rattle.std.proofs.Common.{◌≡◌, ◌<◌, List, subst, arith}
use Rattle.std.specs.Borrow.{Bor}
use Rattle.dk_model.specs.Scoping.{plain_left}
use Rattle.dk_parser.specs.RawViews.{written_pattern}
use Rattle.dk_terms.specs.declared.raw.RawPat.{RawPat}
use Rattle.scope_terms.specs.Scopes.{scoped}
use Rattle.scope_terms.specs.Meanings.{left_sense}
use Rattle.scope_terms.specs.Spines.{pattern_references, pattern_size, total_pattern_size, left_spine_sense}
use Rattle.scope_terms.proofs.PatternSpines.{spine_further, total_pushed}
use Rattle.scope_terms.proofs.left.+left_at.Goals as goal

pub loop-argument-preserved : goal.loop-argument-preserved
loop-argument-preserved t c =
    let scope = c.args.scope.now in
    let bound = c.args.bound.now in
    let whole = left_sense scope bound c.args.raw.now in
    let before = subst (λ (rs : List (Bor RawPat)). left_spine_sense scope bound (scoped (plain_left c.loop-argument.whole)) rs ≡ whole) c.in-Some.ensures.items c.loop-argument.invariant.same in
    let longer = subst (λ (rs : List (Bor RawPat)). total_pattern_size (pattern_references rs) < pattern_size (written_pattern c.args.raw.now)) c.in-Some.ensures.items c.loop-argument.invariant.smaller in
    let pushed = total_pushed c.pop.new.self.items c.in-Some.argument in
    record {
      same = spine_further scope bound whole (plain_left c.loop-argument.whole) (plain_left c.in_ok-argument-in-App.argument) (plain_left c.in_ok-whole-in-App-2.whole) c.pop.new.self.items c.in-Some.argument
          before c.in_ok-argument-in-App.ensures.ok c.in_ok-whole-in-App-2.ensures;
      smaller = omega (arith, longer, pushed);
    }
