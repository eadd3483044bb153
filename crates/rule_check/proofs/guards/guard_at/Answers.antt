use Rattle.std.proofs.Common.{◌∙◌, ap, map}
use Rattle.signature_log.proofs.Keeping.{keeps_further}
use Rattle.infer_check.proofs.Contexts.{owned_kept, innermost_kept}
use Rattle.rule_check.proofs.Guarding.{innermost_same}
use Rattle.rule_check.proofs.guards.guard_at.Goals as goal

pub returns-clause-guard : goal.returns-clause-guard
returns-clause-guard g c =
    let D = g.R.Reducer.denotes in
    let r = c.args.r.now in
    let one = c.copies.new.r in
    let two = c.copy.new.self in
    let end = c.copy-2.new.self in
    let k1 = c.in_ok-bound.ensures.keeps in
    let k2 = c.in_ok-term.ensures.keeps in
    let k3 = c.in_ok-typ.ensures.keeps in
    let kept = keeps_further one two end k2 k3 in
    let bound = c.in_ok-bound.bound in
    let copied = c.in_ok-bound.ensures.copies in
    let term = c.in_ok-term.ensures.makes in
    let typ = c.in_ok-typ.ensures.makes in
    let k12 = keeps_further r one two k1 k2 in
    record {
      context = innermost_kept one end bound kept copied.own
          ∙ innermost_same D one r bound c.args.context.now.bound (copied.same ∙ ap (map (D r)) c.as_slice.ensures);
      term = k3.same c.in_ok-term.term term.1 ∙ term.0 ∙ k1.same c.args.term.now c.requires.term;
      typ = typ.0 ∙ k12.same c.args.typ.now c.requires.typ;
      own = record {
        bound = owned_kept one end bound kept copied.own;
        term = k3.own c.in_ok-term.term term.1;
        typ = typ.1;
      };
    }
