use Rattle.std.proofs.Common.{◌∙◌}
use Rattle.signature_log.specs.Versions.{entries_of}
use Rattle.signature_log.proofs.Keeping.{keeps_further}
use Rattle.infer_check.proofs.Contexts.{context_kept, rule_types_kept, bound_types_kept}
use Rattle.split_check.proofs.Judged.{given_same}
use Rattle.split_check.proofs.judging.judge_part.Goals as goal

pub check-fits-requires-clause-ready : goal.check-fits-requires-clause-ready
check-fits-requires-clause-ready g c =
    let S = entries_of c.args.version.now in
    let kept = keeps_further c.brought_context.new.r c.bring.new.self c.bring-2.new.self c.bring.ensures.keeps c.bring-2.ensures.keeps in
    record {
      context = context_kept c.brought_context.new.r c.bring-2.new.self c.in_ok-context.context kept c.in_ok-context.ensures.own;
      serving = c.bring-2.ensures.serves S (c.bring.ensures.serves S (c.brought_context.ensures.serves S c.requires));
    }

pub returns-clause-gives : goal.returns-clause-gives
returns-clause-gives g c =
    let kept = keeps_further c.brought_context.new.r c.bring.new.self c.bring-2.new.self c.bring.ensures.keeps c.bring-2.ensures.keeps in
    let own = c.in_ok-context.ensures.own in
    given_same (entries_of c.args.version.now) c.args.left.now c.check-fits.new.walk.left c.check-fits.result
    (rule_types_kept c.brought_context.new.r c.bring-2.new.self c.in_ok-context.context kept own ∙ c.in_ok-context.ensures.rule_vars)
    (bound_types_kept c.brought_context.new.r c.bring-2.new.self c.in_ok-context.context kept own ∙ c.in_ok-context.ensures.bound)
    (c.bring-2.ensures.keeps.same c.in_ok-term.term c.in_ok-term.ensures.makes.1 ∙ c.in_ok-term.ensures.makes.0)
    c.in_ok-domain.ensures.makes.0 c.check-fits.ensures.gives

pub returns-clause-follows : goal.returns-clause-follows
returns-clause-follows g c = record {
  keeps = keeps_further c.args.r.now c.bring-2.new.self c.check-fits.new.r
      (keeps_further c.args.r.now c.bring.new.self c.bring-2.new.self
      (keeps_further c.args.r.now c.brought_context.new.r c.bring.new.self c.brought_context.ensures.keeps c.bring.ensures.keeps) c.bring-2.ensures.keeps) c.check-fits.ensures.continues.keeps;
  serving = c.check-fits.ensures.continues.serving;
}
