use Rattle.std.proofs.Common.{◌∙◌, ap, sym as flip}
use Rattle.dk_model.specs.Bindings.{under}
use Rattle.signature_log.specs.Versions.{entries_of}
use Rattle.signature_log.proofs.Keeping.{keeps_further}
use Rattle.rule_check.specs.Founds.{terms_of}
use Rattle.rule_check.proofs.Founds.{bindings_kept, terms_kept}
use Rattle.rule_check.proofs.Solving.{heads_pair}
use Rattle.rule_check.proofs.equation.heads.Goals as goal

pub both_under-requires-clause-bindings : goal.both_under-requires-clause-bindings
both_under-requires-clause-bindings g c = bindings_kept c.args.r.now c.whnf-2.new.self (keeps_further c.args.r.now c.whnf.new.self c.whnf-2.new.self c.in_ok-one.ensures.keeps c.in_ok-other.ensures.keeps) c.args.bindings.now c.requires.bindings

pub returns-clause-gives : goal.returns-clause-gives
returns-clause-gives g c =
    let S = entries_of c.args.version.now in
    let D = g.R.Reducer.denotes in
    let r = c.args.r.now in
    let mid = c.whnf.new.self in
    let two = c.whnf-2.new.self in
    let b = c.args.bindings.now in
    let s = terms_of D r b in
    let k = c.in_ok-one.ensures.keeps in
    let l = c.in_ok-other.ensures.keeps in
    let kept = terms_kept r two (keeps_further r mid two k l) b c.requires.bindings in
    let one = c.in_ok-one.ensures.gives in
    let other = c.in_ok-other.ensures.gives in
    let both = c.in_ok-both_under.ensures.under in
    let n = c.args.left.now in (
      heads_pair S s (D r c.args.equation.one) (D r c.args.equation.other) (D mid c.args.equation.other) (D mid c.in_ok-one.one) (D two c.in_ok-other.other) n c.whnf.new.left c.whnf-2.new.left one.0 other.0
          (k.same c.args.equation.other c.requires.own.other)
          (flip (both.one ∙ ap (λ z. under z (D two c.in_ok-one.one)) kept ∙ ap (under s) (l.same c.in_ok-one.one one.1)))
          (flip (both.other ∙ ap (λ z. under z (D two c.in_ok-other.other)) kept)),
      both.own,
    )
