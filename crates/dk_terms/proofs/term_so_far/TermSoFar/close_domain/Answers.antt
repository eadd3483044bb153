use Rattle.std.proofs.Common.{ap, sym, ◌∙◌}
use Rattle.std.specs.Prelude.{◌&&◌}
use Rattle.dk_terms.specs.Parts.{parts}
use Rattle.dk_terms.specs.Shapes.{is_closing}
use Rattle.dk_terms.proofs.Framed.{domain_closes, domain_refuses}
use Rattle.dk_terms.proofs.term_so_far.TermSoFar.close_domain.Goals.{else-is_domain-via-then-is_domain+else-is_closing, else-is_domain-via-else-is_domain}
use Rattle.dk_terms.proofs.term_so_far.TermSoFar.close_domain.Goals as goal

pub returns-then-is_closing : goal.returns-then-is_closing
returns-then-is_closing c =
    domain_closes (parts c.args.self.now.list) c.args.self.now.frames.items c.pop.new.self.items c.in-Some.frame c.args.sign c.in-Some.ensures.items
    (sym c.is_domain.ensures ∙ c.if-is_domain.true) (sym c.is_closing.ensures ∙ c.if-is_closing.true)

pub returns : goal.returns
returns c =
    domain_refuses (parts c.args.self.now.list) c.args.self.now.frames.items c.pop.new.self.items c.in-Some.frame c.args.sign c.in-Some.ensures.items
    (elim c.else-is_domain.branch [
      | else-is_domain-via-then-is_domain+else-is_closing w ↦ ap (λ b. b && is_closing c.args.sign) (sym c.is_domain.ensures ∙ w.if-is_domain.true) ∙ (sym w.is_closing.ensures ∙ w.if-is_closing.false)
      | else-is_domain-via-else-is_domain w ↦ ap (λ b. b && is_closing c.args.sign) (sym c.is_domain.ensures ∙ w.if-is_domain.false)
    ])
