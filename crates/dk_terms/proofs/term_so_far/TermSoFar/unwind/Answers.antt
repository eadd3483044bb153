use Rattle.std.proofs.Common.{◌++◌, ◌∷◌, [], true, ap, sym, ◌∙◌}
use Rattle.dk_terms.specs.Parts.{parts}
use Rattle.dk_terms.specs.Parsing.{term_goes}
use Rattle.dk_terms.specs.Stacks.{innermost_first}
use Rattle.dk_terms.specs.Views.{ended_over, term_over}
use Rattle.dk_terms.specs.declared.frame.Application.TheVariants as application
use Rattle.dk_terms.proofs.Framed.{closed, ended_wrap, not_closed}
use Rattle.dk_terms.proofs.term_so_far.TermSoFar.unwind.Goals as goal

pub loop-frame-preserved : goal.loop-frame-preserved
loop-frame-preserved c = record {
  same =
      ap (λ p. ended_over p c.pop.new.self.items c.args.sign) (c.reserve-in-Some.ensures.same ∙ c.wrap.ensures)
      ∙ ended_wrap (parts c.loop-frame.self.list) c.loop-frame.self.frames.items c.pop.new.self.items c.in-Wraps.wrap c.args.sign
      (c.in-Some.ensures.items ∙ ap (λ f. c.pop.new.self.items ++ f ∷ []) c.in-Wraps.is)
      ∙ c.loop-frame.invariant.same;
  room = c.in_ok-reserve-2.ensures.ok;
  at_front = c.loop-frame.invariant.at_front;
}

pub returns-then-is_closing : goal.returns-then-is_closing
returns-then-is_closing c =
    ap (λ p. term_goes (term_over p (innermost_first c.pop.new.self.items) (application.Reading c.in-Bracket.role true))) c.apply.ensures
    ∙ closed (parts c.loop-frame.self.list) c.loop-frame.self.frames.items c.pop.new.self.items c.in-Some.frame c.in-Bracket.role c.in-Bracket.read c.args.sign
    c.in-Some.ensures.items c.in-Bracket.is (sym c.is_closing.ensures ∙ c.if-is_closing.true)
    ∙ c.loop-frame.invariant.same

pub returns-in-Bracket : goal.returns-in-Bracket
returns-in-Bracket c =
    not_closed (parts c.loop-frame.self.list) c.loop-frame.self.frames.items c.pop.new.self.items c.in-Some.frame c.in-Bracket.role c.in-Bracket.read c.args.sign
    c.in-Some.ensures.items c.in-Bracket.is (sym c.is_closing.ensures ∙ c.if-is_closing.false)
    ∙ c.loop-frame.invariant.same
