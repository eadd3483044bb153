use Rattle.std.proofs.Common.{◌≡◌, subst, ◌∙◌}
use Rattle.std.specs.Prelude.{OnOk}
use Rattle.dk_terms.specs.Parts.{Parts, maybe_applied, parts}
use Rattle.dk_terms.proofs.Spelt.{qualified_put}
use Rattle.dk_terms.proofs.parts_so_far.PartsSoFar.qualified.Goals as goal

pub returns-clause-ok : goal.returns-clause-ok
returns-clause-ok c =
    subst (λ (p : Parts). OnOk c.put.result (parts c.put.new.self ≡ maybe_applied c.args.applied p))
    (qualified_put c.args.self.now.letters.items c.spell.new.self.letters.items c.spell-2.new.self.letters.items c.args.module_name.now c.args.name.now
    (record { from = c.in_ok-front.front.from; to = c.in_ok-back.back.to }) c.in_ok-before.before (parts c.args.self.now) (parts c.spell-2.new.self)
    c.in_ok-front.ensures.ok c.in_ok-back.ensures.ok c.in_ok-front.ensures.from c.in_ok-back.ensures.to c.in_ok-before.ensures (c.spell-2.ensures.same ∙ c.spell.ensures.same))
    c.put.ensures.ok
