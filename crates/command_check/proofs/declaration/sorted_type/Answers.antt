use Rattle.std.proofs.Common.{◌∙◌}
use Rattle.signature_log.specs.Versions.{entries_of}
use Rattle.command_check.proofs.Declaring.{sorted_alone}
use Rattle.command_check.proofs.declaration.sorted_type.Goals as goal

pub returns-clause-gives : goal.returns-clause-gives
returns-clause-gives g c =
    let made = c.in_ok-typ.ensures.makes in
    let keeps = c.in_ok-_sort.ensures.continues.keeps in
    let sort = g.R.Reducer.denotes c.sort_of-sort.new.r c.in_ok-_sort._sort in (
      (
        sort,
        sorted_alone g.R.Reducer.denotes (entries_of c.args.version.now) c.bring.new.r c.new-walk.result _ _ sort _ _ c.new-walk.ensures.rule_vars c.new-walk.ensures.bound made.0 c.new-walk.ensures.left
            c.in_ok-_sort.ensures.gives.0,
      ),
      (keeps.same c.in_ok-typ.typ made.1 ∙ made.0, keeps.own c.in_ok-typ.typ made.1),
    )
