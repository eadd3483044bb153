use Rattle.std.proofs.Common.{◌∙◌, ap}
use Rattle.dk_model.specs.Erasure.{erased}
use Rattle.signature_log.specs.Versions.{entries_of}
use Rattle.command_check.proofs.Declaring.{inferred_alone}
use Rattle.command_check.proofs.queries.typed_term.Goals as goal

pub returns-clause-gives : goal.returns-clause-gives
returns-clause-gives g c =
    let made = c.in_ok-term.ensures.makes in
    let keeps = c.in_ok-_typ.ensures.continues.keeps in
    let bare = c.in_ok-erase.ensures.makes in
    let typ = g.R.Reducer.denotes c.infer-typ.new.r c.in_ok-_typ._typ in (
      (
        typ,
        inferred_alone g.R.Reducer.denotes (entries_of c.args.version.now) c.load.new.self c.new-walk.result _ _ typ _ _ c.new-walk.ensures.rule_vars c.new-walk.ensures.bound made.0 c.new-walk.ensures.left
            c.in_ok-_typ.ensures.gives.0,
      ),
      (bare.0 ∙ ap erased (keeps.same c.in_ok-term.term made.1 ∙ made.0), bare.1),
    )
