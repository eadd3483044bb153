use Rattle.std.proofs.Common.{rules, ◌∙◌, ap, sym as flip}
use Rattle.dk_model.specs.Substitution.{shift}
use Rattle.rule_check.proofs.Moving.{type_missing, type_known, type_owned}
use Rattle.rule_check.proofs.variables.known_type.Goals as goal

pub shift-requires : goal.shift-requires
shift-requires g c =
    let e = c.in-Some.ensures in
    let o = type_owned g.R.Reducer.owns g.R.Reducer.denotes c.args.r.now c.args.side.now.found.types.items c.args.number c.in-Some.typ.now (flip c.in-Some.ensures) c.requires.types in
    search rules

pub returns-in_ok-shift-in-Some-clause-known : goal.returns-in_ok-shift-in-Some-clause-known
returns-in_ok-shift-in-Some-clause-known g c =
    let made = c.in_ok-shift-in-Some.ensures.makes in (
      g.R.Reducer.denotes c.args.r.now c.in-Some.typ.now,
      type_known g.R.Reducer.owns g.R.Reducer.denotes c.args.r.now c.args.side.now.found.types.items c.args.number c.in-Some.typ.now (flip c.in-Some.ensures),
      made.0 ∙ ap (λ d. shift 0 d (g.R.Reducer.denotes c.args.r.now c.in-Some.typ.now)) c.len.ensures,
      made.1,
    )

pub returns-in-None-clause-known : goal.returns-in-None-clause-known
returns-in-None-clause-known g c = type_missing g.R.Reducer.owns g.R.Reducer.denotes c.args.r.now c.args.side.now.found.types.items c.args.number (flip c.in-None.ensures)
