use Rattle.std.proofs.Common.{rules, [], map}
use Rattle.dk_parser.specs.RawViews.{written, written_param}
use Rattle.scope_terms.specs.Answers.{IsFaultOf}
use Rattle.scope_terms.specs.Meanings.{declaring, names_of, symbols_of}
use Rattle.scope_terms.specs.declared.binders.Binders.{Outermost}
use Rattle.scope_terms.proofs.PlacedDeclarations.{whole_second_fault}
use Rattle.scope_terms.proofs.declaration.declaration_at.Goals as goal

pub returns-in_err-body-in-Some-Some-clause-refused : goal.returns-in_err-body-in-Some-Some-clause-refused
returns-in_err-body-in-Some-Some-clause-refused g c =
    let scope = c.args.scope.now in
    let p = whole_second_fault (symbols_of scope) (names_of scope) [] (map written_param c.args.params.now) (written c.in-Some-Some.typ) (written c.in-Some-Some.body) (g.T.Taken.term c.in_ok-typ-in-Some-Some.typ)
    c.in_err-body-in-Some-Some.field-0.0 c.in_ok-typ-in-Some-Some.ensures.ok c.in_err-body-in-Some-Some.ensures.refused in
    let fault : IsFaultOf (declaring scope Outermost c.args.params.now c.args.typ.now c.args.body.now) c.in_err-body-in-Some-Some.field-0.0 = rw (c.in-Some-Some.is-0, c.in-Some-Some.is-1) p in
    search rules
