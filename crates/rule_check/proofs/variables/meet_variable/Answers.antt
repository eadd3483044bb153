use Rattle.signature_log.specs.Versions.{entries_of}
use Rattle.signature_log.proofs.Keeping.{keeps_further}
use Rattle.infer_check.proofs.Contexts.{context_kept}
use Rattle.infer_check.proofs.Walks.{ready}
use Rattle.rule_check.proofs.Founds.{found_kept, bindings_kept}
use Rattle.rule_check.proofs.Moving.{meets_first, meets_later}
use Rattle.rule_check.proofs.variables.meet_variable.Goals as goal

pub meet_first-requires-clause-ready : goal.meet_first-requires-clause-ready
meet_first-requires-clause-ready g c =
    ready c.known_type.new.r c.args.side.now.walk (context_kept c.args.r.now c.known_type.new.r c.args.side.now.walk.context c.in_ok-known_type.ensures.keeps c.requires.ready.context)
    (c.in_ok-known_type.ensures.serves (entries_of c.args.version.now) c.requires.ready.serving)

pub meet_first-requires-clause-found : goal.meet_first-requires-clause-found
meet_first-requires-clause-found g c = found_kept c.args.r.now c.known_type.new.r c.in_ok-known_type.ensures.keeps c.args.side.now.found c.requires.found

pub fit_later-requires-clause-ready : goal.fit_later-requires-clause-ready
fit_later-requires-clause-ready g c =
    ready c.known_type.new.r c.args.side.now.walk (context_kept c.args.r.now c.known_type.new.r c.args.side.now.walk.context c.in_ok-known_type.ensures.keeps c.requires.ready.context)
    (c.in_ok-known_type.ensures.serves (entries_of c.args.version.now) c.requires.ready.serving)

pub fit_later-requires-clause-bindings : goal.fit_later-requires-clause-bindings
fit_later-requires-clause-bindings g c = bindings_kept c.args.r.now c.known_type.new.r c.in_ok-known_type.ensures.keeps c.args.side.now.found.bindings c.requires.found.bindings

pub returns-in-None-clause-gives : goal.returns-in-None-clause-gives
returns-in-None-clause-gives g c =
    let D = g.R.Reducer.denotes in
    let r = c.args.r.now in
    let mid = c.known_type.new.r in
    let k = c.in_ok-known_type.ensures.keeps in
    meets_first (entries_of c.args.version.now) r mid c.args.side.now.walk.context k c.requires.ready.context c.args.side.now.found c.requires.found c.args.variable.now.number c.args.variable.now.arguments.now
    (D mid c.args.expected.now) (D r c.args.expected.now) c.args.side.now.walk.left c.meet_first.new.side.walk.left c.meet_first.new.r c.meet_first.new.side.found c.meet_first.result
    c.in_ok-known_type.field-0 c.in-None.is c.in_ok-known_type.ensures.known (k.same c.args.expected.now c.requires.expected) c.meet_first.ensures.gives

pub returns-in-Some-clause-gives : goal.returns-in-Some-clause-gives
returns-in-Some-clause-gives g c =
    let D = g.R.Reducer.denotes in
    let r = c.args.r.now in
    let mid = c.known_type.new.r in
    let k = c.in_ok-known_type.ensures.keeps in
    meets_later (entries_of c.args.version.now) r mid c.args.side.now.walk.context k c.requires.ready.context c.args.side.now.found c.fit_later.new.side.found c.requires.found c.args.variable.now.number c.args.variable.now.arguments.now
    (D mid c.args.expected.now) (D r c.args.expected.now) c.args.side.now.walk.left c.fit_later.new.side.walk.left c.fit_later.new.r c.fit_later.result
    c.in_ok-known_type.field-0 c.in-Some.typ c.in-Some.is c.in_ok-known_type.ensures.known (k.same c.args.expected.now c.requires.expected)
    (keeps_further r mid c.fit_later.new.r k c.fit_later.ensures.continues.keeps) c.fit_later.ensures.rebound c.fit_later.ensures.gives
