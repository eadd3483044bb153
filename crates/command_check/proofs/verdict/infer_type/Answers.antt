use Rattle.std.proofs.Common.{◌≡◌, ◌∙◌, ap, Option, Some, None}
use Rattle.dk_model.specs.Trees.{tree}
use Rattle.dk_model.specs.Signatures.{maybe_tree}
use Rattle.dk_model.specs.Scoping.{declare, plain_command}
use Rattle.dk_model.specs.declared.term.Term.{Term}
use Rattle.signature_log.specs.Versions.{entries_of}
use Rattle.command_check.proofs.Verdicts.{untyped_derives, untyped_due}
use Rattle.command_check.proofs.verdict.infer_type.Goals as goal

pub returns-clause-derivation : goal.returns-clause-derivation
returns-clause-derivation g c =
    let s = c.in-Declare.sort in
    let e : plain_command c.args.c.now ≡ declare s None (Some (tree c.in-Some-body.body)) = ap plain_command c.in-Declare.is
    ∙ ap (λ (A : Option Term). declare s (maybe_tree A) (maybe_tree c.in-Declare.body)) c.in-None.is ∙ ap (λ (b : Option Term). declare s None (maybe_tree b)) c.in-Some-body.is in
    untyped_derives (entries_of c.args.version.now) s (tree c.in-Some-body.body) c.args.budget c.accepted_has_derivation.ensures.declaration (plain_command c.args.c.now) e c.infer_untyped.result
    c.infer_untyped.ensures.ok

pub returns-clause-err : goal.returns-clause-err
returns-clause-err g c =
    let s = c.in-Declare.sort in
    let e : plain_command c.args.c.now ≡ declare s None (Some (tree c.in-Some-body.body)) = ap plain_command c.in-Declare.is
    ∙ ap (λ (A : Option Term). declare s (maybe_tree A) (maybe_tree c.in-Declare.body)) c.in-None.is ∙ ap (λ (b : Option Term). declare s None (maybe_tree b)) c.in-Some-body.is in
    untyped_due (entries_of c.args.version.now) s (tree c.in-Some-body.body) c.args.budget (plain_command c.args.c.now) e c.infer_untyped.result c.infer_untyped.ensures.err
