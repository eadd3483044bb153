use Rattle.std.proofs.Common.{◌≡◌, ◌∙◌, ap, Option, Some, None}
use Rattle.dk_model.specs.Signatures.{maybe_by}
use Rattle.dk_model.specs.Scoping.{declare}
use Rattle.shared_term.specs.Commands.{stored_command}
use Rattle.shared_term.specs.Storage.{stored_term}
use Rattle.shared_term.specs.declared.stored.Stored.{Stored}
use Rattle.signature_log.specs.Versions.{entries_of}
use Rattle.command_check.proofs.Verdicts.{untyped_derives, untyped_due}
use Rattle.command_check.proofs.verdict.infer_stored.Goals as goal

pub returns-clause-derivation : goal.returns-clause-derivation
returns-clause-derivation g c =
    let s = c.in-Declare.sort in
    let e : stored_command c.args.c.now ≡ declare s None (Some (stored_term c.in-Some-body.body)) = ap stored_command c.in-Declare.is
    ∙ ap (λ (A : Option Stored). declare s (maybe_by stored_term A) (maybe_by stored_term c.in-Declare.body)) c.in-None.is ∙ ap (λ (b : Option Stored). declare s None (maybe_by stored_term b)) c.in-Some-body.is in
    untyped_derives (entries_of c.args.version.now) s (stored_term c.in-Some-body.body) c.args.budget c.accepted_has_derivation.ensures.declaration (stored_command c.args.c.now) e c.infer_untyped.result
    c.infer_untyped.ensures.ok

pub returns-clause-err : goal.returns-clause-err
returns-clause-err g c =
    let s = c.in-Declare.sort in
    let e : stored_command c.args.c.now ≡ declare s None (Some (stored_term c.in-Some-body.body)) = ap stored_command c.in-Declare.is
    ∙ ap (λ (A : Option Stored). declare s (maybe_by stored_term A) (maybe_by stored_term c.in-Declare.body)) c.in-None.is ∙ ap (λ (b : Option Stored). declare s None (maybe_by stored_term b)) c.in-Some-body.is in
    untyped_due (entries_of c.args.version.now) s (stored_term c.in-Some-body.body) c.args.budget (stored_command c.args.c.now) e c.infer_untyped.result c.infer_untyped.ensures.err
