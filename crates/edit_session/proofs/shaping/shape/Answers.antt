use Rattle.dk_model.specs.Scoping.{plain_command}
use Rattle.dk_parser.specs.RawViews.{written_form}
use Rattle.scope_terms.specs.Names.{reading}
use Rattle.signature_log.specs.Versions.{entries_of}
use Rattle.edit_session.proofs.Shapes.{not_shaped}
use Rattle.edit_session.proofs.shaping.shape.Goals as goal

pub returns-in-Err-clause-err : goal.returns-in-Err-clause-err
returns-in-Err-clause-err g c = not_shaped (reading c.args.names.now) (entries_of c.args.version.now) (written_form c.args.raw.now.form) (plain_command c.in_ok-command.command) c.in-Err.fault c.in_ok-command.ensures.ok c.in-Err.ensures.err
