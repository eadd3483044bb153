use Rattle.std.proofs.Common.{◌∙◌, ap, sym}
use Rattle.std.specs.Option.{option_copied}
use Rattle.board_core.specs.Machine.{marks_of}
use Rattle.edit_session.proofs.Ending.{may_seal}
use Rattle.edit_session.proofs.report.seal.Goals as goal

pub seal-requires : goal.seal-requires
seal-requires c = may_seal (marks_of c.args.book.now.jobs) c.args.book.now.events c.args.end (sym c.end.ensures ∙ ap option_copied c.in-None.is) c.requires.own
