use Rattle.term_print.proofs.Qualified.{qualified_spelt, qualified_quoted_spelt}
use Rattle.term_print.proofs.Quoted.{quoted_spelt}
use Rattle.term_print.proofs.Texts.{name_spelt}
use Rattle.term_print.proofs.laws.names_law.Goals as goal

pub returns-clause-plain : goal.returns-clause-plain
returns-clause-plain c = name_spelt

pub returns-clause-quoted : goal.returns-clause-quoted
returns-clause-quoted c = quoted_spelt

pub returns-clause-qualified : goal.returns-clause-qualified
returns-clause-qualified c = qualified_spelt

pub returns-clause-qualified_quoted : goal.returns-clause-qualified_quoted
returns-clause-qualified_quoted c = qualified_quoted_spelt
