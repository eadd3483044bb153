use Rattle.edit_session.proofs.Keeping.{kept_serve}
use Rattle.edit_session.proofs.laws.kept_answers_serve.Goals as goal

pub returns : goal.returns
returns c = kept_serve
