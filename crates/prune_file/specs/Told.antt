-- Trusted: how a report of a file that is read alone tells a need of another module (docs/pruning.md).
use Rattle.dk_model.specs.declared.code.Code.{Code}
use Rattle.dk_model.specs.declared.code.Code.TheVariants.{E14, E15, E17}
use Rattle.dk_model.specs.declared.code.Verdict.{Verdict}
use Rattle.dk_model.specs.declared.code.Verdict.TheVariants as verdict
use Rattle.verdict_book.specs.declared.outcome.Outcome.{Outcome}
use Rattle.verdict_book.specs.declared.outcome.Outcome.TheVariants.{Stopped}

-- where one file may be open, each need of another module has one of these codes
abbrev pub told_code : Code → Code
told_code E14 = E17
told_code E15 = E17
told_code code = code

abbrev pub told_verdict : Verdict → Verdict
told_verdict (verdict.Refused code) = verdict.Refused (told_code code)
told_verdict v = v

abbrev pub told : Outcome → Outcome
told (Stopped number place v) = Stopped number place (told_verdict v)
told outcome = outcome
