-- For callers: how a recheck ends, as plain data.
use Rattle.recheck_theory.specs.declared.answer.Answer.{Answer}
use Rattle.recheck_theory.specs.declared.answer.Answer.TheVariants.{Rechecked, Rejected}
use Rattle.recheck_theory.specs.Answers.{Answer as PlainAnswer, rechecked, rejected}

abbrev pub plain_answer : Answer → PlainAnswer
plain_answer (Rechecked count) = rechecked count
plain_answer (Rejected number) = rejected number
