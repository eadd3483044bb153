use Rattle.verdict_book.proofs.Puts.{pieces_next, pieces_stop}
use Rattle.verdict_book.proofs.pieces.+put_pieces.Goals as goal

pub returns-in-Ok-clause-put : goal.returns-in-Ok-clause-put
returns-in-Ok-clause-put g t c = pieces_next c.in-Some.ensures.cases.0 c.in-Ok.ensures.put c.put_pieces.ensures.put

pub returns-in-Err-clause-put : goal.returns-in-Err-clause-put
returns-in-Err-clause-put g t c = pieces_stop c.in-Some.ensures.cases.0 c.in-Err.ensures.put
