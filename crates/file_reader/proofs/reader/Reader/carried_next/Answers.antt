use Rattle.file_reader.proofs.reader.Reader.carried_next.Goals as goal

pub returns-in-Ok-None-clause-finds : goal.returns-in-Ok-None-clause-finds
returns-in-Ok-None-clause-finds c = λ limits given done old.
    let h = c.loop-token.invariant.holds limits given done old in
    (rw c.in-Ok-None.field-0-is at c.in-Ok-None.ensures.takes limits given done h)

pub returns-in-Ok-Some-parse-clause-finds : goal.returns-in-Ok-Some-parse-clause-finds
returns-in-Ok-Some-parse-clause-finds c = λ limits given done old.
    let h = c.loop-token.invariant.holds limits given done old in
    let t = (rw c.in-Ok-Some.field-0-is at c.in-Ok-Some.ensures.takes limits given done h) in
    (rw c.in-Ok-Some-parse.field-0-is at c.in-Ok-Some-parse.ensures.parses limits given done t)

pub returns-in-Err-parse-clause-finds : goal.returns-in-Err-parse-clause-finds
returns-in-Err-parse-clause-finds c = λ limits given done old.
    let h = c.loop-token.invariant.holds limits given done old in
    let t = (rw c.in-Ok-Some.field-0-is at c.in-Ok-Some.ensures.takes limits given done h) in
    c.in-Err-parse.ensures.parses limits given done t
