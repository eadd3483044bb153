use Rattle.std.proofs.Common.{[], ◌∷◌, ◌++◌, sym, subst}
use Rattle.dk_model.specs.declared.code.Code.{Code}
use Rattle.file_reader.specs.declared.reader.ReadEnd.TheVariants as end
use Rattle.file_reader.specs.Held.{EndsIn}
use Rattle.file_reader.proofs.Taking.{token_refused, token_unread}
use Rattle.file_reader.proofs.reader.Reader.parse.Goals as goal

pub returns-in-Err-Refused-clause-parses : goal.returns-in-Err-Refused-clause-parses
returns-in-Err-Refused-clause-parses c = λ limits given done h.
    let adds = (rw c.in-Err-Refused.field-0-is at c.in-Err-Refused.ensures.adds limits h.taken h.parsed.has_read) in
    let after = (rw c.in-Err-Refused.field-0-is at c.in-Err-Refused.ensures.after limits h.taken h.parsed.has_read) in
    subst (λ (code : Code). EndsIn limits given c.args.self.now.over done (end.Refused c.due_line.result code)) (sym c.in-Err-Refused.code-is)
    (token_refused h c.in-Err-Refused.code c.due_line-line.result c.due_line.result adds (c.due_line.ensures limits (h.taken ++ c.args.token ∷ []) after))

pub returns-in-Err-NoMemory-clause-parses : goal.returns-in-Err-NoMemory-clause-parses
returns-in-Err-NoMemory-clause-parses c = λ limits given done h. token_unread h c.due_line-line.result (c.due_line-line.ensures limits h.taken h.parsed.has_read)
