use Rattle.std.proofs.Common.{rules, ◌≡◌, ◌++◌, ℕ, Bool, List, length, ap, arith, sym, subst, ◌∙◌}
use Rattle.std.specs.Prelude.{unwrap_or}
use Rattle.dk_parser.specs.Steps.{read_tokens}
use Rattle.one_lexer.specs.Lexers.{HasAll, line_of}
use Rattle.file_reader.specs.Held.{TakesPiece}
use Rattle.file_reader.proofs.Loading.{loads_end, loads_piece}
use Rattle.file_reader.proofs.Memory.{piece_memory}
use Rattle.file_reader.proofs.reader.Reader.load.Goals as goal

pub returns-then-count-eq0-clause-loads : goal.returns-then-count-eq0-clause-loads
returns-then-count-eq0-clause-loads g c = λ limits given done d.
    loads_end d (g.H.Shelf.left c.args.shelf.now) (g.H.Shelf.left c.read.new.self) c.read.new.buf (rw c.if-count-eq0.true at c.in-Ok.ensures.bytes)

pub returns-in-Ok-put-clause-loads : goal.returns-in-Ok-put-clause-loads
returns-in-Ok-put-clause-loads g c = λ limits given done d.
    let other = c.if-count-eq0.false in
    let size : length c.read.new.buf ≡ 4096 = search rules in
    let carried = c.in-Ok-put.ensures.ok ∙ ap (λ (l : List ℕ). c.args.self.now.carried ++ l) c.split_at.ensures.front in
    subst (λ (x : List ℕ). TakesPiece limits given done (g.H.Shelf.left c.args.shelf.now) (g.H.Shelf.left c.read.new.self) c.args.self.now (record c.args.self.now { carried = x; given = c.saturating_add-self.result })) (sym carried)
    (loads_piece d (g.H.Shelf.left c.args.shelf.now) (g.H.Shelf.left c.read.new.self) c.in-Ok.count c.saturating_add-self.result c.read.new.buf (omega (arith, other)) c.in-Ok.ensures.bound size c.in-Ok.ensures.bytes c.saturating_add-self.ensures)

pub returns-in-Err-put-clause-loads : goal.returns-in-Err-put-clause-loads
returns-in-Err-put-clause-loads g c = λ limits given done d.
    let h = d.0.holds in
    piece_memory h.parsed given c.due_line.result (line_of c.args.self.now.lexer) (subst (λ (b : Bool). HasAll b limits given h.taken (line_of c.args.self.now.lexer)) d.1 d.0.all)
    (c.due_line.ensures limits h.taken h.parsed.has_read ∙ ap (unwrap_or (read_tokens limits h.taken).begun) c.line.ensures)
