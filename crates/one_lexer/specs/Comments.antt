-- For proofs: how a comment goes on, seen as the trusted spelling.
use Rattle.std.specs.Prelude.{ℕ, ◌+◌, ◌<◌, ◌≤◌, List, length}
use Rattle.dk_lexer.specs.Spelling.{Spelling, blank, comment}
use Rattle.one_lexer.specs.declared.comment.CommentEnd.{CommentEnd}
use Rattle.one_lexer.specs.declared.comment.CommentEnd.TheVariants as end

-- what the comment is with more bytes behind
abbrev pub ended : CommentEnd → List ℕ → Spelling
ended (end.Closed left) more = blank (left + length more)
ended (end.Open depth last) more = comment depth last more

-- its end is within so many bytes, of which each opens one comment at most
abbrev pub EndsWithin : ℕ → ℕ → CommentEnd → Type 0
EndsWithin depth size (end.Closed left) = left < size
EndsWithin depth size (end.Open within last) = within ≤ depth + size
