-- For callers: what stands however the bytes go on.
use Rattle.std.specs.Prelude.{ℕ, ◌+◌, Bool, true, false}
use Rattle.dk_lexer.specs.Spelling.{Spelling, blank, token, run_and_dot, wrong, comment_open, unsettled, late, Quoted, closed, faulty, open_ended}

-- however the bytes go on, it is this
abbrev pub is_settled : Spelling → Bool
is_settled (unsettled spelling) = false
is_settled comment_open = false
is_settled (late left spelling) = is_settled spelling
is_settled _ = true

-- the same with so many bytes more behind it
abbrev pub with_more : ℕ → Spelling → Spelling
with_more n (blank left) = blank (left + n)
with_more n (token kind text left) = token kind text (left + n)
with_more n (run_and_dot text left) = run_and_dot text (left + n)
with_more n (wrong code left) = wrong code (left + n)
with_more n comment_open = comment_open
with_more n (unsettled spelling) = unsettled spelling
with_more n (late left spelling) = late (left + n) (with_more n spelling)

-- how a quoted name ends, with so many bytes more behind it
abbrev pub quoted_more : ℕ → Quoted → Quoted
quoted_more n (closed body left) = closed body (left + n)
quoted_more n (faulty code left) = faulty code (left + n)
quoted_more n open_ended = open_ended

abbrev pub is_ended : Quoted → Bool
is_ended open_ended = false
is_ended _ = true
