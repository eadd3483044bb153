-- For callers: what stands at the front of some bytes, seen as the trusted spelling.
use Rattle.std.specs.Prelude.{ℕ, Bool, true, false, List, [], ◌∷◌, Option, Some, None}
use Rattle.one_lexer.specs.declared.found.Found.{Found}
use Rattle.one_lexer.specs.declared.found.Found.TheVariants as found
use Rattle.one_lexer.specs.declared.found.Front.{Front}
use Rattle.dk_lexer.specs.Spelling.{Spelling, blank, token, run_and_dot, wrong, comment_open, unsettled, late, spelled}

abbrev pub found_spelling : Found → Spelling
found_spelling (found.Blank left) = blank left
found_spelling (found.Token kind text left) = token kind text.now left
found_spelling (found.RunAndDot text left) = run_and_dot text.now left
found_spelling (found.Wrong code left) = wrong code left
found_spelling found.CommentOpen = comment_open

abbrev pub settled_by : Bool → Spelling → Spelling
settled_by true spelling = spelling
settled_by false spelling = unsettled spelling

abbrev pub late_by : Option ℕ → Spelling → Spelling
late_by None spelling = spelling
late_by (Some left) spelling = late left spelling

abbrev pub spelling : Front → Spelling
spelling front = late_by front.late (settled_by front.settled (found_spelling front.found))

-- what stands at the first of these bytes
abbrev pub spelled_front : ℕ → List ℕ → Spelling
spelled_front limit [] = unsettled (blank 0)
spelled_front limit (b ∷ bs) = spelled limit b bs
