-- The definition, computed on scripts.
use Rattle.std.proofs.Common.{◌≡◌, [], ◌∷◌, codes, refl}
use Rattle.script_lines.specs.Scripts.{all_lines, deletes, edits, ended_lines, inserts, line_of, replaces, reports, unreadable}

-- a session: three insertions, a report, one in front, a report, a replacement, a report, and a deletion
session_lines : all_lines (codes "insert 1 a : Type.\ninsert 2 x : a.\ninsert 3 thm t : a := x.\nreport\ninsert 1 b : Type.\nreport\nreplace 3 x : b.\nreport\ndelete 9\n")
    ≡ edits (inserts 1 (codes "a : Type.")) ∷ edits (inserts 2 (codes "x : a.")) ∷ edits (inserts 3 (codes "thm t : a := x.")) ∷ reports
    ∷ edits (inserts 1 (codes "b : Type.")) ∷ reports ∷ edits (replaces 3 (codes "x : b.")) ∷ reports ∷ edits (deletes 9) ∷ []
session_lines = refl

-- a newline at the end begins no line; one before it ends an empty one
empty_lines : all_lines (codes "\n\nreport") ≡ unreadable ∷ unreadable ∷ reports ∷ []
empty_lines = refl

no_lines : all_lines [] ≡ []
no_lines = refl

-- what isn't ended yet
open_line : ended_lines (codes "report\ndelete 1") ≡ reports ∷ []
open_line = refl

-- numbers and blanks
blank_of_text : line_of (codes "insert 10  a : Type.") ≡ edits (inserts 10 (codes " a : Type."))
blank_of_text = refl

past_words : line_of (codes "insert 18446744073709551617 a") ≡ edits (inserts 18446744073709551617 (codes "a"))
past_words = refl

leading_zero : line_of (codes "delete 01") ≡ unreadable
leading_zero = refl

zero_alone : line_of (codes "delete 0") ≡ edits (deletes 0)
zero_alone = refl

blank_behind : line_of (codes "report ") ≡ unreadable
blank_behind = refl

two_blanks : line_of (codes "delete  1") ≡ unreadable
two_blanks = refl
