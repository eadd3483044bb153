-- For callers: what a report shows of a job (docs/report.md).
use Rattle.std.specs.Prelude.{ℕ, List, [], map, codes}
use Rattle.verdict_book.specs.Report.{PlainShown, name_in, ok_name, says_no, says_type, says_value, says_yes}
use Rattle.verdict_book.specs.declared.shown.Kind.{Kind}
use Rattle.verdict_book.specs.declared.shown.Kind.TheVariants as kind
use Rattle.verdict_book.specs.declared.shown.Shown.{Shown}
use Rattle.verdict_book.specs.declared.shown.Shown.TheVariants.{Name, Asserted, Yes, No, Of, Value}
use Rattle.verdict_book.specs.declared.title.Title.{Title}

-- what is shown of a command of this module, which is empty for the file that is checked
abbrev pub shown_in : List ℕ → Shown → PlainShown
shown_in home (Name name) = ok_name (name_in home name)
shown_in home Asserted = ok_name (codes "#ASSERT")
shown_in home Yes = says_yes
shown_in home No = says_no
shown_in home (Of term) = says_type term
shown_in home (Value term) = says_value term

-- what is shown of a job with this title
abbrev pub shown_of : Title → PlainShown
shown_of t = shown_in t.place.«module» t.shown

-- what is shown of the jobs with these titles
abbrev pub lines_in : List Title → List PlainShown
lines_in titles = map shown_of titles

abbrev pub kind_of : Shown → Kind
kind_of (Name text) = kind.Name
kind_of Asserted = kind.Asserted
kind_of Yes = kind.Yes
kind_of No = kind.No
kind_of (Of text) = kind.Of
kind_of (Value text) = kind.Value

-- the name or term
abbrev pub text_of : Shown → List ℕ
text_of (Name text) = text
text_of Asserted = []
text_of Yes = []
text_of No = []
text_of (Of text) = text
text_of (Value text) = text

-- what is shown, of its kind and text
abbrev pub shown_by : Kind → List ℕ → Shown
shown_by kind.Name text = Name text
shown_by kind.Asserted text = Asserted
shown_by kind.Yes text = Yes
shown_by kind.No text = No
shown_by kind.Of text = Of text
shown_by kind.Value text = Value text
