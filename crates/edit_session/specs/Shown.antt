-- For proofs: what is shown of a command, by its form or by what was found of it.
use Rattle.std.specs.Prelude.{ℕ, Option, Some, None}
use Rattle.dk_model.specs.PlainCommands.{PlainFound, no, of_type, value, yes}
use Rattle.dk_parser.specs.Written.{WrittenForm, written_query}
use Rattle.scope_terms.specs.Reading.{Reading, current}
use Rattle.term_print.specs.Named.{Word}
use Rattle.term_print.specs.Printing.{printed}
use Rattle.term_print.specs.Words.{word_of}
use Rattle.verdict_book.specs.declared.shown.Shown.{Shown}
use Rattle.verdict_book.specs.declared.shown.Shown.TheVariants.{Asserted, Name, No, Of, Value, Yes}
use Rattle.file_report.specs.Outcomes.{shown_name}

-- the words of the symbols in the module that is being read
abbrev pub words_in : Reading → ℕ → Word
words_in r = word_of r.symbols (current r)

abbrev pub shown_found : (ℕ → Word) → PlainFound → Shown
shown_found words yes = Yes
shown_found words no = No
shown_found words (of_type T) = Of (printed words T)
shown_found words (value t) = Value (printed words t)

-- a query whose answer isn't shown was asserted
abbrev pub shown_by_form : WrittenForm → Shown
shown_by_form (written_query demand asked) = Asserted
shown_by_form form = Name (shown_name form)

abbrev pub shown_with : (ℕ → Word) → WrittenForm → Option PlainFound → Shown
shown_with words form (Some found) = shown_found words found
shown_with words form None = shown_by_form form
