-- For callers: what comes next in a book.
use Rattle.std.specs.Prelude.{◌≡◌, true, false}
use Rattle.dk_parser.specs.RawViews.{written_form}
use Rattle.dk_parser.specs.Modules.{is_directive}
use Rattle.dk_parser.specs.declared.raw.Raw.{Raw}
use Rattle.file_reader.specs.declared.reader.Next.{Next}
use Rattle.file_reader.specs.declared.reader.Next.TheVariants as next

abbrev pub raw_of : Next → Raw
raw_of (next.Command raw) = raw
raw_of (next.Directive raw) = raw

-- it is told by which it is
abbrev pub IsWhich : Next → Type 0
IsWhich (next.Command raw) = is_directive (written_form raw.form) ≡ false
IsWhich (next.Directive raw) = is_directive (written_form raw.form) ≡ true
