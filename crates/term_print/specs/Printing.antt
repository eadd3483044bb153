-- Trusted: the bytes of a printed term (docs/printing.md).
use Rattle.std.specs.Prelude.{ℕ, List}
use Rattle.dk_model.specs.PlainTerms.{Tree}
use Rattle.term_print.specs.Named.{Word, written_term}
use Rattle.term_print.specs.Spelled.{spelled}
use Rattle.term_print.specs.Text.{text_of}
use Rattle.term_print.specs.declared.place.Place.TheVariants as place

abbrev pub printed : (ℕ → Word) → Tree → List ℕ
printed words t = text_of (spelled place.Term (written_term words t))
