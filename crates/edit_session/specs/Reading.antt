-- For proofs: what a text is read as.
use Rattle.std.specs.Prelude.{ℕ, ◌≡◌, true, false, Option, Some, None, List}
use Rattle.dk_model.specs.declared.limits.Limits.{Limits}
use Rattle.dk_parser.specs.Modules.{is_directive}
use Rattle.dk_parser.specs.RawViews.{written_form}
use Rattle.dk_parser.specs.Written.{WrittenForm}
use Rattle.dk_parser.specs.declared.raw.Raw.{Raw}
use Rattle.edit_session.specs.Texts.{form_of, is_command_text}

-- this command, or none, where a directive is none
abbrev pub IsOnlyCommand : Option WrittenForm → Option Raw → Type 0
IsOnlyCommand o (Some raw) = (o ≡ Some (written_form raw.form)) × (is_directive (written_form raw.form) ≡ false)
IsOnlyCommand o None = (form : WrittenForm) → o ≡ Some form → is_directive form ≡ true

-- the command that the text is, or none
abbrev pub IsReadAs : Limits → List ℕ → Option Raw → Type 0
IsReadAs limits text (Some raw) = (is_command_text limits text ≡ true) × (form_of limits text ≡ Some (written_form raw.form))
IsReadAs limits text None = is_command_text limits text ≡ false
