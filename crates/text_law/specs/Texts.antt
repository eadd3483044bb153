-- For callers: the text of one command: it can stand anywhere between commands.
use Rattle.std.specs.Prelude.{ℕ, ◌≡◌, ◌≤◌, ◌<◌, false, None, List, [], ◌∷◌, ◌++◌, length}
use Rattle.dk_model.specs.declared.limits.Limits.{Limits}
use Rattle.dk_lexer.specs.declared.place.Place.{Place}
use Rattle.dk_lexer.specs.declared.token.Token.{Token}
use Rattle.dk_lexer.specs.Pieces.{joined}
use Rattle.dk_lexer.specs.Tokens.{whole, input_limit}
use Rattle.dk_parser.specs.FileReading.{Reading, read}
use Rattle.dk_parser.specs.FileReading as reading
use Rattle.dk_parser.specs.Grammar.{terminals, SpellsForm}
use Rattle.dk_parser.specs.Levels.{IsWithin}
use Rattle.dk_parser.specs.Written.{WrittenForm, WrittenCommand}
use Rattle.one_lexer.specs.Reading.{Reads}
pub use Rattle.text_law.specs.Cutting.{forms_of}

-- by itself the text spells this command, within the limits, and nothing is begun behind it
pub record IsText (limits : Limits) (text : List ℕ) (form : WrittenForm) : Type 0 where
  pub given : List Token
  pub behind : Place
  -- however the input goes on, its tokens are these and then those of what comes, between commands
  pub reads : Reads false limits text given behind None []
  pub spells : SpellsForm (terminals given) form
  pub within : IsWithin limits.levels (terminals given)

pub data AreTexts (limits : Limits) : List (List ℕ) → List WrittenForm → Type 0 where
  texts_none : AreTexts limits [] []
  texts_more : {text : List ℕ} {form : WrittenForm} {texts : List (List ℕ)} {forms : List WrittenForm} → IsText limits text form → AreTexts limits texts forms → AreTexts limits (text ∷ texts) (form ∷ forms)

-- put one behind the other, these texts are read as just these commands
pub record AreReadTogether (limits : Limits) (texts : List (List ℕ)) (forms : List WrittenForm) : Type 0 where
  pub commands : List WrittenCommand
  pub forms_are : forms_of commands ≡ forms
  pub reads : read limits (joined texts) whole ≡ (let r : Reading = record { commands = commands; tail = reading.whole } in r)

-- what the laws say
abbrev pub TextsAreRead : Type 0
TextsAreRead = (limits : Limits) (texts : List (List ℕ)) (forms : List WrittenForm) → AreTexts limits texts forms → length (joined texts) ≤ input_limit limits → AreReadTogether limits texts forms

abbrev pub OneCommandIsText : Type 0
OneCommandIsText = (limits : Limits) (text : List ℕ) (w : WrittenCommand) → read limits text whole ≡ (let r : Reading = record { commands = w ∷ []; tail = reading.whole } in r)
    → length text < input_limit limits → IsText limits (text ++ 10 ∷ []) w.form
