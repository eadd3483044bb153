-- For callers: some of the texts of a file.
use Rattle.std.specs.Prelude.{◌≡◌, ◌≤◌, ℕ, List, [], ◌∷◌, length}
use Rattle.dk_model.specs.declared.limits.Limits.{Limits}
use Rattle.dk_lexer.specs.declared.token.Token.{Token}
use Rattle.dk_lexer.specs.Tokens.{input_limit}
use Rattle.dk_lexer.specs.Pieces.{joined}
use Rattle.dk_parser.specs.Written.{WrittenForm, WrittenCommand}
use Rattle.text_law.specs.Texts.{AreReadTogether, forms_of}
pub use Rattle.text_law.specs.Cutting.{between, begin_of, end_of, text_of, AreCut, cut_none, cut_command, AreTextsOf, lines, IsReadAs}

-- there is one cut of the tokens of some bytes
abbrev pub TextsAreDetermined : Type 0
TextsAreDetermined = (bytes : List ℕ) (ts : List Token) (commands others : List WrittenCommand) (texts those : List (List ℕ)) → AreCut bytes ts commands texts → AreCut bytes ts others those → texts ≡ those

-- some of the texts, in their order, and the forms of just these
pub data Chosen : List (List ℕ) → List WrittenForm → List (List ℕ) → List WrittenForm → Type 0 where
  chosen_none : Chosen [] [] [] []
  chosen_more : {text : List ℕ} {form : WrittenForm} {texts some : List (List ℕ)} {forms those : List WrittenForm} → Chosen texts forms some those → Chosen (text ∷ texts) (form ∷ forms) (text ∷ some) (form ∷ those)
  left_out : {text : List ℕ} {form : WrittenForm} {texts some : List (List ℕ)} {forms those : List WrittenForm} → Chosen texts forms some those → Chosen (text ∷ texts) (form ∷ forms) some those

-- some of the texts of a file, each on lines of its own, are read as just their commands, where they have together no more bytes than an input may
abbrev pub ChosenTextsAreRead : Type 0
ChosenTextsAreRead = (limits : Limits) (bytes : List ℕ) (commands : List WrittenCommand) (texts some : List (List ℕ)) (forms : List WrittenForm)
    → IsReadAs limits bytes commands → AreTextsOf limits bytes commands texts → Chosen texts (forms_of commands) some forms
    → length (joined (lines some)) ≤ input_limit limits → AreReadTogether limits (lines some) forms
