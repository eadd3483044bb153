-- For proofs: a token that is read the short way.
use Rattle.std.specs.Prelude.{◌≡◌, ◌<◌, ◌≤◌, ℕ, ◌+◌, ◌-◌, Bool, true, false, ◌==◌, ◌&&◌, ◌||◌, List, [], ◌∷◌, ◌++◌, length, take, drop, Some}
use Rattle.dk_model.specs.declared.limits.Limits.{Limits}
use Rattle.dk_lexer.specs.declared.place.Place.{Place}
use Rattle.dk_lexer.specs.declared.token.Token.{Token}
use Rattle.dk_lexer.specs.Classes.{begins_name, class_of}
use Rattle.dk_lexer.specs.Spelling.{Spelling, behind_run, is_wildcard, run_of}
use Rattle.dk_lexer.specs.Tokens.{begin_of, bound}
use Rattle.one_lexer.specs.declared.lexer.Lexer.{Lexer}
use Rattle.one_lexer.specs.declared.next.Next.TheVariants as next
use Rattle.one_lexer.specs.declared.next.Standing.{Standing}
use Rattle.one_lexer.specs.declared.quick.Short.{Short}
use Rattle.one_lexer.specs.Lexers.{Knows, standing_at}
use Rattle.one_lexer.specs.Places.{place_behind}
use Rattle.one_lexer.specs.Reading.{last_of}
use Rattle.one_lexer.specs.Steps.{ComesFrom, token_of}
use Rattle.one_lexer.specs.Views.{spelled_front}

-- so many bytes farther on the same line
abbrev pub along : Place → ℕ → Place
along here count = record { offset = here.offset + count; line = here.line }

-- what stands at the front of these bytes; the bytes before the last so many are on one line
pub record IsSpelt (limit : ℕ) (bytes : List ℕ) (spelling : Spelling) (left : ℕ) : Type 0 where
  pub is : spelled_front limit bytes ≡ spelling
  pub leaves : left < length bytes
  pub line : (here : Place) → place_behind here (take (length bytes - left) bytes) ≡ along here (length bytes - left)

-- the token comes next at these bytes, and leaves fewer
pub record ComesNext (limits : Limits) (at : Standing) (bytes : List ℕ) (short : Short) : Type 0 where
  pub comes : (over : Bool) → ComesFrom over limits at bytes (next.Token short.spelt short.behind short.left)
  pub leaves : short.left < length bytes

-- the same, where this is known of the bytes
pub record KnowsNext (bytes : List ℕ) (short : Short) (lexer : Lexer) : Type 0 where
  pub knows : (over : Bool) (before : List ℕ) (ts : List Token) → Knows over before ts bytes lexer
      → Knows over before (ts ++ token_of short.spelt ∷ []) (last_of short.left bytes) (standing_at short.behind lexer)
  pub leaves : short.left < length bytes

-- what begins here and ends by this last byte is within the bound of its command
abbrev pub KeepsBound : Limits → Standing → ℕ → Type 0
KeepsBound limits at last = last ≤ (bound limits (Some (begin_of at.command at.here.offset))).last

-- a run stands first
abbrev pub BeginsRun : List ℕ → Type 0
BeginsRun [] = ⊥
BeginsRun (b ∷ bs) = begins_name (class_of b) ≡ true

-- a run stands first that may be a name's part, behind it a dot, and behind that this rest
pub record EndsWithDot (limit : ℕ) (bytes rest : List ℕ) : Type 0 where
  pub begins : BeginsRun bytes
  pub plain : is_wildcard (run_of bytes) ≡ false
  pub fits : length (run_of bytes) ≤ limit
  pub rest_is : behind_run bytes ≡ 46 ∷ rest

-- a run of these bytes may be a name's second part, and so many are left behind it
pub record IsSecond (limit : ℕ) (bytes : List ℕ) (left : ℕ) : Type 0 where
  pub count : ℕ
  pub within : count ≤ length bytes
  pub fits : count ≤ limit
  pub front : run_of bytes ≡ take count bytes
  pub back : behind_run bytes ≡ drop count bytes
  pub plain : is_wildcard (take count bytes) ≡ false
  pub left_is : left ≡ length (drop count bytes)

-- a word of the language begins with these two bytes
abbrev pub begins_word : ℕ → ℕ → Bool
begins_word b c = ((((b == 84) && (c == 121)) || ((b == 100) && (c == 101))) || (((b == 116) && (c == 104)) || ((b == 105) && (c == 110)))) || ((b == 112) && (c == 114))

-- it may be the wildcard or a word of the language
abbrev pub may_be_word : List ℕ → Bool
may_be_word [] = false
may_be_word (b ∷ []) = b == 95
may_be_word (b ∷ c ∷ cs) = begins_word b c
