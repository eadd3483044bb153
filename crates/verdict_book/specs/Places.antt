-- For proofs: titles whose names and terms stand in one text, and whose modules in one list.
use Rattle.std.specs.Prelude.{◌≡◌, ℕ, ◌+◌, ◌<◌, ◌≤◌, List, [], ◌∷◌, ◌++◌, length, take, drop, slice_index_or}
use Rattle.verdict_book.specs.declared.title.Title.{Title}
use Rattle.verdict_book.specs.declared.title.Spot.{Spot}
use Rattle.verdict_book.specs.declared.title.TitleSlice.{TitleSlice}
use Rattle.verdict_book.specs.Titles.{shown_by}

-- the titles, each with its module and with the front of what is left of the text
abbrev pub titled : List (List ℕ) → List ℕ → List Spot → List Title
titled modules texts [] = []
titled modules texts (s ∷ ss) =
    record { shown = shown_by s.kind (take s.length texts); place = record { line = s.line; «module» = slice_index_or modules s.module_at [] } }
    ∷ titled modules (drop s.length texts) ss

abbrev pub titles_in : TitleSlice → List Title
titles_in t = titled t.modules.now t.texts.now t.spots.now

-- how many bytes their texts have together
abbrev pub total : List Spot → ℕ
total [] = 0
total (s ∷ ss) = s.length + total ss

-- each title's module stands in the list
abbrev pub AreIn : List (List ℕ) → List Spot → Type 0
AreIn modules [] = Unit {0}
AreIn modules (s ∷ ss) = (s.module_at < length modules) × AreIn modules ss

-- the text has the names and terms, and the list the modules
pub record AreHeld (modules : List (List ℕ)) (texts : List ℕ) (spots : List Spot) : Type 0 where
  pub within : total spots ≤ length texts
  pub known : AreIn modules spots

abbrev pub IsHeld : TitleSlice → Type 0
IsHeld t = AreHeld t.modules.now t.texts.now t.spots.now

-- the list begins as the other
abbrev pub Extends : List (List ℕ) → List (List ℕ) → Type 0
Extends old new = (more : List (List ℕ)) × (new ≡ old ++ more)
