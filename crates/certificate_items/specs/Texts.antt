-- Trusted: the text of the items of a part, the lines one after the other, each ended by LF (docs/certificates.md).
use Rattle.std.specs.Prelude.{ℕ, suc, ◌≡◌, ◌==◌, Bool, false, ◌&&◌, ◌||◌, List, [], ◌∷◌, ◌++◌, codes}
use Rattle.certificate_lines.specs.declared.line.Word.{Word}
use Rattle.certificate_lines.specs.declared.line.Word.TheVariants.{Same, LeftBound, RightBound, InParts, LetGo}
use Rattle.certificate_lines.specs.declared.line.Line.{Line}
use Rattle.certificate_lines.specs.declared.line.Line.TheVariants.{Reduction, Joining, Equation, Beta, Rule}
use Rattle.certificate_lines.specs.Texts.{line_text, HasShortNumbers}
use Rattle.checked_steps.specs.Items.{ItemStep, beta_step, rule_step, ItemSteps, no_steps, more_steps, ItemJoins, no_joins, more_joins}
use Rattle.checked_steps.specs.Items.{ItemWord, same_now, left_bound, right_bound, in_parts, let_go, Item, reduction, joining, equation}

-- ---- the lines of items: the counts are how many steps and joins there are

abbrev pub step_count : ItemSteps → ℕ
step_count no_steps = 0
step_count (more_steps x xs) = suc (step_count xs)

abbrev pub join_count : ItemJoins → ℕ
join_count no_joins = 0
join_count (more_joins xs ys js) = suc (join_count js)

abbrev mutual
  pub step_lines : ItemStep → List Line
  step_lines (beta_step place) = Beta place ∷ []
  step_lines (rule_step place number js) = Rule place number (join_count js) ∷ joins_lines js

  pub steps_lines : ItemSteps → List Line
  steps_lines no_steps = []
  steps_lines (more_steps x xs) = step_lines x ++ steps_lines xs

  pub joins_lines : ItemJoins → List Line
  joins_lines no_joins = []
  joins_lines (more_joins xs ys js) = (Joining (step_count xs) (step_count ys) ∷ (steps_lines xs ++ steps_lines ys)) ++ joins_lines js

abbrev pub word_of : ItemWord → Word
word_of same_now = Same
word_of left_bound = LeftBound
word_of right_bound = RightBound
word_of in_parts = InParts
word_of let_go = LetGo

-- the steps of two terms
abbrev pub both_lines : ItemSteps → ItemSteps → List Line
both_lines xs ys = steps_lines xs ++ steps_lines ys

abbrev pub join_lines : ItemSteps → ItemSteps → List Line
join_lines xs ys = Joining (step_count xs) (step_count ys) ∷ both_lines xs ys

abbrev pub item_lines : Item → List Line
item_lines (reduction xs) = Reduction (step_count xs) ∷ steps_lines xs
item_lines (joining xs ys) = join_lines xs ys
item_lines (equation w xs ys) = Equation (step_count xs) (step_count ys) (word_of w) ∷ both_lines xs ys

abbrev pub lines_of : List Item → List Line
lines_of [] = []
lines_of (x ∷ items) = item_lines x ++ lines_of items

-- ---- the text of lines

abbrev pub lines_text : List Line → List ℕ
lines_text [] = []
lines_text (l ∷ lines) = line_text l ++ (codes "\n" ++ lines_text lines)

-- all their numbers are below 2^64
abbrev pub AreShort : List Line → Type 0
AreShort [] = Unit {0}
AreShort (l ∷ lines) = HasShortNumbers l × AreShort lines

-- the bytes begin with the text of these lines, and go on with `rest`
abbrev pub BeginsWith : List Line → List ℕ → List ℕ → Type 0
BeginsWith lines bytes rest = (bytes ≡ lines_text lines ++ rest) × AreShort lines

-- the bytes are the text of these items
abbrev pub IsTextOf : List ℕ → List Item → Type 0
IsTextOf bytes items = BeginsWith (lines_of items) bytes []

-- they are the text of no items
abbrev pub IsNoText : List ℕ → Type 0
IsNoText bytes = (items : List Item) → ¬ IsTextOf bytes items

-- ---- in a longer text

-- the first line begins as that of an item does
abbrev pub begins_item : List ℕ → Bool
begins_item (c ∷ d ∷ bytes) = (c == 114 || c == 106 || c == 101) && d == 32
begins_item (c ∷ []) = false
begins_item [] = false

-- the bytes begin with the text of these items, and the line behind it begins as no item's does
abbrev pub HasFront : List ℕ → List Item → List ℕ → Type 0
HasFront bytes items rest = BeginsWith (lines_of items) bytes rest × (begins_item rest ≡ false)
