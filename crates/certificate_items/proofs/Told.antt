-- Bytes begin with the text of one step, join or item at most, and what is behind it is one.
use Rattle.std.proofs.Common.{List, [], ◌∷◌, ℕ, ◌≡◌, refl, ap, ◌∙◌, sym as flip, subst as along}
use Rattle.certificate_lines.specs.declared.line.Line.{Line}
use Rattle.certificate_lines.specs.declared.line.Line.TheVariants.{Reduction, Joining, Equation, Beta, Rule}
use Rattle.certificate_lines.specs.declared.line.Word.{Word}
use Rattle.certificate_lines.specs.declared.line.Word.TheVariants.{Same, LeftBound, RightBound, InParts, LetGo}
use Rattle.checked_steps.specs.Items.{ItemStep, beta_step, rule_step, ItemSteps, no_steps, more_steps, ItemJoins, no_joins, more_joins}
use Rattle.checked_steps.specs.Items.{ItemWord, same_now, left_bound, right_bound, in_parts, let_go, Item, reduction, joining, equation}
use Rattle.certificate_items.specs.Texts.{step_count, join_count, step_lines, steps_lines, joins_lines, both_lines, join_lines, word_of, item_lines, BeginsWith}
use Rattle.certificate_items.specs.Views.{plain_word}
use Rattle.certificate_items.proofs.Begins.{Split, begins_split}
use Rattle.certificate_items.proofs.Cutting.{first_told}

-- the first of some lines
pub record FirstTold (l m : Line) (ls ms : List Line) (b c : List ℕ) : Type 0 where
  pub same : l ≡ m
  pub between : List ℕ
  pub left : BeginsWith ls between b
  pub right : BeginsWith ms between c

pub lines_told : (l m : Line) (ls ms : List Line) (a b c : List ℕ) → BeginsWith (l ∷ ls) a b → BeginsWith (m ∷ ms) a c → FirstTold l m ls ms b c
lines_told l m ls ms a b c h g =
    let s : Split (l ∷ []) ls a b = begins_split (l ∷ []) ls a b h in
    let t : Split (m ∷ []) ms a c = begins_split (m ∷ []) ms a c g in
    let i : (l ≡ m) × (s.between ≡ t.between) = first_told l m a s.between t.between s.before t.before in
    record { same = i.0; between = s.between; left = s.behind; right = along (λ z. BeginsWith ms z c) (flip i.1) t.behind }

-- text of this is told from all that counts as much
abbrev StepsTold : ItemSteps → Type 0
StepsTold xs = (ys : ItemSteps) → step_count xs ≡ step_count ys → (a b c : List ℕ) → BeginsWith (steps_lines xs) a b → BeginsWith (steps_lines ys) a c → (xs ≡ ys) × (b ≡ c)

abbrev JoinsTold : ItemJoins → Type 0
JoinsTold js = (is : ItemJoins) → join_count js ≡ join_count is → (a b c : List ℕ) → BeginsWith (joins_lines js) a b → BeginsWith (joins_lines is) a c → (js ≡ is) × (b ≡ c)

pub record BothTold (xs ys us vs : ItemSteps) (b c : List ℕ) : Type 0 where
  pub first : xs ≡ us
  pub second : ys ≡ vs
  pub rest : b ≡ c

both_by : (xs ys : ItemSteps) → StepsTold xs → StepsTold ys → (us vs : ItemSteps) → step_count xs ≡ step_count us → step_count ys ≡ step_count vs → (a b c : List ℕ)
    → BeginsWith (both_lines xs ys) a b → BeginsWith (both_lines us vs) a c → BothTold xs ys us vs b c
both_by xs ys f k us vs e d a b c h g =
    let s : Split (steps_lines xs) (steps_lines ys) a b = begins_split (steps_lines xs) (steps_lines ys) a b h in
    let t : Split (steps_lines us) (steps_lines vs) a c = begins_split (steps_lines us) (steps_lines vs) a c g in
    let i : (xs ≡ us) × (s.between ≡ t.between) = f us e a s.between t.between s.before t.before in
    let j : (ys ≡ vs) × (b ≡ c) = k vs d s.between b c s.behind (along (λ z. BeginsWith (steps_lines vs) z c) (flip i.1) t.behind) in
    record { first = i.0; second = j.0; rest = j.1 }

join_by : (xs ys : ItemSteps) → StepsTold xs → StepsTold ys → (us vs : ItemSteps) (a b c : List ℕ) → BeginsWith (join_lines xs ys) a b → BeginsWith (join_lines us vs) a c → BothTold xs ys us vs b c
join_by xs ys f k us vs a b c h g =
    let i : FirstTold (Joining (step_count xs) (step_count ys)) (Joining (step_count us) (step_count vs)) (both_lines xs ys) (both_lines us vs) b c =
    lines_told (Joining (step_count xs) (step_count ys)) (Joining (step_count us) (step_count vs)) (both_lines xs ys) (both_lines us vs) a b c h g in
    let e : Joining (step_count xs) (step_count ys) ≡ Joining (step_count us) (step_count vs) = i.same in
    let n : step_count xs ≡ step_count us = cc in let m : step_count ys ≡ step_count vs = cc in
    both_by xs ys f k us vs n m i.between b c i.left i.right

mutual
  pub step_told : (x y : ItemStep) (a b c : List ℕ) → BeginsWith (step_lines x) a b → BeginsWith (step_lines y) a c → (x ≡ y) × (b ≡ c)
  step_told (beta_step p) (beta_step q) a b c h g =
      let i : (Beta p ≡ Beta q) × (b ≡ c) = first_told (Beta p) (Beta q) a b c h g in let e : Beta p ≡ Beta q = i.0 in let n : p ≡ q = cc in (ap beta_step n, i.1)
  step_told (beta_step p) (rule_step q k js) a b c h g =
      let i : FirstTold (Beta p) (Rule q k (join_count js)) [] (joins_lines js) b c = lines_told (Beta p) (Rule q k (join_count js)) [] (joins_lines js) a b c h g in let e : Beta p ≡ Rule q k (join_count js) = i.same in cc
  step_told (rule_step p k js) (beta_step q) a b c h g =
      let i : FirstTold (Rule p k (join_count js)) (Beta q) (joins_lines js) [] b c = lines_told (Rule p k (join_count js)) (Beta q) (joins_lines js) [] a b c h g in let e : Rule p k (join_count js) ≡ Beta q = i.same in cc
  step_told (rule_step p k js) (rule_step q m is) a b c h g =
      let i : FirstTold (Rule p k (join_count js)) (Rule q m (join_count is)) (joins_lines js) (joins_lines is) b c = lines_told (Rule p k (join_count js)) (Rule q m (join_count is)) (joins_lines js) (joins_lines is) a b c h g in
      let e : Rule p k (join_count js) ≡ Rule q m (join_count is) = i.same in
      let n : p ≡ q = cc in let o : k ≡ m = cc in let d : join_count js ≡ join_count is = cc in
      let j : (js ≡ is) × (b ≡ c) = joins_told js is d i.between b c i.left i.right in
      (ap (λ z. rule_step z k js) n ∙ ap (λ z. rule_step q z js) o ∙ ap (rule_step q m) j.0, j.1)

  pub steps_told : (xs : ItemSteps) → StepsTold xs
  steps_told no_steps no_steps e a b c h g = (refl, flip h.0 ∙ g.0)
  steps_told no_steps (more_steps y ys) e a b c h g = cc
  steps_told (more_steps x xs) no_steps e a b c h g = cc
  steps_told (more_steps x xs) (more_steps y ys) e a b c h g =
      let s : Split (step_lines x) (steps_lines xs) a b = begins_split (step_lines x) (steps_lines xs) a b h in
      let t : Split (step_lines y) (steps_lines ys) a c = begins_split (step_lines y) (steps_lines ys) a c g in
      let i : (x ≡ y) × (s.between ≡ t.between) = step_told x y a s.between t.between s.before t.before in
      let n : step_count xs ≡ step_count ys = cc in
      let j : (xs ≡ ys) × (b ≡ c) = steps_told xs ys n s.between b c s.behind (along (λ z. BeginsWith (steps_lines ys) z c) (flip i.1) t.behind) in
      (ap (λ z. more_steps z xs) i.0 ∙ ap (more_steps y) j.0, j.1)

  pub joins_told : (js : ItemJoins) → JoinsTold js
  joins_told no_joins no_joins e a b c h g = (refl, flip h.0 ∙ g.0)
  joins_told no_joins (more_joins us vs is) e a b c h g = cc
  joins_told (more_joins xs ys js) no_joins e a b c h g = cc
  joins_told (more_joins xs ys js) (more_joins us vs is) e a b c h g =
      let s : Split (join_lines xs ys) (joins_lines js) a b = begins_split (join_lines xs ys) (joins_lines js) a b h in
      let t : Split (join_lines us vs) (joins_lines is) a c = begins_split (join_lines us vs) (joins_lines is) a c g in
      let i : BothTold xs ys us vs s.between t.between = join_by xs ys (steps_told xs) (steps_told ys) us vs a s.between t.between s.before t.before in
      let n : join_count js ≡ join_count is = cc in
      let j : (js ≡ is) × (b ≡ c) = joins_told js is n s.between b c s.behind (along (λ z. BeginsWith (joins_lines is) z c) (flip i.rest) t.behind) in
      (ap (λ z. more_joins z ys js) i.first ∙ ap (λ z. more_joins us z js) i.second ∙ ap (more_joins us vs) j.0, j.1)

pub both_told : (xs ys us vs : ItemSteps) → step_count xs ≡ step_count us → step_count ys ≡ step_count vs → (a b c : List ℕ)
    → BeginsWith (both_lines xs ys) a b → BeginsWith (both_lines us vs) a c → BothTold xs ys us vs b c
both_told xs ys = both_by xs ys (steps_told xs) (steps_told ys)

pub join_told : (xs ys us vs : ItemSteps) (a b c : List ℕ) → BeginsWith (join_lines xs ys) a b → BeginsWith (join_lines us vs) a c → BothTold xs ys us vs b c
join_told xs ys = join_by xs ys (steps_told xs) (steps_told ys)

-- ---- items

word_back : (w : ItemWord) → plain_word (word_of w) ≡ w
word_back same_now = refl
word_back left_bound = refl
word_back right_bound = refl
word_back in_parts = refl
word_back let_go = refl

pub word_there : (w : Word) → word_of (plain_word w) ≡ w
word_there Same = refl
word_there LeftBound = refl
word_there RightBound = refl
word_there InParts = refl
word_there LetGo = refl

-- what the first line of an item is
abbrev pub head_line : Item → Line
head_line (reduction xs) = Reduction (step_count xs)
head_line (joining xs ys) = Joining (step_count xs) (step_count ys)
head_line (equation w xs ys) = Equation (step_count xs) (step_count ys) (word_of w)

abbrev pub other_lines : Item → List Line
other_lines (reduction xs) = steps_lines xs
other_lines (joining xs ys) = both_lines xs ys
other_lines (equation w xs ys) = both_lines xs ys

pub item_is : (x : Item) → item_lines x ≡ head_line x ∷ other_lines x
item_is (reduction xs) = refl
item_is (joining xs ys) = refl
item_is (equation w xs ys) = refl

others_told : (x y : Item) (a b c : List ℕ) → head_line x ≡ head_line y → BeginsWith (other_lines x) a b → BeginsWith (other_lines y) a c → (x ≡ y) × (b ≡ c)
others_told (reduction xs) (reduction ys) a b c e h g =
    let n : step_count xs ≡ step_count ys = cc in let i : (xs ≡ ys) × (b ≡ c) = steps_told xs ys n a b c h g in (ap reduction i.0, i.1)
others_told (joining xs ys) (joining us vs) a b c e h g =
    let n : step_count xs ≡ step_count us = cc in let m : step_count ys ≡ step_count vs = cc in
    let i : BothTold xs ys us vs b c = both_told xs ys us vs n m a b c h g in
    (ap (λ z. joining z ys) i.first ∙ ap (joining us) i.second, i.rest)
others_told (equation w xs ys) (equation v us vs) a b c e h g =
    let n : step_count xs ≡ step_count us = cc in let m : step_count ys ≡ step_count vs = cc in
    let o : word_of w ≡ word_of v = cc in
    let i : BothTold xs ys us vs b c = both_told xs ys us vs n m a b c h g in
    (ap (λ z. equation z xs ys) (flip (word_back w) ∙ ap plain_word o ∙ word_back v) ∙ ap (λ z. equation v z ys) i.first ∙ ap (equation v us) i.second, i.rest)
others_told (reduction xs) (joining us vs) a b c e h g = cc
others_told (reduction xs) (equation v us vs) a b c e h g = cc
others_told (joining xs ys) (reduction us) a b c e h g = cc
others_told (joining xs ys) (equation v us vs) a b c e h g = cc
others_told (equation w xs ys) (reduction us) a b c e h g = cc
others_told (equation w xs ys) (joining us vs) a b c e h g = cc

pub item_told : (x y : Item) (a b c : List ℕ) → BeginsWith (item_lines x) a b → BeginsWith (item_lines y) a c → (x ≡ y) × (b ≡ c)
item_told x y a b c h g =
    let i : FirstTold (head_line x) (head_line y) (other_lines x) (other_lines y) b c = lines_told (head_line x) (head_line y) (other_lines x) (other_lines y) a b c
    (along (λ z. BeginsWith z a b) (item_is x) h) (along (λ z. BeginsWith z a c) (item_is y) g) in
    others_told x y i.between b c i.same i.left i.right
