-- What the first line of bytes says of a step, a join or an item that they begin with.
use Rattle.std.specs.Prelude.{IfSome, Result, Ok, Err, IsErrAnd}
use Rattle.std.proofs.Common.{List, [], ◌∷◌, ℕ, ◌≡◌, Option, Some, None, refl, ap, ◌∙◌, sym as flip, subst as along}
use Rattle.certificate_lines.specs.declared.line.Line.{Line}
use Rattle.certificate_lines.specs.declared.line.Line.TheVariants.{Reduction, Joining, Equation, Beta, Rule}
use Rattle.certificate_lines.specs.declared.line.Word.{Word}
use Rattle.checked_steps.specs.Items.{beta_step, rule_step, ItemSteps}
use Rattle.checked_steps.specs.Items.{Item as PlainItem, reduction, joining, equation}
use Rattle.certificate_items.specs.declared.fault.ReadFault.{ReadFault}
use Rattle.certificate_items.specs.declared.fault.ReadFault.TheVariants.{NoItems}
use Rattle.certificate_items.specs.declared.item.Join.{Join}
use Rattle.certificate_items.specs.declared.item.Step.TheVariants.{Rule as RuleStep}
use Rattle.certificate_items.specs.Views.{plain_step, plain_joins, plain_word}
use Rattle.certificate_items.specs.Texts.{step_count, join_count, step_lines, steps_lines, joins_lines, both_lines, join_lines, word_of, item_lines, BeginsWith}
use Rattle.certificate_items.specs.Reading.{HasNoLine, HasNoStep, HasNoSteps, HasNoJoin, HasNoJoins, HasNotBoth, HasNoItem}
use Rattle.certificate_items.proofs.Rows.{rule_is}
use Rattle.certificate_items.proofs.Begins.{Split, begins_append, begins_split}
use Rattle.certificate_items.proofs.Told.{FirstTold, lines_told, word_there, head_line, other_lines, item_is}

-- the first line of some is the one that is read, and the others stand behind it
behind_line : (l m : Line) (ms : List Line) (a b c : List ℕ) → BeginsWith (l ∷ []) a b → BeginsWith (m ∷ ms) a c → (l ≡ m) × BeginsWith ms b c
behind_line l m ms a b c h g = let i : FirstTold l m [] ms b c = lines_told l m [] ms a b c h g in (i.same, along (λ z. BeginsWith ms z c) i.left.0 i.right)

-- the line that is read, where one is
abbrev pub IsLineOf : Option Line → List ℕ → List ℕ → Type 0
IsLineOf o a b = IfSome o (λ l. BeginsWith (l ∷ []) a b) × (o ≡ None → HasNoLine a)

first_is : (o : Option Line) (m : Line) (ms : List Line) (a b c : List ℕ) → IsLineOf o a b → BeginsWith (m ∷ ms) a c → (o ≡ Some m) × BeginsWith ms b c
first_is None m ms a b c i g = let s : Split (m ∷ []) ms a c = begins_split (m ∷ []) ms a c g in absurd (i.1 refl m s.between s.before)
first_is (Some l) m ms a b c i g = let j : (l ≡ m) × BeginsWith ms b c = behind_line l m ms a b c i.0 g in (ap Some j.0, j.1)

read_is : (o : Option Line) (l : Line) (a b : List ℕ) → o ≡ Some l → IsLineOf o a b → BeginsWith (l ∷ []) a b
read_is None l a b e i = cc
read_is (Some m) l a b e i = let q : m ≡ l = cc in along (λ z. BeginsWith (z ∷ []) a b) q i.0

pub some_is : {l m : Line} → Some l ≡ Some m → l ≡ m
some_is e = cc

-- the error that is passed on
pub passed : {T : Type 0} (r : Result T ReadFault) (e : ReadFault) → IsErrAnd r (λ y. y ≡ e) → r ≡ Err NoItems → e ≡ NoItems
passed (Ok t) e h q = cc
passed (Err y) e h q = let i : y ≡ NoItems = cc in flip h ∙ i

-- ---- steps

pub rule_begins : (place number count : ℕ) (js : List Join) (o : Option Line) (a b c : List ℕ) → o ≡ Some (Rule place number count) → IsLineOf o a b → BeginsWith (joins_lines (plain_joins js)) b c
    → join_count (plain_joins js) ≡ count → BeginsWith (step_lines (plain_step (RuleStep place number js))) a c
rule_begins place number count js o a b c f i g e = let h : BeginsWith (Rule place number count ∷ []) a b = read_is o (Rule place number count) a b f i in along (λ z. BeginsWith (step_lines z) a c) (flip (rule_is place number js))
    (begins_append (Rule place number (join_count (plain_joins js)) ∷ []) (joins_lines (plain_joins js)) a b c (along (λ k. BeginsWith (Rule place number k ∷ []) a b) (flip e) h) g)

pub rule_missing : (place number count : ℕ) (o : Option Line) (a b : List ℕ) → o ≡ Some (Rule place number count) → IsLineOf o a b → HasNoJoins count b → HasNoStep a
rule_missing place number count o a b e i n (beta_step p) c g = let j : (o ≡ Some (Beta p)) × BeginsWith [] b c = first_is o (Beta p) [] a b c i g in let q : o ≡ Some (Beta p) = j.0 in cc
rule_missing place number count o a b e i n (rule_step p k js) c g =
    let j : (o ≡ Some (Rule p k (join_count js))) × BeginsWith (joins_lines js) b c = first_is o (Rule p k (join_count js)) (joins_lines js) a b c i g in
    let q : o ≡ Some (Rule p k (join_count js)) = j.0 in let d : join_count js ≡ count = cc in n js d c j.1

pub no_step : (o : Option Line) (a b : List ℕ) → IsLineOf o a b → ((p : ℕ) → ¬ (o ≡ Some (Beta p))) → ((p n k : ℕ) → ¬ (o ≡ Some (Rule p n k))) → HasNoStep a
no_step o a b i f k (beta_step p) c g = f p (first_is o (Beta p) [] a b c i g).0
no_step o a b i f k (rule_step p n js) c g = k p n (join_count js) (first_is o (Rule p n (join_count js)) (joins_lines js) a b c i g).0

-- ---- joins

pub join_begins : (n m : ℕ) (xs ys : ItemSteps) (a b c : List ℕ) → BeginsWith (Joining n m ∷ []) a b → BeginsWith (both_lines xs ys) b c → step_count xs ≡ n → step_count ys ≡ m
    → BeginsWith (join_lines xs ys) a c
join_begins n m xs ys a b c h g e d = begins_append (Joining (step_count xs) (step_count ys) ∷ []) (both_lines xs ys) a b c
    (along (λ k. BeginsWith (Joining k (step_count ys) ∷ []) a b) (flip e) (along (λ k. BeginsWith (Joining n k ∷ []) a b) (flip d) h)) g

pub join_missing : (n m : ℕ) (o : Option Line) (a b : List ℕ) → o ≡ Some (Joining n m) → IsLineOf o a b → HasNotBoth n m b → HasNoJoin a
join_missing n m o a b e i k xs ys c g =
    let j : (o ≡ Some (Joining (step_count xs) (step_count ys))) × BeginsWith (both_lines xs ys) b c = first_is o (Joining (step_count xs) (step_count ys)) (both_lines xs ys) a b c i g in
    let q : o ≡ Some (Joining (step_count xs) (step_count ys)) = j.0 in
    let d : step_count xs ≡ n = cc in let p : step_count ys ≡ m = cc in k xs ys d p c j.1

pub no_join : (o : Option Line) (a b : List ℕ) → IsLineOf o a b → ((n m : ℕ) → ¬ (o ≡ Some (Joining n m))) → HasNoJoin a
no_join o a b i f xs ys c g = f (step_count xs) (step_count ys) (first_is o (Joining (step_count xs) (step_count ys)) (both_lines xs ys) a b c i g).0

-- ---- items

pub reduction_begins : (n : ℕ) (xs : ItemSteps) (a b c : List ℕ) → BeginsWith (Reduction n ∷ []) a b → BeginsWith (steps_lines xs) b c → step_count xs ≡ n → BeginsWith (item_lines (reduction xs)) a c
reduction_begins n xs a b c h g e = begins_append (Reduction (step_count xs) ∷ []) (steps_lines xs) a b c (along (λ k. BeginsWith (Reduction k ∷ []) a b) (flip e) h) g

pub equation_begins : (n m : ℕ) (w : Word) (xs ys : ItemSteps) (a b c : List ℕ) → BeginsWith (Equation n m w ∷ []) a b → BeginsWith (both_lines xs ys) b c → step_count xs ≡ n → step_count ys ≡ m
    → BeginsWith (item_lines (equation (plain_word w) xs ys)) a c
equation_begins n m w xs ys a b c h g e d = begins_append (Equation (step_count xs) (step_count ys) (word_of (plain_word w)) ∷ []) (both_lines xs ys) a b c
    (along (λ v. BeginsWith (Equation (step_count xs) (step_count ys) v ∷ []) a b) (flip (word_there w))
    (along (λ k. BeginsWith (Equation k (step_count ys) w ∷ []) a b) (flip e) (along (λ k. BeginsWith (Equation n k w ∷ []) a b) (flip d) h))) g

item_first : (o : Option Line) (x : PlainItem) (a b c : List ℕ) → IsLineOf o a b → BeginsWith (item_lines x) a c → (o ≡ Some (head_line x)) × BeginsWith (other_lines x) b c
item_first o x a b c i g = first_is o (head_line x) (other_lines x) a b c i (along (λ z. BeginsWith z a c) (item_is x) g)

pub reduction_missing : (n : ℕ) (o : Option Line) (a b : List ℕ) → o ≡ Some (Reduction n) → IsLineOf o a b → HasNoSteps n b → HasNoItem a
reduction_missing n o a b e i k (reduction xs) c g = let j : _ = item_first o (reduction xs) a b c i g in let q : o ≡ Some (Reduction (step_count xs)) = j.0 in let d : step_count xs ≡ n = cc in k xs d c j.1
reduction_missing n o a b e i k (joining xs ys) c g = let q : o ≡ Some (Joining (step_count xs) (step_count ys)) = (item_first o (joining xs ys) a b c i g).0 in cc
reduction_missing n o a b e i k (equation w xs ys) c g = let q : o ≡ Some (Equation (step_count xs) (step_count ys) (word_of w)) = (item_first o (equation w xs ys) a b c i g).0 in cc

pub joining_missing : (n m : ℕ) (o : Option Line) (a b : List ℕ) → o ≡ Some (Joining n m) → IsLineOf o a b → HasNotBoth n m b → HasNoItem a
joining_missing n m o a b e i k (reduction xs) c g = let q : o ≡ Some (Reduction (step_count xs)) = (item_first o (reduction xs) a b c i g).0 in cc
joining_missing n m o a b e i k (joining xs ys) c g = join_missing n m o a b e i k xs ys c g
joining_missing n m o a b e i k (equation w xs ys) c g = let q : o ≡ Some (Equation (step_count xs) (step_count ys) (word_of w)) = (item_first o (equation w xs ys) a b c i g).0 in cc

pub equation_missing : (n m : ℕ) (w : Word) (o : Option Line) (a b : List ℕ) → o ≡ Some (Equation n m w) → IsLineOf o a b → HasNotBoth n m b → HasNoItem a
equation_missing n m w o a b e i k (reduction xs) c g = let q : o ≡ Some (Reduction (step_count xs)) = (item_first o (reduction xs) a b c i g).0 in cc
equation_missing n m w o a b e i k (joining xs ys) c g = let q : o ≡ Some (Joining (step_count xs) (step_count ys)) = (item_first o (joining xs ys) a b c i g).0 in cc
equation_missing n m w o a b e i k (equation v xs ys) c g =
    let j : _ = item_first o (equation v xs ys) a b c i g in
    let q : o ≡ Some (Equation (step_count xs) (step_count ys) (word_of v)) = j.0 in
    let d : step_count xs ≡ n = cc in let p : step_count ys ≡ m = cc in k xs ys d p c j.1

pub no_item : (o : Option Line) (a b : List ℕ) → IsLineOf o a b → ((n : ℕ) → ¬ (o ≡ Some (Reduction n))) → ((n m : ℕ) → ¬ (o ≡ Some (Joining n m))) → ((n m : ℕ) (w : Word) → ¬ (o ≡ Some (Equation n m w))) → HasNoItem a
no_item o a b i f k p (reduction xs) c g = f (step_count xs) (item_first o (reduction xs) a b c i g).0
no_item o a b i f k p (joining xs ys) c g = k (step_count xs) (step_count ys) (item_first o (joining xs ys) a b c i g).0
no_item o a b i f k p (equation w xs ys) c g = p (step_count xs) (step_count ys) (word_of w) (item_first o (equation w xs ys) a b c i g).0
