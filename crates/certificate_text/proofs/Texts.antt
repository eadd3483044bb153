-- The text of lines, one after the other, from the texts of single ones.
use Rattle.std.specs.Prelude.{Option, Result, Ok, Err, codes, decimal, length, drop, OnOk}
use Rattle.std.proofs.Math.ListN.{get_or}
use Rattle.std.proofs.Math.Seq.{drop-cons}
use Rattle.std.proofs.lemmas.List.{drop_all}
use Rattle.std.proofs.Common.{ℕ, suc, ◌+◌, ◌<◌, ◌≤◌, ◌≡◌, List, [], ◌∷◌, ◌++◌, refl, ap, ◌∙◌, sym as flip, subst as along, arith, append_assoc}
use Rattle.dk_io.specs.Gathered.{Moves, Gathers}
use Rattle.dk_io.proofs.Gather.{gathers_then, gathers_stop, gathers_stop_at, moves_none, moves_then}
use Rattle.certificate_lines.specs.declared.line.Word.{Word}
use Rattle.certificate_lines.specs.declared.line.Word.TheVariants.{Same, LeftBound, RightBound, InParts, LetGo}
use Rattle.certificate_lines.specs.declared.line.Line.{Line}
use Rattle.certificate_lines.specs.declared.line.Line.TheVariants.{Part, Reduction, Joining, Equation, Beta, Rule}
use Rattle.certificate_lines.specs.Texts.{line_text, spaced, word_text}
use Rattle.checked_steps.specs.Items.{reduction, equation}
use Rattle.certificate_items.specs.declared.item.Step.{Step}
use Rattle.certificate_items.specs.declared.item.Step.TheVariants.{Rule as RuleStep}
use Rattle.certificate_items.specs.declared.item.Join.{Join}
use Rattle.certificate_items.specs.declared.item.Item.{Item}
use Rattle.certificate_items.specs.Texts.{AreShort, lines_text, step_count, join_count, step_lines, steps_lines, joins_lines, both_lines, join_lines, item_lines, lines_of, word_of}
use Rattle.certificate_items.specs.Views.{plain_step, plain_steps, plain_joins, plain_word, plain_item, plain_items}
use Rattle.certificate_items.proofs.Rows.{rule_is}

append_none : {A : Type 0} (xs : List A) → xs ++ [] ≡ xs
append_none [] = refl
append_none (x ∷ xs) = ap (λ t. x ∷ t) (append_none xs)

-- ---- one line

spaced_then : (n : ℕ) (xs ys : List ℕ) → spaced n xs ++ ys ≡ spaced n (xs ++ ys)
spaced_then n xs ys = ap (λ t. 32 ∷ t) (append_assoc (decimal n) xs ys)

pub joining_text : (n m : ℕ) → codes "j" ++ spaced n (spaced m (codes "\n")) ≡ lines_text (Joining n m ∷ [])
joining_text n m = ap (λ t. 106 ∷ t) (ap (spaced n) (flip (spaced_then m [] (codes "\n"))) ∙ flip (spaced_then n (spaced m []) (codes "\n")))

pub equation_text : (n m : ℕ) (w : Word) → codes "e" ++ spaced n (spaced m (codes " " ++ (word_text w ++ codes "\n"))) ≡ lines_text (Equation n m w ∷ [])
equation_text n m w =
    ap (λ t. 101 ∷ t) (ap (spaced n) (flip (spaced_then m (codes " " ++ word_text w) (codes "\n")))
    ∙ flip (spaced_then n (spaced m (codes " " ++ word_text w)) (codes "\n")))

pub rule_text : (p n k : ℕ) → codes "f" ++ spaced p (spaced n (spaced k (codes "\n"))) ≡ lines_text (Rule p n k ∷ [])
rule_text p n k =
    ap (λ t. 102 ∷ t) (
    ap (λ t. spaced p (spaced n t)) (flip (spaced_then k [] (codes "\n"))) ∙ ap (spaced p) (flip (spaced_then n (spaced k []) (codes "\n")))
    ∙ flip (spaced_then p (spaced n (spaced k [])) (codes "\n"))
    )

pub spelt : {E : Type 0} {a b : Option (List ℕ)} {w x s : List ℕ} {r : Result (Unit {0}) E} (l m : Line) → s ≡ lines_text (m ∷ []) → l ≡ m → Gathers a w b x s r
    → Gathers a w b x (lines_text (l ∷ [])) r
spelt {E} {a} {b} {w} {x} {s} {r} l m e is put = along (λ t. Gathers a w b x t r) (e ∙ ap (λ k. lines_text (k ∷ [])) (flip is)) put

-- ---- lines one after the other

pub text_append : (xs ys : List Line) → lines_text (xs ++ ys) ≡ lines_text xs ++ lines_text ys
text_append [] ys = refl
text_append (x ∷ xs) ys = ap (λ t. line_text x ++ (10 ∷ t)) (text_append xs ys) ∙ flip (append_assoc (line_text x) (10 ∷ lines_text xs) (lines_text ys))

pub short_append : (xs ys : List Line) → AreShort xs → AreShort ys → AreShort (xs ++ ys)
short_append [] ys s t = t
short_append (x ∷ xs) ys s t = (s.0, short_append xs ys s.1 t)

module _ {E : Type 0} {a b : Option (List ℕ)} {w x : List ℕ} where
  -- some lines, and others behind them
  pub lines_then : {c : Option (List ℕ)} {y : List ℕ} {r : Result (Unit {0}) E} (whole xs ys : List Line) → whole ≡ xs ++ ys → Gathers {E = E} a w b x (lines_text xs) (Ok tt)
      → Gathers b x c y (lines_text ys) r → Gathers a w c y (lines_text whole) r
  lines_then {c} {y} {r} whole xs ys e first second = along (λ t. Gathers a w c y t r) (flip (ap lines_text e ∙ text_append xs ys)) (gathers_then first second)

  pub lines_stop : {y : List ℕ} {e : E} (whole xs ys : List Line) → whole ≡ xs ++ ys → Gathers a w b x (lines_text xs) (Err e) → Gathers a w b y (lines_text whole) (Err e)
  lines_stop {y} {e} whole xs ys i first = along (λ t. Gathers a w b y t (Err e)) (flip (ap lines_text i ∙ text_append xs ys)) (gathers_stop (lines_text ys) first)

pub lines_short : {E : Type 0} (r : Result (Unit {0}) E) (whole xs ys : List Line) → whole ≡ xs ++ ys → AreShort xs → OnOk r (AreShort ys) → OnOk r (AreShort whole)
lines_short (Ok u) whole xs ys e s t = along AreShort (flip e) (short_append xs ys s t)
lines_short (Err f) whole xs ys e s t = tt

-- ---- lists of lines, of which some are put and the rest is left

pub record ArePut (a : Option (List ℕ)) (w : List ℕ) (b : Option (List ℕ)) (x : List ℕ) (whole rest : List Line) : Type 0 where
  pub done : List Line
  pub moves : Moves a w b x (lines_text done)
  pub short : AreShort done
  pub parts : whole ≡ done ++ rest

pub none_put : (a : Option (List ℕ)) (w : List ℕ) (whole : List Line) → ArePut a w a w whole whole
none_put a w whole = record { done = []; moves = moves_none a w; short = tt; parts = refl }

module _ {a b : Option (List ℕ)} {w x : List ℕ} {whole rest : List Line} (put : ArePut a w b x whole rest) where
  pub more_put : {E : Type 0} {c : Option (List ℕ)} {y : List ℕ} (xs ys : List Line) → rest ≡ xs ++ ys → Gathers {E = E} b x c y (lines_text xs) (Ok tt) → AreShort xs → ArePut a w c y whole ys
  more_put {E} {c} {y} xs ys e next s = record {
    done = put.done ++ xs;
    moves = along (λ t. Moves a w c y t) (flip (text_append put.done xs)) (moves_then put.moves next.whole);
    short = short_append put.done xs put.short s;
    parts = put.parts ∙ ap (λ t. put.done ++ t) e ∙ flip (append_assoc put.done xs ys);
  }

  pub put_stops : {E : Type 0} {c : Option (List ℕ)} {y z : List ℕ} {e : E} (xs ys : List Line) → rest ≡ xs ++ ys → Gathers {E = E} b x c y (lines_text xs) (Err e) → Gathers {E = E} a w c z (lines_text whole) (Err e)
  put_stops xs ys e next = gathers_stop_at (lines_text put.done) (lines_text xs) (lines_text ys) (lines_text whole) put.moves next
      (ap lines_text (put.parts ∙ ap (λ t. put.done ++ t) e) ∙ text_append put.done (xs ++ ys) ∙ ap (λ t. lines_text put.done ++ t) (text_append xs ys)
      ∙ flip (append_assoc (lines_text put.done) (lines_text xs) (lines_text ys)))

  all_done : rest ≡ [] → put.done ≡ whole
  all_done e = flip (put.parts ∙ ap (λ t. put.done ++ t) e ∙ append_none put.done)

  pub all_put : {E : Type 0} → rest ≡ [] → Gathers {E = E} a w b x (lines_text whole) (Ok tt)
  all_put {E} e = record { whole = along (λ (t : List Line). Moves a w b x (lines_text t)) (all_done e) put.moves; front = tt }

  pub all_short : rest ≡ [] → AreShort whole
  all_short e = along AreShort (all_done e) put.short

-- ---- the lines of steps, joins and items

module _ {A : Type 0} (xs : List A) (at : ℕ) where
  next_of : (x : A) → at < length xs → x ≡ get_or xs at x → drop at xs ≡ x ∷ drop (at + 1) xs
  next_of x h r =
      let e : suc at ≡ at + 1 = omega arith in
      drop-cons xs at x h ∙ ap (λ n. get_or xs at x ∷ drop n xs) e ∙ ap (λ y. y ∷ drop (at + 1) xs) (flip r)

pub next_step : (xs : List Step) (at : ℕ) (x : Step) → at < length xs → x ≡ get_or xs at x
    → steps_lines (plain_steps (drop at xs)) ≡ step_lines (plain_step x) ++ steps_lines (plain_steps (drop (at + 1) xs))
next_step xs at x h r = ap (λ (l : List Step). steps_lines (plain_steps l)) (next_of xs at x h r)

pub next_join : (js : List Join) (at : ℕ) (j : Join) → at < length js → j ≡ get_or js at j
    → joins_lines (plain_joins (drop at js)) ≡ join_lines (plain_steps j.first) (plain_steps j.second) ++ joins_lines (plain_joins (drop (at + 1) js))
next_join js at j h r = ap (λ (l : List Join). joins_lines (plain_joins l)) (next_of js at j h r)

pub next_item : (items : List Item) (at : ℕ) (i : Item) → at < length items → i ≡ get_or items at i
    → lines_of (plain_items (drop at items)) ≡ item_lines (plain_item i) ++ lines_of (plain_items (drop (at + 1) items))
next_item items at i h r = ap (λ (l : List Item). lines_of (plain_items l)) (next_of items at i h r)

pub no_steps : (xs : List Step) (at : ℕ) → length xs ≤ at → steps_lines (plain_steps (drop at xs)) ≡ []
no_steps xs at h = ap (λ (l : List Step). steps_lines (plain_steps l)) (drop_all at xs h)

pub no_joins : (js : List Join) (at : ℕ) → length js ≤ at → joins_lines (plain_joins (drop at js)) ≡ []
no_joins js at h = ap (λ (l : List Join). joins_lines (plain_joins l)) (drop_all at js h)

pub no_items : (items : List Item) (at : ℕ) → length items ≤ at → lines_of (plain_items (drop at items)) ≡ []
no_items items at h = ap (λ (l : List Item). lines_of (plain_items l)) (drop_all at items h)

-- ---- the line of one, and the lines of its steps

steps_counted : (xs : List Step) → step_count (plain_steps xs) ≡ length xs
steps_counted [] = refl
steps_counted (x ∷ xs) = ap suc (steps_counted xs)

joins_counted : (js : List Join) → join_count (plain_joins js) ≡ length js
joins_counted [] = refl
joins_counted (j ∷ js) = ap suc (joins_counted js)

word_is : (w : Word) → word_of (plain_word w) ≡ w
word_is Same = refl
word_is LeftBound = refl
word_is RightBound = refl
word_is InParts = refl
word_is LetGo = refl

pub rule_lines : (x : Step) (place number count : ℕ) (js : List Join) → x ≡ RuleStep place number js → count ≡ length js → {ls : List Join} → ls ≡ js
    → step_lines (plain_step x) ≡ (Rule place number count ∷ []) ++ joins_lines (plain_joins ls)
rule_lines x place number count js is e {ls} q =
    ap (λ (y : Step). step_lines (plain_step y)) is ∙ ap step_lines (rule_is place number js)
    ∙ ap (λ n. Rule place number n ∷ joins_lines (plain_joins js)) (joins_counted js ∙ flip e)
    ∙ ap (λ (l : List Join). Rule place number count ∷ joins_lines (plain_joins l)) (flip q)

pub both_parts : (xs ys ps qs : List Step) → ps ≡ xs → qs ≡ ys → both_lines (plain_steps xs) (plain_steps ys) ≡ steps_lines (plain_steps ps) ++ steps_lines (plain_steps qs)
both_parts xs ys ps qs e f = ap (λ (l : List Step). both_lines (plain_steps l) (plain_steps ys)) (flip e) ∙ ap (λ (l : List Step). both_lines (plain_steps ps) (plain_steps l)) (flip f)

pub join_parts : (xs ys : List Step) (n m : ℕ) → n ≡ length xs → m ≡ length ys
    → join_lines (plain_steps xs) (plain_steps ys) ≡ (Joining n m ∷ []) ++ both_lines (plain_steps xs) (plain_steps ys)
join_parts xs ys n m e f =
    ap (λ k. Joining k (step_count (plain_steps ys)) ∷ both_lines (plain_steps xs) (plain_steps ys)) (steps_counted xs ∙ flip e)
    ∙ ap (λ k. Joining n k ∷ both_lines (plain_steps xs) (plain_steps ys)) (steps_counted ys ∙ flip f)

pub equation_parts : (w : Word) (xs ys : List Step) (n m : ℕ) → n ≡ length xs → m ≡ length ys
    → item_lines (equation (plain_word w) (plain_steps xs) (plain_steps ys)) ≡ (Equation n m w ∷ []) ++ both_lines (plain_steps xs) (plain_steps ys)
equation_parts w xs ys n m e f =
    ap (λ k. Equation k (step_count (plain_steps ys)) (word_of (plain_word w)) ∷ both_lines (plain_steps xs) (plain_steps ys)) (steps_counted xs ∙ flip e)
    ∙ ap (λ k. Equation n k (word_of (plain_word w)) ∷ both_lines (plain_steps xs) (plain_steps ys)) (steps_counted ys ∙ flip f)
    ∙ ap (λ v. Equation n m v ∷ both_lines (plain_steps xs) (plain_steps ys)) (word_is w)

pub reduction_parts : (xs : List Step) (n : ℕ) → n ≡ length xs → item_lines (reduction (plain_steps xs)) ≡ (Reduction n ∷ []) ++ steps_lines (plain_steps xs)
reduction_parts xs n e = ap (λ k. Reduction k ∷ steps_lines (plain_steps xs)) (steps_counted xs ∙ flip e)
