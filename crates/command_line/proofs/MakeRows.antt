-- The rows of `make` ask something.
use Rattle.std.proofs.Common.{◌≡◌, ◌∙◌, ap, ℕ, Bool, true, false, [], ◌∷◌, List, Option, Some, None, refl, sym, subst, cond, codes, is_some, true≢false}
use Rattle.std.specs.List.{find, fold}
use Rattle.std.specs.Option.{option_and_then, option_map}
use Rattle.clap.specs.Faults.{defaults_fault, level_fault, settle_fault, walk_fault}
use Rattle.clap.specs.Simple.{Shape, filled, help_rule, new_shape}
use Rattle.clap.specs.Takes.{is_given}
use Rattle.clap.specs.Walk.{Row, Rule, Text, finished, has_row, nothing_held, rows_after, settled, walk, walk_from, with_default}
use Rattle.command_line.proofs.FaultlessWalk.{UseKeeps, no_first, no_second, settled_keeps, walk_keeps}
use Rattle.command_line.specs.Words.{budget, budgets, count, theorem_counts, worker_counts, workers}
use Rattle.command_line.specs.Requests.{MakeRequest, budget_in, count_in, make_in, workers_in}
use Rattle.command_line.proofs.GoodRows.{AreGood, behind_budget, budget_row, default_budget, default_workers, found_good, given_row, no_default, number_given, required_given, use_budget, use_count, use_help, use_workers, workers_row}

-- `make` as clap builds it
abbrev pub make_rules : List Rule
make_rules = filled workers ∷ filled budget ∷ record (filled count) { index = Some 1 } ∷ filled help_rule ∷ []

abbrev pub built_make : Shape
built_make = record (new_shape (codes "make")) { rules = make_rules; disable_help_subcommand = true; is_built = true }

uses_keep : (p : Rule → Bool) → UseKeeps AreGood false (find p make_rules)
uses_keep p = go (p (filled workers)) (p (filled budget)) (p (record (filled count) { index = Some 1 })) (p (filled help_rule))
  where
    go : (w a c d : Bool) → UseKeeps AreGood false (cond w (Some (filled workers)) (cond a (Some (filled budget))
        (cond c (Some (record (filled count) { index = Some 1 })) (cond d (Some (filled help_rule)) None))))
    go true a c d = use_workers
    go false true c d = use_budget
    go false false true d = use_count
    go false false false true = use_help
    go false false false false = tt

-- the rows with every default
abbrev with_defaults : List Row → List Row
with_defaults rows = fold with_default rows make_rules

-- and with those alone of the arguments that have one
abbrev two_defaults : List Row → List Row
two_defaults rows = with_default (with_default rows (filled workers)) (filled budget)

defaults_are : (rows : List Row) → with_defaults rows ≡ two_defaults rows
defaults_are rows =
    no_default (filled help_rule) (with_default (two_defaults rows) (record (filled count) { index = Some 1 })) refl
    ∙ no_default (record (filled count) { index = Some 1 }) (two_defaults rows) refl

defaults_good : (rows : List Row) → AreGood rows → AreGood (with_defaults rows)
defaults_good rows g = subst AreGood (sym (defaults_are rows)) (default_budget _ (default_workers rows g))

has_budget : (rows : List Row) → has_row (codes "budget") (with_defaults rows) ≡ true
has_budget rows = ap (has_row (codes "budget")) (defaults_are rows) ∙ budget_row (with_default rows (filled workers))

has_workers : (rows : List Row) → has_row (codes "workers") (with_defaults rows) ≡ true
has_workers rows =
    ap (has_row (codes "workers")) (defaults_are rows)
    ∙ behind_budget (codes "workers") (with_default rows (filled workers)) (workers_row rows)

-- ---- what the rows ask

abbrev asking : ℕ → ℕ → ℕ → MakeRequest
asking n w b = record { count = n; workers = w; budget = b }

all_some : (rows : List Row) → is_some (count_in rows) ≡ true → is_some (workers_in rows) ≡ true → is_some (budget_in rows) ≡ true → is_some (make_in rows) ≡ true
all_some rows f w b = go (count_in rows) (workers_in rows) (budget_in rows) f w b
  where
    go : (o n p : Option ℕ) → is_some o ≡ true → is_some n ≡ true → is_some p ≡ true
        → is_some (option_and_then (λ (f : ℕ). option_and_then (λ (w : ℕ). option_map (λ (b : ℕ). asking f w b) p) n) o) ≡ true
    go None n p f w b = absurd (true≢false (sym f))
    go (Some f) None p e w b = absurd (true≢false (sym w))
    go (Some f) (Some w) None e n b = absurd (true≢false (sym b))
    go (Some f) (Some w) (Some b) e n h = refl

-- good rows, where N was given, ask something
rows_ask : (rows : List Row) → AreGood rows → has_row (codes "workers") rows ≡ true → has_row (codes "budget") rows ≡ true → is_given (codes "count") rows ≡ true → is_some (make_in rows) ≡ true
rows_ask rows g workers budget given =
    let n = found_good (codes "count") rows (given_row (codes "count") rows given) g in
    let w = found_good (codes "workers") rows workers g in
    let b = found_good (codes "budget") rows budget g in
    let is_number = n.3.3 n.2 in
    let is_count = w.3.2 w.2 in
    let is_budget = b.3.1 b.2 in
    all_some rows (number_given theorem_counts _ n.0 n.1 is_number.0 is_number.1) (number_given worker_counts _ w.0 w.1 is_count.0 is_count.1)
    (number_given budgets _ b.0 b.1 is_budget.0 is_budget.1)

-- words after `make` in which clap finds no fault ask something
pub make_asks : (words : List Text) → level_fault built_make [] nothing_held words false [] ≡ [] → is_some (make_in (rows_after make_rules [] words)) ≡ true
make_asks words e =
    let start = walk_from nothing_held in
    let end = (walk make_rules [] nothing_held words).held in
    let walked_fault = no_first (walk_fault built_make [] start words) _ e in
    let after = no_second (walk_fault built_make [] start words) _ e in
    let settle = no_first (settle_fault make_rules false end) _ after in
    let last = no_second (settle_fault make_rules false end) _ after in
    let checked = no_second (defaults_fault (settled make_rules end).rows make_rules) _ last in
    let good = walk_keeps AreGood built_make uses_keep [] words start tt walked_fault in
    let settled_good = settled_keeps AreGood make_rules false uses_keep end good settle in
    rows_ask (rows_after make_rules [] words) (defaults_good (settled make_rules end).rows settled_good)
    (has_workers (settled make_rules end).rows) (has_budget (settled make_rules end).rows) (required_given (is_given (codes "count") (finished make_rules end)) checked)
