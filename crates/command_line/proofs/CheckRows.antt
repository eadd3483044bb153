-- The rows of `check` ask something.
use Rattle.std.proofs.Common.{◌≡◌, ◌∙◌, ap, ℕ, Bool, true, false, [], ◌∷◌, List, Option, Some, None, refl, sym, subst, cond, codes, is_some, true≢false}
use Rattle.std.specs.List.{find, fold}
use Rattle.std.specs.Option.{option_and_then, option_map}
use Rattle.clap.specs.Faults.{defaults_fault, level_fault, settle_fault, walk_fault}
use Rattle.clap.specs.Simple.{Shape, filled, help_rule, new_shape}
use Rattle.clap.specs.Takes.{is_given}
use Rattle.clap.specs.Walk.{Row, Rule, Text, finished, has_row, nothing_held, rows_after, settled, walk, walk_from, with_default}
use Rattle.command_line.proofs.FaultlessWalk.{UseKeeps, no_first, no_second, settled_keeps, walk_keeps}
use Rattle.command_line.specs.Words.{budget, budgets, file, quiet, split, worker_counts, workers}
use Rattle.command_line.specs.Requests.{CheckRequest, budget_in, check_in, file_in, quiet_in, split_in, workers_in}
use Rattle.command_line.proofs.GoodRows.{AreGood, behind_budget, behind_quiet, budget_row, default_budget, default_quiet, default_workers, file_given, found_good, given_row, no_default, number_given, required_given, use_budget, use_file, use_help, use_quiet, use_split, use_workers, workers_row}

-- `check` as clap builds it
abbrev pub check_rules : List Rule
check_rules = filled workers ∷ filled split ∷ filled budget ∷ filled quiet ∷ record (filled file) { index = Some 1 } ∷ filled help_rule ∷ []

abbrev pub built_check : Shape
built_check = record (new_shape (codes "check")) { rules = check_rules; disable_help_subcommand = true; is_built = true }

pub uses_keep : (p : Rule → Bool) → UseKeeps AreGood false (find p check_rules)
uses_keep p = go (p (filled workers)) (p (filled split)) (p (filled budget)) (p (filled quiet)) (p (record (filled file) { index = Some 1 })) (p (filled help_rule))
  where
    go : (w s a b c d : Bool) → UseKeeps AreGood false (cond w (Some (filled workers)) (cond s (Some (filled split)) (cond a (Some (filled budget)) (cond b (Some (filled quiet))
        (cond c (Some (record (filled file) { index = Some 1 })) (cond d (Some (filled help_rule)) None))))))
    go true s a b c d = use_workers
    go false true a b c d = use_split
    go false false true b c d = use_budget
    go false false false true c d = use_quiet
    go false false false false true d = use_file
    go false false false false false true = use_help
    go false false false false false false = tt

-- the rows with every default
abbrev with_defaults : List Row → List Row
with_defaults rows = fold with_default rows check_rules

-- and with those alone of the arguments that have one
abbrev three_defaults : List Row → List Row
three_defaults rows = with_default (with_default (with_default rows (filled workers)) (filled budget)) (filled quiet)

defaults_are : (rows : List Row) → with_defaults rows ≡ three_defaults rows
defaults_are rows =
    let given = with_default (with_default rows (filled workers)) (filled split) in
    let behind = with_default (with_default given (filled budget)) (filled quiet) in
    no_default (filled help_rule) (with_default behind (record (filled file) { index = Some 1 })) refl
    ∙ (no_default (record (filled file) { index = Some 1 }) behind refl
    ∙ ap (λ given. with_default (with_default given (filled budget)) (filled quiet)) (no_default (filled split) (with_default rows (filled workers)) refl))

defaults_good : (rows : List Row) → AreGood rows → AreGood (with_defaults rows)
defaults_good rows g = subst AreGood (sym (defaults_are rows)) (default_quiet _ (default_budget _ (default_workers rows g)))

has_budget : (rows : List Row) → has_row (codes "budget") (with_defaults rows) ≡ true
has_budget rows =
    ap (has_row (codes "budget")) (defaults_are rows)
    ∙ behind_quiet (codes "budget") (with_default (with_default rows (filled workers)) (filled budget)) (budget_row (with_default rows (filled workers)))

has_workers : (rows : List Row) → has_row (codes "workers") (with_defaults rows) ≡ true
has_workers rows =
    ap (has_row (codes "workers")) (defaults_are rows)
    ∙ behind_quiet (codes "workers") (with_default (with_default rows (filled workers)) (filled budget))
    (behind_budget (codes "workers") (with_default rows (filled workers)) (workers_row rows))

-- ---- what the rows ask

abbrev asking : Option ℕ → Bool → Text → ℕ → ℕ → CheckRequest
asking s q f w b = record { file = f; workers = w; split = s; budget = b; quiet = q }

all_some : (rows : List Row) → is_some (file_in rows) ≡ true → is_some (workers_in rows) ≡ true → is_some (budget_in rows) ≡ true → is_some (check_in rows) ≡ true
all_some rows f w b = go (file_in rows) (workers_in rows) (budget_in rows) f w b
  where
    go : (o : Option Text) (n p : Option ℕ) → is_some o ≡ true → is_some n ≡ true → is_some p ≡ true
        → is_some (option_and_then (λ (f : Text). option_and_then (λ (w : ℕ). option_map (λ (b : ℕ). asking (split_in rows) (quiet_in rows) f w b) p) n) o) ≡ true
    go None n p f w b = absurd (true≢false (sym f))
    go (Some f) None p e w b = absurd (true≢false (sym w))
    go (Some f) (Some w) None e n b = absurd (true≢false (sym b))
    go (Some f) (Some w) (Some b) e n h = refl

-- good rows, where FILE was given, ask something
rows_ask : (rows : List Row) → AreGood rows → has_row (codes "workers") rows ≡ true → has_row (codes "budget") rows ≡ true → is_given (codes "file") rows ≡ true → is_some (check_in rows) ≡ true
rows_ask rows g workers budget given =
    let f = found_good (codes "file") rows (given_row (codes "file") rows given) g in
    let w = found_good (codes "workers") rows workers g in
    let b = found_good (codes "budget") rows budget g in
    let is_count = w.3.2 w.2 in
    let is_budget = b.3.1 b.2 in
    all_some rows (file_given _ f.0 f.1 (f.3.0 f.2)) (number_given worker_counts _ w.0 w.1 is_count.0 is_count.1) (number_given budgets _ b.0 b.1 is_budget.0 is_budget.1)

-- words after `check` in which clap finds no fault ask something
pub check_asks : (words : List Text) → level_fault built_check [] nothing_held words false [] ≡ [] → is_some (check_in (rows_after check_rules [] words)) ≡ true
check_asks words e =
    let start = walk_from nothing_held in
    let end = (walk check_rules [] nothing_held words).held in
    let walked_fault = no_first (walk_fault built_check [] start words) _ e in
    let after = no_second (walk_fault built_check [] start words) _ e in
    let settle = no_first (settle_fault check_rules false end) _ after in
    let last = no_second (settle_fault check_rules false end) _ after in
    let checked = no_second (defaults_fault (settled check_rules end).rows check_rules) _ last in
    let good = walk_keeps AreGood built_check uses_keep [] words start tt walked_fault in
    let settled_good = settled_keeps AreGood check_rules false uses_keep end good settle in
    rows_ask (rows_after check_rules [] words) (defaults_good (settled check_rules end).rows settled_good)
    (has_workers (settled check_rules end).rows) (has_budget (settled check_rules end).rows) (required_given (is_given (codes "file") (finished check_rules end)) checked)
