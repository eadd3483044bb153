-- The rows of `prune` ask something.
use Rattle.std.proofs.Common.{◌≡◌, ◌∙◌, ap, ℕ, Bool, true, false, [], ◌∷◌, List, Option, Some, None, refl, sym, subst, cond, codes, is_some, true≢false}
use Rattle.std.specs.List.{find, fold}
use Rattle.std.specs.Option.{option_and_then, option_map}
use Rattle.clap.specs.Faults.{defaults_fault, level_fault, settle_fault, walk_fault}
use Rattle.clap.specs.Simple.{Shape, filled, help_rule, new_shape}
use Rattle.clap.specs.Takes.{is_given}
use Rattle.clap.specs.Walk.{Row, Rule, Text, finished, has_row, nothing_held, rows_after, settled, walk, walk_from, with_default}
use Rattle.command_line.proofs.FaultlessWalk.{UseKeeps, no_first, no_second, settled_keeps, walk_keeps}
use Rattle.command_line.specs.Words.{budget, budgets, file, name}
use Rattle.command_line.specs.Requests.{PruneRequest, budget_in, file_in, name_in, prune_in}
use Rattle.command_line.proofs.GoodRows.{AreGood, both_given, budget_row, default_budget, file_given, found_good, given_row, no_default, number_given, use_budget, use_help, use_name, use_second_file}

-- `prune` as clap builds it
abbrev pub prune_rules : List Rule
prune_rules = filled budget ∷ record (filled name) { index = Some 1 } ∷ record (filled file) { index = Some 2 } ∷ filled help_rule ∷ []

abbrev pub built_prune : Shape
built_prune = record (new_shape (codes "prune")) { rules = prune_rules; disable_help_subcommand = true; is_built = true }

uses_keep : (p : Rule → Bool) → UseKeeps AreGood false (find p prune_rules)
uses_keep p = go (p (filled budget)) (p (record (filled name) { index = Some 1 })) (p (record (filled file) { index = Some 2 })) (p (filled help_rule))
  where
    go : (a b c d : Bool) → UseKeeps AreGood false (cond a (Some (filled budget)) (cond b (Some (record (filled name) { index = Some 1 }))
        (cond c (Some (record (filled file) { index = Some 2 })) (cond d (Some (filled help_rule)) None))))
    go true b c d = use_budget
    go false true c d = use_name
    go false false true d = use_second_file
    go false false false true = use_help
    go false false false false = tt

-- the rows with every default, of which the budget alone has one
abbrev with_defaults : List Row → List Row
with_defaults rows = fold with_default rows prune_rules

defaults_are : (rows : List Row) → with_defaults rows ≡ with_default rows (filled budget)
defaults_are rows =
    no_default (filled help_rule) (with_default (with_default (with_default rows (filled budget)) (record (filled name) { index = Some 1 })) (record (filled file) { index = Some 2 })) refl
    ∙ no_default (record (filled file) { index = Some 2 }) (with_default (with_default rows (filled budget)) (record (filled name) { index = Some 1 })) refl
    ∙ no_default (record (filled name) { index = Some 1 }) (with_default rows (filled budget)) refl

defaults_good : (rows : List Row) → AreGood rows → AreGood (with_defaults rows)
defaults_good rows g = subst AreGood (sym (defaults_are rows)) (default_budget rows g)

has_budget : (rows : List Row) → has_row (codes "budget") (with_defaults rows) ≡ true
has_budget rows = ap (has_row (codes "budget")) (defaults_are rows) ∙ budget_row rows

-- ---- what the rows ask

abbrev asking : Text → Text → ℕ → PruneRequest
asking n f b = record { name = n; file = f; budget = b }

all_some : (rows : List Row) → is_some (name_in rows) ≡ true → is_some (file_in rows) ≡ true → is_some (budget_in rows) ≡ true → is_some (prune_in rows) ≡ true
all_some rows n f b = go (name_in rows) (file_in rows) (budget_in rows) n f b
  where
    go : (o m : Option Text) (p : Option ℕ) → is_some o ≡ true → is_some m ≡ true → is_some p ≡ true
        → is_some (option_and_then (λ (n : Text). option_and_then (λ (f : Text). option_map (λ (b : ℕ). asking n f b) p) m) o) ≡ true
    go None m p n f b = absurd (true≢false (sym n))
    go (Some n) None p e f b = absurd (true≢false (sym f))
    go (Some n) (Some f) None e g b = absurd (true≢false (sym b))
    go (Some n) (Some f) (Some b) e g h = refl

-- good rows, where NAME and FILE were given, ask something
rows_ask : (rows : List Row) → AreGood rows → has_row (codes "budget") rows ≡ true → is_given (codes "name") rows ≡ true → is_given (codes "file") rows ≡ true → is_some (prune_in rows) ≡ true
rows_ask rows g budget name_is file_is =
    let n = found_good (codes "name") rows (given_row (codes "name") rows name_is) g in
    let f = found_good (codes "file") rows (given_row (codes "file") rows file_is) g in
    let b = found_good (codes "budget") rows budget g in
    let is_budget = b.3.1 b.2 in
    all_some rows (file_given _ n.0 n.1 (n.3.4 n.2)) (file_given _ f.0 f.1 (f.3.0 f.2)) (number_given budgets _ b.0 b.1 is_budget.0 is_budget.1)

-- words after `prune` in which clap finds no fault ask something
pub prune_asks : (words : List Text) → level_fault built_prune [] nothing_held words false [] ≡ [] → is_some (prune_in (rows_after prune_rules [] words)) ≡ true
prune_asks words e =
    let start = walk_from nothing_held in
    let end = (walk prune_rules [] nothing_held words).held in
    let walked_fault = no_first (walk_fault built_prune [] start words) _ e in
    let after = no_second (walk_fault built_prune [] start words) _ e in
    let settle = no_first (settle_fault prune_rules false end) _ after in
    let last = no_second (settle_fault prune_rules false end) _ after in
    let checked = no_second (defaults_fault (settled prune_rules end).rows prune_rules) _ last in
    let good = walk_keeps AreGood built_prune uses_keep [] words start tt walked_fault in
    let settled_good = settled_keeps AreGood prune_rules false uses_keep end good settle in
    let both = both_given (is_given (codes "name") (finished prune_rules end)) (is_given (codes "file") (finished prune_rules end)) checked in
    rows_ask (rows_after prune_rules [] words) (defaults_good (settled prune_rules end).rows settled_good) (has_budget (settled prune_rules end).rows) both.0 both.1
