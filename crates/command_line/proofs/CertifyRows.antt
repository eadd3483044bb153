-- The rows of `certify` ask something.
use Rattle.std.proofs.Common.{◌≡◌, ◌∙◌, ap, ℕ, Bool, true, false, [], ◌∷◌, List, Option, Some, None, refl, sym, subst, cond, codes, is_some, true≢false}
use Rattle.std.specs.List.{find, fold}
use Rattle.std.specs.Option.{option_and_then, option_map}
use Rattle.clap.specs.Faults.{defaults_fault, level_fault, settle_fault, walk_fault}
use Rattle.clap.specs.Simple.{Shape, filled, help_rule, new_shape}
use Rattle.clap.specs.Takes.{is_given}
use Rattle.clap.specs.Walk.{Row, Rule, Text, finished, has_row, nothing_held, rows_after, settled, walk, walk_from, with_default}
use Rattle.command_line.proofs.FaultlessWalk.{UseKeeps, no_first, no_second, settled_keeps, walk_keeps}
use Rattle.command_line.specs.Words.{budget, budgets, file}
use Rattle.command_line.specs.Requests.{CertifyRequest, budget_in, certify_in, file_in}
use Rattle.command_line.proofs.GoodRows.{AreGood, budget_row, default_budget, file_given, found_good, given_row, no_default, number_given, required_given, use_budget, use_file, use_help}

-- `certify` as clap builds it
abbrev pub certify_rules : List Rule
certify_rules = filled budget ∷ record (filled file) { index = Some 1 } ∷ filled help_rule ∷ []

abbrev pub built_certify : Shape
built_certify = record (new_shape (codes "certify")) { rules = certify_rules; disable_help_subcommand = true; is_built = true }

uses_keep : (p : Rule → Bool) → UseKeeps AreGood false (find p certify_rules)
uses_keep p = go (p (filled budget)) (p (record (filled file) { index = Some 1 })) (p (filled help_rule))
  where
    go : (a b c : Bool) → UseKeeps AreGood false (cond a (Some (filled budget)) (cond b (Some (record (filled file) { index = Some 1 })) (cond c (Some (filled help_rule)) None)))
    go true b c = use_budget
    go false true c = use_file
    go false false true = use_help
    go false false false = tt

-- the rows with every default, of which the budget alone has one
abbrev with_defaults : List Row → List Row
with_defaults rows = fold with_default rows certify_rules

defaults_are : (rows : List Row) → with_defaults rows ≡ with_default rows (filled budget)
defaults_are rows =
    no_default (filled help_rule) (with_default (with_default rows (filled budget)) (record (filled file) { index = Some 1 })) refl
    ∙ no_default (record (filled file) { index = Some 1 }) (with_default rows (filled budget)) refl

defaults_good : (rows : List Row) → AreGood rows → AreGood (with_defaults rows)
defaults_good rows g = subst AreGood (sym (defaults_are rows)) (default_budget rows g)

has_budget : (rows : List Row) → has_row (codes "budget") (with_defaults rows) ≡ true
has_budget rows = ap (has_row (codes "budget")) (defaults_are rows) ∙ budget_row rows

-- ---- what the rows ask

abbrev asking : Text → ℕ → CertifyRequest
asking f b = record { file = f; budget = b }

all_some : (rows : List Row) → is_some (file_in rows) ≡ true → is_some (budget_in rows) ≡ true → is_some (certify_in rows) ≡ true
all_some rows f b = go (file_in rows) (budget_in rows) f b
  where
    go : (o : Option Text) (p : Option ℕ) → is_some o ≡ true → is_some p ≡ true → is_some (option_and_then (λ (f : Text). option_map (λ (b : ℕ). asking f b) p) o) ≡ true
    go None p f b = absurd (true≢false (sym f))
    go (Some f) None e b = absurd (true≢false (sym b))
    go (Some f) (Some b) e h = refl

-- good rows, where FILE was given, ask something
rows_ask : (rows : List Row) → AreGood rows → has_row (codes "budget") rows ≡ true → is_given (codes "file") rows ≡ true → is_some (certify_in rows) ≡ true
rows_ask rows g budget file_is =
    let f = found_good (codes "file") rows (given_row (codes "file") rows file_is) g in
    let b = found_good (codes "budget") rows budget g in
    let is_budget = b.3.1 b.2 in
    all_some rows (file_given _ f.0 f.1 (f.3.0 f.2)) (number_given budgets _ b.0 b.1 is_budget.0 is_budget.1)

-- words after `certify` in which clap finds no fault ask something
pub certify_asks : (words : List Text) → level_fault built_certify [] nothing_held words false [] ≡ [] → is_some (certify_in (rows_after certify_rules [] words)) ≡ true
certify_asks words e =
    let start = walk_from nothing_held in
    let end = (walk certify_rules [] nothing_held words).held in
    let walked_fault = no_first (walk_fault built_certify [] start words) _ e in
    let after = no_second (walk_fault built_certify [] start words) _ e in
    let settle = no_first (settle_fault certify_rules false end) _ after in
    let last = no_second (settle_fault certify_rules false end) _ after in
    let checked = no_second (defaults_fault (settled certify_rules end).rows certify_rules) _ last in
    let good = walk_keeps AreGood built_certify uses_keep [] words start tt walked_fault in
    let settled_good = settled_keeps AreGood certify_rules false uses_keep end good settle in
    rows_ask (rows_after certify_rules [] words) (defaults_good (settled certify_rules end).rows settled_good) (has_budget (settled certify_rules end).rows)
    (required_given (is_given (codes "file") (finished certify_rules end)) checked)
