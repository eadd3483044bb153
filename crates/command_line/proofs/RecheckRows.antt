-- The rows of `recheck` ask something.
use Rattle.std.proofs.Common.{◌≡◌, ◌∙◌, Bool, true, false, [], ◌∷◌, List, Option, Some, None, refl, sym, subst, cond, codes, is_some, true≢false}
use Rattle.std.specs.List.{find, fold}
use Rattle.std.specs.Option.{option_and_then, option_map}
use Rattle.clap.specs.Faults.{defaults_fault, level_fault, settle_fault, walk_fault}
use Rattle.clap.specs.Simple.{Shape, filled, help_rule, new_shape}
use Rattle.clap.specs.Takes.{is_given}
use Rattle.clap.specs.Walk.{Row, Rule, Text, finished, nothing_held, rows_after, settled, walk, walk_from, with_default}
use Rattle.command_line.proofs.FaultlessWalk.{UseKeeps, no_first, no_second, settled_keeps, walk_keeps}
use Rattle.command_line.specs.Words.{certificate, file}
use Rattle.command_line.specs.Requests.{RecheckRequest, certificate_in, file_in, recheck_in}
use Rattle.command_line.proofs.GoodRows.{AreGood, both_given, file_given, found_good, given_row, no_default, use_certificate, use_file, use_help}

-- `recheck` as clap builds it
abbrev pub recheck_rules : List Rule
recheck_rules = record (filled file) { index = Some 1 } ∷ record (filled certificate) { index = Some 2 } ∷ filled help_rule ∷ []

abbrev pub built_recheck : Shape
built_recheck = record (new_shape (codes "recheck")) { rules = recheck_rules; disable_help_subcommand = true; is_built = true }

uses_keep : (p : Rule → Bool) → UseKeeps AreGood false (find p recheck_rules)
uses_keep p = go (p (record (filled file) { index = Some 1 })) (p (record (filled certificate) { index = Some 2 })) (p (filled help_rule))
  where
    go : (a b c : Bool) → UseKeeps AreGood false (cond a (Some (record (filled file) { index = Some 1 }))
        (cond b (Some (record (filled certificate) { index = Some 2 })) (cond c (Some (filled help_rule)) None)))
    go true b c = use_file
    go false true c = use_certificate
    go false false true = use_help
    go false false false = tt

-- none of its arguments has a default
abbrev with_defaults : List Row → List Row
with_defaults rows = fold with_default rows recheck_rules

defaults_are : (rows : List Row) → with_defaults rows ≡ rows
defaults_are rows =
    no_default (filled help_rule) (with_default (with_default rows (record (filled file) { index = Some 1 })) (record (filled certificate) { index = Some 2 })) refl
    ∙ no_default (record (filled certificate) { index = Some 2 }) (with_default rows (record (filled file) { index = Some 1 })) refl
    ∙ no_default (record (filled file) { index = Some 1 }) rows refl

defaults_good : (rows : List Row) → AreGood rows → AreGood (with_defaults rows)
defaults_good rows g = subst AreGood (sym (defaults_are rows)) g

-- ---- what the rows ask

abbrev asking : Text → Text → RecheckRequest
asking f c = record { file = f; certificate = c }

all_some : (rows : List Row) → is_some (file_in rows) ≡ true → is_some (certificate_in rows) ≡ true → is_some (recheck_in rows) ≡ true
all_some rows f c = go (file_in rows) (certificate_in rows) f c
  where
    go : (o m : Option Text) → is_some o ≡ true → is_some m ≡ true → is_some (option_and_then (λ (f : Text). option_map (λ (c : Text). asking f c) m) o) ≡ true
    go None m f c = absurd (true≢false (sym f))
    go (Some f) None e c = absurd (true≢false (sym c))
    go (Some f) (Some c) e h = refl

-- good rows, where FILE and CERT were given, ask something
rows_ask : (rows : List Row) → AreGood rows → is_given (codes "file") rows ≡ true → is_given (codes "certificate") rows ≡ true → is_some (recheck_in rows) ≡ true
rows_ask rows g file_is certificate_is =
    let f = found_good (codes "file") rows (given_row (codes "file") rows file_is) g in
    let c = found_good (codes "certificate") rows (given_row (codes "certificate") rows certificate_is) g in
    all_some rows (file_given _ f.0 f.1 (f.3.0 f.2)) (file_given _ c.0 c.1 (c.3.6 c.2))

-- words after `recheck` in which clap finds no fault ask something
pub recheck_asks : (words : List Text) → level_fault built_recheck [] nothing_held words false [] ≡ [] → is_some (recheck_in (rows_after recheck_rules [] words)) ≡ true
recheck_asks words e =
    let start = walk_from nothing_held in
    let end = (walk recheck_rules [] nothing_held words).held in
    let walked_fault = no_first (walk_fault built_recheck [] start words) _ e in
    let after = no_second (walk_fault built_recheck [] start words) _ e in
    let settle = no_first (settle_fault recheck_rules false end) _ after in
    let last = no_second (settle_fault recheck_rules false end) _ after in
    let checked = no_second (defaults_fault (settled recheck_rules end).rows recheck_rules) _ last in
    let good = walk_keeps AreGood built_recheck uses_keep [] words start tt walked_fault in
    let settled_good = settled_keeps AreGood recheck_rules false uses_keep end good settle in
    let both = both_given (is_given (codes "file") (finished recheck_rules end)) (is_given (codes "certificate") (finished recheck_rules end)) checked in
    rows_ask (rows_after recheck_rules [] words) (defaults_good (settled recheck_rules end).rows settled_good) both.0 both.1
