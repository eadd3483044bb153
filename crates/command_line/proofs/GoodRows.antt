-- Good rows: FILE has a value, and the numbers of theorems, workers and units are ones that may be.
use Rattle.std.proofs.Common.{◌≡◌, ◌∙◌, ◌||◌, ap, Bool, not, true, false, [], ◌∷◌, ◌++◌, List, Option, Some, None, refl, sym, cond, codes, is_some, length, true≢false}
use Rattle.std.specs.Prelude.{⊤, slice_get}
use Rattle.std.specs.List.{find}
use Rattle.std.specs.Option.{option_and_then, option_map}
use Rattle.std.specs.Str.{bytes_eq}
use Rattle.clap.specs.Kinds.{check_kinds, range_kinds, value_kinds}
use Rattle.clap.specs.Values.{read_as}
use Rattle.clap.specs.Faults.{repeat_fault, set_fault, values_fault}
use Rattle.clap.specs.Simple.{filled, help_rule}
use Rattle.clap.specs.Takes.{is_given}
use Rattle.clap.specs.ValueTests.{accepts}
use Rattle.clap.specs.Walk.{Row, Rule, Text, at_row, default_rows, finished, has_row, more_values, nothing_held, row_text, rows_after, settled, used, walk, walk_from, with_default, with_values, without}
use Rattle.clap.specs.declared.builder.value_parser.Reading.{Reading}
use Rattle.clap.specs.declared.builder.value_parser.Reading.TheVariants.{AsWritten}
use Rattle.clap.specs.declared.parser.matches.ValueSource.{ValueSource}
use Rattle.clap.specs.declared.parser.matches.ValueSource.TheVariants.{DefaultValue}
use Rattle.clap.specs.declared.error.kind.ErrorKind.TheVariants.{InvalidValue, MissingRequiredArgument}
use Rattle.clap.specs.declared.builder.value_parser.ValueParser.{ValueParser}
use Rattle.command_line.specs.Words.{budget, budgets, certificate, count, file, name, quiet, script, split, theorem_counts, worker_counts, workers}
use Rattle.command_line.specs.Requests.{number_of}
use Rattle.command_line.proofs.FaultlessWalk.{UseKeeps, no_first, no_second, some_kind}

-- ---- good rows

abbrev pub IsNumber : ValueParser → Option Text → Type 0
IsNumber numbers None = ⊥
IsNumber numbers (Some text) = accepts false numbers text ≡ true

abbrev pub IsGood : Row → Type 0
IsGood r = (bytes_eq r.id (codes "file") ≡ true → is_some (slice_get r.values 0) ≡ true)
    × (bytes_eq r.id (codes "budget") ≡ true → (r.reading ≡ AsWritten) × IsNumber budgets (slice_get r.values 0))
    × (bytes_eq r.id (codes "workers") ≡ true → (r.reading ≡ AsWritten) × IsNumber worker_counts (slice_get r.values 0))
    × (bytes_eq r.id (codes "count") ≡ true → (r.reading ≡ AsWritten) × IsNumber theorem_counts (slice_get r.values 0))
    × (bytes_eq r.id (codes "name") ≡ true → is_some (slice_get r.values 0) ≡ true)
    × (bytes_eq r.id (codes "script") ≡ true → is_some (slice_get r.values 0) ≡ true)
    × (bytes_eq r.id (codes "certificate") ≡ true → is_some (slice_get r.values 0) ≡ true)

abbrev pub AreGood : List Row → Type 0
AreGood [] = ⊤
AreGood (r ∷ rs) = IsGood r × AreGood rs

joined_good : (xs ys : List Row) → AreGood xs → AreGood ys → AreGood (xs ++ ys)
joined_good [] ys a b = b
joined_good (x ∷ xs) ys a b = (a.0, joined_good xs ys a.1 b)

at_row_good : (id : Text) (change : Row → List Row) (missing : List Row) → ((r : Row) → IsGood r → AreGood (change r)) → AreGood missing
    → (rows : List Row) → AreGood rows → AreGood (at_row id change missing rows)
at_row_good id change missing keeps m [] g = m
at_row_good id change missing keeps m (r ∷ rs) g = go (bytes_eq r.id id) (at_row_good id change missing keeps m rs g.1)
  where
    go : (b : Bool) → AreGood (at_row id change missing rs) → AreGood (cond b (change r ++ rs) (r ∷ at_row id change missing rs))
    go true rest = joined_good (change r) rs (keeps r g.0) g.1
    go false rest = (g.0, rest)

still_some : (xs ys : List Text) → is_some (slice_get xs 0) ≡ true → is_some (slice_get (xs ++ ys) 0) ≡ true
still_some [] ys e = absurd (true≢false (sym e))
still_some (x ∷ xs) ys e = refl

still_number : (numbers : ValueParser) (xs ys : List Text) → IsNumber numbers (slice_get xs 0) → IsNumber numbers (slice_get (xs ++ ys) 0)
still_number numbers [] ys e = absurd e
still_number numbers (x ∷ xs) ys e = e

more_good : (s : ValueSource) (values : List Text) (r : Row) → IsGood r → AreGood (more_values s values r)
more_good s values r g = (
  (
    (λ is. still_some r.values values (g.0 is)),
    (λ is. ((g.1 is).0, still_number budgets r.values values (g.1 is).1)),
    (λ is. ((g.2 is).0, still_number worker_counts r.values values (g.2 is).1)),
    (λ is. ((g.3 is).0, still_number theorem_counts r.values values (g.3 is).1)),
    (λ is. still_some r.values values (g.4 is)),
    (λ is. still_some r.values values (g.5 is)),
    (λ is. still_some r.values values (g.6 is)),
  ),
  tt,
)

abbrev new_row : Text → Reading → ValueSource → List Text → Row
new_row id how s values = record { id = id; values = values; count = None; source = Some s; reading = how }

values_good : (id : Text) (how : Reading) (s : ValueSource) (values : List Text) → IsGood (new_row id how s values)
    → (rows : List Row) → AreGood rows → AreGood (with_values id how s values rows)
values_good id how s values new rows g = at_row_good id (more_values s values) (new_row id how s values ∷ []) (more_good s values) (new, tt) rows g

without_good : (id : Text) (rows : List Row) → AreGood rows → AreGood (without id rows)
without_good id rows g = at_row_good id (λ _. []) [] (λ r h. tt) tt rows g

-- ---- a use of an argument

passed : (numbers : ValueParser) (text : Text) → value_kinds false numbers text ≡ [] → accepts false numbers text ≡ true
passed numbers text e = go (accepts false numbers text) e
  where
    go : (b : Bool) → cond b [] (Rattle.clap.specs.Values.refused_kind numbers ∷ []) ≡ [] → b ≡ true
    go true e = refl
    go false e = cc

pub use_budget : UseKeeps AreGood false (Some (filled budget))
use_budget [] rows g e = absurd (some_kind InvalidValue [] e)
use_budget (v ∷ vs) rows g e =
    let set : set_fault false (filled budget) (v ∷ vs) rows ≡ [] = no_second (range_kinds 1 1 (length (v ∷ vs))) _ e in
    let values : values_fault (filled budget) (v ∷ vs) ≡ [] = no_second (repeat_fault false (codes "budget") rows) _ set in
    let taken = passed budgets v (no_first (value_kinds false budgets v) _ values) in
    values_good _ _ _ (v ∷ vs) ((λ is. absurd (true≢false (sym is))), (λ is. (refl, taken)), (λ is. absurd (true≢false (sym is))), (λ is. absurd (true≢false (sym is))), (λ is. absurd (true≢false (sym is))), (λ is. absurd (true≢false (sym is))), (λ is. absurd (true≢false (sym is)))) _ (without_good _ rows g)

pub use_workers : UseKeeps AreGood false (Some (filled workers))
use_workers [] rows g e = absurd (some_kind InvalidValue [] e)
use_workers (v ∷ vs) rows g e =
    let set : set_fault false (filled workers) (v ∷ vs) rows ≡ [] = no_second (range_kinds 1 1 (length (v ∷ vs))) _ e in
    let values : values_fault (filled workers) (v ∷ vs) ≡ [] = no_second (repeat_fault false (codes "workers") rows) _ set in
    let taken = passed worker_counts v (no_first (value_kinds false worker_counts v) _ values) in
    values_good _ _ _ (v ∷ vs) ((λ is. absurd (true≢false (sym is))), (λ is. absurd (true≢false (sym is))), (λ is. (refl, taken)), (λ is. absurd (true≢false (sym is))), (λ is. absurd (true≢false (sym is))), (λ is. absurd (true≢false (sym is))), (λ is. absurd (true≢false (sym is)))) _ (without_good _ rows g)

pub use_split : UseKeeps AreGood false (Some (filled split))
use_split [] rows g e = absurd (some_kind InvalidValue [] e)
use_split (v ∷ vs) rows g e =
    values_good _ _ _ (v ∷ vs) ((λ is. absurd (true≢false (sym is))), (λ is. absurd (true≢false (sym is))), (λ is. absurd (true≢false (sym is))), (λ is. absurd (true≢false (sym is))), (λ is. absurd (true≢false (sym is))), (λ is. absurd (true≢false (sym is))), (λ is. absurd (true≢false (sym is)))) _ (without_good _ rows g)

pub use_quiet : UseKeeps AreGood false (Some (filled quiet))
use_quiet values rows g e =
    values_good _ _ _ _ ((λ is. absurd (true≢false (sym is))), (λ is. absurd (true≢false (sym is))), (λ is. absurd (true≢false (sym is))), (λ is. absurd (true≢false (sym is))), (λ is. absurd (true≢false (sym is))), (λ is. absurd (true≢false (sym is))), (λ is. absurd (true≢false (sym is)))) _ (without_good _ rows g)

pub use_file : UseKeeps AreGood false (Some (record (filled file) { index = Some 1 }))
use_file [] rows g e = absurd (some_kind InvalidValue [] e)
use_file (v ∷ vs) rows g e =
    values_good _ _ _ (v ∷ vs) ((λ is. refl), (λ is. absurd (true≢false (sym is))), (λ is. absurd (true≢false (sym is))), (λ is. absurd (true≢false (sym is))), (λ is. absurd (true≢false (sym is))), (λ is. absurd (true≢false (sym is))), (λ is. absurd (true≢false (sym is)))) _ (without_good _ rows g)

pub use_name : UseKeeps AreGood false (Some (record (filled name) { index = Some 1 }))
use_name [] rows g e = absurd (some_kind InvalidValue [] e)
use_name (v ∷ vs) rows g e =
    values_good _ _ _ (v ∷ vs) ((λ is. absurd (true≢false (sym is))), (λ is. absurd (true≢false (sym is))), (λ is. absurd (true≢false (sym is))), (λ is. absurd (true≢false (sym is))), (λ is. refl), (λ is. absurd (true≢false (sym is))), (λ is. absurd (true≢false (sym is)))) _ (without_good _ rows g)

pub use_script : UseKeeps AreGood false (Some (record (filled script) { index = Some 1 }))
use_script [] rows g e = absurd (some_kind InvalidValue [] e)
use_script (v ∷ vs) rows g e =
    values_good _ _ _ (v ∷ vs) ((λ is. absurd (true≢false (sym is))), (λ is. absurd (true≢false (sym is))), (λ is. absurd (true≢false (sym is))), (λ is. absurd (true≢false (sym is))), (λ is. absurd (true≢false (sym is))), (λ is. refl), (λ is. absurd (true≢false (sym is)))) _ (without_good _ rows g)

-- CERT behind FILE
pub use_certificate : UseKeeps AreGood false (Some (record (filled certificate) { index = Some 2 }))
use_certificate [] rows g e = absurd (some_kind InvalidValue [] e)
use_certificate (v ∷ vs) rows g e =
    values_good _ _ _ (v ∷ vs) ((λ is. absurd (true≢false (sym is))), (λ is. absurd (true≢false (sym is))), (λ is. absurd (true≢false (sym is))), (λ is. absurd (true≢false (sym is))), (λ is. absurd (true≢false (sym is))), (λ is. absurd (true≢false (sym is))), (λ is. refl)) _ (without_good _ rows g)

-- FILE behind NAME
pub use_second_file : UseKeeps AreGood false (Some (record (filled file) { index = Some 2 }))
use_second_file [] rows g e = absurd (some_kind InvalidValue [] e)
use_second_file (v ∷ vs) rows g e =
    values_good _ _ _ (v ∷ vs) ((λ is. refl), (λ is. absurd (true≢false (sym is))), (λ is. absurd (true≢false (sym is))), (λ is. absurd (true≢false (sym is))), (λ is. absurd (true≢false (sym is))), (λ is. absurd (true≢false (sym is))), (λ is. absurd (true≢false (sym is)))) _ (without_good _ rows g)

pub use_count : UseKeeps AreGood false (Some (record (filled count) { index = Some 1 }))
use_count [] rows g e = absurd (some_kind InvalidValue [] e)
use_count (v ∷ vs) rows g e =
    let set : set_fault false (record (filled count) { index = Some 1 }) (v ∷ vs) rows ≡ [] = no_second (range_kinds 1 1 (length (v ∷ vs))) _ e in
    let values : values_fault (record (filled count) { index = Some 1 }) (v ∷ vs) ≡ [] = no_second (repeat_fault false (codes "count") rows) _ set in
    let taken = passed theorem_counts v (no_first (value_kinds false theorem_counts v) _ values) in
    values_good _ _ _ (v ∷ vs) ((λ is. absurd (true≢false (sym is))), (λ is. absurd (true≢false (sym is))), (λ is. absurd (true≢false (sym is))), (λ is. (refl, taken)), (λ is. absurd (true≢false (sym is))), (λ is. absurd (true≢false (sym is))), (λ is. absurd (true≢false (sym is)))) _ (without_good _ rows g)

pub use_help : UseKeeps AreGood false (Some (filled help_rule))
use_help values rows g e = g

-- ---- the defaults

pub default_workers : (rows : List Row) → AreGood rows → AreGood (with_default rows (filled workers))
default_workers rows g = go (has_row (codes "workers") rows)
  where
    go : (b : Bool) → AreGood (cond b rows (default_rows (codes "workers") AsWritten (codes "4" ∷ []) rows))
    go true = g
    go false = values_good _ _ _ _ ((λ is. absurd (true≢false (sym is))), (λ is. absurd (true≢false (sym is))), (λ is. (refl, refl)), (λ is. absurd (true≢false (sym is))), (λ is. absurd (true≢false (sym is))), (λ is. absurd (true≢false (sym is))), (λ is. absurd (true≢false (sym is)))) rows g

pub default_budget : (rows : List Row) → AreGood rows → AreGood (with_default rows (filled budget))
default_budget rows g = go (has_row (codes "budget") rows)
  where
    go : (b : Bool) → AreGood (cond b rows (default_rows (codes "budget") AsWritten (codes "1000000000" ∷ []) rows))
    go true = g
    go false = values_good _ _ _ _ ((λ is. absurd (true≢false (sym is))), (λ is. (refl, refl)), (λ is. absurd (true≢false (sym is))), (λ is. absurd (true≢false (sym is))), (λ is. absurd (true≢false (sym is))), (λ is. absurd (true≢false (sym is))), (λ is. absurd (true≢false (sym is)))) rows g

pub default_quiet : (rows : List Row) → AreGood rows → AreGood (with_default rows (filled quiet))
default_quiet rows g = go (has_row (codes "quiet") rows)
  where
    go : (b : Bool) → AreGood (cond b rows (default_rows (codes "quiet") AsWritten (codes "false" ∷ []) rows))
    go true = g
    go false = values_good _ _ _ _ ((λ is. absurd (true≢false (sym is))), (λ is. absurd (true≢false (sym is))), (λ is. absurd (true≢false (sym is))), (λ is. absurd (true≢false (sym is))), (λ is. absurd (true≢false (sym is))), (λ is. absurd (true≢false (sym is))), (λ is. absurd (true≢false (sym is)))) rows g

-- an argument without a default leaves the rows
pub no_default : (a : Rule) (rows : List Row) → a.defaults ≡ [] → with_default rows a ≡ rows
no_default a rows e = ap (λ vs. cond (has_row a.id rows) rows (default_rows a.id (Rattle.clap.specs.Walk.reading_by a) vs rows)) e ∙ go (has_row a.id rows)
  where
    go : (b : Bool) → cond b rows rows ≡ rows
    go true = refl
    go false = refl

-- ---- rows for the numbers

or_right : (a b : Bool) → b ≡ true → (a || b) ≡ true
or_right true b e = refl
or_right false b e = e

-- a row whose id stays, where the others stay
row_added : (id : Text) (s : ValueSource) (values : List Text) (how : Reading) (rows : List Row) → bytes_eq id id ≡ true → has_row id (with_values id how s values rows) ≡ true
row_added id s values how [] same = rw same refl
row_added id s values how (r ∷ rs) same = go (bytes_eq r.id id) refl (row_added id s values how rs same)
  where
    go : (b : Bool) → bytes_eq r.id id ≡ b → has_row id (with_values id how s values rs) ≡ true
        → has_row id (cond b (more_values s values r ++ rs) (r ∷ with_values id how s values rs)) ≡ true
    go true e rest = rw e refl
    go false e rest = or_right (bytes_eq r.id id) _ rest

row_stays : (id other : Text) (s : ValueSource) (values : List Text) (how : Reading) (rows : List Row) → has_row id rows ≡ true
    → has_row id (with_values other how s values rows) ≡ true
row_stays id other s values how [] has = absurd (true≢false (sym has))
row_stays id other s values how (r ∷ rs) has = go (bytes_eq r.id other) (bytes_eq r.id id) refl (row_stays id other s values how rs)
  where
    go : (b here : Bool) → bytes_eq r.id id ≡ here → (has_row id rs ≡ true → has_row id (with_values other how s values rs) ≡ true)
        → has_row id (cond b (more_values s values r ++ rs) (r ∷ with_values other how s values rs)) ≡ true
    go true here e rest = has
    go false true e rest = rw e refl
    go false false e rest = or_right (bytes_eq r.id id) _ (rest (rw e at has))

pub budget_row : (rows : List Row) → has_row (codes "budget") (with_default rows (filled budget)) ≡ true
budget_row rows = go (has_row (codes "budget") rows) refl
  where
    go : (b : Bool) → has_row (codes "budget") rows ≡ b
        → has_row (codes "budget") (cond b rows (default_rows (codes "budget") AsWritten (codes "1000000000" ∷ []) rows)) ≡ true
    go true e = e
    go false e = row_added (codes "budget") DefaultValue (codes "1000000000" ∷ []) AsWritten rows refl

pub workers_row : (rows : List Row) → has_row (codes "workers") (with_default rows (filled workers)) ≡ true
workers_row rows = go (has_row (codes "workers") rows) refl
  where
    go : (b : Bool) → has_row (codes "workers") rows ≡ b
        → has_row (codes "workers") (cond b rows (default_rows (codes "workers") AsWritten (codes "4" ∷ []) rows)) ≡ true
    go true e = e
    go false e = row_added (codes "workers") DefaultValue (codes "4" ∷ []) AsWritten rows refl

-- a row stays where another argument takes its default
pub behind_budget : (id : Text) (rows : List Row) → has_row id rows ≡ true → has_row id (with_default rows (filled budget)) ≡ true
behind_budget id rows has = go (has_row (codes "budget") rows)
  where
    go : (b : Bool) → has_row id (cond b rows (default_rows (codes "budget") AsWritten (codes "1000000000" ∷ []) rows)) ≡ true
    go true = has
    go false = row_stays id (codes "budget") DefaultValue (codes "1000000000" ∷ []) AsWritten rows has

pub behind_quiet : (id : Text) (rows : List Row) → has_row id rows ≡ true → has_row id (with_default rows (filled quiet)) ≡ true
behind_quiet id rows has = go (has_row (codes "quiet") rows)
  where
    go : (b : Bool) → has_row id (cond b rows (default_rows (codes "quiet") AsWritten (codes "false" ∷ []) rows)) ≡ true
    go true = has
    go false = row_stays id (codes "quiet") DefaultValue (codes "false" ∷ []) AsWritten rows has

-- ---- what the rows ask

pub found_good : (id : Text) (rows : List Row) → has_row id rows ≡ true → AreGood rows
    → (r : Row) × (find (λ r. bytes_eq r.id id) rows ≡ Some r) × (bytes_eq r.id id ≡ true) × IsGood r
found_good id [] has g = absurd (true≢false (sym has))
found_good id (r ∷ rs) has g = go (bytes_eq r.id id) refl (λ rest. found_good id rs rest g.1)
  where
    go : (b : Bool) → bytes_eq r.id id ≡ b
        → (has_row id rs ≡ true → (x : Row) × (find (λ r. bytes_eq r.id id) rs ≡ Some x) × (bytes_eq x.id id ≡ true) × IsGood x)
        → (x : Row) × (find (λ r. bytes_eq r.id id) (r ∷ rs) ≡ Some x) × (bytes_eq x.id id ≡ true) × IsGood x
    go true e rest = (r, rw e refl, e, g.0)
    go false e rest =
        let x = rest (rw e at has) in
        (x.0, rw e x.1, x.2, x.3)

pub given_row : (id : Text) (rows : List Row) → is_given id rows ≡ true → has_row id rows ≡ true
given_row id [] e = e
given_row id (r ∷ rs) e = go (bytes_eq r.id id) refl (λ f. given_row id rs f)
  where
    go : (b : Bool) → bytes_eq r.id id ≡ b → (is_given id rs ≡ true → has_row id rs ≡ true) → has_row id (r ∷ rs) ≡ true
    go true is rest = rw is refl
    go false is rest = or_right (bytes_eq r.id id) _ (rest (rw is at e))

pub file_given : (o : Option Row) (r : Row) → o ≡ Some r → is_some (slice_get r.values 0) ≡ true
    → is_some (option_and_then (λ r. slice_get r.values 0) o) ≡ true
file_given o r e some = ap (λ o. is_some (option_and_then (λ r. slice_get r.values 0) o)) e ∙ some

number_reads : (numbers : ValueParser) (text : Option Text) → IsNumber numbers text → is_some (option_and_then (number_of numbers) (option_map (read_as AsWritten) text)) ≡ true
number_reads numbers None h = absurd h
number_reads numbers (Some text) h = rw h refl

pub number_given : (numbers : ValueParser) (o : Option Row) (r : Row) → o ≡ Some r → r.reading ≡ AsWritten → IsNumber numbers (slice_get r.values 0)
    → is_some (option_and_then (number_of numbers) (option_and_then row_text o)) ≡ true
number_given numbers o r e how h =
    ap (λ o. is_some (option_and_then (number_of numbers) (option_and_then row_text o))) e
    ∙ (ap (λ (how : Reading). is_some (option_and_then (number_of numbers) (option_map (read_as how) (slice_get r.values 0)))) how ∙ number_reads numbers (slice_get r.values 0) h)

pub required_given : (given : Bool) → check_kinds false false (not given || false) ≡ [] → given ≡ true
required_given true e = refl
required_given false e = absurd (some_kind MissingRequiredArgument [] e)

-- both words that are required were given
pub both_given : (a b : Bool) → check_kinds false false (not a || (not b || false)) ≡ [] → (a ≡ true) × (b ≡ true)
both_given true b e = (refl, required_given b e)
both_given false b e = absurd (true≢false (sym (required_given false e)))
