-- The request by its parts.
use Rattle.std.proofs.Common.{◌≡◌, ◌∙◌, ap, ℕ, List, Option, Some, None, [], ◌∷◌, true, refl}
use Rattle.std.specs.Option.{option_and_then, option_map}
use Rattle.clap.specs.Kinds.{IsAmong, Kinds}
use Rattle.clap.specs.Words.{Row, Text, fault_of, is_simple, subcommand_of}
use Rattle.clap.specs.declared.error.kind.ErrorKind.{ErrorKind}
use Rattle.command_line.specs.Words.{program}
use Rattle.command_line.specs.Requests.{CertifyRequest, CheckRequest, MakeRequest, PruneRequest, RecheckRequest, ReplayRequest, budget_in, certificate_in, certify_in, check_in, count_in, file_in, make_in, name_in, prune_in, quiet_in, recheck_in, replay_in, request_in, request_of, script_in, split_in, workers_in}

-- a request by its first part, a second, as the number of workers, and the budget
module _ {F W Q : Type 0} (made : F → W → ℕ → Q) where
  abbrev with_workers : Option ℕ → F → W → Option Q
  with_workers b f w = option_map (made f w) b

  abbrev with_first : Option W → Option ℕ → F → Option Q
  with_first w b f = option_and_then (with_workers b f) w

  abbrev all_parts : Option F → Option W → Option ℕ → Option Q
  all_parts f w b = option_and_then (with_first w b) f

  no_workers : (f : Option F) (w : Option W) (b : Option ℕ) → w ≡ None → all_parts f w b ≡ None
  no_workers f w b e = ap (λ w. all_parts f w b) e ∙ go f
    where
      go : (o : Option F) → all_parts o None b ≡ None
      go None = refl
      go (Some f) = refl

  no_budget : (f : Option F) (w : Option W) (b : Option ℕ) → b ≡ None → all_parts f w b ≡ None
  no_budget f w b e = ap (λ b. all_parts f w b) e ∙ go f w
    where
      go : (o : Option F) (p : Option W) → all_parts o p None ≡ None
      go None p = refl
      go (Some f) None = refl
      go (Some f) (Some w) = refl

  all_given : (fs : Option F) (ws : Option W) (bs : Option ℕ) (f : F) (w : W) (b : ℕ) → fs ≡ Some f → ws ≡ Some w → bs ≡ Some b → all_parts fs ws bs ≡ Some (made f w b)
  all_given fs ws bs f w b first workers budget =
      ap (λ o. all_parts o ws bs) first
      ∙ ap (λ o. all_parts (Some f) o bs) workers
      ∙ ap (λ o. all_parts (Some f) (Some w) o) budget

-- a request by two parts
module _ {F W Q : Type 0} (made : F → W → Q) where
  abbrev two_parts : Option F → Option W → Option Q
  two_parts f w = option_and_then (λ (f : F). option_map (made f) w) f

  no_second_part : (f : Option F) (w : Option W) → w ≡ None → two_parts f w ≡ None
  no_second_part f w e = ap (λ w. two_parts f w) e ∙ go f
    where
      go : (o : Option F) → two_parts o None ≡ None
      go None = refl
      go (Some f) = refl

  two_given : (fs : Option F) (ws : Option W) (f : F) (w : W) → fs ≡ Some f → ws ≡ Some w → two_parts fs ws ≡ Some (made f w)
  two_given fs ws f w first second = ap (λ o. two_parts o ws) first ∙ ap (λ o. two_parts (Some f) o) second

abbrev checking : List Row → Text → ℕ → ℕ → CheckRequest
checking rows f w b = record { file = f; workers = w; split = split_in rows; budget = b; quiet = quiet_in rows }

abbrev making : ℕ → ℕ → ℕ → MakeRequest
making n w b = record { count = n; workers = w; budget = b }

-- ---- what `check` asks

pub check_no_file : (rows : List Row) → file_in rows ≡ None → check_in rows ≡ None
check_no_file rows e = ap (λ o. all_parts (checking rows) o (workers_in rows) (budget_in rows)) e

pub check_no_workers : (rows : List Row) → workers_in rows ≡ None → check_in rows ≡ None
check_no_workers rows e = no_workers (checking rows) (file_in rows) (workers_in rows) (budget_in rows) e

pub check_no_budget : (rows : List Row) → budget_in rows ≡ None → check_in rows ≡ None
check_no_budget rows e = no_budget (checking rows) (file_in rows) (workers_in rows) (budget_in rows) e

pub check_all : (rows : List Row) (f : Text) (w b : ℕ) → file_in rows ≡ Some f → workers_in rows ≡ Some w → budget_in rows ≡ Some b
    → check_in rows ≡ Some (record { file = f; workers = w; split = split_in rows; budget = b; quiet = quiet_in rows })
check_all rows f w b file workers budget = all_given (checking rows) (file_in rows) (workers_in rows) (budget_in rows) f w b file workers budget

-- ---- what `make` asks

pub make_no_count : (rows : List Row) → count_in rows ≡ None → make_in rows ≡ None
make_no_count rows e = ap (λ o. all_parts making o (workers_in rows) (budget_in rows)) e

pub make_no_workers : (rows : List Row) → workers_in rows ≡ None → make_in rows ≡ None
make_no_workers rows e = no_workers making (count_in rows) (workers_in rows) (budget_in rows) e

pub make_no_budget : (rows : List Row) → budget_in rows ≡ None → make_in rows ≡ None
make_no_budget rows e = no_budget making (count_in rows) (workers_in rows) (budget_in rows) e

pub make_all : (rows : List Row) (n w b : ℕ) → count_in rows ≡ Some n → workers_in rows ≡ Some w → budget_in rows ≡ Some b
    → make_in rows ≡ Some (record { count = n; workers = w; budget = b })
make_all rows n w b count workers budget = all_given making (count_in rows) (workers_in rows) (budget_in rows) n w b count workers budget

-- ---- what `certify` asks

abbrev certifying : Text → ℕ → CertifyRequest
certifying f b = record { file = f; budget = b }

pub certify_no_file : (rows : List Row) → file_in rows ≡ None → certify_in rows ≡ None
certify_no_file rows e = ap (λ o. two_parts certifying o (budget_in rows)) e

pub certify_no_budget : (rows : List Row) → budget_in rows ≡ None → certify_in rows ≡ None
certify_no_budget rows e = no_second_part certifying (file_in rows) (budget_in rows) e

pub certify_all : (rows : List Row) (f : Text) (b : ℕ) → file_in rows ≡ Some f → budget_in rows ≡ Some b → certify_in rows ≡ Some (record { file = f; budget = b })
certify_all rows f b file budget = two_given certifying (file_in rows) (budget_in rows) f b file budget

-- ---- what `recheck` asks

abbrev rechecking : Text → Text → RecheckRequest
rechecking f c = record { file = f; certificate = c }

pub recheck_no_file : (rows : List Row) → file_in rows ≡ None → recheck_in rows ≡ None
recheck_no_file rows e = ap (λ o. two_parts rechecking o (certificate_in rows)) e

pub recheck_no_certificate : (rows : List Row) → certificate_in rows ≡ None → recheck_in rows ≡ None
recheck_no_certificate rows e = no_second_part rechecking (file_in rows) (certificate_in rows) e

pub recheck_all : (rows : List Row) (f c : Text) → file_in rows ≡ Some f → certificate_in rows ≡ Some c → recheck_in rows ≡ Some (record { file = f; certificate = c })
recheck_all rows f c file certificate = two_given rechecking (file_in rows) (certificate_in rows) f c file certificate

-- ---- what `prune` asks

abbrev pruning : Text → Text → ℕ → PruneRequest
pruning n f b = record { name = n; file = f; budget = b }

pub prune_no_name : (rows : List Row) → name_in rows ≡ None → prune_in rows ≡ None
prune_no_name rows e = ap (λ o. all_parts pruning o (file_in rows) (budget_in rows)) e

pub prune_no_file : (rows : List Row) → file_in rows ≡ None → prune_in rows ≡ None
prune_no_file rows e = no_workers pruning (name_in rows) (file_in rows) (budget_in rows) e

pub prune_no_budget : (rows : List Row) → budget_in rows ≡ None → prune_in rows ≡ None
prune_no_budget rows e = no_budget pruning (name_in rows) (file_in rows) (budget_in rows) e

pub prune_all : (rows : List Row) (n f : Text) (b : ℕ) → name_in rows ≡ Some n → file_in rows ≡ Some f → budget_in rows ≡ Some b
    → prune_in rows ≡ Some (record { name = n; file = f; budget = b })
prune_all rows n f b name file budget = all_given pruning (name_in rows) (file_in rows) (budget_in rows) n f b name file budget

-- ---- what `replay` asks

abbrev replaying : Text → ℕ → ReplayRequest
replaying s b = record { script = s; budget = b }

pub replay_no_script : (rows : List Row) → script_in rows ≡ None → replay_in rows ≡ None
replay_no_script rows e = ap (λ o. two_parts replaying o (budget_in rows)) e

pub replay_no_budget : (rows : List Row) → budget_in rows ≡ None → replay_in rows ≡ None
replay_no_budget rows e = no_second_part replaying (script_in rows) (budget_in rows) e

pub replay_all : (rows : List Row) (s : Text) (b : ℕ) → script_in rows ≡ Some s → budget_in rows ≡ Some b → replay_in rows ≡ Some (record { script = s; budget = b })
replay_all rows s b script budget = two_given replaying (script_in rows) (budget_in rows) s b script budget

-- ---- the words

-- words that clap takes ask what their subcommand says
pub asked_by : (words : List Text) → fault_of program words ≡ []
    → request_of words ≡ option_and_then request_in (subcommand_of program words)
unfolding request_of
asked_by words e = rw e refl

-- words that clap refuses ask nothing
pub refused_by : (words : List Text) (kinds : Kinds) (k : ErrorKind) → kinds ≡ fault_of program words → IsAmong k kinds → request_of words ≡ None
unfolding request_of
refused_by words [] k is among = absurd among
refused_by words (x ∷ xs) k is among = rw (← is) refl

pub is_simple_program : is_simple program ≡ true
unfolding program
is_simple_program = refl
