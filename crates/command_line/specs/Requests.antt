-- Trusted: what the words of the command line ask of the program (docs/command-line.md).
use Rattle.std.specs.Prelude.{ℕ, Bool, false, List, [], ◌∷◌, Option, Some, None}
use Rattle.std.specs.Prelude.{if◌then◌else◌, codes, option_map, option_and_then}
use Rattle.std.specs.Option.{option_map_or}
use Rattle.std.specs.Str.{bytes_eq}
use Rattle.std.specs.Str.Parse.{digits_value, without_leading_plus}
use Rattle.clap.specs.ValueTests.{accepts}
use Rattle.clap.specs.Kinds.{Kinds}
use Rattle.clap.specs.Words.{Row, Text, fault_of, first_of, one_of, subcommand_of}
use Rattle.clap.specs.declared.builder.value_parser.ValueParser.{ValueParser}
use Rattle.command_line.specs.Words.{budgets, program, split_sizes, theorem_counts, worker_counts}

-- check the file of this name with so many workers, each command with this budget, with `ok` lines unless quiet; applications from
-- so many nodes on are split among threads, or none is
pub record CheckRequest : Type 0 where
  pub file : List ℕ
  pub workers : ℕ
  pub split : Option ℕ
  pub budget : ℕ
  pub quiet : Bool

-- make the theory with so many theorems, and check it with so many workers, each command with this budget
pub record MakeRequest : Type 0 where
  pub count : ℕ
  pub workers : ℕ
  pub budget : ℕ

-- write the certificate of the file of this name, each command checked with this budget
pub record CertifyRequest : Type 0 where
  pub file : List ℕ
  pub budget : ℕ

-- check the file of this name by the certificate of that name
pub record RecheckRequest : Type 0 where
  pub file : List ℕ
  pub certificate : List ℕ

-- write the commands on which this name rests in the file of that name, each command checked with this budget
pub record PruneRequest : Type 0 where
  pub name : List ℕ
  pub file : List ℕ
  pub budget : ℕ

-- take the edits and reports of the script of this name, each command checked with this budget
pub record ReplayRequest : Type 0 where
  pub script : List ℕ
  pub budget : ℕ

pub data Request : Type 0 where
  to_check : CheckRequest → Request
  to_make : MakeRequest → Request
  to_certify : CertifyRequest → Request
  to_recheck : RecheckRequest → Request
  to_prune : PruneRequest → Request
  to_replay : ReplayRequest → Request

-- the number that a text writes in decimal digits, where it is one of these
abbrev pub number_of : ValueParser → Text → Option ℕ
number_of numbers text =
    if accepts false numbers text then Some (digits_value 10 (without_leading_plus text)) else None

abbrev pub is_true : Text → Bool
is_true text = bytes_eq text (codes "true")

-- what clap found for FILE, CERT, NAME, SCRIPT, N, `--workers`, `--split`, `--budget` and `--quiet`, their defaults included
abbrev pub file_in : List Row → Option Text
file_in rows = first_of (codes "file") rows

abbrev pub certificate_in : List Row → Option Text
certificate_in rows = first_of (codes "certificate") rows

abbrev pub name_in : List Row → Option Text
name_in rows = first_of (codes "name") rows

abbrev pub script_in : List Row → Option Text
script_in rows = first_of (codes "script") rows

abbrev pub count_in : List Row → Option ℕ
count_in rows = option_and_then (number_of theorem_counts) (one_of (codes "count") rows)

abbrev pub workers_in : List Row → Option ℕ
workers_in rows = option_and_then (number_of worker_counts) (one_of (codes "workers") rows)

abbrev pub split_in : List Row → Option ℕ
split_in rows = option_and_then (number_of split_sizes) (one_of (codes "split") rows)

abbrev pub budget_in : List Row → Option ℕ
budget_in rows = option_and_then (number_of budgets) (one_of (codes "budget") rows)

abbrev pub quiet_in : List Row → Bool
quiet_in rows = option_map_or is_true (one_of (codes "quiet") rows) false

-- those of each subcommand together
abbrev pub check_in : List Row → Option CheckRequest
check_in rows = option_and_then (λ file. option_and_then (λ workers. option_map (λ budget.
    record { file = file; workers = workers; split = split_in rows; budget = budget; quiet = quiet_in rows })
    (budget_in rows)) (workers_in rows)) (file_in rows)

abbrev pub make_in : List Row → Option MakeRequest
make_in rows = option_and_then (λ count. option_and_then (λ workers. option_map (λ budget.
    record { count = count; workers = workers; budget = budget })
    (budget_in rows)) (workers_in rows)) (count_in rows)

abbrev pub certify_in : List Row → Option CertifyRequest
certify_in rows = option_and_then (λ file. option_map (λ budget. record { file = file; budget = budget }) (budget_in rows)) (file_in rows)

abbrev pub recheck_in : List Row → Option RecheckRequest
recheck_in rows = option_and_then (λ file. option_map (λ certificate. record { file = file; certificate = certificate }) (certificate_in rows)) (file_in rows)

abbrev pub prune_in : List Row → Option PruneRequest
prune_in rows = option_and_then (λ name. option_and_then (λ file. option_map (λ budget.
    record { name = name; file = file; budget = budget })
    (budget_in rows)) (file_in rows)) (name_in rows)

abbrev pub replay_in : List Row → Option ReplayRequest
replay_in rows = option_and_then (λ script. option_map (λ budget. record { script = script; budget = budget }) (budget_in rows)) (script_in rows)

-- what the subcommand of this name asks, with what was found for it
abbrev pub request_in : Text × List Row → Option Request
request_in found =
    if bytes_eq found.0 (codes "make") then option_map to_make (make_in found.1)
    else if bytes_eq found.0 (codes "check") then option_map to_check (check_in found.1)
    else if bytes_eq found.0 (codes "certify") then option_map to_certify (certify_in found.1)
    else if bytes_eq found.0 (codes "recheck") then option_map to_recheck (recheck_in found.1)
    else if bytes_eq found.0 (codes "prune") then option_map to_prune (prune_in found.1)
    else if bytes_eq found.0 (codes "replay") then option_map to_replay (replay_in found.1)
    else None

-- the request, where no fault stands against it
abbrev pub unless_fault : Kinds → Option Request → Option Request
unless_fault [] request = request
unless_fault (kind ∷ kinds) request = None

-- what clap takes the words to mean; none where it refuses them
unfoldable pub request_of : List Text → Option Request
request_of words = unless_fault (fault_of program words)
    (option_and_then request_in (subcommand_of program words))
