-- For proofs: the request that the program holds, its bounds, and that clap takes the words.
use Rattle.std.specs.Prelude.{◌≡◌, ◌≤◌, ℕ, List, [], IfSome, ⊤}
use Rattle.clap.specs.Words.{Text, fault_of}
use Rattle.command_line.specs.Words.{program}
use Rattle.command_line.specs.declared.request.CertifyRequest as given_certify
use Rattle.command_line.specs.declared.request.CheckRequest as given_check
use Rattle.command_line.specs.declared.request.MakeRequest as given_make
use Rattle.command_line.specs.declared.request.PruneRequest as given_prune
use Rattle.command_line.specs.declared.request.RecheckRequest as given_recheck
use Rattle.command_line.specs.declared.request.ReplayRequest as given_replay
use Rattle.command_line.specs.declared.request.Request as given
use Rattle.command_line.specs.declared.request.Request.TheVariants as given_request
use Rattle.command_line.specs.Requests.{CertifyRequest, CheckRequest, MakeRequest, PruneRequest, RecheckRequest, ReplayRequest, Request, to_certify, to_check, to_make, to_prune, to_recheck, to_replay}

-- the request that the program holds
abbrev pub plain_check : given_check.CheckRequest → CheckRequest
plain_check r = record { file = r.file.now; workers = r.workers; split = r.split; budget = r.budget; quiet = r.quiet }

abbrev pub plain_make : given_make.MakeRequest → MakeRequest
plain_make r = record { count = r.count; workers = r.workers; budget = r.budget }

abbrev pub plain_certify : given_certify.CertifyRequest → CertifyRequest
plain_certify r = record { file = r.file.now; budget = r.budget }

abbrev pub plain_recheck : given_recheck.RecheckRequest → RecheckRequest
plain_recheck r = record { file = r.file.now; certificate = r.certificate.now }

abbrev pub plain_prune : given_prune.PruneRequest → PruneRequest
plain_prune r = record { name = r.name.now; file = r.file.now; budget = r.budget }

abbrev pub plain_replay : given_replay.ReplayRequest → ReplayRequest
plain_replay r = record { script = r.script.now; budget = r.budget }

abbrev pub plain_request : given.Request → Request
plain_request (given_request.Check r) = to_check (plain_check r)
plain_request (given_request.Make r) = to_make (plain_make r)
plain_request (given_request.Certify r) = to_certify (plain_certify r)
plain_request (given_request.Recheck r) = to_recheck (plain_recheck r)
plain_request (given_request.Prune r) = to_prune (plain_prune r)
plain_request (given_request.Replay r) = to_replay (plain_replay r)

-- the numbers of a request, each in its bounds
abbrev pub IsWorkerCount : ℕ → Type 0
IsWorkerCount n = (1 ≤ n) × (n ≤ 64)

abbrev pub IsSplitSize : ℕ → Type 0
IsSplitSize n = (1 ≤ n) × (n ≤ 4294967295)

abbrev pub IsBudget : ℕ → Type 0
IsBudget n = (1 ≤ n) × (n ≤ 4611686018427387904)

abbrev pub IsTheoremCount : ℕ → Type 0
IsTheoremCount n = (1 ≤ n) × (n ≤ 100000)

abbrev pub IsInBounds : Request → Type 0
IsInBounds (to_check r) = IsWorkerCount r.workers × IsBudget r.budget × IfSome r.split IsSplitSize
IsInBounds (to_make r) = IsTheoremCount r.count × IsWorkerCount r.workers × IsBudget r.budget
IsInBounds (to_certify r) = IsBudget r.budget
IsInBounds (to_recheck r) = ⊤
IsInBounds (to_prune r) = IsBudget r.budget
IsInBounds (to_replay r) = IsBudget r.budget

-- clap finds no fault in the words, the first of which is the program's name
abbrev pub IsTaken : List Text → Type 0
IsTaken words = fault_of program words ≡ []
