-- For proofs: the bound of what stands at some bytes, of which so many are left at a brace behind a run and a dot.
use Rattle.std.specs.Prelude.{◌≡◌, ◌≤◌, ◌<◌, ℕ, ◌+◌, Bool, Option, Some, None, if◌then◌else◌, ◌==◌, ◌⊎◌}
use Rattle.dk_model.specs.declared.code.Code.{Code}
use Rattle.dk_model.specs.declared.code.Code.TheVariants.{E07}
use Rattle.dk_model.specs.declared.limits.Limits.{Limits}
use Rattle.dk_lexer.specs.Tokens.{Bound, bound, command_limit, input_limit, nearer}

-- the bound behind a brace, which may be one farther
abbrev pub brace_last : Bool → ℕ → ℕ
brace_last beyond last = if beyond then last + 1 else last

abbrev pub late_at : Limits → ℕ → ℕ → ℕ → Bound
late_at limits begin total left =
    let last = begin + command_limit limits in
    nearer (brace_last (last + left == total) last) (input_limit limits)

abbrev pub front_bound : Limits → ℕ → ℕ → Option ℕ → Bound
front_bound limits begin total None = bound limits (Some begin)
front_bound limits begin total (Some left) = late_at limits begin total left

-- the bytes before the brace are within the bound, and the brace is within the input
abbrev pub LateFits : Limits → ℕ → ℕ → Option ℕ → Type 0
LateFits limits begin total None = Unit {0}
LateFits limits begin total (Some left) = (total ≤ (bound limits (Some begin)).last + left) × (total < input_limit limits + left)

-- they aren't, and this is the fault
abbrev pub LateFails : Limits → ℕ → ℕ → Option ℕ → Code → Type 0
LateFails limits begin total None code = ⊥
LateFails limits begin total (Some left) code =
    (((bound limits (Some begin)).last + left < total) × (code ≡ (bound limits (Some begin)).code))
    ⊎ ((total ≤ (bound limits (Some begin)).last + left) × ((input_limit limits + left ≤ total) × (code ≡ E07)))
