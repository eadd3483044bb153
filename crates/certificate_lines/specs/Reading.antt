-- For proofs: how a line is read from its bytes.
use Rattle.std.specs.Prelude.{ℕ, ◌+◌, ◌-◌, ◌*◌, ◌^◌, Option, Some, None, Bool, false, not, ◌&&◌, List, [], ◌∷◌, nat_lt, eqb, if◌then◌else◌, codes}
use Rattle.std.specs.Str.{bytes_eq}
use Rattle.certificate_lines.specs.declared.line.Word.{Word}
use Rattle.certificate_lines.specs.declared.line.Word.TheVariants.{Same, LeftBound, RightBound, InParts, LetGo}
use Rattle.certificate_lines.specs.declared.line.Line.{Line}
use Rattle.certificate_lines.specs.declared.line.Line.TheVariants.{First, Part, Reduction, Joining, Equation, Beta, Rule, Last}

abbrev pub is_digit : ℕ → Bool
is_digit c = not (nat_lt c 48) && nat_lt c 58

abbrev pub begins_with_digit : List ℕ → Bool
begins_with_digit [] = false
begins_with_digit (c ∷ cs) = is_digit c

-- the digits at the front, behind those of n, as a number below 2^64, and what is behind them
abbrev pub read_digits : ℕ → List ℕ → Option (ℕ × List ℕ)
read_digits n [] = Some (n, [])
read_digits n (c ∷ cs) = if is_digit c then (if nat_lt (n * 10 + (c - 48)) (2 ^ 64) then read_digits (n * 10 + (c - 48)) cs else None) else Some (n, c ∷ cs)

abbrev pub read_number : List ℕ → Option (ℕ × List ℕ)
read_number [] = None
read_number (c ∷ cs) = if eqb c 48 then (if begins_with_digit cs then None else Some (0, cs)) else (if is_digit c then read_digits 0 (c ∷ cs) else None)

abbrev pub read_spaced : List ℕ → Option (ℕ × List ℕ)
read_spaced [] = None
read_spaced (c ∷ cs) = if eqb c 32 then read_number cs else None

abbrev pub and_then : {A B : Type 0} → Option A → (A → Option B) → Option B
and_then None g = None
and_then (Some a) g = g a

abbrev pub nothing_behind : ℕ × List ℕ → Option ℕ
nothing_behind (n, []) = Some n
nothing_behind (n, c ∷ cs) = None

abbrev pub read_one : List ℕ → Option ℕ
read_one bytes = and_then (read_spaced bytes) nothing_behind

abbrev pub read_two : List ℕ → Option (ℕ × ℕ)
read_two bytes = and_then (read_spaced bytes) (λ p. and_then (read_one p.1) (λ m. Some (p.0, m)))

abbrev pub word_of : ℕ → Option Word
word_of c = if eqb c 61 then Some Same else (if eqb c 108 then Some LeftBound else (if eqb c 114 then Some RightBound else (if eqb c 116 then Some InParts else (if eqb c 120 then Some LetGo else None))))

abbrev pub read_word : List ℕ → Option Word
read_word (b ∷ c ∷ []) = if eqb b 32 then word_of c else None
read_word [] = None
read_word (b ∷ []) = None
read_word (b ∷ c ∷ d ∷ cs) = None

abbrev pub read_equation : List ℕ → Option Line
read_equation bytes = and_then (read_spaced bytes) (λ p. and_then (read_spaced p.1) (λ q. and_then (read_word q.1) (λ w. Some (Equation p.0 q.0 w))))

abbrev pub read_rule : List ℕ → Option Line
read_rule bytes = and_then (read_spaced bytes) (λ p. and_then (read_two p.1) (λ q. Some (Rule p.0 q.0 q.1)))

abbrev pub read_numbers : ℕ → List ℕ → Option Line
read_numbers c cs =
    if eqb c 99 then and_then (read_one cs) (λ n. Some (Part n)) else (
    if eqb c 114 then and_then (read_one cs) (λ n. Some (Reduction n)) else (
    if eqb c 106 then and_then (read_two cs) (λ p. Some (Joining p.0 p.1)) else (
    if eqb c 101 then read_equation cs else (
    if eqb c 98 then and_then (read_one cs) (λ n. Some (Beta n)) else (
    if eqb c 102 then read_rule cs else None)))))

abbrev pub read_numbered : List ℕ → Option Line
read_numbered [] = None
read_numbered (c ∷ cs) = read_numbers c cs

abbrev pub read_all : List ℕ → Option Line
read_all bytes = if bytes_eq bytes (codes "dk certificate 1") then Some First else (if bytes_eq bytes (codes "end") then Some Last else read_numbered bytes)
