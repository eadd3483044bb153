-- The first lines of a script, by the bytes that were given of it.
use Rattle.std.proofs.Common.{◌≡◌, ◌==◌, ◌≤◌, ◌<◌, ◌+◌, ◌-◌, ℕ, suc, Bool, true, false, List, [], ◌∷◌, ◌++◌, length, map, take, ap, cond, refl, sym, ◌∙◌, arith, length-append}
use Rattle.std.specs.Prelude.{nat_le}
use Rattle.std.proofs.lemmas.Bool.{le-leb, lt-leb}
use Rattle.std.proofs.lemmas.List.{append_assoc, map-append}
use Rattle.std.proofs.Math.Seq.{take-append-add, take-append_seam}
use Rattle.dk_lexer.specs.Tokens.{input_limit}
use Rattle.dk_model.specs.declared.limits.Limits.{Limits}
use Rattle.script_lines.specs.Scripts.{Cut, Line, all_lines, cut, ended_lines, line_of, unended, unreadable}
use Rattle.script_lines.proofs.Cutting.{cut_byte, cut_front, cut_newline}
use Rattle.replay_script.specs.Replays.{script_lines}
use Rattle.replay_script.specs.Standing.{AreAll, AreFirst}

-- ---- one byte more

pub newline_ends : (given : List ℕ) → ended_lines (given ++ 10 ∷ []) ≡ ended_lines given ++ line_of (cut given).behind ∷ []
newline_ends given = ap (λ (c : Cut). map line_of c.ended) (cut_newline given) ∙ map-append line_of (cut given).ended ((cut given).behind ∷ [])

pub newline_leaves : (given : List ℕ) → [] ≡ (cut (given ++ 10 ∷ [])).behind
newline_leaves given = sym (ap (λ (c : Cut). c.behind) (cut_newline given))

pub byte_ends : (given : List ℕ) (b : ℕ) → (b == 10) ≡ false → ended_lines (given ++ b ∷ []) ≡ ended_lines given
byte_ends given b other = ap (λ (c : Cut). map line_of c.ended) (cut_byte given b other)

pub byte_leaves : (given : List ℕ) (b : ℕ) → (b == 10) ≡ false → (cut given).behind ++ b ∷ [] ≡ (cut (given ++ b ∷ [])).behind
byte_leaves given b other = sym (ap (λ (c : Cut). c.behind) (cut_byte given b other))

-- ---- first lines

-- lines that are ended stay the first ones
ended_front : (given rest : List ℕ) → (more : List Line) × (ended_lines (given ++ rest) ≡ ended_lines given ++ more)
ended_front given rest =
    let f = cut_front given rest in
    (map line_of f.0, ap (map line_of) f.1 ∙ map-append line_of (cut given).ended f.0)

further : (given more : List Line) (lines behind : List Line) → lines ≡ given ++ more → lines ++ behind ≡ given ++ (more ++ behind)
further given more lines behind e = ap (λ (ls : List Line). ls ++ behind) e ∙ append_assoc given more behind

taken_within : (given rest : List ℕ) (most : ℕ) → length given ≤ most → take most (given ++ rest) ≡ given ++ take (most - length given) rest
taken_within given rest most within = ap (λ n. take n (given ++ rest)) (parts (length given) most within) ∙ take-append-add given rest (most - length given)
  where
    parts : (a b : ℕ) → a ≤ b → b ≡ a + (b - a)
    parts a b le = omega (arith, le)

pub first_ended : (limits : Limits) (given : List ℕ) → length given ≤ input_limit limits → AreFirst limits given (ended_lines given)
first_ended limits given within rest = go (nat_le (length (given ++ rest)) (input_limit limits))
  where
    last : List Line
    last = map line_of (unended (cut (given ++ rest)).behind)

    go : (b : Bool) → (more : List Line) × (cond b (all_lines (given ++ rest)) (ended_lines (take (input_limit limits) (given ++ rest)) ++ unreadable ∷ []) ≡ ended_lines given ++ more)
    go true = let f = ended_front given rest in
        (f.0 ++ map line_of (unended (cut (given ++ rest)).behind), further (ended_lines given) f.0 (ended_lines (given ++ rest)) (map line_of (unended (cut (given ++ rest)).behind)) f.1)
    go false = let f = ended_front given (take (input_limit limits - length given) rest) in (
      f.0 ++ unreadable ∷ [],
      ap (λ (bytes : List ℕ). ended_lines bytes ++ unreadable ∷ []) (taken_within given rest (input_limit limits) within)
          ∙ further (ended_lines given) f.0 (ended_lines (given ++ take (input_limit limits - length given) rest)) (unreadable ∷ []) f.1,
    )

-- first lines are so of more bytes too
pub first_longer : (limits : Limits) (given more : List ℕ) (lines : List Line) → AreFirst limits given lines → AreFirst limits (given ++ more) lines
first_longer limits given more lines first rest =
    let f = first (more ++ rest) in
    (f.0, ap (script_lines limits) (append_assoc given more rest) ∙ f.1)

-- a byte past the limit
pub past_all : (limits : Limits) (given : List ℕ) (b : ℕ) (bs : List ℕ) → length given ≡ input_limit limits → AreAll limits (given ++ b ∷ bs) (ended_lines given ++ unreadable ∷ [])
past_all limits given b bs full rest =
    ap (script_lines limits) (append_assoc given (b ∷ bs) rest)
    ∙ ap (λ (t : Bool). cond t (all_lines (given ++ b ∷ (bs ++ rest))) (ended_lines (take (input_limit limits) (given ++ b ∷ (bs ++ rest))) ++ unreadable ∷ []))
    (lt-leb (length (given ++ b ∷ (bs ++ rest))) (input_limit limits) (longer (length given) (length (given ++ b ∷ (bs ++ rest))) (input_limit limits) (length (bs ++ rest)) full (length-append given (b ∷ (bs ++ rest)))))
    ∙ ap (λ (bytes : List ℕ). ended_lines bytes ++ unreadable ∷ []) (ap (λ n. take n (given ++ b ∷ (bs ++ rest))) (sym full) ∙ take-append_seam given (b ∷ (bs ++ rest)))
  where
    longer : (g whole most r : ℕ) → g ≡ most → whole ≡ g + suc r → most < whole
    longer g whole most r full is = omega (arith, full, is)

all_first : (limits : Limits) (given : List ℕ) (lines : List Line) → AreAll limits given lines → AreFirst limits given lines
all_first limits given lines all rest = ([], all rest ∙ sym (no_lines lines))
  where
    no_lines : (ls : List Line) → ls ++ [] ≡ ls
    no_lines [] = refl
    no_lines (l ∷ ls) = ap (λ (xs : List Line). l ∷ xs) (no_lines ls)

pub past_first : (limits : Limits) (given : List ℕ) (b : ℕ) (bs : List ℕ) → length given ≡ input_limit limits → AreFirst limits (given ++ b ∷ bs) (ended_lines given ++ unreadable ∷ [])
past_first limits given b bs full = all_first limits (given ++ b ∷ bs) (ended_lines given ++ unreadable ∷ []) (past_all limits given b bs full)

-- ---- the end

-- all lines of a script that isn't too long
pub whole_lines : (limits : Limits) (given : List ℕ) → length given ≤ input_limit limits → script_lines limits given ≡ ended_lines given ++ map line_of (unended (cut given).behind)
whole_lines limits given within = ap (λ (t : Bool). cond t (all_lines given) (ended_lines (take (input_limit limits) given) ++ unreadable ∷ [])) (le-leb (length given) (input_limit limits) within)
