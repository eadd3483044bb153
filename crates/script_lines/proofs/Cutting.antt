-- Bytes that come one by one, cut at their newlines.
use Rattle.std.proofs.Common.{◌≡◌, ◌==◌, ◌∙◌, ℕ, Bool, true, false, List, [], ◌∷◌, ◌++◌, ap, cond, refl}
use Rattle.script_lines.specs.Scripts.{Cut, cut, with_byte}

-- a newline ends the line that was open
pub cut_newline : (bytes : List ℕ) → cut (bytes ++ 10 ∷ []) ≡ record { ended = (cut bytes).ended ++ (cut bytes).behind ∷ []; behind = [] }
cut_newline [] = refl
cut_newline (b ∷ bs) = ap (λ (c : Cut). cond (b == 10) (record { ended = [] ∷ c.ended; behind = c.behind }) (with_byte b c.ended c.behind)) (cut_newline bs)
    ∙ go (b == 10) (cut bs).ended (cut bs).behind
  where
    go : (is : Bool) (ended : List (List ℕ)) (behind : List ℕ)
        → ◌≡◌ {A = Cut} (cond is (record { ended = [] ∷ (ended ++ behind ∷ []); behind = [] }) (with_byte b (ended ++ behind ∷ []) []))
        (record { ended = (cond is (record { ended = [] ∷ ended; behind = behind }) (with_byte b ended behind)).ended ++ (cond is (record { ended = [] ∷ ended; behind = behind }) (with_byte b ended behind)).behind ∷ []; behind = [] })
    go true ended behind = refl
    go false [] behind = refl
    go false (line ∷ lines) behind = refl

-- another byte belongs to it
pub cut_byte : (bytes : List ℕ) (a : ℕ) → (a == 10) ≡ false → cut (bytes ++ a ∷ []) ≡ record { ended = (cut bytes).ended; behind = (cut bytes).behind ++ a ∷ [] }
cut_byte [] a other = ap (λ is. cond is (record { ended = [] ∷ []; behind = [] }) (with_byte a [] [])) other
cut_byte (b ∷ bs) a other = ap (λ (c : Cut). cond (b == 10) (record { ended = [] ∷ c.ended; behind = c.behind }) (with_byte b c.ended c.behind)) (cut_byte bs a other)
    ∙ go (b == 10) (cut bs).ended (cut bs).behind
  where
    go : (is : Bool) (ended : List (List ℕ)) (behind : List ℕ)
        → ◌≡◌ {A = Cut} (cond is (record { ended = [] ∷ ended; behind = behind ++ a ∷ [] }) (with_byte b ended (behind ++ a ∷ [])))
        (record { ended = (cond is (record { ended = [] ∷ ended; behind = behind }) (with_byte b ended behind)).ended; behind = (cond is (record { ended = [] ∷ ended; behind = behind }) (with_byte b ended behind)).behind ++ a ∷ [] })
    go true ended behind = refl
    go false [] behind = refl
    go false (line ∷ lines) behind = refl

-- lines that are ended stay the first ones
pub cut_front : (bytes rest : List ℕ) → (more : List (List ℕ)) × ((cut (bytes ++ rest)).ended ≡ (cut bytes).ended ++ more)
cut_front [] rest = ((cut rest).ended, refl)
cut_front (b ∷ bs) rest = go (b == 10) (cut bs).ended (cut_front bs rest).0 (cut_front bs rest).1
  where
    go : (is : Bool) (ended more : List (List ℕ)) → (cut (bs ++ rest)).ended ≡ ended ++ more
        → (m : List (List ℕ)) × ((cond is (record { ended = [] ∷ (cut (bs ++ rest)).ended; behind = (cut (bs ++ rest)).behind }) (with_byte b (cut (bs ++ rest)).ended (cut (bs ++ rest)).behind)).ended
        ≡ (cond is (record { ended = [] ∷ ended; behind = (cut bs).behind }) (with_byte b ended (cut bs).behind)).ended ++ m)
    go true ended more e = (more, ap (λ ls. [] ∷ ls) e)
    go false [] more e = ((with_byte b (cut (bs ++ rest)).ended (cut (bs ++ rest)).behind).ended, refl)
    go false (line ∷ lines) more e = (more, ap (λ ls. (with_byte b ls (cut (bs ++ rest)).behind).ended) e)
