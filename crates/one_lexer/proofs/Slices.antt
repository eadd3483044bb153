-- Fronts of lists of bytes: runs, letters, and what stands before a rest.
use Rattle.std.proofs.Common.{◌≡◌, ◌<◌, ℕ, ◌+◌, ◌-◌, true, false, List, [], ◌∷◌, ◌++◌, length, take, drop, get_or, refl, sym, ap, subst, ◌∙◌, arith, add-one, drop-cons, length-append}
use Rattle.std.proofs.lemmas.List.{take_more}
use Rattle.dk_lexer.specs.Classes.{class_of, in_name}
use Rattle.dk_lexer.specs.Spelling.{run_of, behind_run}

pub drop_at : (bs : List ℕ) (i : ℕ) → i < length bs → drop i bs ≡ get_or bs i 0 ∷ drop (i + 1) bs
drop_at bs i h = rw (add-one) (drop-cons bs i 0 h)

push_cons : (front rest : List ℕ) (b : ℕ) → front ++ b ∷ rest ≡ (front ++ b ∷ []) ++ rest
push_cons [] rest b = refl
push_cons (x ∷ front) rest b = ap (λ (y : List ℕ). x ∷ y) (push_cons front rest b)

pub run_named : (b : ℕ) (bs : List ℕ) → in_name (class_of b) ≡ true → run_of (b ∷ bs) ≡ b ∷ run_of bs
run_named b bs e = rw e refl

pub behind_named : (b : ℕ) (bs : List ℕ) → in_name (class_of b) ≡ true → behind_run (b ∷ bs) ≡ behind_run bs
behind_named b bs e = rw e refl

run_stops : (b : ℕ) (bs : List ℕ) → in_name (class_of b) ≡ false → run_of (b ∷ bs) ≡ []
run_stops b bs e = rw e refl

behind_stops : (b : ℕ) (bs : List ℕ) → in_name (class_of b) ≡ false → behind_run (b ∷ bs) ≡ b ∷ bs
behind_stops b bs e = rw e refl

-- one byte more of a run
pub run_more : (bs : List ℕ) (i : ℕ) → i < length bs → in_name (class_of (get_or bs i 0)) ≡ true → run_of bs ≡ take i bs ++ run_of (drop i bs) → run_of bs ≡ take (i + 1) bs ++ run_of (drop (i + 1) bs)
run_more bs i lt named h =
    h ∙ ap (λ (x : List ℕ). take i bs ++ run_of x) (drop_at bs i lt)
    ∙ ap (λ (x : List ℕ). take i bs ++ x) (run_named (get_or bs i 0) (drop (i + 1) bs) named)
    ∙ push_cons (take i bs) (run_of (drop (i + 1) bs)) (get_or bs i 0)
    ∙ ap (λ (x : List ℕ). x ++ run_of (drop (i + 1) bs)) (sym (take_more bs i 0 lt))

pub behind_more : (bs : List ℕ) (i : ℕ) → i < length bs → in_name (class_of (get_or bs i 0)) ≡ true → behind_run bs ≡ behind_run (drop i bs) → behind_run bs ≡ behind_run (drop (i + 1) bs)
behind_more bs i lt named h = h ∙ ap behind_run (drop_at bs i lt) ∙ behind_named (get_or bs i 0) (drop (i + 1) bs) named

append_none : (bs : List ℕ) → bs ++ [] ≡ bs
append_none [] = refl
append_none (b ∷ bs) = ap (λ (x : List ℕ). b ∷ x) (append_none bs)

pub run_ended : (bs : List ℕ) (i : ℕ) → i < length bs → in_name (class_of (get_or bs i 0)) ≡ false → run_of bs ≡ take i bs ++ run_of (drop i bs) → run_of bs ≡ take i bs
run_ended bs i lt other h =
    h ∙ ap (λ (x : List ℕ). take i bs ++ run_of x) (drop_at bs i lt)
    ∙ ap (λ (x : List ℕ). take i bs ++ x) (run_stops (get_or bs i 0) (drop (i + 1) bs) other)
    ∙ append_none (take i bs)

pub behind_ended : (bs : List ℕ) (i : ℕ) → i < length bs → in_name (class_of (get_or bs i 0)) ≡ false → behind_run bs ≡ behind_run (drop i bs) → behind_run bs ≡ drop i bs
behind_ended bs i lt other h =
    h ∙ ap behind_run (drop_at bs i lt) ∙ behind_stops (get_or bs i 0) (drop (i + 1) bs) other ∙ sym (drop_at bs i lt)

-- what stands before a rest
pub take_front : (front rest : List ℕ) → take (length front) (front ++ rest) ≡ front
take_front [] rest = refl
take_front (b ∷ front) rest = ap (λ (x : List ℕ). b ∷ x) (take_front front rest)

pub take_before : (bytes front rest : List ℕ) (left : ℕ) → bytes ≡ front ++ rest → left ≡ length rest → take (length bytes - left) bytes ≡ front
take_before bytes front rest left is left_is =
    let n : length (front ++ rest) ≡ length front + length rest = length-append front rest in
    let m : length (front ++ rest) - length rest ≡ length front = omega arith in
    subst (λ (x : List ℕ). take (length x - left) x ≡ front) (sym is)
    (subst (λ k. take (length (front ++ rest) - k) (front ++ rest) ≡ front) (sym left_is)
    (subst (λ k. take k (front ++ rest) ≡ front) (sym m) (take_front front rest)))

drop_front : (front rest : List ℕ) → drop (length front) (front ++ rest) ≡ rest
drop_front [] rest = refl
drop_front (b ∷ front) rest = drop_front front rest

pub last_before : (bytes front rest : List ℕ) (left : ℕ) → bytes ≡ front ++ rest → left ≡ length rest → drop (length bytes - left) bytes ≡ rest
last_before bytes front rest left is left_is =
    let n : length (front ++ rest) ≡ length front + length rest = length-append front rest in
    let m : length (front ++ rest) - length rest ≡ length front = omega arith in
    subst (λ (x : List ℕ). drop (length x - left) x ≡ rest) (sym is)
    (subst (λ k. drop (length (front ++ rest) - k) (front ++ rest) ≡ rest) (sym left_is)
    (subst (λ k. drop k (front ++ rest) ≡ rest) (sym m) (drop_front front rest)))
