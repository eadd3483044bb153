-- Titles whose names and terms stand in one text, and whose modules in one list.
use Rattle.std.proofs.Common.{◌≡◌, ℕ, zero, suc, ◌+◌, ◌<◌, ◌≤◌, List, [], ◌∷◌, ◌++◌, length, map, take, drop, get_or, refl, sym, ap, ◌∙◌, arith}
use Rattle.std.proofs.lemmas.List.{take-append-le, take-append-drop, drop-append-le, length-append, length-drop, length-take-le, at_drop_more, get_or_append_left}
use Rattle.std.proofs.Math.Seq.{take-length}
use Rattle.std.specs.Prelude.{slice_get, slice_index_or, Some}
use Rattle.board_core.specs.declared.event.Place.{Place}
use Rattle.verdict_book.specs.declared.title.Title.{Title}
use Rattle.verdict_book.specs.declared.title.Spot.{Spot}
use Rattle.verdict_book.specs.Places.{AreIn, titled, total}
use Rattle.verdict_book.specs.Report.{nowhere}
use Rattle.verdict_book.specs.Titles.{kind_of, shown_by, text_of}
use Rattle.verdict_book.specs.declared.shown.Shown.{Shown}
use Rattle.verdict_book.specs.declared.shown.Shown.TheVariants.{Name, Asserted, Yes, No, Of, Value}

abbrev pub place_of : List (List ℕ) → Spot → Place
place_of modules s = record { line = s.line; «module» = slice_index_or modules s.module_at [] }

pub titled_length : (modules : List (List ℕ)) (names : List ℕ) (ps : List Spot) → length (titled modules names ps) ≡ length ps
titled_length modules names [] = refl
titled_length modules names (p ∷ ps) = ap suc (titled_length modules (drop p.length names) ps)

pub titled_place : (modules : List (List ℕ)) (names : List ℕ) (ps : List Spot) (i : ℕ) (s : Spot) → i < length ps → s ≡ get_or ps i s
    → slice_index_or (map (λ (t : Title). t.place) (titled modules names ps)) i nowhere ≡ place_of modules s
titled_place modules names [] i s lt is = absurd (omega (arith, lt))
titled_place modules names (p ∷ ps) zero s lt is = ap (place_of modules) (sym is)
titled_place modules names (p ∷ ps) (suc i) s lt is = titled_place modules (drop p.length names) ps i s (omega (arith, lt)) is

-- the text may be longer than the names in it
pub titled_front : (modules : List (List ℕ)) (names more : List ℕ) (ps : List Spot) → total ps ≤ length names → titled modules (names ++ more) ps ≡ titled modules names ps
titled_front modules names more [] fits = refl
titled_front modules names more (p ∷ ps) fits =
    let within : p.length + total ps ≤ length names = fits in
    let here : p.length ≤ length names = omega (arith, within) in
    let rest : total ps ≤ length (drop p.length names) = (rw (length-drop p.length names) (omega (arith, within))) in
    ap (λ name. record { shown = shown_by p.kind name; place = place_of modules p } ∷ titled modules (drop p.length (names ++ more)) ps) (take-append-le p.length names more here)
    ∙ ap (λ (ts : List Title). record { shown = shown_by p.kind (take p.length names); place = place_of modules p } ∷ ts)
    (ap (λ text. titled modules text ps) (drop-append-le p.length names more here) ∙ titled_front modules (drop p.length names) more ps rest)

pub titled_cut : (modules : List (List ℕ)) (names : List ℕ) (ps : List Spot) (k : ℕ) → total ps ≤ k → k ≤ length names → titled modules (take k names) ps ≡ titled modules names ps
titled_cut modules names ps k fits within =
    let enough : total ps ≤ length (take k names) = (rw (length-take-le k names within) fits) in
    sym (titled_front modules (take k names) (drop k names) ps enough) ∙ ap (λ text. titled modules text ps) (take-append-drop k names)

-- the list may have more modules than are used
pub titled_more : (modules more : List (List ℕ)) (names : List ℕ) (ps : List Spot) → AreIn modules ps → titled (modules ++ more) names ps ≡ titled modules names ps
titled_more modules more names [] known = refl
titled_more modules more names (p ∷ ps) known =
    ap (λ (m : List ℕ). record { shown = shown_by p.kind (take p.length names); place = record { line = p.line; «module» = m } } ∷ titled (modules ++ more) (drop p.length names) ps)
    (get_or_append_left modules more [] p.module_at known.0)
    ∙ ap (λ (ts : List Title). record { shown = shown_by p.kind (take p.length names); place = place_of modules p } ∷ ts) (titled_more modules more (drop p.length names) ps known.1)

pub known_more : (modules more : List (List ℕ)) (ps : List Spot) → AreIn modules ps → AreIn (modules ++ more) ps
known_more modules more [] known = tt
known_more modules more (p ∷ ps) known = let count = length-append modules more in let here = known.0 in (omega (arith, count, here), known_more modules more ps known.1)

pub known_snoc : (modules : List (List ℕ)) (ps : List Spot) (p : Spot) → AreIn modules ps → p.module_at < length modules → AreIn modules (ps ++ p ∷ [])
known_snoc modules [] p known here = (here, tt)
known_snoc modules (q ∷ ps) p known here = (known.0, known_snoc modules ps p known.1 here)

pub known_front : (modules : List (List ℕ)) (ps qs : List Spot) → AreIn modules (ps ++ qs) → AreIn modules ps
known_front modules [] qs known = tt
known_front modules (p ∷ ps) qs known = (known.0, known_front modules ps qs known.1)

pub known_take : (modules : List (List ℕ)) (ps : List Spot) (k : ℕ) → AreIn modules ps → AreIn modules (take k ps)
known_take modules [] zero known = tt
known_take modules [] (suc k) known = tt
known_take modules (p ∷ ps) zero known = tt
known_take modules (p ∷ ps) (suc k) known = (known.0, known_take modules ps k known.1)

pub known_at : (modules : List (List ℕ)) (ps : List Spot) (i : ℕ) (s : Spot) → AreIn modules ps → i < length ps → s ≡ get_or ps i s → s.module_at < length modules
known_at modules [] i s known lt is = absurd (omega (arith, lt))
known_at modules (p ∷ ps) zero s known lt is = let here = known.0 in let same = ap (λ (q : Spot). q.module_at) is in omega (arith, here, same)
known_at modules (p ∷ ps) (suc i) s known lt is = known_at modules ps i s known.1 (omega (arith, lt)) is

pub total_push : (ps : List Spot) (p : Spot) → total (ps ++ p ∷ []) ≡ total ps + p.length
total_push [] p = (let t : p.length + 0 ≡ 0 + p.length = omega arith in t)
total_push (q ∷ ps) p =
    let more = total_push ps p in
    let t : q.length + total (ps ++ p ∷ []) ≡ q.length + total ps + p.length = omega (arith, more) in t

-- without the last spot
pub cut_length : (names : List ℕ) (spots front : List Spot) (p : Spot) → spots ≡ front ++ p ∷ [] → total spots ≡ length names → total front + p.length ≡ length names
cut_length names spots front p whole all = sym (total_push front p) ∙ sym (ap total whole) ∙ all

-- one name more at the end of the text
pub titled_push : (modules : List (List ℕ)) (names name : List ℕ) (ps : List Spot) (p : Spot) → total ps ≡ length names → p.length ≡ length name
    → titled modules (names ++ name) (ps ++ p ∷ []) ≡ titled modules names ps ++ record { shown = shown_by p.kind name; place = place_of modules p } ∷ []
titled_push modules [] name [] p whole is = ap (λ (n : List ℕ). record { shown = shown_by p.kind n; place = place_of modules p } ∷ []) (ap (λ k. take k name) is ∙ take-length name)
titled_push modules (x ∷ xs) name [] p whole is = absurd (let none : 0 ≡ suc (length xs) = whole in omega arith)
titled_push modules names name (q ∷ ps) p whole is =
    let all : q.length + total ps ≡ length names = whole in
    let here : q.length ≤ length names = omega (arith, all) in
    let rest : total ps ≡ length (drop q.length names) = (rw (length-drop q.length names) (omega (arith, all))) in
    ap (λ n. record { shown = shown_by q.kind n; place = place_of modules q } ∷ titled modules (drop q.length (names ++ name)) (ps ++ p ∷ [])) (take-append-le q.length names name here)
    ∙ ap (λ (ts : List Title). record { shown = shown_by q.kind (take q.length names); place = place_of modules q } ∷ ts)
    (ap (λ text. titled modules text (ps ++ p ∷ [])) (drop-append-le q.length names name here) ∙ titled_push modules (drop q.length names) name ps p rest is)

-- the first titles are those of the first spots
pub titled_take : (modules : List (List ℕ)) (names : List ℕ) (ps : List Spot) (k : ℕ) → titled modules names (take k ps) ≡ take k (titled modules names ps)
titled_take modules names [] zero = refl
titled_take modules names [] (suc k) = refl
titled_take modules names (p ∷ ps) zero = refl
titled_take modules names (p ∷ ps) (suc k) = ap (λ (ts : List Title). record { shown = shown_by p.kind (take p.length names); place = place_of modules p } ∷ ts) (titled_take modules (drop p.length names) ps k)

-- the next title
pub titled_next : (modules : List (List ℕ)) (names : List ℕ) (ps : List Spot) (i : ℕ) (d : Spot) → i < length ps
    → titled modules names (drop i ps) ≡ record { shown = shown_by (get_or ps i d).kind (take (get_or ps i d).length names); place = place_of modules (get_or ps i d) } ∷ titled modules (drop (get_or ps i d).length names) (drop (i + 1) ps)
titled_next modules names ps i d lt = at_drop_more (titled modules names) ps i d lt

pub total_next : (ps : List Spot) (i : ℕ) (d : Spot) → i < length ps → total (drop i ps) ≡ (get_or ps i d).length + total (drop (i + 1) ps)
total_next ps i d lt = at_drop_more total ps i d lt

pub total_take : (ps : List Spot) (k : ℕ) → total (take k ps) ≤ total ps
total_take [] zero = omega arith
total_take [] (suc k) = omega arith
total_take (p ∷ ps) zero = omega arith
total_take (p ∷ ps) (suc k) =
    let less = total_take ps k in
    let t : p.length + total (take k ps) ≤ p.length + total ps = omega (arith, less) in t

-- the element at that place, read with another default
pub read_there : (xs : List (List ℕ)) (i : ℕ) (x : List ℕ) → slice_get xs i ≡ Some x → (get_or xs i [] ≡ x) × (i < length xs)
read_there [] i x h = cc
read_there (y ∷ xs) zero x h = ((let t : y ≡ x = cc in t), omega arith)
read_there (y ∷ xs) (suc i) x h = let r = read_there xs i x h in let lt = r.1 in (r.0, omega (arith, lt))

pub known_there : (modules : List (List ℕ)) (ss : List Spot) (i : ℕ) (d : Spot) → AreIn modules ss → i < length ss → (get_or ss i d).module_at < length modules
known_there modules [] i d known lt = absurd (omega (arith, lt))
known_there modules (s ∷ ss) zero d known lt = known.0
known_there modules (s ∷ ss) (suc i) d known lt = known_there modules ss i d known.1 (omega (arith, lt))

pub few_take : (ss : List Spot) (k : ℕ) → length (take k ss) ≤ length ss
few_take [] zero = omega arith
few_take [] (suc k) = omega arith
few_take (s ∷ ss) zero = omega arith
few_take (s ∷ ss) (suc k) = let less = few_take ss k in omega (arith, less)

-- an element read with itself as its default
pub read_own : (xs : List (List ℕ)) (i : ℕ) (r : List ℕ) → i < length xs → r ≡ get_or xs i r → r ≡ get_or xs i []
read_own [] i r lt is = absurd (omega (arith, lt))
read_own (x ∷ xs) zero r lt is = is
read_own (x ∷ xs) (suc i) r lt is = read_own xs i r (omega (arith, lt)) is

-- what is shown is of its kind and text
pub shown_again : (s : Shown) → shown_by (kind_of s) (text_of s) ≡ s
shown_again (Name text) = refl
shown_again Asserted = refl
shown_again Yes = refl
shown_again No = refl
shown_again (Of text) = refl
shown_again (Value text) = refl
