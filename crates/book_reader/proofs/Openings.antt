-- Which books are open.
use Rattle.std.proofs.Common.{◌≡◌, ◌≤◌, ◌<◌, ℕ, Bool, true, false, nat_le, arith, List, [], ◌∷◌, ◌++◌, ◌∙◌, length, refl, rules, sym, ap, subst, map, Option}
use Rattle.std.proofs.lemmas.List.{length-map, length-reverse, reverse-append}
use Rattle.std.proofs.lemmas.Bool.{leb-true, le-leb}
use Rattle.std.specs.Prelude.{◌||◌, reverse, vec_len}
use Rattle.std.specs.List.{list_any}
use Rattle.theory_walk.specs.Walks.{is_module, module_in}
use Rattle.book_reader.specs.declared.walker.Frame.{Frame}
use Rattle.book_reader.specs.declared.walker.Walker.{Walker}
use Rattle.file_reader.specs.Progress.{HasBegun}
use Rattle.book_reader.specs.Ends.{AreBegun, LeavesFormer}
use Rattle.book_reader.specs.Shelves.{ShelfState}
use Rattle.dk_io.specs.Bytes.{put_aside}
use Rattle.dk_parser.specs.Modules.{is_directive}
use Rattle.dk_parser.specs.Written.{WrittenCommand}
use Rattle.theory_walk.specs.Libraries.{need}
use Rattle.book_reader.specs.Walkers.{books_in, open_of, opens_below, steps_behind}

pub below_books : (own : Option (List ℕ)) (m : List ℕ) (fs : List Frame)
    → list_any (λ b. is_module m (module_in own b)) (books_in (map open_of fs)) ≡ list_any (λ (f : Frame). is_module m (module_in own f.module)) fs
below_books own m [] = refl
below_books own m (f ∷ fs) = ap (λ b. is_module m (module_in own f.module) || b) (below_books own m fs)

-- how many books are open below the one being read
pub below_count : (w : Walker) → length (opens_below w) ≡ vec_len w.below
below_count w = length-map (reverse w.below.items) open_of ∙ length-reverse w.below.items ∙ (let e : length w.below.items ≡ vec_len w.below = search rules in e)

-- the book last put below comes first
pub below_more : (fs gs : List Frame) (f : Frame) → fs ≡ gs ++ f ∷ [] → map open_of (reverse fs) ≡ open_of f ∷ map open_of (reverse gs)
below_more fs gs f is = ap (λ l. map open_of (reverse l)) is ∙ ap (map open_of) (reverse-append gs (f ∷ []))

false_by : (b : Bool) → (b ≡ true → ⊥) → b ≡ false
false_by false never = refl
false_by true never = absurd (never refl)

pub below_limit : (a b : ℕ) → b < a → nat_le a b ≡ false
below_limit a b lt = false_by (nat_le a b) (λ t. let le = leb-true a b t in omega arith)

pub at_limit : (a b : ℕ) → a ≤ b → nat_le a b ≡ true
at_limit a b le = le-leb a b le

-- the readers of the books below
pub begun_less : (fs gs : List Frame) (f : Frame) → fs ≡ gs ++ f ∷ [] → AreBegun (reverse fs) → HasBegun f.reader × AreBegun (reverse gs)
begun_less fs gs f is begun = subst AreBegun (ap reverse is ∙ reverse-append gs (f ∷ [])) begun

pub begun_more : (fs gs : List Frame) (f : Frame) → fs ≡ gs ++ f ∷ [] → HasBegun f.reader → AreBegun (reverse gs) → AreBegun (reverse fs)
begun_more fs gs f is first later = subst AreBegun (sym (ap reverse is ∙ reverse-append gs (f ∷ []))) (first, later)

pub aside_one : (b : Bool) (left : Option (List ℕ)) (aside : List (Option (List ℕ))) → aside ≡ [] → length (put_aside b left aside) ≤ 1
aside_one true left aside is = let e : length aside ≡ 0 = ap length is in omega (arith, e)
aside_one false left aside is = let e : length aside ≡ 0 = ap length is in omega (arith, e)

-- ---- what was open before

none_of : {A : Type 0} (l : List A) → length l ≤ 0 → l ≡ []
none_of [] le = refl
none_of (x ∷ xs) le = absurd (omega (arith, le))

-- nothing was put aside, and a book was opened
pub former_opened : (old new : ShelfState) → old.aside ≡ [] → new.aside ≡ put_aside old.is_open old.left old.aside → LeavesFormer old new
former_opened old new none opened = record {
  few = subst (λ l. length l ≤ 1) (sym opened) (aside_one old.is_open old.left old.aside none);
  none = λ closed. opened ∙ ap (λ b. put_aside b old.left old.aside) closed ∙ none;
}

-- where no more is put aside than behind the opening
pub former_kept : (old mid new : ShelfState) → LeavesFormer old mid → length new.aside ≤ length mid.aside → LeavesFormer old new
former_kept old mid new former le = record {
  few = let one = former.few in omega (arith, le, one);
  none = λ closed. none_of new.aside (let e = ap length (former.none closed) in omega (arith, le, e));
}

-- the needs of an item, the last of which is the next one
pub pending_next : (c : WrittenCommand) (ms ns : List (List ℕ)) (m : List ℕ) → ms ≡ ns ++ m ∷ [] → steps_behind c (reverse ms) ≡ need (is_directive c.form) c.line m ∷ steps_behind c (reverse ns)
pending_next c ms ns m is = ap (λ l. steps_behind c (reverse l)) is ∙ ap (steps_behind c) (reverse-append ns (m ∷ []))
