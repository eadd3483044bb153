-- The modules of the open books are those entered.
use Rattle.std.proofs.Common.{◌≡◌, ℕ, ◌+◌, ◌<◌, Bool, true, false, List, [], ◌∷◌, ◌++◌, length, map, refl, sym, ap, subst, ◌∙◌, arith, length-append, Some, None}
use Rattle.std.specs.Prelude.{◌||◌, drop, if◌then◌else◌}
use Rattle.std.specs.List.{list_any}
use Rattle.std.specs.Str.{bytes_eq}
use Rattle.std.specs.Cmp.Lexicographic.{bytes_decides}
use Rattle.scope_terms.specs.Reading.{Reading, after_entering, after_leaving, current, entering, first_module, no_reading}
use Rattle.scope_terms.specs.Scopes.{Module, same_module, same_spelling}
use Rattle.scope_terms.specs.declared.modules.Entered.TheVariants.{Known, New, Open}
use Rattle.theory_walk.specs.Libraries.{Key}
use Rattle.theory_walk.specs.Walks.{is_module, module_in}
use Rattle.book_reader.specs.declared.walker.Walker.{Walker}
use Rattle.book_reader.specs.Ends.{IsNewTo, books_open}
use Rattle.book_reader.specs.Walkers.{books_in, has, opens_below}
use Rattle.book_reader.proofs.Keys.{IsNew, any_more, apart, first_false, is_new, known_last, not_both, own_bytes, second_false}
use Rattle.theory_reading.specs.Tied.{AreOpened, IsTied}

-- ---- names

unlike_by : (a b : List ℕ) (s : Bool) → same_spelling a b ≡ s → bytes_eq a b ≡ false → same_spelling a b ≡ false
unlike_by a b false is other = is
unlike_by a b true is other = not_both (bytes_eq a b) other (ap (bytes_eq a) (sym ((bytes_decides a b).0 is)) ∙ own_bytes a)

unlike : (a b : List ℕ) → bytes_eq a b ≡ false → same_spelling a b ≡ false
unlike a b = unlike_by a b (same_spelling a b) refl

-- a module that isn't the file's own
unlike_own : (own : Module) (m : List ℕ) → is_module m own ≡ false → same_module own (Some m) ≡ false
unlike_own None m is = refl
unlike_own (Some o) m is = unlike o m is

-- what isn't among more isn't among fewer
not_before : (known : List (List ℕ)) (m n : List ℕ) → has (known ++ m ∷ []) n ≡ false → has known n ≡ false
not_before [] m n is = refl
not_before (k ∷ known) m n is =
    ap (λ b. b || has known n) (first_false (bytes_eq n k) (has (known ++ m ∷ []) n) is) ∙ not_before known m n (second_false (bytes_eq n k) (has (known ++ m ∷ []) n) is)

-- what isn't among them isn't one of them
not_one : (known : List (List ℕ)) (m n : List ℕ) → has known m ≡ true → has known n ≡ false → bytes_eq m n ≡ false
not_one known m n has_m lacks = by (bytes_eq m n) refl
  where
    by : (b : Bool) → bytes_eq m n ≡ b → bytes_eq m n ≡ false
    by false is = is
    by true is = not_both (has known n) lacks (ap (has known) (sym (Rattle.book_reader.proofs.Keys.same_bytes m n is)) ∙ has_m)

opened_more : (known : List (List ℕ)) (m : List ℕ) (ms : List (List ℕ)) → AreOpened known ms → AreOpened (known ++ m ∷ []) ms
opened_more known m [] are = tt
opened_more known m (n ∷ ms) are = (any_more known m n are.0, opened_more known m ms are.1)

-- ---- keys

abbrev keys_of : List (List ℕ) → List Key
keys_of ms = map (λ m. Some m) ms ++ None ∷ []

abbrev modules_of : Module → List (List ℕ) → List Module
modules_of own ms = map (λ m. Some m) ms ++ own ∷ []

abbrev pub first_key : List Key → Key
first_key [] = None
first_key (k ∷ ks) = k

-- the file is open
not_own : (own : Module) (m : List ℕ) (ms : List (List ℕ)) → list_any (λ b. is_module m (module_in own b)) (keys_of ms) ≡ false → is_module m own ≡ false
not_own own m [] is = first_false (is_module m own) false is
not_own own m (n ∷ ms) is = not_own own m ms (second_false (is_module m (Some n)) (list_any (λ b. is_module m (module_in own b)) (keys_of ms)) is)

standing_new : (r : Reading) (m : Module) → r.standing m ≡ New → after_entering r m ≡ entering New r m
standing_new r m is = ap (λ t. entering t r m) is

-- ---- a file is begun

pub tied_first : (w : Walker) (r : Reading) → books_open w ≡ None ∷ [] → w.opened ≡ [] → r ≡ after_entering no_reading w.root.own → IsTied w r
tied_first w r books opened is = record {
  modules = [];
  books_are = books;
  opened_are = tt;
  entered_are = ap (λ (x : Reading). x.entered) is;
  fresh = λ m other unopened. ap (λ (x : Reading). x.standing (Some m)) is ∙ ap (λ b. if b then Open else New) (unlike_own w.root.own m other);
}

-- ---- a book is opened

pub tied_entered : (old new : Walker) (m : List ℕ) (r s : Reading) → IsTied old r → IsNewTo old m → books_open new ≡ Some m ∷ books_open old → new.opened ≡ old.opened ++ m ∷ [] → new.root ≡ old.root
    → s ≡ after_entering r (Some m) → IsTied new s
tied_entered old new m r s tied new_so books opened root is = record {
  modules = m ∷ tied.modules;
  books_are = books ∙ ap (λ ks. Some m ∷ ks) tied.books_are;
  opened_are = subst (λ k. AreOpened k (m ∷ tied.modules)) (sym opened) (known_last old.opened m, opened_more old.opened m tied.modules tied.opened_are);
  entered_are = ap (λ (x : Reading). x.entered) entered ∙ ap (λ ms. Some m ∷ ms) tied.entered_are ∙ ap (λ own. modules_of own (m ∷ tied.modules)) (sym (ap (λ root. root.own) root));
  fresh = λ n other unopened.
      let before : has (old.opened ++ m ∷ []) n ≡ false = ap (λ k. has k n) (sym opened) ∙ unopened in
      ap (λ (x : Reading). x.standing (Some n)) entered
      ∙ ap (λ b. if b then Open else r.standing (Some n)) (unlike m n (not_one (old.opened ++ m ∷ []) m n (known_last old.opened m) before))
      ∙ tied.fresh n (ap (λ root. is_module n root.own) (sym root) ∙ other) (not_before old.opened m n before);
}
  where
    is_so : IsNew old.root.own old.top.«module» (books_in (opens_below old)) old.opened m
    is_so = is_new old.root.own old.top.«module» (books_in (opens_below old)) old.opened m new_so

    none : list_any (λ b. is_module m (module_in old.root.own b)) (books_open old) ≡ false
    none = ap (λ b. b || list_any (λ b. is_module m (module_in old.root.own b)) (books_in (opens_below old))) is_so.other ∙ is_so.not_below

    entered : s ≡ entering New r (Some m)
    entered = is ∙ standing_new r (Some m)
        (tied.fresh m (not_own old.root.own m tied.modules (ap (list_any (λ b. is_module m (module_in old.root.own b))) (sym tied.books_are) ∙ none)) is_so.unknown)

-- ---- a book is given up

left_by : (old new : Walker) (r s : Reading) (book : Key) (ms : List (List ℕ)) → book ∷ books_open new ≡ keys_of ms → AreOpened old.opened ms → r.entered ≡ modules_of old.root.own ms
    → ((m : List ℕ) → is_module m old.root.own ≡ false → has old.opened m ≡ false → r.standing (Some m) ≡ New)
    → new.opened ≡ old.opened → new.root ≡ old.root → s ≡ after_leaving r → IsTied new s
left_by old new r s book [] books are entered fresh opened root is = absurd (let e : length (book ∷ books_open new) ≡ 1 = ap length books in omega (arith, e))
left_by old new r s book (m ∷ ms) books are entered fresh opened root is = record {
  modules = ms;
  books_are = ap (drop 1) books;
  opened_are = subst (λ k. AreOpened k ms) (sym opened) are.1;
  entered_are = ap (λ (x : Reading). x.entered) is ∙ ap (drop 1) entered ∙ ap (λ own. modules_of own ms) (sym (ap (λ root. root.own) root));
  fresh = λ n other unopened.
      let before : has old.opened n ≡ false = ap (λ k. has k n) (sym opened) ∙ unopened in
      ap (λ (x : Reading). x.standing (Some n)) is
      ∙ ap (λ (l : List Module). if same_module (first_module l) (Some n) then Known else r.standing (Some n)) entered
      ∙ ap (λ b. if b then Known else r.standing (Some n)) (unlike m n (not_one old.opened m n are.0 before))
      ∙ fresh n (ap (λ root. is_module n root.own) (sym root) ∙ other) before;
}

pub tied_left : (old new : Walker) (r s : Reading) → IsTied old r → (book : Key) × (books_open old ≡ book ∷ books_open new) × (new.opened ≡ old.opened) → new.root ≡ old.root → s ≡ after_leaving r → IsTied new s
tied_left old new r s tied moved root is =
    left_by old new r s moved.0 tied.modules (sym moved.1 ∙ tied.books_are) tied.opened_are tied.entered_are tied.fresh moved.2 root is

-- ---- nothing moves

pub tied_kept : (old new : Walker) (r s : Reading) → IsTied old r → books_open new ≡ books_open old → new.opened ≡ old.opened → new.root ≡ old.root → s.entered ≡ r.entered → s.standing ≡ r.standing → IsTied new s
tied_kept old new r s tied books opened root entered standing = record {
  modules = tied.modules;
  books_are = books ∙ tied.books_are;
  opened_are = subst (λ k. AreOpened k tied.modules) (sym opened) tied.opened_are;
  entered_are = entered ∙ tied.entered_are ∙ ap (λ own. modules_of own tied.modules) (sym (ap (λ root. root.own) root));
  fresh = λ m other unopened.
      ap (λ f. f (Some m)) standing ∙ tied.fresh m (ap (λ root. is_module m root.own) (sym root) ∙ other) (ap (λ k. has k m) (sym opened) ∙ unopened);
}

-- ---- what is being read

pub some_entered : (w : Walker) (r : Reading) → IsTied w r → 0 < length r.entered
some_entered w r tied =
    let e : length r.entered ≡ length (map (λ m. Some m) tied.modules) + 1 = ap length tied.entered_are ∙ length-append (map (λ m. Some m) tied.modules) (w.root.own ∷ []) in
    omega (arith, e)

reads_by : (own : Module) (book : Key) (later : List Key) (ms : List (List ℕ)) → book ∷ later ≡ keys_of ms → first_module (modules_of own ms) ≡ module_in own book
reads_by own book later [] is = ap (λ l. module_in own (first_key l)) (sym is)
reads_by own book later (m ∷ ms) is = ap (λ l. module_in own (first_key l)) (sym is)

-- the module being read is that of the book being read
pub reads_module : (w : Walker) (r : Reading) → IsTied w r → current r ≡ module_in w.root.own w.top.«module»
reads_module w r tied = ap first_module tied.entered_are ∙ reads_by w.root.own w.top.«module» (books_in (opens_below w)) tied.modules tied.books_are
