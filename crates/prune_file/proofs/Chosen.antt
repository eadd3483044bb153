-- The texts at the places of the commands on which one rests.
use Rattle.std.proofs.Common.{List, [], ◌∷◌, ◌++◌, length, map, take, drop, get_or, slice_get, slice_index_or, Contains, ◌⊎◌, inl, inr, eq-or-lt_of_le, ℕ, zero, suc, ◌≡◌, ◌<◌, ◌≤◌, ◌+◌, Bool, true, false, refl, ap, sym, subst, ◌∙◌, true≢false, arith, if◌then◌else◌}
use Rattle.std.specs.Prelude.{◌==◌, Some, None}
use Rattle.std.proofs.lemmas.Bool.Decides.{nat_tests}
use Rattle.dk_model.specs.declared.limits.Limits.{Limits}
use Rattle.verdict_book.specs.Report.{concat}
use Rattle.dk_lexer.specs.declared.token.Token.{Token}
use Rattle.dk_parser.specs.Modules.{is_directive}
use Rattle.dk_parser.specs.Written.{WrittenCommand}
use Rattle.scope_terms.specs.Scopes.{Module, no_symbols}
use Rattle.text_law.specs.Cuts.{AreCut, AreTextsOf, between, cut_none, cut_command, lines}
use Rattle.text_law.specs.Texts.{forms_of}
use Rattle.command_texts.specs.Spans.{cut}
use Rattle.command_texts.specs.declared.span.Span.{Span}
use Rattle.prune_theory.specs.Mentions.{IsAscending, MentionBefore, Rests}
use Rattle.prune_theory.specs.Renumbering.{picked}
use Rattle.prune_theory.proofs.Below.{AreNumbered, mentions_before, rests_before}
use Rattle.prune_file.specs.Commands.{AllBelow, Found, HasAll, at_places, spans_in}
use Rattle.prune_file.specs.Files.{IsAccepted, commands_in}
use Rattle.prune_file.specs.Laws.{text_at}
use Rattle.prune_file.specs.Pruned.{IsPruned, IsUnknown, declares, texts_in}
use Rattle.prune_file.proofs.Picks.{number_below}
use Rattle.prune_file.proofs.Scans.{same_commands, scoped_length}

-- a test for a member
abbrev pub has : List ℕ → ℕ → Bool
has [] i = false
has (j ∷ places) i = if j == i then true else has places i

has_member : (places : List ℕ) (i : ℕ) → has places i ≡ true → Contains places i
has_member [] i e = absurd (true≢false (sym e))
has_member (j ∷ places) i e = by (j == i) refl e (λ f. has_member places i f)
  where
    by : (b : Bool) → (j == i) ≡ b → (if b then true else has places i) ≡ true → (has places i ≡ true → Contains places i) → Contains (j ∷ places) i
    by true q e again = (0, omega arith, (let s : j ≡ i = grind (arith, nat_tests, q) in s))
    by false q e again = let m = again e in (suc m.0, (let l : m.0 < length places = m.1 in omega (arith, l)), m.2)

or_rest : (b : Bool) (places : List ℕ) (i : ℕ) → has places i ≡ true → (if b then true else has places i) ≡ true
or_rest true places i r = refl
or_rest false places i r = r

member_at : (places : List ℕ) (i k : ℕ) → k < length places → slice_index_or places k i ≡ i → has places i ≡ true
member_at [] i k l e = absurd (omega (arith, l))
member_at (j ∷ places) i zero l e = ap (λ (b : Bool). if b then true else has places i) (let q : (j == i) ≡ true = grind (arith, nat_tests, e) in q)
member_at (j ∷ places) i (suc k) l e = or_rest (j == i) places i (member_at places i k (omega (arith, l)) e)

member_has : (places : List ℕ) (i : ℕ) → Contains places i → has places i ≡ true
member_has places i m = member_at places i m.0 m.1 m.2

-- ---- what is picked are those at the places

later : (xs : List ℕ) (x j : ℕ) → Contains xs j → Contains (x ∷ xs) j
later xs x j m = (suc m.0, omega arith, m.2)

-- another member of a list than its first
among_rest : (xs : List ℕ) (x j : ℕ) → Contains (x ∷ xs) j → ¬ (x ≡ j) → Contains xs j
among_rest xs x j m not = by m.0 m.1 m.2
  where
    by : (k : ℕ) → k < length (x ∷ xs) → slice_index_or (x ∷ xs) k j ≡ j → Contains xs j
    by zero l e = absurd (not e)
    by (suc k) l e = (k, omega (arith, l), e)

not_kept : (b : Bool) → ¬ (b ≡ true) → b ≡ false
not_kept true h = absurd (h refl)
not_kept false h = refl

behind_front : {A : Type 0} (front : List A) (x : A) (xs : List A) → take 1 (drop (length front) (front ++ x ∷ xs)) ≡ x ∷ []
behind_front [] x xs = refl
behind_front (y ∷ front) x xs = behind_front front x xs

abbrev Lie : ℕ → ℕ → List ℕ → Type 0
Lie n m places = (i : ℕ) → Contains places i → (n ≤ i) × (i < m)

shifted : {A : Type 0} (front : List A) (x : A) (xs : List A) → front ++ x ∷ xs ≡ (front ++ x ∷ []) ++ xs
shifted [] x xs = refl
shifted {A = A} (y ∷ front) x xs = ap (λ (zs : List A). y ∷ zs) (shifted front x xs)

grown : {A : Type 0} (front : List A) (x : A) → length (front ++ x ∷ []) ≡ suc (length front)
grown [] x = refl
grown (y ∷ front) x = ap suc (grown front x)

-- the first of ascending places, none of them below `n`, is `n` where that is among them
first_is : (n p : ℕ) (ps : List ℕ) → IsAscending (p ∷ ps) → n ≤ p → Contains (p ∷ ps) n → p ≡ n
first_is n p ps asc low m = at m.0 m.1 m.2
  where
    at : (k : ℕ) → k < length (p ∷ ps) → slice_index_or (p ∷ ps) k n ≡ n → p ≡ n
    at zero l s = s
    at (suc k) l s = let q : p < n = asc.0 n (k, (let r : k < length ps = omega (arith, l) in r), s) in absurd (omega (arith, q, low))

-- a number that isn't below another, and is another
beyond : (n i : ℕ) → n ≤ i → ¬ (i ≡ n) → suc n ≤ i
beyond n i low not = by (eq-or-lt_of_le low)
  where
    by : (n ≡ i) ⊎ (n < i) → suc n ≤ i
    by (inl e) = absurd (not (sym e))
    by (inr l) = l

module _ {A : Type 0} (keep : ℕ → Bool) (all : List A) where
  abbrev IsKept : ℕ → List ℕ → Type 0
  IsKept n places = (i : ℕ) → n ≤ i → keep i ≡ true → Contains places i

  abbrev AreAllKept : List ℕ → Type 0
  AreAllKept places = (i : ℕ) → Contains places i → keep i ≡ true

  -- the front of the list was gone through, and the places are those that are kept of the rest
  abbrev PickedAt : ℕ → List A → List ℕ → Type 0
  PickedAt n xs places = picked keep n xs ≡ at_places all places

  -- one more place was gone through
  one_picked : (n : ℕ) (x : A) (xs front : List A) (places : List ℕ) (b : Bool) → keep n ≡ b → all ≡ front ++ x ∷ xs → length front ≡ n → IsAscending places → Lie n (n + length (x ∷ xs)) places → IsKept n places → AreAllKept places
      → ((places : List ℕ) → IsAscending places → Lie (suc n) (suc n + length xs) places → IsKept (suc n) places → AreAllKept places → PickedAt (suc n) xs places)
      → (if b then x ∷ picked keep (suc n) xs else picked keep (suc n) xs) ≡ at_places all places
  one_picked n x xs front [] true e split size asc lie kept keeps next = let m = kept n (omega arith) e in let l : m.0 < length {A = ℕ} [] = m.1 in absurd (omega (arith, l))
  one_picked n x xs front [] false e split size asc lie kept keeps next =
      next [] tt (λ i m. absurd (none i m)) (λ i l k. kept i (let r : n ≤ i = omega (arith, l) in r) k) keeps
    where
      none : (i : ℕ) → Contains [] i → ⊥
      none i m = let l : m.0 < length {A = ℕ} [] = m.1 in omega (arith, l)
  one_picked n x xs front (p ∷ ps) true e split size asc lie kept keeps next =
      let low : n ≤ p = (lie p (0, omega arith, refl)).0 in
      let first : p ≡ n = first_is n p ps asc low (kept n (omega arith) e) in
      ap (λ (zs : List A). x ∷ zs) (next ps asc.1
      (λ i c.
      let l : p < i = asc.0 i c in
      let v : i < n + length (x ∷ xs) = (lie i (later ps p i c)).1 in
      ((let q : suc n ≤ i = omega (arith, l, first) in q), (let r : i < suc n + length xs = omega (arith, v) in r)))
      (λ i l k. among_rest ps p i (kept i (let r : n ≤ i = omega (arith, l) in r) k) (λ s. absurd (omega (arith, l, s, first))))
      (λ i c. keeps i (later ps p i c)))
      ∙ ap (λ (zs : List A). zs ++ at_places all ps) (sym (ap (λ k. take 1 (drop k all)) (first ∙ sym size) ∙ ap (λ zs. take 1 (drop (length front) zs)) split ∙ behind_front front x xs))
  one_picked n x xs front (p ∷ ps) false e split size asc lie kept keeps next =
      next (p ∷ ps) asc
      (λ i c.
      let w : n ≤ i = (lie i c).0 in
      let v : i < n + length (x ∷ xs) = (lie i c).1 in
      (beyond n i w (λ s. true≢false (sym (keeps i c) ∙ ap keep s ∙ e)), (let r : i < suc n + length xs = omega (arith, v) in r)))
      (λ i l k. kept i (let r : n ≤ i = omega (arith, l) in r) k) keeps

  pub picked_at : (n : ℕ) (xs front : List A) (places : List ℕ) → all ≡ front ++ xs → length front ≡ n → IsAscending places → Lie n (n + length xs) places → IsKept n places → AreAllKept places → PickedAt n xs places
  picked_at n [] front [] split size asc lie kept keeps = refl
  picked_at n [] front (p ∷ ps) split size asc lie kept keeps =
      let a : n ≤ p = (lie p (0, omega arith, refl)).0 in
      let b : p < n + length {A = A} [] = (lie p (0, omega arith, refl)).1 in
      absurd (omega (arith, a, b))
  picked_at n (x ∷ xs) front places split size asc lie kept keeps =
      one_picked n x xs front places (keep n) refl split size asc lie kept keeps
      (λ ps a l k j. picked_at (suc n) xs (front ++ x ∷ []) ps (split ∙ shifted front x xs) (grown front x ∙ ap suc size) a l k j)

-- ---- texts by their spans

picked_map : {A B : Type 0} (f : A → B) (keep : ℕ → Bool) (n : ℕ) (xs : List A) → picked keep n (map f xs) ≡ map f (picked keep n xs)
picked_map f keep n [] = refl
picked_map {B = B} f keep n (x ∷ xs) = by (keep n) (picked_map f keep (suc n) xs)
  where
    by : (b : Bool) → picked keep (suc n) (map f xs) ≡ map f (picked keep (suc n) xs) → (if b then f x ∷ picked keep (suc n) (map f xs) else picked keep (suc n) (map f xs)) ≡ map f (if b then x ∷ picked keep (suc n) xs else picked keep (suc n) xs)
    by true rest = ap (λ (ys : List B). f x ∷ ys) rest
    by false rest = rest

texts_cut : (bytes : List ℕ) (cs : List WrittenCommand) (spans : List Span) → texts_in cs (cut bytes spans) ≡ cut bytes (spans_in cs spans)
texts_cut bytes [] spans = refl
texts_cut bytes (c ∷ cs) [] = refl
texts_cut bytes (c ∷ cs) (s ∷ spans) = by (is_directive c.form) (texts_cut bytes cs spans)
  where
    by : (d : Bool) → texts_in cs (cut bytes spans) ≡ cut bytes (spans_in cs spans) → (if d then texts_in cs (cut bytes spans) else between bytes s.begin s.end ∷ texts_in cs (cut bytes spans)) ≡ cut bytes (if d then spans_in cs spans else s ∷ spans_in cs spans)
    by true rest = rest
    by false rest = ap (λ (ts : List (List ℕ)). between bytes s.begin s.end ∷ ts) rest

-- each command has its span
cut_length : {bytes : List ℕ} {ts : List Token} {cs : List WrittenCommand} {texts : List (List ℕ)} → AreCut bytes ts cs texts → length texts ≡ length cs
cut_length cut_none = refl
cut_length (cut_command spells rest) = ap suc (cut_length rest)

map_length : (bytes : List ℕ) (spans : List Span) → length (cut bytes spans) ≡ length spans
map_length bytes [] = refl
map_length bytes (s ∷ spans) = ap suc (map_length bytes spans)

spans_length : (cs : List WrittenCommand) (spans : List Span) → length spans ≡ length cs → length (spans_in cs spans) ≡ length (commands_in cs)
spans_length [] spans e = refl
spans_length (c ∷ cs) [] e = absurd (omega (arith, e))
spans_length (c ∷ cs) (s ∷ spans) e = by (is_directive c.form) (spans_length cs spans (let q : suc (length spans) ≡ suc (length cs) = e in omega (arith, q)))
  where
    by : (d : Bool) → length (spans_in cs spans) ≡ length (commands_in cs) → length (if d then spans_in cs spans else s ∷ spans_in cs spans) ≡ length (if d then commands_in cs else c ∷ commands_in cs)
    by true e = e
    by false e = ap suc e

each_below : (n : ℕ) (ps : List ℕ) → ((i : ℕ) → Contains ps i → i < n) → AllBelow n ps
each_below n [] h = tt
each_below n (p ∷ ps) h = (h p (0, omega arith, refl), each_below n ps (λ i m. h i (later ps p i m)))

-- ---- steps of the loops

-- one of a list, and then the others
one_at : {A : Type 0} (xs : List A) (i : ℕ) (x : A) → slice_get xs i ≡ Some x → take 1 (drop i xs) ≡ x ∷ []
one_at [] i x e = absurd cc
one_at (y ∷ xs) zero x e = same y x e
  where
    same : {A : Type 0} (y x : A) → Some y ≡ Some x → y ∷ [] ≡ x ∷ []
    same y x e = cc
one_at (y ∷ xs) (suc i) x e = one_at xs i x e

append_assoc : {A : Type 0} (xs ys zs : List A) → (xs ++ ys) ++ zs ≡ xs ++ (ys ++ zs)
append_assoc [] ys zs = refl
append_assoc {A = A} (x ∷ xs) ys zs = ap (λ (rest : List A). x ∷ rest) (append_assoc xs ys zs)

pub read_at : {A : Type 0} (xs : List A) (i : ℕ) (d : A) → i < length xs → slice_get xs i ≡ Some (get_or xs i d)
read_at {A = A} [] i d l = let m : i < length {A = A} [] = l in absurd (omega (arith, m))
read_at (x ∷ xs) zero d l = refl
read_at (x ∷ xs) (suc i) d l = read_at xs i d (let m : suc i < suc (length xs) = l in omega (arith, m))

pub one_more : {A : Type 0} (xs : List A) (places rest others : List ℕ) (place : ℕ) (some later : List A) {x : A} → rest ≡ place ∷ others → slice_get xs place ≡ Some x → later ≡ some ++ x ∷ []
    → some ++ at_places xs rest ≡ at_places xs places → later ++ at_places xs others ≡ at_places xs places
one_more xs places rest others place some later {x} is has more before =
    ap (λ ys. ys ++ at_places xs others) more ∙ append_assoc some (x ∷ []) (at_places xs others)
    ∙ ap (λ ys. some ++ (ys ++ at_places xs others)) (sym (one_at xs place x has)) ∙ ap (λ ps. some ++ at_places xs ps) (sym is) ∙ before

pub texts_next : (bytes : List ℕ) (rest others : List Span) (span : Span) (text whole done : List ℕ) → rest ≡ span ∷ others → text ≡ between bytes span.begin span.end → whole ≡ done ++ text_at bytes rest
    → whole ≡ (done ++ (text ++ 10 ∷ [])) ++ text_at bytes others
texts_next bytes rest others span text whole done is text_is before =
    before ∙ ap (λ spans. done ++ text_at bytes spans) is ∙ ap (λ t. done ++ ((t ++ 10 ∷ []) ++ text_at bytes others)) (sym text_is) ∙ sym (append_assoc done (text ++ 10 ∷ []) (text_at bytes others))

pub as_many : {A B : Type 0} (f : A → B) (xs : List A) → length (map f xs) ≡ length xs
as_many f [] = refl
as_many f (x ∷ xs) = ap suc (as_many f xs)

-- ---- what is found of an accepted file

module _ (limits : Limits) (own : Module) (budget : ℕ) (name bytes : List ℕ) (all : List Span) (s : Found) (file : IsAccepted limits own budget bytes)
    (texts : AreTextsOf limits bytes file.items (cut bytes all)) (found : HasAll own name file.items all s) where
  commands_are : s.commands ≡ file.commands
  commands_are = same_commands own (forms_of (commands_in file.items)) s.commands file.accepted found.scoped

  -- each mentions only what stands before it
  pub mention_before : MentionBefore s.commands
  mention_before = subst MentionBefore (sym commands_are) (λ i j c g m. let l : j < 0 + i = mentions_before 0 file.accepted none_numbered refl i j c g m in omega (arith, l))
    where
      none_numbered : AreNumbered no_symbols
      none_numbered m x k e = absurd cc

  -- there are as many commands as spans
  pub count_is : length s.commands ≡ length s.spans
  count_is =
      scoped_length own no_symbols (commands_in file.items) s.commands found.scoped
      ∙ sym (spans_length file.items all (sym (map_length bytes all) ∙ cut_length texts))
      ∙ ap length (sym found.spans_are)

  module _ (place : ℕ) (is : s.place ≡ Some place) where
    -- the place of the one that declares the name
    pub place_is : place < length s.commands
    place_is =
        let l : place < 0 + length (commands_in file.items) = number_below (λ c. declares name c.form) 0 (commands_in file.items) place (sym found.place ∙ is) in
        let e : length s.commands ≡ length (commands_in file.items) = scoped_length own no_symbols (commands_in file.items) s.commands found.scoped in
        omega (arith, l, e)

    module _ (places : List ℕ) (all_rest : (i : ℕ) → Rests s.commands place i → Contains places i) (only_rest : (i : ℕ) → Contains places i → Rests s.commands place i) where
      places_below : (i : ℕ) → Contains places i → i < length s.spans
      places_below i m =
          let r : Rests file.commands place i = subst (λ cs. Rests cs place i) commands_are (only_rest i m) in
          let l : i ≤ place = rests_before file.accepted place r in
          let b : place < length s.commands = place_is in
          let e : length s.commands ≡ length s.spans = count_is in
          omega (arith, l, b, e)

      pub all_below : AllBelow (length s.spans) places
      all_below = each_below (length s.spans) places places_below

      pub is_pruned : IsAscending places → IsPruned limits own budget name bytes (concat (lines (cut bytes (at_places s.spans places))))
      is_pruned ascending = record {
        file = file;
        texts = cut bytes all;
        texts_are = texts;
        place = place;
        declared = sym found.place ∙ is;
        keep = has places;
        kept_rests = λ i e. subst (λ cs. Rests cs place i) commands_are (only_rest i (has_member places i e));
        rests_kept = λ i r. member_has places i (all_rest i (subst (λ cs. Rests cs place i) (sym commands_are) r));
        text_is = ap (λ ts. concat (lines ts)) (
            ap (cut bytes) (sym (picked_at (has places) s.spans 0 s.spans [] places refl refl ascending (λ i m. let l : i < length s.spans = places_below i m in ((let z : 0 ≤ i = omega arith in z), (let q : i < 0 + length s.spans = omega (arith, l) in q))) (λ i l e. has_member places i e) (λ i m. member_has places i m)))
            ∙ sym (picked_map (λ (x : Span). between bytes x.begin x.end) (has places) 0 s.spans)
            ∙ ap (λ xs. picked (has places) 0 (cut bytes xs)) found.spans_are
            ∙ ap (picked (has places) 0) (sym (texts_cut bytes file.items all)));
      }

-- no command declares the name
pub is_unknown : (limits : Limits) (own : Module) (budget : ℕ) (name bytes : List ℕ) (all : List Span) (s : Found) (file : IsAccepted limits own budget bytes) → HasAll own name file.items all s → s.place ≡ None
    → IsUnknown limits name bytes
is_unknown limits own budget name bytes all s file found is = record { items = file.items; reads = file.reads; none = sym found.place ∙ is }
