-- What changes of the modules are to what callers see of them.
use Rattle.std.proofs.Common.{OnErr, ◌≡◌, ◌≤◌, ◌<◌, ◌∙◌, sym, ap, subst, refl, ℕ, ◌+◌, ◌-◌, arith, Bool, true, false, if◌then◌else◌, List, [], ◌∷◌, ◌++◌, length, map, All}
use Rattle.std.proofs.lemmas.List.{get_or_append_left, get_or-reverse, length-append, length-reverse, map-append, reverse-append}
use Rattle.std.proofs.lemmas.List.Elements.{All-head, All-push, All-tail}
use Rattle.std.specs.Prelude.{Ok, Err, Option, None, Some, Result, reverse, drop, slice_get, slice_index_or}
use Rattle.std.specs.Option.{option_map}
use Rattle.scope_terms.specs.Scopes.{Module, Spelling, same_module, with_number, with_symbol}
use Rattle.scope_terms.specs.Reading.{Reading, after_leaving, current, first_module, with_own_name, with_standing, with_symbols}
use Rattle.scope_terms.specs.Modules.{Changes, HasName, IsKept, IsWithin, KeepsPlaces, first_place, known_of, module_at, past, reading_of, spelt_at, standing_so, with_name_in}
use Rattle.scope_terms.specs.declared.modules.Declared.{Declared}
use Rattle.scope_terms.specs.declared.modules.Entered.{Entered}
use Rattle.scope_terms.specs.declared.modules.Entered.TheVariants.{Known, Open}
use Rattle.scope_terms.specs.declared.modules.Modules.{Modules}
use Rattle.scope_terms.specs.declared.modules.Place.{Place}
use Rattle.scope_terms.specs.declared.spelt.Symbol.{Symbol}
use Rattle.scope_terms.proofs.Known.{get_before, get_last, same_is, same_self}

-- what holds whatever the answer
pub on_err : {A E : Type 0} (r : Result A E) (P : Type 0) → P → OnErr r P
on_err (Ok a) P p = tt
on_err (Err e) P p = p

-- a reading by its parts
pub reading_is : (a b : Reading) → ((m : Module) → a.symbols.declared m ≡ b.symbols.declared m) → a.symbols.spelt ≡ b.symbols.spelt → a.symbols.count ≡ b.symbols.count → a.entered ≡ b.entered → ((m : Module) → a.standing m ≡ b.standing m) → a ≡ b
reading_is a b declared spelt count entered standing = λ i. record {
  symbols = record { declared = λ m. declared m i; spelt = spelt i; count = count i };
  entered = entered i;
  standing = λ m. standing m i;
}

-- each place has a module
abbrev pub AreWithin : Modules → List Place → Type 0
AreWithin ms ps = All (λ p. past p ≤ length ms.named.entries) ps

all_reverse : {X : Type 0} (P : X → Type 0) (xs : List X) → All P xs → All P (reverse xs)
all_reverse P xs h k d lt =
    let count = length-reverse xs in
    subst P (sym (get_or-reverse xs k d (omega arith))) (h (length xs - 1 - k) d (omega arith))

all_front : {X : Type 0} (P : X → Type 0) (xs ys : List X) → All P (xs ++ ys) → All P xs
all_front P xs ys h k d lt =
    let count = length-append xs ys in
    subst P (get_or_append_left xs ys d k lt) (h k d (omega arith))

kept_in_order : (old new : Modules) (ps : List Place) → KeepsPlaces old new → AreWithin old ps → map (module_at new) ps ≡ map (module_at old) ps
kept_in_order old new [] keeps within = refl
kept_in_order old new (p ∷ ps) keeps within = λ i. keeps.same p (All-head (IsWithin old) p ps within) i ∷ kept_in_order old new ps keeps (All-tail (IsWithin old) p ps within) i

kept_modules : (old new : Modules) (ps : List Place) → KeepsPlaces old new → AreWithin old ps → map (module_at new) (reverse ps) ≡ map (module_at old) (reverse ps)
kept_modules old new ps keeps within = kept_in_order old new (reverse ps) keeps (all_reverse (IsWithin old) ps within)

pub kept_within : (old new : Modules) (ps : List Place) → KeepsPlaces old new → AreWithin old ps → AreWithin new ps
kept_within old new ps keeps within = λ k d lt. keeps.within (slice_index_or ps k d) (within k d lt)

-- the module at the last place comes first
entered_last : (ms : Modules) (qs : List Place) (p : Place) → map (module_at ms) (reverse (qs ++ p ∷ [])) ≡ module_at ms p ∷ map (module_at ms) (reverse qs)
entered_last ms qs p = ap (map (module_at ms)) (reverse-append qs (p ∷ []))

first_seen : (ms : Modules) (ps : List Place) → first_module (map (module_at ms) ps) ≡ module_at ms (first_place ps)
first_seen ms [] = refl
first_seen ms (p ∷ ps) = refl

-- the module being read stands at the last place
pub current_is : (ms : Modules) (ps : List Place) (ss : List (Option Symbol)) (count : ℕ) → current (reading_of ms ps ss count) ≡ module_at ms (first_place (reverse ps))
current_is ms ps ss count = first_seen ms (reverse ps)

-- that place has a module
pub last_within : (ms : Modules) (ps : List Place) → AreWithin ms ps → IsWithin ms (first_place (reverse ps))
last_within ms ps within = by (reverse ps) (all_reverse (IsWithin ms) ps within)
  where
    by : (qs : List Place) → AreWithin ms qs → IsWithin ms (first_place qs)
    by [] all = omega arith
    by (q ∷ qs) all = All-head (IsWithin ms) q qs all

-- ---- by what is known of one module

module _ (ms : Modules) (m n : Module) (d : Declared) where
  abbrev chosen : Bool → Declared
  chosen b = if b then d else known_of ms n

  -- what two modules of one name and any others have
  pub of_same : {A : Type 0} (f : Declared → A) → f d ≡ f (known_of ms m) → f (chosen (same_module m n)) ≡ f (known_of ms n)
  of_same f is = by (same_module m n) refl
    where
      by : (b : Bool) → same_module m n ≡ b → f (chosen (same_module m n)) ≡ f (known_of ms n)
      by true e = ap (λ b. f (chosen b)) e ∙ is ∙ ap (λ o. f (known_of ms o)) (same_is m n e)
      by false e = ap (λ b. f (chosen b)) e

  abbrev due : {A : Type 0} → (Declared → A) → (A → A) → Bool → A
  due f g b = if b then g (f (known_of ms n)) else f (known_of ms n)

  pub of_changed : {A : Type 0} (f : Declared → A) (g : A → A) → f d ≡ g (f (known_of ms m)) → f (chosen (same_module m n)) ≡ due f g (same_module m n)
  of_changed f g is = by (same_module m n) refl
    where
      by : (b : Bool) → same_module m n ≡ b → f (chosen (same_module m n)) ≡ due f g (same_module m n)
      by true e = ap (λ b. f (chosen b)) e ∙ is ∙ ap (λ o. g (f (known_of ms o))) (same_is m n e) ∙ ap (due f g) (sym e)
      by false e = ap (λ b. f (chosen b)) e ∙ ap (due f g) (sym e)

-- ---- symbols, by where their names are kept

abbrev Table : Type 0
Table = List (Spelling × ℕ)

-- names are added behind those that are there
record Grows (t u : Table) : Type 0 where
  longer : length t ≤ length u
  same : (k : ℕ) → k < length t → slice_get u k ≡ slice_get t k

grows_same : (t u : Table) → u ≡ t → Grows t u
grows_same t u is = record { longer = subst (λ l. length t ≤ length l) (sym is) (omega arith); same = λ k lt. ap (λ l. slice_get l k) is }

grows_more : (t : Table) (x : Spelling) (n : ℕ) → Grows t (t ++ (x, n) ∷ [])
grows_more t x n = record {
  longer = let e = length-append t ((x, n) ∷ []) in omega arith;
  same = λ k lt. get_before t (x, n) k (omega arith);
}

-- a module's names grow where it is the one that changes, and stay else
grown : (old : Modules) (m n : Module) (d e : Declared) → Grows (known_of old m).table d.table → e ≡ (if same_module m n then d else known_of old n) → Grows (known_of old n).table e.table
grown old m n d e more is = by (same_module m n) refl is
  where
    by : (b : Bool) → same_module m n ≡ b → e ≡ (if b then d else known_of old n) → Grows (known_of old n).table e.table
    by true same it = subst (λ (o : Module). Grows (known_of old o).table e.table) (same_is m n same) (subst (λ (t : Table). Grows (known_of old m).table t) (sym (ap (λ (o : Declared). o.table) it)) more)
    by false same it = grows_same _ _ (ap (λ (o : Declared). o.table) it)

-- each has its place and its name
abbrev pub AreKept : Modules → List (Option Symbol) → Type 0
AreKept ms ss = All (IsKept ms) ss

module _ (old new : Modules) (keeps : KeepsPlaces old new) (grow : (m : Module) → Grows (known_of old m).table (known_of new m).table) where
  symbol_same : (s : Option Symbol) → IsKept old s → spelt_at new s ≡ spelt_at old s
  symbol_same None is = refl
  symbol_same (Some s) is =
      let has = is s refl in
      ap (λ m. option_map (λ (e : Spelling × ℕ). (m, e.0)) (slice_get (known_of new m).table s.at)) (keeps.same s.place has.0)
      ∙ ap (option_map (λ (e : Spelling × ℕ). (module_at old s.place, e.0))) ((grow (module_at old s.place)).same s.at has.1)

  symbol_kept : (s : Option Symbol) → IsKept old s → IsKept new s
  symbol_kept s is = λ k e.
      let has = is k e in
      let longer = (grow (module_at old k.place)).longer in
      let within = has.1 in
      (keeps.within k.place has.0, subst (λ m. k.at < length (known_of new m).table) (sym (keeps.same k.place has.0)) (omega arith))

  symbols_same : (ss : List (Option Symbol)) → AreKept old ss → map (spelt_at new) ss ≡ map (spelt_at old) ss
  symbols_same [] all = refl
  symbols_same (s ∷ ss) all = λ i. symbol_same s (All-head (IsKept old) s ss all) i ∷ symbols_same ss (All-tail (IsKept old) s ss all) i

  symbols_kept : (ss : List (Option Symbol)) → AreKept old ss → AreKept new ss
  symbols_kept ss all = λ k d lt. symbol_kept (slice_index_or ss k d) (all k d lt)

-- by what is known of one module
module _ (old new : Modules) (m : Module) (d : Declared) (more : Grows (known_of old m).table d.table) (changes : Changes old new m d) where
  changed_grow : (n : Module) → Grows (known_of old n).table (known_of new n).table
  changed_grow n = grown old m n d (known_of new n) more (changes.known n)

  changed_same : (ss : List (Option Symbol)) → AreKept old ss → map (spelt_at new) ss ≡ map (spelt_at old) ss
  changed_same = symbols_same old new changes.places changed_grow

  changed_kept : (ss : List (Option Symbol)) → AreKept old ss → AreKept new ss
  changed_kept = symbols_kept old new changes.places changed_grow

-- nothing is known that wasn't
pub same_kept : (old new : Modules) (ss : List (Option Symbol)) → ((m : Module) → known_of new m ≡ known_of old m) → KeepsPlaces old new → AreKept old ss → AreKept new ss
same_kept old new ss known keeps = symbols_kept old new keeps (λ m. grows_same _ _ (ap (λ (d : Declared). d.table) (known m))) ss

-- names stay where a module stands otherwise
pub standing_kept : (old new : Modules) (m : Module) (how : Entered) (ss : List (Option Symbol)) → Changes old new m (standing_so (known_of old m) how) → AreKept old ss → AreKept new ss
standing_kept old new m how ss changes = changed_kept old new m (standing_so (known_of old m) how) (grows_same _ _ refl) changes ss

pub unchanged_kept : (old new : Modules) (m : Module) (ss : List (Option Symbol)) → Changes old new m (known_of old m) → AreKept old ss → AreKept new ss
unchanged_kept old new m ss changes = changed_kept old new m (known_of old m) (grows_same _ _ refl) changes ss

-- one more name, at the end of its module's
module _ (old new : Modules) (p : Place) (x : Spelling) (n : ℕ) (ss : List (Option Symbol)) (within : IsWithin old p) (changes : Changes old new (module_at old p) (with_name_in (known_of old (module_at old p)) x n)) (kept : AreKept old ss) where
  abbrev home : Module
  home = module_at old p

  abbrev last : Symbol
  last = record { place = p; at = length (known_of old home).table }

  more : Grows (known_of old home).table (with_name_in (known_of old home) x n).table
  more = grows_more (known_of old home).table x n

  table : (known_of new home).table ≡ (known_of old home).table ++ (x, n) ∷ []
  table = ap (λ (d : Declared). d.table) (changes.known home) ∙ ap (λ b. (if b then with_name_in (known_of old home) x n else known_of old home).table) (same_self home)

  last_spelt : spelt_at new (Some last) ≡ Some (home, x)
  last_spelt =
      ap (λ m. option_map (λ (e : Spelling × ℕ). (m, e.0)) (slice_get (known_of new m).table last.at)) (changes.places.same p within)
      ∙ ap (λ t. option_map (λ (e : Spelling × ℕ). (home, e.0)) (slice_get t last.at)) table
      ∙ ap (option_map (λ (e : Spelling × ℕ). (home, e.0))) (get_last (known_of old home).table (x, n))

  some_same : (s t : Symbol) → Some s ≡ Some t → s ≡ t
  some_same s t is = cc

  last_named : HasName new last
  last_named =
      let e = length-append (known_of old home).table ((x, n) ∷ []) in
      (changes.places.within p within, subst (λ m. last.at < length (known_of new m).table) (sym (changes.places.same p within)) (subst (λ t. last.at < length t) (sym table) (omega arith)))

  last_kept : IsKept new (Some last)
  last_kept = λ k is. subst (HasName new) (some_same last k is) last_named

  pub added_kept : AreKept new (ss ++ Some last ∷ [])
  added_kept = All-push (IsKept new) ss (Some last) (changed_kept old new home (with_name_in (known_of old home) x n) more changes ss kept) last_kept

  pub added_spelt : map (spelt_at new) (ss ++ Some last ∷ []) ≡ map (spelt_at old) ss ++ Some (home, x) ∷ []
  added_spelt =
      map-append (spelt_at new) ss (Some last ∷ [])
      ∙ (λ i. changed_same old new home (with_name_in (known_of old home) x n) more changes ss kept i ++ last_spelt i ∷ [])

-- ---- what callers see

module _ (old new : Modules) (ps : List Place) (ss : List (Option Symbol)) (count : ℕ) (within : AreWithin old ps) (kept : AreKept old ss) where
  abbrev before : Reading
  before = reading_of old ps ss count

  -- nothing is known that wasn't
  pub reading_kept : ((m : Module) → known_of new m ≡ known_of old m) → KeepsPlaces old new → reading_of new ps ss count ≡ before
  reading_kept known keeps = reading_is _ _ (λ m. ap (λ d. d.table) (known m)) (symbols_same old new keeps (λ m. grows_same _ _ (ap (λ (d : Declared). d.table) (known m))) ss kept) refl (kept_modules old new ps keeps within) (λ m. ap (λ d. d.standing) (known m))

  module _ (m : Module) where
    pub reading_same : Changes old new m (known_of old m) → reading_of new ps ss count ≡ before
    reading_same changes = reading_kept (λ n. changes.known n ∙ of_same old m n (known_of old m) (λ d. d) refl) changes.places

    -- another standing, and any modules entered
    pub reading_stands : (how : Entered) (qs : List Place) (entered : List Module) → AreWithin old qs → map (module_at old) (reverse qs) ≡ entered → Changes old new m (standing_so (known_of old m) how) → reading_of new qs ss count ≡ with_standing before entered m how
    reading_stands how qs entered all are changes =
        let d = standing_so (known_of old m) how in
        reading_is _ _
        (λ n. ap (λ o. o.table) (changes.known n) ∙ of_same old m n d (λ o. o.table) refl)
        (changed_same old new m d (grows_same _ _ refl) changes ss kept)
        refl
        (kept_modules old new qs changes.places all ∙ are)
        (λ n. ap (λ o. o.standing) (changes.known n) ∙ of_changed old m n d (λ o. o.standing) (λ s. how) refl)

  -- one more name
  module _ (p : Place) where
    abbrev here : Module
    here = module_at old p

    pub reading_added : (x : Spelling) → IsWithin old p → here ≡ current before → Changes old new here (with_name_in (known_of old here) x count)
        → reading_of new ps (ss ++ Some (record { place = p; at = length (known_of old here).table }) ∷ []) (count + 1) ≡ with_own_name before x
    reading_added x has is changes =
        let d = with_name_in (known_of old here) x count in
        reading_is _ _
        (λ n. ap (λ o. o.table) (changes.known n) ∙ of_changed old here n d (λ o. o.table) (λ t. t ++ (x, count) ∷ []) refl
        ∙ ap (λ o. (with_symbol before.symbols o x).declared n) is)
        (added_spelt old new p x count ss has changes kept ∙ ap (λ o. map (spelt_at old) ss ++ Some (o, x) ∷ []) is)
        refl
        (kept_modules old new ps changes.places within)
        (λ n. ap (λ o. o.standing) (changes.known n) ∙ of_same old here n d (λ o. o.standing) refl)

-- the module at the last place is left
pub reading_left : (old new : Modules) (qs : List Place) (p : Place) (ss : List (Option Symbol)) (count : ℕ) → AreWithin old (qs ++ p ∷ []) → AreKept old ss → Changes old new (module_at old p) (standing_so (known_of old (module_at old p)) Known)
    → reading_of new qs ss count ≡ after_leaving (reading_of old (qs ++ p ∷ []) ss count)
reading_left old new qs p ss count within kept changes =
    let last = entered_last old qs p in
    reading_stands old new (qs ++ p ∷ []) ss count within kept (module_at old p) Known qs (map (module_at old) (reverse qs)) (all_front (IsWithin old) qs (p ∷ []) within) refl changes
    ∙ ap (λ ms. with_standing (reading_of old (qs ++ p ∷ []) ss count) (drop 1 ms) (first_module ms) Known) (sym last)

-- a module is entered, at a place that was made where it had none
pub reading_entered : (old mid new : Modules) (ps : List Place) (p : Place) (m : Module) (ss : List (Option Symbol)) (count : ℕ) → AreWithin old ps → AreKept old ss → ((n : Module) → known_of mid n ≡ known_of old n) → KeepsPlaces old mid → IsWithin mid p → module_at mid p ≡ m → Changes mid new (module_at mid p) (standing_so (known_of mid (module_at mid p)) Open)
    → reading_of new (ps ++ p ∷ []) ss count ≡ with_standing (reading_of old ps ss count) (m ∷ (reading_of old ps ss count).entered) m Open
reading_entered old mid new ps p m ss count within kept known keeps has is changes =
    let all = kept_within old mid ps keeps within in
    let still = same_kept old mid ss known keeps kept in
    let are : map (module_at mid) (reverse (ps ++ p ∷ [])) ≡ m ∷ (reading_of old ps ss count).entered =
    entered_last mid ps p ∙ ap (λ o. o ∷ map (module_at mid) (reverse ps)) is ∙ ap (λ l. m ∷ l) (kept_modules old mid ps keeps within) in
    reading_stands mid new ps ss count all still (module_at mid p) Open (ps ++ p ∷ []) _ (All-push (IsWithin mid) ps p all has) are changes
    ∙ ap (λ o. with_standing (reading_of mid ps ss count) (m ∷ (reading_of old ps ss count).entered) o Open) is
    ∙ ap (λ r. with_standing r (m ∷ (reading_of old ps ss count).entered) m Open) (reading_kept old mid ps ss count within kept known keeps)

-- ---- a number without a name

none_some : (s : Symbol) → ◌≡◌ {A = Option Symbol} None (Some s) → ⊥
none_some s is = cc

pub none_kept : (ms : Modules) (ss : List (Option Symbol)) → AreKept ms ss → AreKept ms (ss ++ None ∷ [])
none_kept ms ss all = All-push (IsKept ms) ss None all (λ s is. absurd (none_some s is))

pub reading_numbered : (ms : Modules) (ps : List Place) (ss : List (Option Symbol)) (count : ℕ)
    → reading_of ms ps (ss ++ None ∷ []) (count + 1) ≡ with_symbols (reading_of ms ps ss count) (with_number (reading_of ms ps ss count).symbols)
reading_numbered ms ps ss count = reading_is _ _ (λ m. refl) (map-append (spelt_at ms) ss (None ∷ [])) refl refl (λ m. refl)
