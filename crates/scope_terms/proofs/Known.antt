-- What a change at one place is to what is known of the modules.
use Rattle.std.proofs.Common.{IfOk, OnErr, is_some, not, ◌≡◌, ◌≤◌, ◌∙◌, sym, ap, subst, refl, ℕ, zero, suc, ◌+◌, Bool, true, false, cond, if◌then◌else◌, true≢false, List, [], ◌∷◌, ◌++◌, length, arith}
use Rattle.std.proofs.lemmas.List.{length-append}
use Rattle.std.proofs.lemmas.Map.Entries.{lookup_from_place}
use Rattle.std.specs.Prelude.{Option, None, Some, Ok, Err, Result, slice_get}
use Rattle.dk_model.specs.declared.memory.NoMemory.{NoMemory}
use Rattle.std.specs.Option.{option_map, unwrap_or}
use Rattle.std.specs.Cmp.{on_equiv, IsEquivalence}
use Rattle.std.specs.Cmp.Lexicographic.{bytes_decides, nat_list_eq_equiv}
use Rattle.std.specs.Map.{KeepsOthers, lookup, lookup_key, keys_of}
use Rattle.std.specs.declared.vec.Vec.{Vec}
use Rattle.std.specs.declared.alloc.Global.{Global}
use Rattle.indexmap.specs.IndexMap.{IndexMap, IsUnique, with_value_at, insert_entry}
use Rattle.indexmap.proofs.CallerLemmas.{keys-with_value_at, index_map_len-with_value_at, updates-with_value_at, insert_entry-new}
use Rattle.scope_terms.specs.Scopes.{Module, Spelling, same_module, same_spelling}
use Rattle.scope_terms.specs.Modules.{Changes, IsWithin, KeepsPlaces, known_of, module_at, past, standing_so, unentered, with_name_in}
use Rattle.scope_terms.specs.declared.modules.Declared.{Declared}
use Rattle.scope_terms.specs.declared.modules.Entered.{Entered}
use Rattle.scope_terms.specs.declared.modules.Modules.{Modules}
use Rattle.scope_terms.specs.declared.modules.Place.{Place}
use Rattle.scope_terms.specs.declared.modules.Place.TheVariants.{Nameless, Named}

-- ---- names of modules

pub same_is : (m n : Module) → same_module m n ≡ true → m ≡ n
same_is None None is = refl
same_is (Some x) (Some y) is = ap Some ((bytes_decides x y).0 is)
same_is None (Some y) is = absurd (true≢false (sym is))
same_is (Some x) None is = absurd (true≢false (sym is))

pub same_self : (m : Module) → same_module m m ≡ true
same_self None = refl
same_self (Some x) = (bytes_decides x x).1 refl

-- ---- look-ups behind a write

abbrev Key : Type 0
Key = Vec ℕ Global

abbrev eq : Key → Key → Bool
eq a b = same_spelling a.items b.items

abbrev test : Spelling → Key → Bool
test x a = same_spelling x a.items

laws : IsEquivalence eq
laws = on_equiv (λ (k : Key). k.items) nat_list_eq_equiv

module _ {S : Type 0} (m : IndexMap Key Declared S) (at : ℕ) (k : Key) (d w : Declared) (unique : IsUnique eq m) (is : slice_get m.entries at ≡ Some (k, d)) where
  abbrev with_it : Spelling → Option Declared
  with_it x = if same_spelling k.items x then Some w else lookup (test x) m.entries

  written_apart : (x : Spelling) → same_spelling k.items x ≡ false → lookup (test x) (with_value_at m at w).entries ≡ lookup (test x) m.entries
  unfolding KeepsOthers
  written_apart x e =
      let symm = nat_list_eq_equiv.symm x k.items in
      (updates-with_value_at m at w {eq = eq} laws unique k d is).3 (test x) (λ a b s. ap (λ z. same_spelling z b.items) ((bytes_decides x a.items).0 s))
      (λ a s. ap (same_spelling x) (sym ((bytes_decides k.items a.items).0 s)) ∙ symm ∙ e)

  lookup_written : (x : Spelling) → lookup (test x) (with_value_at m at w).entries ≡ with_it x
  lookup_written x = by (same_spelling k.items x) refl
    where
      by : (b : Bool) → same_spelling k.items x ≡ b → lookup (test x) (with_value_at m at w).entries ≡ with_it x
      by true e = let y : k.items ≡ x = (bytes_decides k.items x).0 e in
          ap (λ z. lookup (test z) (with_value_at m at w).entries) (sym y) ∙ (updates-with_value_at m at w {eq = eq} laws unique k d is).1 ∙ ap (λ b. if b then Some w else lookup (test x) m.entries) (sym e)
      by false e = written_apart x e ∙ ap (λ b. if b then Some w else lookup (test x) m.entries) (sym e)

  pub found_here : lookup (test k.items) m.entries ≡ Some d
  found_here = lookup_from_place laws m.entries at k d unique is

-- the key at a place, whatever the values
key_at : (es : List (Key × Declared)) (p : ℕ) → option_map (λ (e : Key × Declared). e.0.items) (slice_get es p) ≡ option_map (λ (a : Key). a.items) (slice_get (keys_of es) p)
key_at [] p = refl
key_at (e ∷ es) zero = refl
key_at (e ∷ es) (suc p) = key_at es p

if_same : {A B : Type 0} (f : A → B) (b : Bool) (x y : A) → f (if b then x else y) ≡ if b then f x else f y
if_same f true x y = refl
if_same f false x y = refl

module _ (ms : Modules) (at : ℕ) (k : Key) (d w : Declared) (unique : IsUnique eq ms.named) (is : slice_get ms.named.entries at ≡ Some (k, d)) where
  abbrev pub written : Modules
  written = record { named = with_value_at ms.named at w; nameless = ms.nameless }

  here : module_at ms (Named at) ≡ Some k.items
  here = ap (option_map (λ (e : Key × Declared). e.0.items)) is

  -- what is known of the module at that place
  pub known_here : known_of ms (module_at ms (Named at)) ≡ d
  known_here = ap (known_of ms) here ∙ ap (λ o. unwrap_or o unentered) (found_here ms.named at k d w unique is)

  known : (n : Module) → known_of written n ≡ if same_module (Some k.items) n then w else known_of ms n
  known None = refl
  known (Some x) = ap (λ o. unwrap_or o unentered) (lookup_written ms.named at k d w unique is x) ∙ if_same (λ o. unwrap_or o unentered) (same_spelling k.items x) (Some w) (lookup (test x) ms.named.entries)

  same : (p : Place) → module_at written p ≡ module_at ms p
  same Nameless = refl
  same (Named p) = key_at (with_value_at ms.named at w).entries p ∙ ap (λ ks. option_map (λ (a : Key). a.items) (slice_get ks p)) (keys-with_value_at ms.named at w) ∙ sym (key_at ms.named.entries p)

  pub changed_at : Changes ms written (module_at ms (Named at)) w
  changed_at = record {
    known = λ n. known n ∙ ap (λ m. if same_module m n then w else known_of ms n) (sym here);
    places = record {
      within = λ p le. let e = index_map_len-with_value_at ms.named at w in subst (λ n. past p ≤ n) (sym e) le;
      same = λ p le. same p;
    };
  }

module _ (ms : Modules) (at : ℕ) (k : Key) (d : Declared) (unique : IsUnique eq ms.named) (is : slice_get ms.named.entries at ≡ Some (k, d)) (place : Place) (place_is : place ≡ Named at) where
  abbrev m : Module
  m = module_at ms place

  abbrev with_value : Declared → Modules
  with_value w = record { named = with_value_at ms.named at w; nameless = ms.nameless }

  pub known_at : known_of ms m ≡ d
  known_at = ap (λ p. known_of ms (module_at ms p)) place_is ∙ known_here ms at k d d unique is

  pub changed_to : (w v : Declared) → w ≡ v → Changes ms (with_value w) m v
  changed_to w v same = subst (λ p. Changes ms (with_value w) (module_at ms p) v) (sym place_is) (subst (λ o. Changes ms (with_value w) (module_at ms (Named at)) o) same (changed_at ms at k d w unique is))

  -- another standing
  pub changed_standing : (how : Entered) → Changes ms (with_value (standing_so d how)) m (standing_so (known_of ms m) how)
  changed_standing how = changed_to (standing_so d how) (standing_so (known_of ms m) how) (ap (λ o. standing_so o how) (sym known_at))

  -- a name more, or none
  module _ (r : Result Bool NoMemory) (x : Spelling) (n : ℕ) (table : List (Spelling × ℕ)) where
    abbrev with_table : Declared
    with_table = record { table = table; standing = d.standing }

    by_added : (added : Bool) → table ≡ (if added then d.table ++ (x, n) ∷ [] else d.table) → with_table ≡ (if added then with_name_in (known_of ms m) x n else known_of ms m)
    by_added true same = ap (λ t. let o : Declared = record { table = t; standing = d.standing } in o) same ∙ ap (λ o. with_name_in o x n) (sym known_at)
    by_added false same = ap (λ t. let o : Declared = record { table = t; standing = d.standing } in o) same ∙ sym known_at

    pub table_added : IfOk r (λ added. table ≡ (if added then d.table ++ (x, n) ∷ [] else d.table)) → IfOk r (λ added. Changes ms (with_value with_table) m (if added then with_name_in (known_of ms m) x n else known_of ms m))
    table_added same = by r same
      where
        by : (s : Result Bool NoMemory) → IfOk s (λ added. table ≡ (if added then d.table ++ (x, n) ∷ [] else d.table)) → IfOk s (λ added. Changes ms (with_value with_table) m (if added then with_name_in (known_of ms m) x n else known_of ms m))
        by (Ok added) it = changed_to with_table (if added then with_name_in (known_of ms m) x n else known_of ms m) (by_added added it)
        by (Err e) it = tt

    pub table_kept : OnErr r (table ≡ d.table) → OnErr r (Changes ms (with_value with_table) m (known_of ms m))
    table_kept same = by r same
      where
        by : (s : Result Bool NoMemory) → OnErr s (table ≡ d.table) → OnErr s (Changes ms (with_value with_table) m (known_of ms m))
        by (Ok added) it = tt
        by (Err e) it = changed_to with_table (known_of ms m) (by_added false it)

    pub table_new : IfOk r (λ added. added ≡ not (is_some (lookup (same_spelling x) d.table))) → IfOk r (λ added. added ≡ not (is_some (lookup (same_spelling x) (known_of ms m).table)))
    table_new it = subst (λ (o : Declared). IfOk r (λ added. added ≡ not (is_some (lookup (same_spelling x) o.table)))) (sym known_at) it

-- the same for the module without a name
pub changed_nameless : (ms : Modules) (w : Declared) → Changes ms (record { named = ms.named; nameless = w }) None w
changed_nameless ms w = record {
  known = known;
  places = record { within = λ p le. le; same = same };
}
  where
    known : (n : Module) → known_of (record { named = ms.named; nameless = w }) n ≡ if same_module None n then w else known_of ms n
    known None = refl
    known (Some x) = refl

    same : (p : Place) → IsWithin ms p → module_at (record { named = ms.named; nameless = w }) p ≡ module_at ms p
    same Nameless le = refl
    same (Named p) le = refl

-- ---- a module that is found, and one that is made

-- the key that is found has the name
key_case : (x : Spelling) (b : Bool) (e k : Key) (o : Option Key) → test x e ≡ b → cond b (Some e) o ≡ Some k → (o ≡ Some k → x ≡ k.items) → x ≡ k.items
key_case x true e k o t is rest = (bytes_decides x e.items).0 t ∙ ap (λ (u : Option Key). (unwrap_or u e).items) is
key_case x false e k o t is rest = rest is

key_found : (x : Spelling) (es : List (Key × Declared)) (k : Key) → lookup_key (test x) es ≡ Some k → x ≡ k.items
key_found x [] k is = absurd (true≢false (ap is_some (sym is)))
key_found x (e ∷ es) k is = key_case x (test x e.0) e.0 k (lookup_key (test x) es) refl is (key_found x es k)

-- the module at the place where a name is found has that name
pub found_at : (x : Spelling) (es : List (Key × Declared)) (at : ℕ) (k : Key) (d : Declared) → Some k ≡ lookup_key (test x) es → slice_get es at ≡ Some (k, d) → option_map (λ (e : Key × Declared). e.0.items) (slice_get es at) ≡ Some x
found_at x es at k d key is = ap (option_map (λ (e : Key × Declared). e.0.items)) is ∙ ap Some (sym (key_found x es k (sym key)))

-- what is found of a module
pub standing_found : (ms : Modules) (x y : Spelling) (m : Module) (d : Declared) → Some d ≡ lookup (test x) ms.named.entries → x ≡ y → m ≡ Some y → d.standing ≡ (known_of ms m).standing
standing_found ms x y m d found same is =
    ap (λ o. (unwrap_or o unentered).standing) found ∙ ap (λ z. (known_of ms (Some z)).standing) same ∙ ap (λ o. (known_of ms o).standing) (sym is)

-- where none is found there is none
pub none_found : (t : Key → Bool) (es : List (Key × Declared)) → lookup_key t es ≡ None → lookup t es ≡ None
none_found t [] is = refl
none_found t (e ∷ es) is = by (t e.0) is (none_found t es)
  where
    by : (b : Bool) → cond b (Some e.0) (lookup_key t es) ≡ None → (lookup_key t es ≡ None → lookup t es ≡ None) → cond b (Some e.1) (lookup t es) ≡ None
    by true it rest = absurd (true≢false (ap is_some it))
    by false it rest = rest it

last_case : (b : Bool) → unwrap_or (cond b (Some unentered) None) unentered ≡ unentered
last_case true = refl
last_case false = refl

first_case : (b : Bool) (d : Declared) (o p : Option Declared) → unwrap_or o unentered ≡ unwrap_or p unentered → unwrap_or (cond b (Some d) o) unentered ≡ unwrap_or (cond b (Some d) p) unentered
first_case true d o p is = refl
first_case false d o p is = is

lookup_last : (t : Key → Bool) (es : List (Key × Declared)) (k : Key) → unwrap_or (lookup t (es ++ (k, unentered) ∷ [])) unentered ≡ unwrap_or (lookup t es) unentered
lookup_last t [] k = last_case (t k)
lookup_last t (e ∷ es) k = first_case (t e.0) e.1 (lookup t (es ++ (k, unentered) ∷ [])) (lookup t es) (lookup_last t es k)

-- the same for a key with that name
pub none_here : (es : List (Key × Declared)) (x y : Spelling) → None ≡ lookup_key (test x) es → y ≡ x → lookup (test y) es ≡ None
none_here es x y none same = subst (λ z. lookup (test z) es ≡ None) (sym same) (none_found (test x) es (sym none))

pub get_before : {X : Type 0} (xs : List X) (x : X) (p : ℕ) → p + 1 ≤ length xs → slice_get (xs ++ x ∷ []) p ≡ slice_get xs p
get_before [] x p lt = absurd (omega arith)
get_before (y ∷ ys) x zero lt = refl
get_before (y ∷ ys) x (suc p) lt = get_before ys x p (omega arith)

pub get_last : {X : Type 0} (xs : List X) (x : X) → slice_get (xs ++ x ∷ []) (length xs) ≡ Some x
get_last [] x = refl
get_last (y ∷ ys) x = get_last ys x

module _ (ms new : Modules) (k : Key) (none : lookup (test k.items) ms.named.entries ≡ None) (nameless : new.nameless ≡ ms.nameless) (inserted : new.named.entries ≡ insert_entry eq ms.named.entries k unentered) where
  entries : new.named.entries ≡ ms.named.entries ++ (k, unentered) ∷ []
  entries = inserted ∙ insert_entry-new eq ms.named k unentered none

  pub made_known : (n : Module) → known_of new n ≡ known_of ms n
  made_known None = nameless
  made_known (Some x) = ap (λ es. unwrap_or (lookup (test x) es) unentered) entries ∙ lookup_last (test x) ms.named.entries k

  count : length new.named.entries ≡ length ms.named.entries + 1
  count = ap length entries ∙ length-append ms.named.entries ((k, unentered) ∷ [])

  pub made_places : KeepsPlaces ms new
  made_places = record {
    within = λ p le. subst (λ n. past p ≤ n) (sym count) (omega arith);
    same = same;
  }
    where
      same : (p : Place) → IsWithin ms p → module_at new p ≡ module_at ms p
      same Nameless le = refl
      same (Named p) le = ap (λ es. option_map (λ (e : Key × Declared). e.0.items) (slice_get es p)) entries ∙ ap (option_map (λ (e : Key × Declared). e.0.items)) (get_before ms.named.entries (k, unentered) p le)

  pub made_here : module_at new (Named (length ms.named.entries)) ≡ Some k.items
  made_here = ap (λ es. option_map (λ (e : Key × Declared). e.0.items) (slice_get es (length ms.named.entries))) entries ∙ ap (option_map (λ (e : Key × Declared). e.0.items)) (get_last ms.named.entries (k, unentered))

  pub made_within : IsWithin new (Named (length ms.named.entries))
  made_within = subst (λ n. length ms.named.entries + 1 ≤ n) (sym count) (omega arith)
