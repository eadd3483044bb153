-- Names of binders, quote by quote.
use Rattle.std.proofs.Common.{List, [], ◌∷◌, ◌++◌, ℕ, zero, suc, ◌≡◌, ◌<◌, ◌≤◌, ◌+◌, ◌-◌, Bool, true, false, Some, length, refl, ap, sym as flip, subst as along_path, ◌∙◌, arith, if◌then◌else◌, length-append}
use Rattle.std.specs.Prelude.{nat_le}
use Rattle.std.proofs.lemmas.Bool.Decides.{nat_tests}
use Rattle.std.specs.Fmt.{decimal}
use Rattle.scope_terms.specs.Scopes.{Spelling}
use Rattle.dk_model.specs.PlainTerms.{Tree, star, kind, symbol, variable, rule_variable, apply, bare, annotated, product}
use Rattle.dk_terms.specs.Written.{Written, written_name, written_apply, written_arrow, written_bare, written_annotated, written_product}
use Rattle.term_print.specs.Named.{Word, has, longest, unused, binder_name, mentions, written_at}
use Rattle.term_print.specs.Walks.{SameSpellings}
use Rattle.term_print.proofs.Fresh.{long_free, true_false}

-- with so many quotes at most still to come, this name leads to that of the binder
pub record Leads (used : List Spelling) (d : ℕ) (name : List ℕ) : Type 0 where
  pub more : ℕ
  pub is : binder_name used d ≡ unused more used name
  pub enough : longest used < length name + more

pub name_begins : (used : List Spelling) (d : ℕ) (one name : List ℕ) → one ≡ 120 ∷ [] → name ≡ one ++ decimal d → Leads used d name
unfolding binder_name
name_begins used d one name o e =
    let is : name ≡ 120 ∷ decimal d = e ∙ ap (λ b. b ++ decimal d) o in
    record { more = longest used; is = ap (unused (longest used) used) (flip is); enough = let l : length name ≡ suc (length (decimal d)) = ap length is in omega arith }

step : (used : List Spelling) (n : ℕ) (name : List ℕ) → has used name ≡ true → longest used < length name + n → (m : ℕ) × (n ≡ suc m) × (unused n used name ≡ unused m used (name ++ 39 ∷ []))
step used zero name h l = absurd (true_false (flip h ∙ long_free used name (omega arith)))
step used (suc m) name h l = (m, refl, ap (λ b. if b then unused m used (name ++ 39 ∷ []) else name) h)

pub name_longer : (used : List Spelling) (d : ℕ) (name next : List ℕ) → has used name ≡ true → Leads used d name → next ≡ name ++ 39 ∷ [] → Leads used d next
name_longer used d name next h l e =
    let (m, n, u) = step used l.more name h l.enough in
    along_path (Leads used d) (flip e) (record { more = m; is = l.is ∙ u; enough = let b = l.enough in omega (arith, n, length-append name (39 ∷ [])) })

stays : (used : List Spelling) (n : ℕ) (name : List ℕ) → has used name ≡ false → unused n used name ≡ name
stays used zero name h = refl
stays used (suc m) name h = ap (λ b. if b then unused m used (name ++ 39 ∷ []) else name) h

pub name_ends : (used : List Spelling) (d : ℕ) (name : List ℕ) → has used name ≡ false → Leads used d name → name ≡ binder_name used d
name_ends used d name h l = flip (l.is ∙ stays used l.more name h)

-- a name that is used is no longer than the longest
pub name_falls : (used : List Spelling) (name : List ℕ) → has used name ≡ true → length name ≤ longest used
name_falls used name h = by (nat_le (length name) (longest used)) refl
  where
    by : (b : Bool) → nat_le (length name) (longest used) ≡ b → length name ≤ longest used
    by true e = grind (arith, nat_tests)
    by false e = absurd (true_false (flip h ∙ long_free used name (grind (arith, nat_tests))))

-- ---- the same spellings give the same names

-- with so many quotes at most, where so many suffice for both
unused_same : (used others : List Spelling) → SameSpellings used others → (n m : ℕ) (x : List ℕ) → longest used < length x + n → longest others < length x + m → unused n used x ≡ unused m others x
unused_same used others s zero m x l k = flip (stays others m x (flip (s x) ∙ long_free used x (omega arith)))
unused_same used others s (suc n) zero x l k = stays used (suc n) x (s x ∙ long_free others x (omega arith))
unused_same used others s (suc n) (suc m) x l k =
    by (unused_same used others s n m (x ++ 39 ∷ []) (omega (arith, length-append x (39 ∷ []))) (omega (arith, length-append x (39 ∷ [])))) (has used x) refl
  where
    by : unused n used (x ++ 39 ∷ []) ≡ unused m others (x ++ 39 ∷ []) → (b : Bool) → has used x ≡ b → unused (suc n) used x ≡ unused (suc m) others x
    by more true h = ap (λ b. if b then unused n used (x ++ 39 ∷ []) else x) h ∙ (more ∙ flip (ap (λ b. if b then unused m others (x ++ 39 ∷ []) else x) (flip (s x) ∙ h)))
    by more false h = stays used (suc n) x h ∙ flip (stays others (suc m) x (flip (s x) ∙ h))

pub name_same : (used others : List Spelling) → SameSpellings used others → (d : ℕ) → binder_name used d ≡ binder_name others d
unfolding binder_name
name_same used others s d = unused_same used others s (longest used) (longest others) (120 ∷ decimal d) (omega arith) (omega arith)

pub written_same : (words : ℕ → Word) (used others : List Spelling) → SameSpellings used others → (d : ℕ) (t : Tree) → written_at words used d t ≡ written_at words others d t
written_same words used others s d star = refl
written_same words used others s d kind = refl
written_same words used others s d (symbol k) = refl
written_same words used others s d (variable k) = ap written_name (name_same used others s (d - (k + 1)))
written_same words used others s d (rule_variable k) = refl
written_same words used others s d (apply f a) = ap (λ w. written_apply w (written_at words used d a)) (written_same words used others s d f) ∙ ap (λ w. written_apply (written_at words others d f) w) (written_same words used others s d a)
written_same words used others s d (bare b) = ap (λ x. written_bare (Some x) (written_at words used (d + 1) b)) (name_same used others s d) ∙ ap (λ w. written_bare (Some (binder_name others d)) w) (written_same words used others s (d + 1) b)
written_same words used others s d (annotated n b) = ap (λ x. written_annotated (Some x) (written_at words used d n) (written_at words used (d + 1) b)) (name_same used others s d)
    ∙ (ap (λ w. written_annotated (Some (binder_name others d)) w (written_at words used (d + 1) b)) (written_same words used others s d n)
    ∙ ap (λ w. written_annotated (Some (binder_name others d)) (written_at words others d n) w) (written_same words used others s (d + 1) b))
written_same words used others s d (product a b) =
    ap (λ x. shown x (written_at words used d a) (written_at words used (d + 1) b)) (name_same used others s d)
    ∙ (ap (λ w. shown (binder_name others d) w (written_at words used (d + 1) b)) (written_same words used others s d a)
    ∙ ap (λ w. shown (binder_name others d) (written_at words others d a) w) (written_same words used others s (d + 1) b))
  where
    shown : Spelling → Written → Written → Written
    shown x v w = if mentions 0 b then written_product (Some x) v w else written_arrow v w
