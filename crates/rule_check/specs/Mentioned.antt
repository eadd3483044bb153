-- For proofs: which rule variables may stand in what others are bound to.
use Rattle.std.specs.Prelude.{ℕ, zero, suc, ◌≡◌, List, [], ◌∷◌, Option, Some, None, Bool, true, false, ◌||◌, slice_get}
use Rattle.dk_model.specs.Trees.{Tree}
use Rattle.dk_model.specs.Signatures.{maybe_by}
use Rattle.dk_model.specs.Bindings.{mentions_rule_variable}
use Rattle.signature_log.specs.Reducers.{OwnsSome}
use Rattle.rule_check.specs.declared.found.Mentioned.{Mentioned}

-- whether a place is marked
abbrev pub is_marked : List Bool → ℕ → Bool
is_marked marks k = elim (slice_get marks k) [ None ↦ false | Some b ↦ b ]

-- the marks with one at a place
abbrev pub with_mark : List Bool → ℕ → List Bool
with_mark [] zero = true ∷ []
with_mark [] (suc k) = false ∷ with_mark [] k
with_mark (b ∷ bs) zero = true ∷ bs
with_mark (b ∷ bs) (suc k) = b ∷ with_mark bs k

-- whether the rule variable stands in the term, where there is one
abbrev pub stands_in : ℕ → Option Tree → Bool
stands_in j None = false
stands_in j (Some t) = mentions_rule_variable j t

-- whether the rule variable is marked, or stands in the term
abbrev pub may_mention : {R T : Type 0} → (R → T → Tree) → R → Mentioned T → ℕ → Bool
may_mention denotes r m j = is_marked m.marks.items j || stands_in j (maybe_by (denotes r) m.term)

module _ {R T : Type 0} (owns : R → T → Type 0) (denotes : R → T → Tree) (old : R) where
  -- what stands in the term kept so far, or in this one, stands in the one kept then
  pub record IsKept (o : Option T) (t : T) (r : R) (p : Option T) : Type 0 where
    pub own : OwnsSome owns r p
    pub stands : (j : ℕ) → stands_in j (maybe_by (denotes r) p) ≡ (stands_in j (maybe_by (denotes old) o) || mentions_rule_variable j (denotes old t))

  -- the rule variables of a term are noted with the others
  pub record IsNoted (m : Mentioned T) (t : Tree) (r : R) (n : Mentioned T) : Type 0 where
    pub own : OwnsSome owns r n.term
    pub more : (j : ℕ) → mentions_rule_variable j t ≡ true → may_mention denotes r n j ≡ true
    pub kept : (j : ℕ) → may_mention denotes old m j ≡ true → may_mention denotes r n j ≡ true
