-- A part where the pattern binds nothing is captured as it is.
use Rattle.std.proofs.Common.{List, [], ◌∷◌, ◌≡◌, ◌==◌, inl, inr, true≢false, ◌+◌, ◌-◌, ◌<◌, ℕ, Bool, true, false, nat_lt, refl, ap, ◌∙◌, sym as flip, arith, length, if◌then◌else◌}
use Rattle.std.specs.Prelude.{not, ◌&&◌}
use Rattle.std.proofs.lemmas.Bool.Decides.{nat_tests, eqb_tells}
use Rattle.dk_model.specs.Trees.{Tree, star, kind, symbol, variable, rule_variable, apply, bare, annotated, product}
use Rattle.dk_model.specs.Captures.{is_in, index_of, mentions_others, renamed, captured}
use Rattle.shared_term.specs.declared.id.TermId.{TermId}
use Rattle.shared_term.specs.Pools.{Node, term, Moves}

below_none : (n : ℕ) → nat_lt n 0 ≡ false
below_none n = by (nat_lt n 0) refl
  where
    by : (b : Bool) → nat_lt n 0 ≡ b → nat_lt n 0 ≡ false
    by true e = absurd (let l : n < 0 = grind (arith, nat_tests) in omega (arith, l))
    by false e = e

never : (a b : Bool) → (a && false) && b ≡ false
never true b = refl
never false b = refl

none_here : (u k : ℕ) (xs : List ℕ) → mentions_others u 0 xs (variable k) ≡ false
none_here u k xs = ap (λ b. (not (nat_lt k u) && b) && not (is_in (k - u) xs)) (below_none (k - u)) ∙ never (not (nat_lt k u)) (not (is_in (k - u) xs))

none_mentioned : (u : ℕ) (xs : List ℕ) (t : Tree) → mentions_others u 0 xs t ≡ false
none_mentioned u xs star = refl
none_mentioned u xs kind = refl
none_mentioned u xs (symbol k) = refl
none_mentioned u xs (variable k) = none_here u k xs
none_mentioned u xs (rule_variable k) = refl
none_mentioned u xs (apply f a) = rw (none_mentioned u xs f) (none_mentioned u xs a)
none_mentioned u xs (bare b) = none_mentioned (u + 1) xs b
none_mentioned u xs (annotated n b) = rw (none_mentioned u xs n) (none_mentioned (u + 1) xs b)
none_mentioned u xs (product a b) = rw (none_mentioned u xs a) (none_mentioned (u + 1) xs b)

pub none_bound : (d : ℕ) (xs : List ℕ) (t : Tree) → d ≡ 0 → false ≡ mentions_others 0 d xs t
none_bound d xs t e = flip (ap (λ n. mentions_others 0 n xs t) e ∙ none_mentioned 0 xs t)

either : (b : Bool) (k j : ℕ) → k ≡ j → (if b then variable k else variable j) ≡ variable k
either true k j e = refl
either false k j e = ap variable (flip e)

variable_itself : (u k : ℕ) → renamed u 0 [] (variable k) ≡ variable k
variable_itself u k =
    ap (λ b. if nat_lt k u then variable k else (if b then variable (index_of (k - u) [] + u) else variable (((k - 0) + 0)))) (below_none (k - u))
    ∙ either (nat_lt k u) k ((k - 0) + 0) (omega arith)

renamed_itself : (u : ℕ) (t : Tree) → renamed u 0 [] t ≡ t
renamed_itself u star = refl
renamed_itself u kind = refl
renamed_itself u (symbol k) = refl
renamed_itself u (variable k) = variable_itself u k
renamed_itself u (rule_variable k) = refl
renamed_itself u (apply f a) = let p = renamed_itself u f in let q = renamed_itself u a in λ i. apply (p i) (q i)
renamed_itself u (bare b) = let q = renamed_itself (u + 1) b in λ i. bare (q i)
renamed_itself u (annotated n b) = let p = renamed_itself u n in let q = renamed_itself (u + 1) b in λ i. annotated (p i) (q i)
renamed_itself u (product a b) = let p = renamed_itself u a in let q = renamed_itself (u + 1) b in λ i. product (p i) (q i)

pub captured_itself : (ns : List Node) (t : TermId) (d : ℕ) (xs : List ℕ) → t.0 < length ns → d ≡ 0 → xs ≡ [] → Moves (captured d xs) ns ns t t
captured_itself ns t d xs l e q = record {
  there = l;
  is = flip (ap (λ n. captured n xs (term ns t)) e ∙ ap (λ ys. captured 0 ys (term ns t)) q ∙ renamed_itself 0 (term ns t));
}

pub none_listed : (xs : List ℕ) (b : Bool) → b ≡ (length xs == 0) → b ≡ true → xs ≡ []
none_listed [] b e q = refl
none_listed (x ∷ xs) b e q = elim (eqb_tells (length (x ∷ xs)) 0) [
  | inl s ↦ absurd (let l : length (x ∷ xs) ≡ 0 = s.1 in omega (arith, l))
  | inr o ↦ absurd (true≢false (flip q ∙ e ∙ o.0))
]
