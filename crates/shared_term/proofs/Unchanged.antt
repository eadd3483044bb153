-- Where a summary shows that a change leaves a term as it is.
use Rattle.std.proofs.Common.{◌≡◌, ℕ, ◌+◌, ◌<◌, ◌≤◌, nat_lt, List, map, false, refl, ap, ◌∙◌, arith, if◌then◌else◌, true≢false, Bool, true}
use Rattle.std.proofs.lemmas.Bool.Decides.{nat_tests}
use Rattle.dk_model.specs.Trees.{Tree, star, kind, symbol, variable, rule_variable, apply, bare, annotated, product}
use Rattle.dk_model.specs.Erasure.{erased}
use Rattle.dk_model.specs.Substitution.{shift}
use Rattle.dk_model.specs.Captures.{Captures, filled, renamed}
use Rattle.dk_model.specs.Bounds.{IsClosedAt}
use Rattle.shared_term.specs.declared.id.TermId.{TermId}
use Rattle.shared_term.specs.declared.change.Change.TheVariants.{Shift, Substitute, SubstituteAll, Erase, Fill, Rename, Raise}
use Rattle.shared_term.specs.declared.change.Goal.{Goal}
use Rattle.shared_term.specs.declared.change.Given.{Given}
use Rattle.shared_term.specs.declared.summary.Summary.{Summary}
use Rattle.shared_term.specs.Pools.{Node, term}
use Rattle.shared_term.specs.Summaries.{IsSummary, HasNoRuleVariable, HasNoAnnotation}
use Rattle.shared_term.specs.Changes.{changed, wanted, captured_terms, is_other, others_raised}
use Rattle.dk_model.proofs.Closed.{closed_further, shift_closed, substitute_closed}
use Rattle.shared_term.proofs.Together.{all_closed}

pub erased_plain : (t : Tree) → HasNoAnnotation t → erased t ≡ t
erased_plain star h = refl
erased_plain kind h = refl
erased_plain (symbol k) h = refl
erased_plain (variable k) h = refl
erased_plain (rule_variable k) h = refl
erased_plain (apply f a) h = λ i. apply (erased_plain f h.0 i) (erased_plain a h.1 i)
erased_plain (bare b) h = ap bare (erased_plain b h)
erased_plain (annotated n b) h = absurd h
erased_plain (product a b) h = λ i. product (erased_plain a h.0 i) (erased_plain b h.1 i)

pub filled_without : (cs : Captures) (u : ℕ) (t : Tree) → HasNoRuleVariable t → filled cs u t ≡ t
filled_without cs u star h = refl
filled_without cs u kind h = refl
filled_without cs u (symbol k) h = refl
filled_without cs u (variable k) h = refl
filled_without cs u (rule_variable k) h = absurd h
filled_without cs u (apply f a) h = λ i. apply (filled_without cs u f h.0 i) (filled_without cs u a h.1 i)
filled_without cs u (bare b) h = ap bare (filled_without cs (u + 1) b h)
filled_without cs u (annotated n b) h = λ i. annotated (filled_without cs u n h.0 i) (filled_without cs (u + 1) b h.1 i)
filled_without cs u (product a b) h = λ i. product (filled_without cs u a h.0 i) (filled_without cs (u + 1) b h.1 i)

unraised : (b : Bool) (k : ℕ) → variable (if b then k else (k + 0)) ≡ variable k
unraised true k = refl
unraised false k = ap variable (omega arith)

pub shifted_none : (u : ℕ) (t : Tree) → shift u 0 t ≡ t
shifted_none u star = refl
shifted_none u kind = refl
shifted_none u (symbol k) = refl
shifted_none u (variable k) = unraised (nat_lt k u) k
shifted_none u (rule_variable k) = refl
shifted_none u (apply f a) = λ i. apply (shifted_none u f i) (shifted_none u a i)
shifted_none u (bare b) = ap bare (shifted_none (u + 1) b)
shifted_none u (annotated n b) = λ i. annotated (shifted_none u n i) (shifted_none (u + 1) b i)
shifted_none u (product a b) = λ i. product (shifted_none u a i) (shifted_none (u + 1) b i)

below : (u k : ℕ) (x : Tree) → k < u → (if nat_lt k u then variable k else x) ≡ variable k
below u k x l = grind (arith, nat_tests)

pub renamed_closed : (u d : ℕ) (xs : List ℕ) (t : Tree) → IsClosedAt u t → renamed u d xs t ≡ t
renamed_closed u d xs star h = refl
renamed_closed u d xs kind h = refl
renamed_closed u d xs (symbol k) h = refl
renamed_closed u d xs (variable k) h = below u k _ h
renamed_closed u d xs (rule_variable k) h = refl
renamed_closed u d xs (apply f a) h = λ i. apply (renamed_closed u d xs f h.0 i) (renamed_closed u d xs a h.1 i)
renamed_closed u d xs (bare b) h = ap bare (renamed_closed (u + 1) d xs b h)
renamed_closed u d xs (annotated n b) h = λ i. annotated (renamed_closed u d xs n h.0 i) (renamed_closed (u + 1) d xs b h.1 i)
renamed_closed u d xs (product a b) h = λ i. product (renamed_closed u d xs a h.0 i) (renamed_closed (u + 1) d xs b h.1 i)

no_other : (u d : ℕ) (xs : List ℕ) (k : ℕ) → k < u → is_other u d xs k ≡ false
no_other u d xs k l = grind (arith, nat_tests)

stays_below : (b : Bool) (k : ℕ) → b ≡ false → variable (if b then k + 1 else k) ≡ variable k
stays_below true k e = absurd (true≢false e)
stays_below false k e = refl

pub raised_closed : (u d : ℕ) (xs : List ℕ) (t : Tree) → IsClosedAt u t → others_raised u d xs t ≡ t
raised_closed u d xs star h = refl
raised_closed u d xs kind h = refl
raised_closed u d xs (symbol k) h = refl
raised_closed u d xs (variable k) h = stays_below (is_other u d xs k) k (no_other u d xs k h)
raised_closed u d xs (rule_variable k) h = refl
raised_closed u d xs (apply f a) h = λ i. apply (raised_closed u d xs f h.0 i) (raised_closed u d xs a h.1 i)
raised_closed u d xs (bare b) h = ap bare (raised_closed (u + 1) d xs b h)
raised_closed u d xs (annotated n b) h = λ i. annotated (raised_closed u d xs n h.0 i) (raised_closed (u + 1) d xs b h.1 i)
raised_closed u d xs (product a b) h = λ i. product (raised_closed u d xs a h.0 i) (raised_closed (u + 1) d xs b h.1 i)

module _ (ns : List Node) (g : Given) (goal : Goal) (s : Summary) (h : IsSummary s (term ns goal.id)) where
  pub unchanged_shift : (by : ℕ) → goal.change ≡ Shift by → s.bound ≤ goal.depth → wanted ns g goal ≡ term ns goal.id
  unchanged_shift by e l = ap (λ c. changed ns g c goal.depth (term ns goal.id)) e
      ∙ shift_closed goal.depth by (term ns goal.id) (closed_further s.bound goal.depth (term ns goal.id) l h.closed)

  pub unchanged_shift_none : (by : ℕ) → goal.change ≡ Shift by → by ≡ 0 → wanted ns g goal ≡ term ns goal.id
  unchanged_shift_none by e z = ap (λ c. changed ns g c goal.depth (term ns goal.id)) e ∙ ap (λ n. shift goal.depth n (term ns goal.id)) z ∙ shifted_none goal.depth (term ns goal.id)

  pub unchanged_substitute : (u : TermId) → goal.change ≡ Substitute u → s.bound ≤ goal.depth → wanted ns g goal ≡ term ns goal.id
  unchanged_substitute u e l = ap (λ c. changed ns g c goal.depth (term ns goal.id)) e
      ∙ substitute_closed goal.depth (term ns u) (term ns goal.id) (closed_further s.bound goal.depth (term ns goal.id) l h.closed)

  pub unchanged_all : goal.change ≡ SubstituteAll → s.bound ≤ goal.depth → wanted ns g goal ≡ term ns goal.id
  unchanged_all e l = ap (λ c. changed ns g c goal.depth (term ns goal.id)) e
      ∙ all_closed goal.depth (map (term ns) g.terms.now) (term ns goal.id) (closed_further s.bound goal.depth (term ns goal.id) l h.closed)

  pub unchanged_erase : goal.change ≡ Erase → s.annotations ≡ false → wanted ns g goal ≡ term ns goal.id
  unchanged_erase e l = ap (λ c. changed ns g c goal.depth (term ns goal.id)) e ∙ erased_plain (term ns goal.id) (h.plain l)

  pub unchanged_fill : goal.change ≡ Fill → s.rule_variables ≡ false → wanted ns g goal ≡ term ns goal.id
  unchanged_fill e l = ap (λ c. changed ns g c goal.depth (term ns goal.id)) e
      ∙ filled_without (captured_terms ns g.captures.now) goal.depth (term ns goal.id) (h.ruled l)

  pub unchanged_rename : goal.change ≡ Rename → s.bound ≤ goal.depth → wanted ns g goal ≡ term ns goal.id
  unchanged_rename e l = ap (λ c. changed ns g c goal.depth (term ns goal.id)) e
      ∙ renamed_closed goal.depth g.bound g.arguments.now (term ns goal.id) (closed_further s.bound goal.depth (term ns goal.id) l h.closed)

  pub unchanged_raise : goal.change ≡ Raise → s.bound ≤ goal.depth → wanted ns g goal ≡ term ns goal.id
  unchanged_raise e l = ap (λ c. changed ns g c goal.depth (term ns goal.id)) e
      ∙ raised_closed goal.depth g.bound g.arguments.now (term ns goal.id) (closed_further s.bound goal.depth (term ns goal.id) l h.closed)
