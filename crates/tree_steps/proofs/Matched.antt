-- Instances of patterns as the code has them.
use Rattle.std.proofs.Common.{◌≡◌, ◌∙◌, ℕ, ◌+◌, refl, ap, sym as flip, List, map, Some, None, true}
use Rattle.std.specs.Prelude.{if◌then◌else◌}
use Rattle.dk_model.specs.PlainTerms.{Tree, star, kind, symbol, variable, rule_variable, apply, bare, annotated, product}
use Rattle.dk_model.specs.Trees.{tree}
use Rattle.dk_model.specs.declared.term.Term.{Term}
use Rattle.dk_model.specs.PlainEntries.{Pattern, Patterns, more_patterns, abstraction_pattern}
use Rattle.dk_model.specs.Signatures.{patterns_by}
use Rattle.dk_model.specs.Spines.{head, arguments, body_of}
use Rattle.dk_model.specs.Matrix.{heads_same}
use Rattle.dk_model.specs.RuleTypingOver.{patterns_of}
use Rattle.dk_model.specs.declared.signature.Pat.{Pat, Row_of-Pat, end_of-Pat, more_of-Pat, items-the_row-Pat}
use Rattle.dk_model.specs.declared.signature.Pat.TheVariants.{Sym, Var}
use Rattle.dk_model.specs.declared.signature.Pat.TheBlock.{hidden-the_row-Pat-0, items_hidden-the_row-Pat-0}
use Rattle.shared_term.specs.Storage.{stored_term}
use Rattle.shared_term.specs.declared.stored.Stored.{Stored}
use Rattle.checked_steps.specs.Matching.{matched, all_matched}
use Rattle.tree_terms.specs.Rules.{stored_pattern}

-- ---- a head with patterns

row_items : (n : _) (r : Row_of-Pat Stored n) → patterns_by stored_term r ≡ patterns_of (map stored_pattern (items-the_row-Pat Stored n r))
row_items n end_of-Pat = refl
row_items n (more_of-Pat p r) = ap (λ (qs : Patterns). more_patterns (stored_pattern p) qs) (row_items _ r)

row_is : (ps : List (Pat Stored)) → patterns_by stored_term (hidden-the_row-Pat-0 Stored ps) ≡ patterns_of (map stored_pattern ps)
row_is ps = row_items _ (hidden-the_row-Pat-0 Stored ps) ∙ ap (λ (qs : List (Pat Stored)). patterns_of (map stored_pattern qs)) (items_hidden-the_row-Pat-0 Stored ps)

module _ (depth k : ℕ) (p : Pat Stored) (ps qs : List (Pat Stored)) (t : Tree) (us vs : List Term) (same : qs ≡ ps) (items : us ≡ vs) (all : map tree vs ≡ arguments t) where
  inside : all_matched depth (patterns_of (map stored_pattern qs)) (map tree us) ≡ all_matched depth (patterns_by stored_term (hidden-the_row-Pat-0 Stored ps)) (arguments t)
  inside =
      ap (λ (rs : List (Pat Stored)). all_matched depth (patterns_of (map stored_pattern rs)) (map tree us)) same
      ∙ ap (λ (xs : List Tree). all_matched depth (patterns_of (map stored_pattern ps)) xs) (ap (map tree) items ∙ all)
      ∙ ap (λ (rs : Patterns). all_matched depth rs (arguments t)) (flip (row_is ps))

  pub symbol_matched : p ≡ Sym k ps → heads_same (head t) (symbol k) ≡ true → all_matched depth (patterns_of (map stored_pattern qs)) (map tree us) ≡ matched depth (stored_pattern p) t
  symbol_matched is e =
      inside ∙ flip (ap (λ (q : Pat Stored). matched depth (stored_pattern q) t) is ∙ ap (λ b. if b then all_matched depth (patterns_by stored_term (hidden-the_row-Pat-0 Stored ps)) (arguments t) else None) e)

  pub variable_matched : p ≡ Var k ps → heads_same (head t) (variable k) ≡ true → all_matched depth (patterns_of (map stored_pattern qs)) (map tree us) ≡ matched depth (stored_pattern p) t
  variable_matched is e =
      inside ∙ flip (ap (λ (q : Pat Stored). matched depth (stored_pattern q) t) is ∙ ap (λ b. if b then all_matched depth (patterns_by stored_term (hidden-the_row-Pat-0 Stored ps)) (arguments t) else None) e)

-- ---- an abstraction

module _ (depth : ℕ) (p : Pattern) where
  pub body_matched : (t b : Tree) → body_of t ≡ Some b → matched depth (abstraction_pattern p) t ≡ matched (depth + 1) p b
  body_matched (bare c) b e = let q : c ≡ b = cc in ap (λ (d : Tree). matched (depth + 1) p d) q
  body_matched star b e = cc
  body_matched kind b e = cc
  body_matched (symbol k) b e = cc
  body_matched (variable k) b e = cc
  body_matched (rule_variable k) b e = cc
  body_matched (apply f u) b e = cc
  body_matched (annotated n c) b e = cc
  body_matched (product c d) b e = cc

  pub no_body : (t : Tree) → body_of t ≡ None → matched depth (abstraction_pattern p) t ≡ None
  no_body (bare c) e = cc
  no_body star e = refl
  no_body kind e = refl
  no_body (symbol k) e = refl
  no_body (variable k) e = refl
  no_body (rule_variable k) e = refl
  no_body (apply f u) e = refl
  no_body (annotated n c) e = refl
  no_body (product c d) e = refl
