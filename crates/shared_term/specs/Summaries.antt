-- For proofs: what is known of a term without a look at its parts.
use Rattle.std.specs.Prelude.{◌≡◌, ℕ, ◌+◌, ◌-◌, ◌<◌, max, true, false, ◌||◌, List, length, get_or, Some, None}
use Rattle.dk_model.specs.Trees.{Tree, star, kind, symbol, variable, rule_variable, apply, bare, annotated, product}
use Rattle.dk_model.specs.Bounds.{IsClosedAt}
use Rattle.dk_model.specs.declared.NodeOf.TheVariants.{Star, Kind, Sym, Var, Rvar, App, Abs, Prod}
use Rattle.shared_term.specs.declared.id.TermId.{TermId}
use Rattle.shared_term.specs.declared.summary.Summary.{Summary}
use Rattle.shared_term.specs.Pools.{Node, terms}

-- no rule variable stands in the tree
abbrev pub HasNoRuleVariable : Tree → Type 0
HasNoRuleVariable star = Unit {0}
HasNoRuleVariable kind = Unit {0}
HasNoRuleVariable (symbol k) = Unit {0}
HasNoRuleVariable (variable k) = Unit {0}
HasNoRuleVariable (rule_variable k) = ⊥
HasNoRuleVariable (apply f a) = HasNoRuleVariable f × HasNoRuleVariable a
HasNoRuleVariable (bare b) = HasNoRuleVariable b
HasNoRuleVariable (annotated n b) = HasNoRuleVariable n × HasNoRuleVariable b
HasNoRuleVariable (product a b) = HasNoRuleVariable a × HasNoRuleVariable b

-- no abstraction of the tree has an annotation
abbrev pub HasNoAnnotation : Tree → Type 0
HasNoAnnotation star = Unit {0}
HasNoAnnotation kind = Unit {0}
HasNoAnnotation (symbol k) = Unit {0}
HasNoAnnotation (variable k) = Unit {0}
HasNoAnnotation (rule_variable k) = Unit {0}
HasNoAnnotation (apply f a) = HasNoAnnotation f × HasNoAnnotation a
HasNoAnnotation (bare b) = HasNoAnnotation b
HasNoAnnotation (annotated n b) = ⊥
HasNoAnnotation (product a b) = HasNoAnnotation a × HasNoAnnotation b

pub record IsSummary (s : Summary) (t : Tree) : Type 0 where
  pub closed : IsClosedAt s.bound t
  pub ruled : s.rule_variables ≡ false → HasNoRuleVariable t
  pub plain : s.annotations ≡ false → HasNoAnnotation t

-- of a term that mentions nothing
abbrev pub blank : Summary
blank = record { bound = 0; rule_variables = false; annotations = false }

abbrev pub summary_at : List Summary → TermId → Summary
summary_at ss i = get_or ss i.0 blank

-- of two parts
abbrev pub both : Summary → Summary → Summary
both s t = record {
  bound = max s.bound t.bound;
  rule_variables = s.rule_variables || t.rule_variables;
  annotations = s.annotations || t.annotations;
}

-- of a part that stands under a binder
abbrev pub inside : Summary → Summary
inside s = record { bound = s.bound - 1; rule_variables = s.rule_variables; annotations = s.annotations }

abbrev pub node_summary : List Summary → Node → Summary
node_summary ss Star = blank
node_summary ss Kind = blank
node_summary ss (Sym k) = blank
node_summary ss (Var k) = record { bound = k + 1; rule_variables = false; annotations = false }
node_summary ss (Rvar k) = record { bound = 0; rule_variables = true; annotations = false }
node_summary ss (App f a) = both (summary_at ss f) (summary_at ss a)
node_summary ss (Abs None b) = inside (summary_at ss b)
node_summary ss (Abs (Some n) b) = let parts = both (summary_at ss n) (inside (summary_at ss b)) in
    record { bound = parts.bound; rule_variables = parts.rule_variables; annotations = true }
node_summary ss (Prod a b) = both (summary_at ss a) (inside (summary_at ss b))

-- each place has a summary of its term
pub record AreSummaries (ns : List Node) (ss : List Summary) : Type 0 where
  pub count : length ss ≡ length ns
  pub right : (i : ℕ) → i < length ns → IsSummary (get_or ss i blank) (get_or (terms ns) i star)
