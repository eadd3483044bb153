-- Trusted: the parts that an argument has at a pattern's loose places, computed; the conditions that they leave; and what acts
-- at one node of a term (docs/certificates.md).
use Rattle.std.specs.Prelude.{ℕ, zero, suc, ◌+◌, ◌-◌, Option, Some, None, if◌then◌else◌, List, [], ◌∷◌, ◌++◌, nat_lt}
use Rattle.dk_model.specs.PlainTerms.{Tree, symbol, variable, apply, bare, annotated, product}
use Rattle.dk_model.specs.PlainEntries.{Pattern, Patterns, no_patterns, more_patterns, rule_variable_pattern, wildcard_pattern, guard_pattern, symbol_pattern, variable_pattern, abstraction_pattern}
use Rattle.dk_model.specs.Substitution.{shift}
use Rattle.dk_model.specs.Spines.{head, arguments}
use Rattle.dk_model.specs.Matrix.{heads_same}
use Rattle.dk_model.specs.Captures.{mentions_others, captured}
use Rattle.typing_model.specs.Steps.{Part, variable_part, guard_part, capture, instantiated, later_occurrence}

abbrev pub both_parts : Option (List Part) → Option (List Part) → Option (List Part)
both_parts (Some xs) (Some ys) = Some (xs ++ ys)
both_parts None o = None
both_parts (Some xs) None = None

abbrev mutual
  -- what a term, below `depth` variables that the pattern binds, has at its loose places; None where it is no instance
  pub matched : ℕ → Pattern → Tree → Option (List Part)
  matched depth (rule_variable_pattern k xs) t = if mentions_others 0 depth xs t then None else Some (variable_part k (captured depth xs t) ∷ [])
  matched depth wildcard_pattern t = Some []
  matched depth (guard_pattern g) t = Some (guard_part depth g t ∷ [])
  matched depth (symbol_pattern k ps) t = if heads_same (head t) (symbol k) then all_matched depth ps (arguments t) else None
  matched depth (variable_pattern k ps) t = if heads_same (head t) (variable k) then all_matched depth ps (arguments t) else None
  matched depth (abstraction_pattern p) (bare b) = matched (depth + 1) p b
  matched depth (abstraction_pattern p) t = None

  -- of as many terms as patterns
  pub all_matched : ℕ → Patterns → List Tree → Option (List Part)
  all_matched depth no_patterns [] = Some []
  all_matched depth no_patterns (t ∷ ts) = None
  all_matched depth (more_patterns p ps) [] = None
  all_matched depth (more_patterns p ps) (t ∷ ts) = both_parts (matched depth p t) (all_matched depth ps ts)

-- ---- conditions, in the order in which a certificate joins them: those of later occurrences of rule variables, from left to
-- right, then those of guards; the same pairs as in `conditions`

abbrev pub laters : List Part → List Part → List (Tree × Tree)
laters before [] = []
laters before (variable_part k t ∷ parts) = later_occurrence (capture before k) t ++ laters (before ++ (variable_part k t ∷ [])) parts
laters before (guard_part depth g t ∷ parts) = laters (before ++ (guard_part depth g t ∷ [])) parts

abbrev pub guards : (ℕ → Option Tree) → List Part → List (Tree × Tree)
guards s [] = []
guards s (variable_part k t ∷ parts) = guards s parts
guards s (guard_part depth g t ∷ parts) = (t, shift 0 depth (instantiated s 0 g)) ∷ guards s parts

abbrev pub to_join : List Part → List (Tree × Tree)
to_join parts = laters [] parts ++ guards (capture parts) parts

-- ---- places

-- the number of a term's nodes
abbrev pub nodes : Tree → ℕ
nodes (apply f a) = 1 + nodes f + nodes a
nodes (bare b) = 1 + nodes b
nodes (annotated n b) = 1 + nodes n + nodes b
nodes (product a b) = 1 + nodes a + nodes b
nodes t = 1

abbrev pub within : (Tree → Tree) → Option Tree → Option Tree
within c None = None
within c (Some t) = Some (c t)

-- the term with F at the node of this number, where nodes are numbered in preorder from 0: a node, then its first part, then
-- its second
abbrev pub at_place : (Tree → Option Tree) → ℕ → Tree → Option Tree
at_place F zero t = F t
at_place F (suc p) (apply f a) = if nat_lt p (nodes f) then within (λ g. apply g a) (at_place F p f) else within (apply f) (at_place F (p - nodes f) a)
at_place F (suc p) (bare b) = within bare (at_place F p b)
at_place F (suc p) (annotated n b) = if nat_lt p (nodes n) then within (λ m. annotated m b) (at_place F p n) else within (annotated n) (at_place F (p - nodes n) b)
at_place F (suc p) (product a b) = if nat_lt p (nodes a) then within (λ c. product c b) (at_place F p a) else within (product a) (at_place F (p - nodes a) b)
at_place F (suc p) t = None
