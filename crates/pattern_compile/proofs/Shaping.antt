-- The shape of a rule, by its first code.
use Rattle.std.proofs.Common.{◌≡◌, ◌∙◌, ap, sym, ℕ, Bool, true, false, List, map, replicate, if◌then◌else◌}
use Rattle.std.specs.Prelude.{Option, Some, None, Result, Ok, Err, ◌&&◌}
use Rattle.dk_model.specs.Trees.{Tree}
use Rattle.dk_model.specs.Signatures.{Pattern, Patterns, no_patterns, pattern, PlainRule}
use Rattle.dk_model.specs.Scoping.{PlainScopedRule, left_symbol}
use Rattle.dk_model.specs.Shapes.{left_patterns, covers, covers_all_guards, is_covered, patterns_variables, rule_with, shape_with, shape_of}
use Rattle.dk_model.specs.declared.code.Code.{Code}
use Rattle.dk_model.specs.declared.code.Code.TheVariants.{E31, E32, E33}
use Rattle.dk_model.specs.declared.signature.Pat.{Pat}
use Rattle.pattern_compile.specs.Patterns.{plain_patterns, head_of}
use Rattle.pattern_compile.specs.Marks.{marked, is_marked, all_guards_are_marked, are_marked}
use Rattle.pattern_compile.proofs.Rowed.{listed_patterns}
use Rattle.pattern_compile.proofs.Heads.{symbol_in, head_is}
use Rattle.pattern_compile.proofs.Below.{variables_below}
use Rattle.pattern_compile.proofs.Marking.{Marks, marks_of, covers_is, covers_guards_is, covers_notes_is}
use Rattle.dk_model.specs.declared.term.Term.{Term}

module _ (r : PlainScopedRule) where
  pub no_head : symbol_in (head_of r.left) ≡ None → shape_of r ≡ Err E31
  no_head h = ap (λ (o : Option ℕ). shape_with r o (left_patterns r.vars r.left no_patterns)) (head_is r.left ∙ h)

  module _ (k : ℕ) (h : head_of r.left ≡ left_symbol k) where
    stage : (o : Option Patterns) → left_patterns r.vars r.left no_patterns ≡ o → shape_of r ≡ shape_with r (Some k) o
    stage o e = ap (λ (j : Option ℕ). shape_with r j (left_patterns r.vars r.left no_patterns)) (head_is r.left ∙ ap symbol_in h) ∙ ap (shape_with r (Some k)) e

    pub no_pattern : left_patterns r.vars r.left no_patterns ≡ None → shape_of r ≡ Err E32
    no_pattern e = stage None e

    module _ (ps : Patterns) (e : left_patterns r.vars r.left no_patterns ≡ Some ps) (ms : List Bool) (m : marked (replicate r.vars false) (patterns_variables ps) ≡ ms) where
      covered : is_covered r ps ≡ (is_marked ms r.right && (all_guards_are_marked ms ps && are_marked ms r.notes))
      covered =
          let xs : List ℕ = patterns_variables ps in
          let set : Marks xs ms = marks_of r.vars xs ms (variables_below r.vars r.left ps e) m in
          sym (ap (λ (b : Bool). b && (all_guards_are_marked ms ps && are_marked ms r.notes)) (covers_is xs ms set r.right)
          ∙ ap (λ (b : Bool). covers xs r.right && (b && are_marked ms r.notes)) (covers_guards_is xs ms set ps)
          ∙ ap (λ (b : Bool). covers xs r.right && (covers_all_guards xs ps && b)) (covers_notes_is xs ms set r.notes))

      decided : (b : Bool) → (is_marked ms r.right && (all_guards_are_marked ms ps && are_marked ms r.notes)) ≡ b → shape_of r ≡ (if b then Ok (rule_with r k ps) else Err E33)
      decided b c =
          stage (Some ps) e ∙ ap (λ (b : Bool). (let due : Result PlainRule Code = if b then Ok (rule_with r k ps) else Err E33 in due)) (covered ∙ c)

      pub uncovered : (is_marked ms r.right && (all_guards_are_marked ms ps && are_marked ms r.notes)) ≡ false → shape_of r ≡ Err E33
      uncovered c = decided false c

      pub shaped : (is_marked ms r.right && (all_guards_are_marked ms ps && are_marked ms r.notes)) ≡ true → shape_of r ≡ Ok (rule_with r k ps)
      shaped c = decided true c

-- a rule from its parts
pub rule_is : (r : PlainScopedRule) (k : ℕ) (ps qs : List (Pat Term)) (notes : List (Option Tree)) (right : Tree) → qs ≡ ps → notes ≡ r.notes → right ≡ r.right → rule_with r k (plain_patterns ps) ≡ (let rule : PlainRule = record { head = k; vars = r.vars; pats = map pattern qs; notes = notes; right = right } in rule)
rule_is r k ps qs notes right q n t =
    ap (λ (ds : List Pattern). (let rule : PlainRule = record { head = k; vars = r.vars; pats = ds; notes = r.notes; right = r.right } in rule)) (listed_patterns (map pattern ps) ∙ sym (ap (λ (xs : List (Pat Term)). map pattern xs) q))
    ∙ ap (λ (ns : List (Option Tree)). (let rule : PlainRule = record { head = k; vars = r.vars; pats = map pattern qs; notes = ns; right = r.right } in rule)) (sym n)
    ∙ ap (λ (u : Tree). (let rule : PlainRule = record { head = k; vars = r.vars; pats = map pattern qs; notes = notes; right = u } in rule)) (sym t)
