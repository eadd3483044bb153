-- A selection at its start.
use Rattle.std.proofs.Common.{List, ◌≡◌, ℕ, refl, ap, ◌∙◌, sym as flip, subst, map, take, drop, length}
use Rattle.std.proofs.lemmas.List.{length-map, take-map}
use Rattle.dk_model.specs.Trees.{Tree, symbol}
use Rattle.dk_model.specs.Spines.{arguments}
use Rattle.dk_model.specs.Signatures.{PlainRule, PlainSignature}
use Rattle.dk_model.specs.SymbolRules.{rules_of}
use Rattle.dk_model.specs.Matrix.{rows_for, width}
use Rattle.dk_model.specs.Matrix.{Column as PlainColumn}
use Rattle.dk_model.specs.Evaluation.{columns, rows}
use Rattle.dk_model.specs.Equations.{selection_of}
use Rattle.shared_term.specs.declared.id.TermId.{TermId}
use Rattle.shared_term.specs.Pools.{Node, term}
use Rattle.rule_match.specs.declared.matcher.Answer.TheVariants.{Begin}
use Rattle.rule_match.specs.declared.matcher.Matcher.{Matcher}
use Rattle.rule_match.specs.declared.matcher.Stage.{Stage}
use Rattle.rule_match.specs.Columns.{column, argument_column, from_top, behind, wound}
use Rattle.rule_match.specs.Remaining.{rows_left}
use Rattle.rule_match.specs.Matching.{IsAnswer, IsBegun, answered}
use Rattle.rule_match.specs.Selecting.{IsStart}
use Rattle.rule_match.proofs.Opening.{arguments_wound, length_from_top, map_from_top, plain_arguments}

-- the arguments of a symbol as its first columns and rows

abbrev unbound : Tree → PlainColumn
unbound a = record { depth = 0; term = a }

module _ (S : PlainSignature) (ns : List Node) (rules : List PlainRule) (k : ℕ) (args : List TermId) (is : rules ≡ rules_of S k) where
  counted : length args ≡ length (arguments (wound (symbol k) (behind ns args)))
  counted = flip (ap length (arguments_wound (symbol k) (behind ns args) refl) ∙ length_from_top (behind ns args) ∙ length-map args (term ns))

  columns_are : map (column ns) (map (argument_column 0) (take (width (length args) rules) (from_top args))) ≡ columns S k (wound (symbol k) (behind ns args))
  columns_are =
      plain_arguments ns 0 (take (width (length args) rules) (from_top args))
      ∙ ap (map unbound) (flip (take-map (term ns) (width (length args) rules) (from_top args)))
      ∙ ap (λ (l : List Tree). map unbound (take (width (length args) rules) l)) (map_from_top (term ns) args ∙ flip (arguments_wound (symbol k) (behind ns args) refl))
      ∙ (λ i. map unbound (take (width (counted i) (is i)) (arguments (wound (symbol k) (behind ns args)))))

  rows_are : rows_for (length args) (width (length args) rules) rules ≡ rows S k (wound (symbol k) (behind ns args))
  rows_are = λ i. rows_for (counted i) (width (counted i) (is i)) (is i)

pub started : (rules : List PlainRule) (args : List TermId) (m : Matcher) → IsBegun rules args m → IsStart rules args m
started rules args m b = record {
  stands = b.stands;
  fits = λ n. subst (λ (s : Stage). IsAnswer n s Begin) (flip b.stage) tt;
  begins = λ S k ns is n.
      ap (λ (s : Stage). answered S rules ns m s Begin n) b.stage
      ∙ (λ i. selection_of S n ((ap (map (column ns)) b.columns ∙ columns_are S ns rules k args is) i)
      ((ap (λ (j : ℕ). drop j (rows_left rules m.left)) b.tried ∙ b.rows ∙ rows_are S ns rules k args is) i));
}
