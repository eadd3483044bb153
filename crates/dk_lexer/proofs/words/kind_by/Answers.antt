use Rattle.std.proofs.Common.{Bool, List, ℕ, sym, ap, ◌∙◌, if◌then◌else◌, arith}
use Rattle.std.specs.Str.{bytes_eq}
use Rattle.std.proofs.lemmas.Bool.Decides.{nat_tests}
use Rattle.dk_lexer.specs.declared.token.TokenKind.TheVariants as kind
use Rattle.dk_lexer.proofs.FirstBytes.{begins_injective, begins_none, begins_private, begins_star, begins_thm, begins_wildcard}
use Rattle.dk_lexer.proofs.words.kind_by.Goals as goal

pub returns-then-is_wildcard : goal.returns-then-is_wildcard
returns-then-is_wildcard c =
    ap (λ (e : Bool). if e then kind.Wildcard else kind.Plain) (sym c.if-is_wildcard.true ∙ c.is_wildcard.ensures)
    ∙ begins_wildcard c.args.text.now c.args.first c.requires c.in-95.is

pub returns-else-is_wildcard : goal.returns-else-is_wildcard
returns-else-is_wildcard c =
    ap (λ (e : Bool). if e then kind.Wildcard else kind.Plain) (sym c.if-is_wildcard.false ∙ c.is_wildcard.ensures)
    ∙ begins_wildcard c.args.text.now c.args.first c.requires c.in-95.is

pub returns-in-84 : goal.returns-in-84
returns-in-84 c =
    c.kind_if.ensures
    ∙ ap (λ (word : List ℕ). if bytes_eq c.args.text.now word then kind.Star else kind.Plain) c.as_slice.ensures
    ∙ begins_star c.args.text.now c.args.first c.requires c.in-84.is

pub returns-in-116 : goal.returns-in-116
returns-in-116 c =
    c.kind_if-in-116.ensures
    ∙ ap (λ (word : List ℕ). if bytes_eq c.args.text.now word then kind.Thm else kind.Plain) c.as_slice-in-116.ensures
    ∙ begins_thm c.args.text.now c.args.first c.requires c.in-116.is

pub returns-in-105 : goal.returns-in-105
returns-in-105 c =
    c.kind_if-in-105.ensures
    ∙ ap (λ (word : List ℕ). if bytes_eq c.args.text.now word then kind.Profile else kind.Plain) c.as_slice-in-105.ensures
    ∙ begins_injective c.args.text.now c.args.first c.requires c.in-105.is

pub returns-in-112 : goal.returns-in-112
returns-in-112 c =
    c.kind_if-in-112.ensures
    ∙ ap (λ (word : List ℕ). if bytes_eq c.args.text.now word then kind.Profile else kind.Plain) c.as_slice-in-112.ensures
    ∙ begins_private c.args.text.now c.args.first c.requires c.in-112.is

pub returns-in_default : goal.returns-in_default
returns-in_default c =
    begins_none c.args.text.now c.args.first c.requires (grind (arith, nat_tests)) (grind (arith, nat_tests)) (grind (arith, nat_tests)) (grind (arith, nat_tests)) (grind (arith, nat_tests)) (grind (arith, nat_tests))
