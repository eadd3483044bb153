-- A row is kept for no head but that of its pattern.
use Rattle.std.proofs.Common.{◌≡◌, ◌∙◌, ℕ, List, ap, sym as flip, map}
use Rattle.dk_model.specs.Matrix.{cell_at}
use Rattle.dk_model.specs.declared.signature.Pat.TheVariants.{Var}
use Rattle.rule_match.specs.declared.cell.Cell.{Cell}
use Rattle.rule_match.specs.Keys.{is_kept}
use Rattle.rule_match.specs.Rows.{plain_cell, pattern_cell}
use Rattle.rule_match.proofs.Grouping.{asks_symbol, asks_variable}
use Rattle.rule_match.proofs.group.key_at.Goals as goal

pub returns-in-Sym : goal.returns-in-Sym
returns-in-Sym c = λ key h.
    let here : cell_at (map plain_cell c.args.row.now.cells.items) c.args.column ≡ pattern_cell c.in-Pattern.pattern.now =
    ap (λ (l : List Cell). cell_at (map plain_cell l) c.args.column) (flip c.as_slice.ensures.value) ∙ flip c.cell_of.ensures ∙ ap plain_cell c.in-Pattern.is in
    asks_symbol key c.in-Pattern.pattern.now c.in-Sym.symbol c.len.result c.in-Sym.patterns c.in-Sym.is c.len.ensures (flip (ap (is_kept key) here) ∙ h)

pub returns-in-Var : goal.returns-in-Var
returns-in-Var c = λ key h.
    let here : cell_at (map plain_cell c.args.row.now.cells.items) c.args.column ≡ pattern_cell c.in-Pattern.pattern.now =
    ap (λ (l : List Cell). cell_at (map plain_cell l) c.args.column) (flip c.as_slice.ensures.value) ∙ flip c.cell_of.ensures ∙ ap plain_cell c.in-Pattern.is in
    asks_variable key c.in-Pattern.pattern.now c.from.result c.len-in-Var.result c.in-Var.patterns (c.in-Var.is ∙ ap (λ (k : ℕ). Var k c.in-Var.patterns) (flip c.from.ensures)) c.len-in-Var.ensures (flip (ap (is_kept key) here) ∙ h)
