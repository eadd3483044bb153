use Rattle.std.proofs.Common.{◌≡◌, ℕ, ◌-◌, suc, ◌++◌, slice_get, Some, None, sym, ◌∙◌, ap, arith}
use Rattle.std.specs.Borrow.{Bor}
use Rattle.std.specs.Option.{option_copied}
use Rattle.shared_term.specs.declared.stored.Stored.{Stored}
use Rattle.signature_log.specs.Rows.{body_rows, row_rules}
use Rattle.signature_log.specs.Placed.{listed_rules}
use Rattle.signature_log.specs.declared.rows.Rows.{Rows}
use Rattle.signature_log.proofs.rows.Rows.at.Goals as goal

no_body : (rows : Rows) (k i : ℕ) → rows.body ≡ None → slice_get (row_rules k rows) i ≡ slice_get (listed_rules (option_copied rows.declared)) i
no_body rows k i e = ap (λ b. slice_get (body_rows k b ++ listed_rules (option_copied rows.declared)) i) e

behind_body : (rows : Rows) (k i j : ℕ) (body : Bor Stored) → rows.body ≡ Some body → i ≡ suc j → slice_get (row_rules k rows) i ≡ slice_get (listed_rules (option_copied rows.declared)) j
behind_body rows k i j body e is =
    ap (λ b. slice_get (body_rows k b ++ listed_rules (option_copied rows.declared)) i) e
    ∙ ap (slice_get (body_rows k (Some body) ++ listed_rules (option_copied rows.declared))) is

pub returns-else-i-eq0 : goal.returns-else-i-eq0
returns-else-i-eq0 c k =
    c.declared_row.ensures k ∙ sym (behind_body c.args.self.now k c.args.i (c.args.i - 1) c.in-Some.body c.in-Some.is (omega (arith, c.if-i-eq0.false)))

pub returns-in-None : goal.returns-in-None
returns-in-None c k = c.declared_row-in-None.ensures k ∙ sym (no_body c.args.self.now k c.args.i c.in-None.is)
