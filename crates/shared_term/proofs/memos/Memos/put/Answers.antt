-- What the one memo took is a lasting result.
use Rattle.std.proofs.Common.{inl, inr, refl}
use Rattle.shared_term.proofs.memos.Memos.put.Goals as goal

pub returns-then-is_lasting-clause-lasting : goal.returns-then-is_lasting-clause-lasting
returns-then-is_lasting-clause-lasting c = λ d r. elim (c.put.ensures d r) [ inl e ↦ inl (e, c.if-is_lasting.ensures.0 refl) | inr k ↦ inr k ]
