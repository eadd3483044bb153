-- Pieces put one after another.
use Rattle.std.proofs.Common.{◌≡◌, ℕ, List, ◌∷◌, sym, subst}
use Rattle.std.specs.Prelude.{Option, Result, Ok, Err}
use Rattle.dk_io.specs.Gathered.{Gathers}
use Rattle.dk_io.proofs.Gather.{gathers_then, gathers_stop}
use Rattle.verdict_book.specs.declared.pieces.Piece.{Piece}
use Rattle.verdict_book.specs.Pieces.{piece_text, pieces_text}

pub pieces_next : {E : Type 0} {a b c : Option (List ℕ)} {w x y : List ℕ} {ps qs : List Piece} {p : Piece} {r : Result (Unit {0}) E} → ps ≡ p ∷ qs → Gathers {E = E} a w b x (piece_text p) (Ok tt) → Gathers b x c y (pieces_text qs) r → Gathers a w c y (pieces_text ps) r
pieces_next {E = E} {a = a} {c = c} {w = w} {y = y} {r = r} is first second = subst (λ (ps : List Piece). Gathers {E = E} a w c y (pieces_text ps) r) (sym is) (gathers_then first second)

pub pieces_stop : {E : Type 0} {a b : Option (List ℕ)} {w x : List ℕ} {ps qs : List Piece} {p : Piece} {e : E} → ps ≡ p ∷ qs → Gathers a w b x (piece_text p) (Err e) → Gathers a w b x (pieces_text ps) (Err e)
pieces_stop {E = E} {a = a} {b = b} {w = w} {x = x} {qs = qs} {e = e} is first = subst (λ (ps : List Piece). Gathers {E = E} a w b x (pieces_text ps) (Err e)) (sym is) (gathers_stop (pieces_text qs) first)
