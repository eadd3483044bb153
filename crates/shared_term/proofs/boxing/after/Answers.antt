-- A turn by what waits last.
use Rattle.std.proofs.Common.{◌++◌, ◌∷◌, [], length, subst, arith}
use Rattle.dk_model.specs.declared.term.Term.{Term}
use Rattle.shared_term.specs.declared.id.TermId.{TermId}
use Rattle.shared_term.specs.declared.building.Waiting.{Waiting}
use Rattle.shared_term.specs.declared.building.Waiting.TheVariants.{Second, Body}
use Rattle.shared_term.specs.Boxing.{AreThere}
use Rattle.shared_term.proofs.Boxes.{second_turn, made_turn}
use Rattle.shared_term.proofs.boxing.after.Goals as goal

pub returns-in_ok-push-in-First : goal.returns-in_ok-push-in-First
returns-in_ok-push-in-First c = record {
  turns = λ ns h.
      let ws = c.args.waiting.now.items in
      let P : Waiting TermId Term → Type 0 = λ w. AreThere (length ns) (ws ++ w ∷ []) in
      rw (c.in_ok-push-in-First.ensures.items, c.in-First.is) (second_turn ns ws c.in-First.pair c.in-First.second c.args.part (subst P c.in-First.is h));
}

pub returns-in_ok-made-in-Second : goal.returns-in_ok-made-in-Second
returns-in_ok-made-in-Second c = record {
  turns = λ ns h.
      let ws = c.args.waiting.now.items in
      let P : Waiting TermId Term → Type 0 = λ w. AreThere (length ns) (ws ++ w ∷ []) in
      rw c.in-Second.is
      (made_turn ns ws (Second c.in-Second.pair c.in-Second.first) c.args.part c.in_ok-made-in-Second.field-0 (subst P c.in-Second.is h) (omega arith) c.in_ok-made-in-Second.ensures);
}

pub returns-in_ok-make_bare-in-Body : goal.returns-in_ok-make_bare-in-Body
returns-in_ok-make_bare-in-Body c = record {
  turns = λ ns h.
      let ws = c.args.waiting.now.items in
      let P : Waiting TermId Term → Type 0 = λ w. AreThere (length ns) (ws ++ w ∷ []) in
      rw c.in-Body.is
      (made_turn ns ws Body c.args.part c.in_ok-make_bare-in-Body.field-0 (subst P c.in-Body.is h) (omega arith) c.in_ok-make_bare-in-Body.ensures);
}
