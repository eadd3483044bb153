-- Turns of the walk that makes boxes, by what it comes to.
use Rattle.std.proofs.Common.{◌≡◌, ℕ, ◌<◌, List, [], ◌∷◌, ◌++◌, length, ap, sym, ◌∙◌, arith}
use Rattle.dk_model.specs.Trees.{tree, bare}
use Rattle.dk_model.specs.declared.term.Term.{Term}
use Rattle.shared_term.specs.declared.id.TermId.{TermId}
use Rattle.shared_term.specs.declared.change.Pair.{Pair}
use Rattle.shared_term.specs.declared.building.Waiting.{Waiting}
use Rattle.shared_term.specs.declared.building.Waiting.TheVariants.{First, Second, Body}
use Rattle.shared_term.specs.declared.building.Stage.TheVariants.{Before, After}
use Rattle.shared_term.specs.Pools.{Node, term}
use Rattle.shared_term.specs.Changes.{joined}
use Rattle.shared_term.specs.Building.{turns, turns_of, with_part, outermost}
use Rattle.shared_term.specs.Boxing.{HasSecond, AreThere, Turns}
use Rattle.shared_term.proofs.Parts.{some_turns, joined_turns, turns_push, outermost_push}

abbrev Waits : Type 0
Waits = Waiting TermId Term

there_push : (n : ℕ) (ws : List Waits) (w : Waits) → AreThere n ws → HasSecond n w → AreThere n (ws ++ w ∷ [])
there_push n [] w h k = (k, tt)
there_push n (v ∷ ws) w h k = (h.0, there_push n ws w h.1 k)

there_pop : (n : ℕ) (ws : List Waits) (w : Waits) → AreThere n (ws ++ w ∷ []) → HasSecond n w × AreThere n ws
there_pop n [] w h = (h.0, tt)
there_pop n (v ∷ ws) w h = let r = there_pop n ws w h.1 in (r.0, (h.0, r.1))

module _ (ns : List Node) where
  -- a term without parts is made
  pub leaf_turn : (ws : List Waits) (id : TermId) (t : Term) → AreThere (length ns) ws → term ns id ≡ tree t → Turns ns ws (Before id) ws (After t)
  leaf_turn ws id t h e = record {
    there = h;
    at = tt;
    same = ap (outermost (term ns) tree ws) (sym e);
    fewer = omega (arith, some_turns (term ns id));
  }

  pub parts_turn : (ws : List Waits) (id x y : TermId) (pair : Pair) → AreThere (length ns) ws → x.0 < length ns → y.0 < length ns
      → term ns id ≡ joined pair (term ns x) (term ns y) → Turns ns ws (Before id) (ws ++ First pair y ∷ []) (Before x)
  parts_turn ws id x y pair h l m e = record {
    there = there_push (length ns) ws (First pair y) h m;
    at = l;
    same = outermost_push (term ns) tree ws (First pair y) (term ns x) ∙ ap (outermost (term ns) tree ws) (sym e);
    fewer = omega (arith, turns_push (term ns) ws (First pair y), joined_turns pair (term ns x) (term ns y), ap turns e);
  }

  pub body_turn : (ws : List Waits) (id b : TermId) → AreThere (length ns) ws → b.0 < length ns → term ns id ≡ bare (term ns b)
      → Turns ns ws (Before id) (ws ++ Body ∷ []) (Before b)
  body_turn ws id b h l e = record {
    there = there_push (length ns) ws Body h tt;
    at = l;
    same = outermost_push (term ns) tree ws Body (term ns b) ∙ ap (outermost (term ns) tree ws) (sym e);
    fewer = omega (arith, turns_push (term ns) ws Body, ap turns e);
  }

  pub second_turn : (ws : List Waits) (pair : Pair) (second : TermId) (part : Term) → AreThere (length ns) (ws ++ First pair second ∷ [])
      → Turns ns (ws ++ First pair second ∷ []) (After part) (ws ++ Second pair part ∷ []) (Before second)
  second_turn ws pair second part h = record {
    there = there_push (length ns) ws (Second pair part) (there_pop (length ns) ws (First pair second) h).1 tt;
    at = (there_pop (length ns) ws (First pair second) h).0;
    same = outermost_push (term ns) tree ws (Second pair part) (term ns second) ∙ sym (outermost_push (term ns) tree ws (First pair second) (tree part));
    fewer = omega (arith, turns_push (term ns) ws (First pair second), turns_push (term ns) ws (Second pair part));
  }

  -- what waits has got its last part
  pub made_turn : (ws : List Waits) (w : Waits) (part made : Term) → AreThere (length ns) (ws ++ w ∷ []) → 0 < turns_of (term ns) w
      → tree made ≡ with_part (term ns) tree w (tree part) → Turns ns (ws ++ w ∷ []) (After part) ws (After made)
  made_turn ws w part made h l u = record {
    there = (there_pop (length ns) ws w h).1;
    at = tt;
    same = ap (outermost (term ns) tree ws) u ∙ sym (outermost_push (term ns) tree ws w (tree part));
    fewer = omega (arith, l, turns_push (term ns) ws w);
  }
