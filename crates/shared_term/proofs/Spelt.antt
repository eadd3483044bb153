-- Turns of the walk that spells a term, by what it comes to.
use Rattle.std.proofs.Common.{◌≡◌, ℕ, ◌<◌, ◌≤◌, Bool, true, false, List, [], ◌∷◌, ◌++◌, length, refl, ap, sym, ◌∙◌, arith}
use Rattle.std.specs.Borrow.{Bor}
use Rattle.dk_model.specs.Trees.{Tree, tree, star, kind, symbol, variable, rule_variable, apply, bare, annotated, product}
use Rattle.dk_model.specs.declared.term.Term.{Term}
use Rattle.shared_term.specs.declared.id.TermId.{TermId}
use Rattle.shared_term.specs.declared.change.Pair.{Pair}
use Rattle.shared_term.specs.declared.building.Waiting.{Waiting}
use Rattle.shared_term.specs.declared.building.Waiting.TheVariants.{First, Second, Body}
use Rattle.shared_term.specs.declared.building.Stage.TheVariants.{Before, After}
use Rattle.shared_term.specs.Pools.{Node, term, Extends}
use Rattle.shared_term.specs.Changes.{joined}
use Rattle.shared_term.specs.Storage.{IsSpelt}
use Rattle.shared_term.specs.Building.{turns, turns_of, with_part, outermost}
use Rattle.shared_term.specs.Spelling.{spelt_tree, boxed_tree, HasFirst, AreThere, Turns}
use Rattle.shared_term.proofs.Parts.{some_turns, joined_turns, turns_push, outermost_push}

abbrev Waits : Type 0
Waits = Waiting (Bor Term) TermId

there_push : (n : ℕ) (ws : List Waits) (w : Waits) → AreThere n ws → HasFirst n w → AreThere n (ws ++ w ∷ [])
there_push n [] w h k = (k, tt)
there_push n (v ∷ ws) w h k = (h.0, there_push n ws w h.1 k)

pub there_pop : (n : ℕ) (ws : List Waits) (w : Waits) → AreThere n (ws ++ w ∷ []) → HasFirst n w × AreThere n ws
there_pop n [] w h = (h.0, tt)
there_pop n (v ∷ ws) w h = let r = there_pop n ws w h.1 in (r.0, (h.0, r.1))

first_further : (m n : ℕ) (w : Waits) → m ≤ n → HasFirst m w → HasFirst n w
first_further m n (First pair second) l h = tt
first_further m n (Second pair first) l h = omega (arith, h)
first_further m n Body l h = tt

there_further : (m n : ℕ) (ws : List Waits) → m ≤ n → AreThere m ws → AreThere n ws
there_further m n [] l h = tt
there_further m n (w ∷ ws) l h = (first_further m n w l h.0, there_further m n ws l h.1)

-- what becomes of each term

pub spelt_star : (z : Bool) → spelt_tree z star ≡ star
spelt_star true = refl
spelt_star false = refl

pub spelt_kind : (z : Bool) → spelt_tree z kind ≡ kind
spelt_kind true = refl
spelt_kind false = refl

pub spelt_symbol : (z : Bool) (k : ℕ) → spelt_tree z (symbol k) ≡ symbol k
spelt_symbol true k = refl
spelt_symbol false k = refl

pub spelt_variable : (z : Bool) (k : ℕ) → spelt_tree z (variable k) ≡ variable k
spelt_variable true k = refl
spelt_variable false k = refl

pub spelt_rule_variable : (z : Bool) (k : ℕ) → spelt_tree z (rule_variable k) ≡ rule_variable k
spelt_rule_variable true k = refl
spelt_rule_variable false k = refl

pub spelt_apply : (z : Bool) (f a : Tree) → spelt_tree z (apply f a) ≡ apply (spelt_tree z f) (spelt_tree z a)
spelt_apply true f a = refl
spelt_apply false f a = refl

pub spelt_bare : (z : Bool) (b : Tree) → spelt_tree z (bare b) ≡ bare (spelt_tree z b)
spelt_bare true b = refl
spelt_bare false b = refl

pub spelt_product : (z : Bool) (a b : Tree) → spelt_tree z (product a b) ≡ product (spelt_tree z a) (spelt_tree z b)
spelt_product true a b = refl
spelt_product false a b = refl

pub spelt_annotated : (z : Bool) (n b : Tree) → z ≡ false → spelt_tree z (annotated n b) ≡ annotated (spelt_tree z n) (spelt_tree z b)
spelt_annotated true n b e = cc
spelt_annotated false n b e = refl

pub spelt_without : (z : Bool) (n b : Tree) → z ≡ true → spelt_tree z (annotated n b) ≡ bare (spelt_tree z b)
spelt_without true n b e = refl
spelt_without false n b e = cc

module _ (z : Bool) (old new : List Node) (e : Extends old new) (k : IsSpelt new) where
  part_grown : (w : Waits) (y : Tree) → HasFirst (length old) w → with_part (boxed_tree z) (term new) w y ≡ with_part (boxed_tree z) (term old) w y
  part_grown (First pair second) y h = refl
  part_grown (Second pair first) y h = ap (λ t. joined pair t y) (e.keeps first.0 h)
  part_grown Body y h = refl

  outermost_grown : (ws : List Waits) (y : Tree) → AreThere (length old) ws → outermost (boxed_tree z) (term new) ws y ≡ outermost (boxed_tree z) (term old) ws y
  outermost_grown [] y h = refl
  outermost_grown (w ∷ ws) y h = part_grown w (outermost (boxed_tree z) (term new) ws y) h.0 ∙ ap (with_part (boxed_tree z) (term old) w) (outermost_grown ws y h.1)

  -- a term without parts stands in the list
  pub leaf_turn : (ws : List Waits) (it : Bor Term) (id : TermId) → AreThere (length old) ws → id.0 < length new → term new id ≡ spelt_tree z (tree it.now)
      → Turns z old new ws (Before it) ws (After id)
  leaf_turn ws it id h l u = record {
    spelt = k;
    there = there_further (length old) (length new) ws e.longer h;
    at = l;
    same = outermost_grown ws (term new id) h ∙ ap (outermost (boxed_tree z) (term old) ws) u;
    fewer = omega (arith, some_turns (spelt_tree z (tree it.now)));
  }

  -- what waits has got its last part
  pub made_turn : (ws : List Waits) (w : Waits) (id made : TermId) → AreThere (length old) (ws ++ w ∷ []) → 0 < turns_of (boxed_tree z) w
      → made.0 < length new → term new made ≡ with_part (boxed_tree z) (term old) w (term old id) → Turns z old new (ws ++ w ∷ []) (After id) ws (After made)
  made_turn ws w id made h l m u = record {
    spelt = k;
    there = there_further (length old) (length new) ws e.longer (there_pop (length old) ws w h).1;
    at = m;
    same = outermost_grown ws (term new made) (there_pop (length old) ws w h).1 ∙ ap (outermost (boxed_tree z) (term old) ws) u
        ∙ sym (outermost_push (boxed_tree z) (term old) ws w (term old id));
    fewer = omega (arith, l, turns_push (boxed_tree z) ws w);
  }

module _ (z : Bool) (ns : List Node) (k : IsSpelt ns) where
  pub parts_turn : (ws : List Waits) (it x y : Bor Term) (pair : Pair) → AreThere (length ns) ws → spelt_tree z (tree it.now) ≡ joined pair (spelt_tree z (tree x.now)) (spelt_tree z (tree y.now))
      → Turns z ns ns ws (Before it) (ws ++ First pair y ∷ []) (Before x)
  parts_turn ws it x y pair h e = record {
    spelt = k;
    there = there_push (length ns) ws (First pair y) h tt;
    at = tt;
    same = outermost_push (boxed_tree z) (term ns) ws (First pair y) (spelt_tree z (tree x.now)) ∙ ap (outermost (boxed_tree z) (term ns) ws) (sym e);
    fewer = omega (arith, turns_push (boxed_tree z) ws (First pair y), joined_turns pair (spelt_tree z (tree x.now)) (spelt_tree z (tree y.now)), ap turns e);
  }

  pub body_turn : (ws : List Waits) (it b : Bor Term) → AreThere (length ns) ws → spelt_tree z (tree it.now) ≡ bare (spelt_tree z (tree b.now))
      → Turns z ns ns ws (Before it) (ws ++ Body ∷ []) (Before b)
  body_turn ws it b h e = record {
    spelt = k;
    there = there_push (length ns) ws Body h tt;
    at = tt;
    same = outermost_push (boxed_tree z) (term ns) ws Body (spelt_tree z (tree b.now)) ∙ ap (outermost (boxed_tree z) (term ns) ws) (sym e);
    fewer = omega (arith, turns_push (boxed_tree z) ws Body, ap turns e);
  }

  pub second_turn : (ws : List Waits) (pair : Pair) (second : Bor Term) (id : TermId) → AreThere (length ns) (ws ++ First pair second ∷ []) → id.0 < length ns
      → Turns z ns ns (ws ++ First pair second ∷ []) (After id) (ws ++ Second pair id ∷ []) (Before second)
  second_turn ws pair second id h l = record {
    spelt = k;
    there = there_push (length ns) ws (Second pair id) (there_pop (length ns) ws (First pair second) h).1 l;
    at = tt;
    same = outermost_push (boxed_tree z) (term ns) ws (Second pair id) (spelt_tree z (tree second.now)) ∙ sym (outermost_push (boxed_tree z) (term ns) ws (First pair second) (term ns id));
    fewer = omega (arith, turns_push (boxed_tree z) ws (First pair second), turns_push (boxed_tree z) ws (Second pair id));
  }
