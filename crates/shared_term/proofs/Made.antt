-- One term more on a stack of them, or one fewer.
use Rattle.std.proofs.Common.{◌≡◌, ℕ, ◌<◌, ◌≤◌, List, [], ◌∷◌, ◌++◌, length, refl, ap, sym, subst, ◌∙◌, arith}
use Rattle.std.specs.Prelude.{Result, Ok, Err, OnOk}
use Rattle.dk_model.specs.Trees.{Tree, bare}
use Rattle.dk_model.specs.declared.memory.NoMemory.{NoMemory}
use Rattle.shared_term.specs.declared.id.TermId.{TermId}
use Rattle.shared_term.specs.declared.change.Pair.{Pair}
use Rattle.shared_term.specs.Changes.{joined, joined_node}
use Rattle.shared_term.specs.Made.{AreMade, made, made_on}
use Rattle.shared_term.specs.Pools.{Extends, Node, denoted, term, terms}
use Rattle.shared_term.specs.Storage.{IsSpelt}
use Rattle.shared_term.specs.Winding.{AreWithin}
use Rattle.shared_term.proofs.Parts.{joined_denotes}

-- ---- places

within_more : (m n : ℕ) (ids : List TermId) → m ≤ n → AreWithin m ids → AreWithin n ids
within_more m n [] l w = tt
within_more m n (i ∷ ids) l w = (omega (arith, w.0), within_more m n ids l w.1)

within_pushed : (n : ℕ) (ids : List TermId) (i : TermId) → AreWithin n ids → i.0 < n → AreWithin n (ids ++ i ∷ [])
within_pushed n [] i w l = (l, tt)
within_pushed n (j ∷ ids) i w l = (w.0, within_pushed n ids i w.1 l)

within_popped : (n : ℕ) (ids : List TermId) (i : TermId) → AreWithin n (ids ++ i ∷ []) → AreWithin n ids × (i.0 < n)
within_popped n [] i w = (tt, w.0)
within_popped n (j ∷ ids) i w = let r = within_popped n ids i w.1 in ((w.0, r.0), r.1)

-- ---- their terms

made_more : (ns : List Node) (ts : List Tree) (ids : List TermId) (i : TermId) → made_on ns ts (ids ++ i ∷ []) ≡ term ns i ∷ made_on ns ts ids
made_more ns ts [] i = refl
made_more ns ts (j ∷ ids) i = made_more ns (term ns j ∷ ts) ids i

made_kept : (old new : List Node) (ts : List Tree) (ids : List TermId) → Extends old new → AreWithin (length old) ids → made_on new ts ids ≡ made_on old ts ids
made_kept old new ts [] e w = refl
made_kept old new ts (i ∷ ids) e w =
    ap (λ t. made_on new (t ∷ ts) ids) (e.keeps i.0 w.0) ∙ made_kept old new (term old i ∷ ts) ids e w.1

-- ---- one more

pub pushed_top : (old new : List Node) (ids more : List TermId) (i : TermId) (t : Tree) → AreMade old ids → Extends old new → more ≡ ids ++ i ∷ [] → term new i ≡ t → made new more ≡ t ∷ made old ids
pushed_top old new ids more i t made e is top =
    ap (made_on new []) is ∙ made_more new [] ids i ∙ ap (λ u. u ∷ made_on new [] ids) top ∙ ap (λ us. t ∷ us) (made_kept old new [] ids e made.1)

pub pushed_made : (old new : List Node) (ids more : List TermId) (i : TermId) → AreMade old ids → Extends old new → IsSpelt new → more ≡ ids ++ i ∷ [] → i.0 < length new → AreMade new more
pushed_made old new ids more i made e spelt is there =
    (spelt, subst (AreWithin (length new)) (sym is) (within_pushed (length new) ids i (within_more (length old) (length new) ids e.longer made.1) there))

-- ---- one fewer, or two

module _ (ns : List Node) (ids rest : List TermId) (i : TermId) where
  pub popped_made : AreMade ns ids → ids ≡ rest ++ i ∷ [] → AreMade ns rest
  popped_made h is = (h.0, (within_popped (length ns) rest i (subst (AreWithin (length ns)) is h.1)).0)

  pub popped_there : AreMade ns ids → ids ≡ rest ++ i ∷ [] → i.0 < length ns
  popped_there h is = (within_popped (length ns) rest i (subst (AreWithin (length ns)) is h.1)).1

  popped_top : ids ≡ rest ++ i ∷ [] → made ns ids ≡ term ns i ∷ made ns rest
  popped_top is = ap (made_on ns []) is ∙ made_more ns [] rest i

  -- one place has one term
  pub one_alone : ids ≡ rest ++ i ∷ [] → rest ≡ [] → 2 ≤ length (made ns ids) → ⊥
  one_alone is none two =
      let one : ids ≡ i ∷ [] = is ∙ ap (λ js. js ++ i ∷ []) none in
      absurd (let e : length (made ns ids) ≡ 1 = ap (λ js. length (made ns js)) one in omega (arith, two, e))

  -- the last term, and those before it
  pub taken_term : (x : Tree) (others : List Tree) → ids ≡ rest ++ i ∷ [] → made ns ids ≡ x ∷ others → term ns i ≡ x
  taken_term x others is given = let a = popped_top is in cc

  pub taken_rest : (x : Tree) (others : List Tree) → ids ≡ rest ++ i ∷ [] → made ns ids ≡ x ∷ others → made ns rest ≡ others
  taken_rest x others is given = let a = popped_top is in cc

-- what is made of the last term, or of the last two
bare_top : (ns : List Node) (ids rest : List TermId) (body : TermId) (new : List Tree) (x : Tree) (others : List Tree)
    → ids ≡ rest ++ body ∷ [] → made ns ids ≡ x ∷ others
    → new ≡ bare (term ns body) ∷ made ns rest → new ≡ bare x ∷ others
bare_top ns ids rest body new x others at given is =
    let a = taken_term ns ids rest body x others at given in let b = taken_rest ns ids rest body x others at given in
    is ∙ ap (λ (t : Tree). bare t ∷ made ns rest) a ∙ ap (λ (ts : List Tree). bare x ∷ ts) b

pub joined_top : (ns : List Node) (ids mid rest : List TermId) (first second : TermId) (pair : Pair) (new : List Tree) (x y : Tree) (others : List Tree)
    → ids ≡ mid ++ second ∷ [] → mid ≡ rest ++ first ∷ [] → made ns ids ≡ y ∷ x ∷ others
    → new ≡ denoted (terms ns) (joined_node pair first second) ∷ made ns rest → new ≡ joined pair x y ∷ others
joined_top ns ids mid rest first second pair new x y others at next given is =
    let b = taken_term ns ids mid second y (x ∷ others) at given in
    let left = taken_rest ns ids mid second y (x ∷ others) at given in
    let a = taken_term ns mid rest first x others next left in
    let d = taken_rest ns mid rest first x others next left in
    is ∙ ap (λ (t : Tree). t ∷ made ns rest) (joined_denotes ns pair first second ∙ ap (λ (t : Tree). joined pair t (term ns second)) a ∙ ap (joined pair x) b) ∙ ap (λ (ts : List Tree). joined pair x y ∷ ts) d

-- where there was memory for it
pub bare_put : (ns : List Node) (ids rest : List TermId) (body : TermId) (new : List Tree) (x : Tree) (others : List Tree) (o : Result (Unit {0}) NoMemory)
    → ids ≡ rest ++ body ∷ [] → made ns ids ≡ x ∷ others → OnOk o (new ≡ bare (term ns body) ∷ made ns rest) → OnOk o (new ≡ bare x ∷ others)
bare_put ns ids rest body new x others (Ok done) at given is = bare_top ns ids rest body new x others at given is
bare_put ns ids rest body new x others (Err e) at given is = tt
