-- A term of a pool apart and together again.
use Rattle.std.proofs.Common.{List, [], ◌∷◌, ◌++◌, ◌≡◌, ◌<◌, ℕ, refl, ap, ◌∙◌, arith, length}
use Rattle.std.proofs.lemmas.List.{map-append}
use Rattle.dk_model.specs.Trees.{Tree, apply}
use Rattle.dk_model.proofs.Winding.{wound_pushed as wound_tree}
use Rattle.shared_term.specs.declared.id.TermId.{TermId}
use Rattle.shared_term.specs.Pools.{Node, term, Extends}
use Rattle.shared_term.specs.Winding.{behind, AreWithin, wound}

pub behind_pushed : (ns : List Node) (ids : List TermId) (a : TermId) → behind ns (ids ++ (a ∷ [])) ≡ behind ns ids ++ (term ns a ∷ [])
behind_pushed ns ids a = map-append (term ns) ids (a ∷ [])

pub wound_pushed : (ns : List Node) (t : Tree) (ids : List TermId) (a : TermId) → wound t (behind ns (ids ++ (a ∷ []))) ≡ wound (apply t (term ns a)) (behind ns ids)
wound_pushed ns t ids a = ap (wound t) (behind_pushed ns ids a) ∙ wound_tree t (behind ns ids) (term ns a)

pub within_pushed : (n : ℕ) (ids : List TermId) (a : TermId) → AreWithin n ids → a.0 < n → AreWithin n (ids ++ (a ∷ []))
within_pushed n [] a h l = (l, tt)
within_pushed n (i ∷ ids) a h l = (h.0, within_pushed n ids a h.1 l)

pub within_grown : (old new : List Node) (ids : List TermId) → Extends old new → AreWithin (length old) ids → AreWithin (length new) ids
within_grown old new [] e h = tt
within_grown old new (i ∷ ids) e h = (omega (arith, e.longer, h.0), within_grown old new ids e h.1)

pub behind_grown : (old new : List Node) (ids : List TermId) → Extends old new → AreWithin (length old) ids → behind new ids ≡ behind old ids
behind_grown old new [] e h = refl
behind_grown old new (i ∷ ids) e h = let p = e.keeps i.0 h.0 in let q = behind_grown old new ids e h.1 in λ k. p k ∷ q k
