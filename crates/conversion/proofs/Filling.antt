-- A term that is put before the arguments of a stack, an argument of its own at a time.
use Rattle.std.proofs.Common.{List, [], ◌∷◌, ◌++◌, ◌≡◌, ◌<◌, refl, ap, ◌∙◌, sym as flip, arith, length}
use Rattle.dk_model.specs.Trees.{Tree, apply}
use Rattle.dk_model.specs.Captures.{filled}
use Rattle.dk_model.specs.Substitution.{substitute}
use Rattle.shared_term.specs.declared.id.TermId.{TermId}
use Rattle.shared_term.specs.Pools.{Node, term, Extends, Moves}
use Rattle.rule_match.proofs.Growing.{captures_grown, captures_within}
use Rattle.conversion.specs.declared.putting.Filling.{Filling}
use Rattle.conversion.specs.declared.putting.Filling.TheVariants.{Captures, Argument}
use Rattle.conversion.specs.Machine.{behind, AreWithin, wound}
use Rattle.conversion.specs.Fillings.{IsFilling, put_by}
use Rattle.shared_term.proofs.Winding.{behind_grown, wound_pushed}

pub filling_within : (old new : List Node) (filling : Filling) → Extends old new → IsFilling (length old) filling → IsFilling (length new) filling
filling_within old new (Captures cs) e h = captures_within old new cs.now e h
filling_within old new (Argument a) e h = omega (arith, e.longer, h)

put_grown : (old new : List Node) (filling : Filling) (t : Tree) → Extends old new → IsFilling (length old) filling → put_by new filling t ≡ put_by old filling t
put_grown old new (Captures cs) t e h = ap (λ c. filled c 0 t) (captures_grown old new cs.now e h)
put_grown old new (Argument a) t e h = ap (λ u. substitute 0 u t) (e.keeps a.0 h)

put_applied : (ns : List Node) (filling : Filling) (f a : Tree) → put_by ns filling (apply f a) ≡ apply (put_by ns filling f) (put_by ns filling a)
put_applied ns (Captures cs) f a = refl
put_applied ns (Argument u) f a = refl

module _ (first old new : List Node) (filling : Filling) (ids : List TermId) (x : Extends first old) (y : Extends old new) (is : IsFilling (length first) filling) (w : AreWithin (length old) ids) where
  pub put_pushed : (head f a a' : TermId) → term old head ≡ apply (term old f) (term old a) → f.0 < length old → Moves (put_by old filling) old new a a'
      → wound (put_by first filling (term new f)) (behind new (ids ++ (a' ∷ []))) ≡ wound (put_by first filling (term old head)) (behind old ids)
  put_pushed head f a a' e l m =
      wound_pushed new (put_by first filling (term new f)) ids a'
      ∙ (λ i. wound (apply (put_by first filling (y.keeps f.0 l i)) ((m.is ∙ put_grown first old filling (term old a) x is) i)) (behind_grown old new ids y w i))
      ∙ ap (λ t. wound t (behind old ids)) (flip (put_applied first filling (term old f) (term old a)) ∙ ap (put_by first filling) (flip e))

  pub put_last : (head h : TermId) → Moves (put_by old filling) old new head h
      → wound (term new h) (behind new ids) ≡ wound (put_by first filling (term old head)) (behind old ids)
  put_last head h m = λ i. wound ((m.is ∙ put_grown first old filling (term old head) x is) i) (behind_grown old new ids y w i)
