-- An application taken apart, from one argument to the next.
use Rattle.std.proofs.Common.{List, [], ◌∷◌, ◌++◌, ◌≡◌, map, ap, ◌∙◌, subst}
use Rattle.dk_model.specs.Trees.{Tree, apply}
use Rattle.dk_model.specs.declared.node.NodeOf.{NodeOf}
use Rattle.dk_model.specs.declared.node.NodeOf.TheVariants.{App}
use Rattle.signature_log.specs.Reducers.{Keeps, OwnsParts, built, AreOwned}
use Rattle.infer_check.specs.Spine.{wound}
use Rattle.infer_check.proofs.Contexts.{owned_pushed, owned_kept, types_kept}
use Rattle.dk_model.proofs.Winding.{wound_pushed}
use Rattle.infer_check.proofs.Spines.{map_pushed}

module _ {R T : Type 0} (owns : R → T → Type 0) (denotes : R → T → Tree) (mid new : R) (f a : T) (head : NodeOf T) (items left : List T) where
  pub unwound : (next : NodeOf T) (due : Tree) → head ≡ App f a → left ≡ items ++ a ∷ [] → Keeps owns denotes mid new → OwnsParts owns mid head → AreOwned owns mid items
      → denotes mid f ≡ built denotes new next → wound (built denotes mid head) (map (denotes mid) items) ≡ due → wound (built denotes new next) (map (denotes new) left) ≡ due
  unwound next due e q k p h n s =
      let o : OwnsParts owns mid (App f a) = subst (OwnsParts owns mid) e p in
      let e1 : map (denotes new) left ≡ map (denotes new) items ++ denotes new a ∷ [] = ap (map (denotes new)) q ∙ map_pushed (denotes new) items a in
      let e2 : wound (built denotes new next) (map (denotes new) items ++ denotes new a ∷ []) ≡ wound (apply (built denotes new next) (denotes new a)) (map (denotes new) items) =
      wound_pushed (built denotes new next) (map (denotes new) items) (denotes new a) in
      let e3 : map (denotes new) items ≡ map (denotes mid) items = types_kept mid new items k h in
      let e4 : denotes new a ≡ denotes mid a = k.same a o.1 in
      let e5 : built denotes mid head ≡ apply (denotes mid f) (denotes mid a) = ap (built denotes mid) e in
      cc

  pub unwound_owned : head ≡ App f a → left ≡ items ++ a ∷ [] → Keeps owns denotes mid new → OwnsParts owns mid head → AreOwned owns mid items → AreOwned owns new left
  unwound_owned e q k p h =
      let o : OwnsParts owns mid (App f a) = subst (OwnsParts owns mid) e p in
      owned_kept mid new left k (rw q (owned_pushed owns mid items a h o.1))
