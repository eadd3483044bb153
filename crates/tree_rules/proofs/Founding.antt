-- What is found, as the data of the definition, after each change.
use Rattle.std.proofs.Common.{List, [], ◌∷◌, ◌≡◌, ◌≤◌, ℕ, zero, suc, Option, Some, None, length, map, replicate, ap, refl, arith, ◌∙◌, sym}
use Rattle.std.specs.Prelude.{slice_set}
use Rattle.std.specs.declared.vec.Vec.{Vec}
use Rattle.std.specs.declared.alloc.Global.{Global}
use Rattle.dk_model.specs.Trees.{Tree, tree}
use Rattle.dk_model.specs.Signatures.{maybe_tree}
use Rattle.dk_model.specs.RuleTypingOver.{nothing_found, with_type}
use Rattle.dk_model.specs.declared.term.Term.{Term}
use Rattle.tree_typing.specs.declared.bindings.Bindings.{Bindings}
use Rattle.tree_rules.specs.declared.found.Guard.{Guard}
use Rattle.tree_rules.specs.Founds.{found_of}

none_mapped : (n : ℕ) → map maybe_tree (replicate n None) ≡ replicate n None
none_mapped zero = refl
none_mapped (suc n) = ap (λ (xs : List (Option Tree)). None ∷ xs) (none_mapped n)

pub nothing_is : (n : ℕ) (types : Vec (Option Term) Global) (guards : Vec Guard Global) (bindings : Bindings)
    → types.items ≡ replicate n None → guards.items ≡ [] → bindings.terms ≡ [] → found_of (record { types = types; guards = guards; bindings = bindings }) ≡ nothing_found n
nothing_is n types guards bindings e f g = let h : map maybe_tree types.items ≡ replicate n None = ap (map maybe_tree) e ∙ none_mapped n in cc

pub set_mapped : (os : List (Option Term)) (k : ℕ) (t : Term) → map maybe_tree (slice_set os k (Some t)) ≡ slice_set (map maybe_tree os) k (Some (tree t))
set_mapped [] k t = refl
set_mapped (o ∷ os) zero t = refl
set_mapped (o ∷ os) (suc k) t = ap (λ (xs : List (Option Tree)). maybe_tree o ∷ xs) (set_mapped os k t)

pub set_behind : {T : Type 0} (os : List T) (k : ℕ) (o : T) → length os ≤ k → slice_set os k o ≡ os
set_behind [] k o l = refl
set_behind (x ∷ os) zero o l = absurd (omega arith)
set_behind (x ∷ os) (suc k) o l = ap (λ (xs : List _). x ∷ xs) (set_behind os k o (omega arith))

pub typed_is : (types new : Vec (Option Term) Global) (guards : Vec Guard Global) (bindings : Bindings) (k : ℕ) (t : Term) → new.items ≡ slice_set types.items k (Some t)
    → found_of (record { types = new; guards = guards; bindings = bindings }) ≡ with_type (found_of (record { types = types; guards = guards; bindings = bindings })) k (tree t)
typed_is types new guards bindings k t e = let h : map maybe_tree new.items ≡ slice_set (map maybe_tree types.items) k (Some (tree t)) = ap (map maybe_tree) e ∙ set_mapped types.items k t in cc

pub untyped_is : (types : Vec (Option Term) Global) (guards : Vec Guard Global) (bindings : Bindings) (k : ℕ) (t : Term) → length types.items ≤ k
    → found_of (record { types = types; guards = guards; bindings = bindings }) ≡ with_type (found_of (record { types = types; guards = guards; bindings = bindings })) k (tree t)
untyped_is types guards bindings k t l = typed_is types types guards bindings k t (sym (set_behind types.items k (Some t) l))
