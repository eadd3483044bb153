-- What is found, from one call of a reducer to the next, and with one thing more.
use Rattle.std.proofs.Common.{List, [], ◌∷◌, ◌++◌, ◌≡◌, ◌∙◌, ℕ, zero, suc, Option, Some, None, ap, refl, sym as flip, subst}
use Rattle.std.specs.Prelude.{slice_set, ◌||◌, true}
use Rattle.dk_model.specs.Trees.{Tree}
use Rattle.dk_model.specs.Signatures.{maybe_by}
use Rattle.dk_model.specs.RuleTyping.{Guard as PlainGuard, Found as PlainFound, with_bindings}
use Rattle.signature_log.specs.Reducers.{Keeps, OwnsSome, OwnsSomes}
use Rattle.infer_check.specs.Contexts.{innermost_first}
use Rattle.infer_check.proofs.Contexts.{owned_kept, innermost_kept}
use Rattle.rule_check.specs.declared.found.Guard.{Guard}
use Rattle.rule_check.specs.declared.found.Found.{Found}
use Rattle.rule_check.specs.declared.found.Bindings.{Bindings}
use Rattle.rule_check.specs.Mentioned.{is_marked, stands_in, may_mention}
use Rattle.rule_check.specs.Levels.{resolved, behind_first, AreLevelled}
use Rattle.rule_check.proofs.Resolved.{levels_cover}
use Rattle.rule_check.specs.Founds.{types_of, terms_of, guard_of, guards_of, found_of, OwnsGuard, OwnsGuards, OwnsBindings, OwnsFound, IsRebound}

pub same_found : {ts us : List (Option Tree)} {gs hs : List PlainGuard} {xs ys : List (Option Tree)} → ts ≡ us → gs ≡ hs → xs ≡ ys
    → (let f : PlainFound = record { types = ts; guards = gs; bindings = xs } in f) ≡ (let f : PlainFound = record { types = us; guards = hs; bindings = ys } in f)
same_found {ts} {us} {gs} {hs} {xs} {ys} e g h = ap (λ (x : List (Option Tree)). (let f : PlainFound = record { types = x; guards = gs; bindings = xs } in f)) e
    ∙ ap (λ (x : List PlainGuard). (let f : PlainFound = record { types = us; guards = x; bindings = xs } in f)) g
    ∙ ap (λ (x : List (Option Tree)). (let f : PlainFound = record { types = us; guards = hs; bindings = x } in f)) h

module _ {R T : Type 0} {owns : R → T → Type 0} {denotes : R → T → Tree} (old new : R) (k : Keeps owns denotes old new) where
  pub some_kept : (o : Option T) → OwnsSome owns old o → OwnsSome owns new o
  some_kept None h = tt
  some_kept (Some t) h = k.own t h

  pub maybe_kept : (o : Option T) → OwnsSome owns old o → maybe_by (denotes new) o ≡ maybe_by (denotes old) o
  maybe_kept None h = refl
  maybe_kept (Some t) h = ap (λ (x : Tree). Some x) (k.same t h)

  pub owned_types_kept : (os : List (Option T)) → OwnsSomes owns old os → OwnsSomes owns new os
  owned_types_kept [] h = tt
  owned_types_kept (o ∷ os) h = (some_kept o h.0, owned_types_kept os h.1)

  pub types_of_kept : (os : List (Option T)) → OwnsSomes owns old os → types_of denotes new os ≡ types_of denotes old os
  types_of_kept [] h = refl
  types_of_kept (o ∷ os) h = ap (λ x. x ∷ types_of denotes new os) (maybe_kept o h.0) ∙ ap (λ (xs : List (Option Tree)). maybe_by (denotes old) o ∷ xs) (types_of_kept os h.1)

  pub owned_guard_kept : (g : Guard T) → OwnsGuard owns old g → OwnsGuard owns new g
  owned_guard_kept g h = record { bound = owned_kept old new g.bound k h.bound; term = k.own g.term h.term; typ = k.own g.typ h.typ }

  pub guard_kept : (g : Guard T) → OwnsGuard owns old g → guard_of denotes new g ≡ guard_of denotes old g
  guard_kept g h =
      ap (λ (x : List Tree). (let p : PlainGuard = record { context = x; term = denotes new g.term; typ = denotes new g.typ } in p)) (innermost_kept old new g.bound k h.bound)
      ∙ ap (λ (x : Tree). (let p : PlainGuard = record { context = innermost_first denotes old g.bound; term = x; typ = denotes new g.typ } in p)) (k.same g.term h.term)
      ∙ ap (λ (x : Tree). (let p : PlainGuard = record { context = innermost_first denotes old g.bound; term = denotes old g.term; typ = x } in p)) (k.same g.typ h.typ)

  pub owned_guards_kept : (gs : List (Guard T)) → OwnsGuards owns old gs → OwnsGuards owns new gs
  owned_guards_kept [] h = tt
  owned_guards_kept (g ∷ gs) h = (owned_guard_kept g h.0, owned_guards_kept gs h.1)

  pub guards_of_kept : (gs : List (Guard T)) → OwnsGuards owns old gs → guards_of denotes new gs ≡ guards_of denotes old gs
  guards_of_kept [] h = refl
  guards_of_kept (g ∷ gs) h = ap (λ x. x ∷ guards_of denotes new gs) (guard_kept g h.0) ∙ ap (λ (xs : List PlainGuard). guard_of denotes old g ∷ xs) (guards_of_kept gs h.1)

  pub terms_kept : (b : Bindings T) → OwnsBindings owns denotes old b → terms_of denotes new b ≡ terms_of denotes old b
  terms_kept b h = ap (resolved (behind_first b.levels.items)) (types_of_kept b.terms.items h.own)

  pub mentioned_kept : (b : Bindings T) → OwnsBindings owns denotes old b → (j : ℕ) → may_mention denotes old b.mentioned j ≡ true → may_mention denotes new b.mentioned j ≡ true
  mentioned_kept b h j e = ap (λ o. is_marked b.mentioned.marks.items j || stands_in j o) (maybe_kept b.mentioned.term h.noted) ∙ e

  pub bindings_kept : (b : Bindings T) → OwnsBindings owns denotes old b → OwnsBindings owns denotes new b
  bindings_kept b h = record {
    own = owned_types_kept b.terms.items h.own;
    noted = some_kept b.mentioned.term h.noted;
    levels = subst (AreLevelled (may_mention denotes new b.mentioned) b.levels.items) (flip (types_of_kept b.terms.items h.own)) (levels_cover h.levels (may_mention denotes new b.mentioned) (mentioned_kept b h));
  }

  pub found_kept : (w : Found T) → OwnsFound owns denotes old w → OwnsFound owns denotes new w
  found_kept w h = record { types = owned_types_kept w.types.items h.types; guards = owned_guards_kept w.guards.items h.guards; bindings = bindings_kept w.bindings h.bindings }

  pub found_same : (w : Found T) → OwnsFound owns denotes old w → found_of denotes new w ≡ found_of denotes old w
  found_same w h = same_found (types_of_kept w.types.items h.types) (guards_of_kept w.guards.items h.guards) (terms_kept w.bindings h.bindings)

  -- what is found, where only the bindings are others
  pub rebound_same : (w v : Found T) → OwnsFound owns denotes old w → IsRebound w v → found_of denotes new v ≡ with_bindings (found_of denotes old w) (terms_of denotes new v.bindings)
  rebound_same w v h e = same_found (ap (λ x. types_of denotes new x.items) e.types ∙ types_of_kept w.types.items h.types) (ap (λ x. guards_of denotes new x.items) e.guards ∙ guards_of_kept w.guards.items h.guards) refl

  pub rebound_owned : (w v : Found T) → OwnsFound owns denotes old w → IsRebound w v → OwnsBindings owns denotes new v.bindings → OwnsFound owns denotes new v
  rebound_owned w v h e o = record {
    types = subst (λ x. OwnsSomes owns new x.items) (flip e.types) (owned_types_kept w.types.items h.types);
    guards = subst (λ x. OwnsGuards owns new x.items) (flip e.guards) (owned_guards_kept w.guards.items h.guards);
    bindings = o;
  }

module _ {R T : Type 0} (owns : R → T → Type 0) (denotes : R → T → Tree) (r : R) where
  pub types_set : (os : List (Option T)) (i : ℕ) (t : T) → types_of denotes r (slice_set os i (Some t)) ≡ slice_set (types_of denotes r os) i (Some (denotes r t))
  types_set [] i t = refl
  types_set (o ∷ os) zero t = refl
  types_set (o ∷ os) (suc i) t = ap (λ (xs : List (Option Tree)). maybe_by (denotes r) o ∷ xs) (types_set os i t)

  pub owned_set : (os : List (Option T)) (i : ℕ) (t : T) → OwnsSomes owns r os → owns r t → OwnsSomes owns r (slice_set os i (Some t))
  owned_set [] i t h o = tt
  owned_set (x ∷ os) zero t h o = (o, h.1)
  owned_set (x ∷ os) (suc i) t h o = (h.0, owned_set os i t h.1 o)

  pub types_pushed : (os : List (Option T)) (t : T) → types_of denotes r (os ++ Some t ∷ []) ≡ types_of denotes r os ++ Some (denotes r t) ∷ []
  types_pushed [] t = refl
  types_pushed (o ∷ os) t = ap (λ (xs : List (Option Tree)). maybe_by (denotes r) o ∷ xs) (types_pushed os t)

  pub owned_type_pushed : (os : List (Option T)) (t : T) → OwnsSomes owns r os → owns r t → OwnsSomes owns r (os ++ Some t ∷ [])
  owned_type_pushed [] t h o = (o, tt)
  owned_type_pushed (x ∷ os) t h o = (h.0, owned_type_pushed os t h.1 o)

  pub guards_pushed : (gs : List (Guard T)) (g : Guard T) → guards_of denotes r (gs ++ g ∷ []) ≡ guards_of denotes r gs ++ guard_of denotes r g ∷ []
  guards_pushed [] g = refl
  guards_pushed (x ∷ gs) g = ap (λ (xs : List PlainGuard). guard_of denotes r x ∷ xs) (guards_pushed gs g)

  pub owned_guard_pushed : (gs : List (Guard T)) (g : Guard T) → OwnsGuards owns r gs → OwnsGuard owns r g → OwnsGuards owns r (gs ++ g ∷ [])
  owned_guard_pushed [] g h o = (o, tt)
  owned_guard_pushed (x ∷ gs) g h o = (h.0, owned_guard_pushed gs g h.1 o)
