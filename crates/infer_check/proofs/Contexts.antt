-- A context from one call of a reducer to the next, and by its innermost variable.
use Rattle.std.proofs.Common.{List, [], ◌∷◌, ◌++◌, ◌≡◌, ◌+◌, ◌≤◌, ◌<◌, ℕ, zero, suc, Some, None, refl, ap, ◌∙◌, arith, length, get_or, map, sym as flip, subst}
use Rattle.std.specs.Prelude.{slice_get}
use Rattle.std.proofs.lemmas.List.{length-append}
use Rattle.dk_model.specs.Trees.{Tree, kind}
use Rattle.dk_model.specs.Substitution.{shift}
use Rattle.dk_model.specs.Typing.{variable_type, rule_variable_type}
use Rattle.dk_model.specs.declared.node.NodeOf.{NodeOf}
use Rattle.dk_model.specs.declared.node.NodeOf.TheVariants.{Star, Kind, Sym, Var, Rvar, App, Abs, Prod}
use Rattle.signature_log.specs.Reducers.{Keeps, OwnsParts, AreOwned}
use Rattle.infer_check.specs.declared.context.Context.{Context}
use Rattle.infer_check.specs.Contexts.{with_bound, innermost_first, rule_types, bound_types, OwnsContext}

-- lists

pub owned_pushed : {R T : Type 0} (owns : R → T → Type 0) (r : R) (ts : List T) (t : T) → AreOwned owns r ts → owns r t → AreOwned owns r (ts ++ t ∷ [])
owned_pushed owns r [] t h o = (o, tt)
owned_pushed owns r (x ∷ ts) t h o = (h.0, owned_pushed owns r ts t h.1 o)

pub owned_front : {R T : Type 0} (owns : R → T → Type 0) (r : R) (ts : List T) (t : T) → AreOwned owns r (ts ++ t ∷ []) → AreOwned owns r ts
owned_front owns r [] t h = tt
owned_front owns r (x ∷ ts) t h = (h.0, owned_front owns r ts t h.1)

pub owned_last : {R T : Type 0} (owns : R → T → Type 0) (r : R) (ts : List T) (t : T) → AreOwned owns r (ts ++ t ∷ []) → owns r t
owned_last owns r [] t h = h.0
owned_last owns r (x ∷ ts) t h = owned_last owns r ts t h.1

pub owned_at : {R T : Type 0} (owns : R → T → Type 0) (r : R) (ts : List T) (i : ℕ) (d : T) → AreOwned owns r ts → i < length ts → owns r (get_or ts i d)
owned_at owns r [] i d h l = absurd (omega arith)
owned_at owns r (x ∷ ts) zero d h l = h.0
owned_at owns r (x ∷ ts) (suc i) d h l = owned_at owns r ts i d h.1 (omega arith)

pub owned_kept : {R T : Type 0} {owns : R → T → Type 0} {denotes : R → T → Tree} (old new : R) (ts : List T) → Keeps owns denotes old new → AreOwned owns old ts → AreOwned owns new ts
owned_kept old new [] k h = tt
owned_kept old new (t ∷ ts) k h = (k.own t h.0, owned_kept old new ts k h.1)

pub types_kept : {R T : Type 0} {owns : R → T → Type 0} {denotes : R → T → Tree} (old new : R) (ts : List T) → Keeps owns denotes old new → AreOwned owns old ts → map (denotes new) ts ≡ map (denotes old) ts
types_kept old new [] k h = refl
types_kept {R} {T} {owns} {denotes} old new (t ∷ ts) k h = ap (λ x. x ∷ map (denotes new) ts) (k.same t h.0) ∙ ap (λ (xs : List Tree). denotes old t ∷ xs) (types_kept old new ts k h.1)

pub innermost_kept : {R T : Type 0} {owns : R → T → Type 0} {denotes : R → T → Tree} (old new : R) (ts : List T) → Keeps owns denotes old new → AreOwned owns old ts
    → innermost_first denotes new ts ≡ innermost_first denotes old ts
innermost_kept old new [] k h = refl
innermost_kept {R} {T} {owns} {denotes} old new (t ∷ ts) k h =
    ap (λ x. innermost_first denotes new ts ++ x ∷ []) (k.same t h.0) ∙ ap (λ (xs : List Tree). xs ++ denotes old t ∷ []) (innermost_kept old new ts k h.1)

pub innermost_pushed : {R T : Type 0} (denotes : R → T → Tree) (r : R) (ts : List T) (t : T) → innermost_first denotes r (ts ++ t ∷ []) ≡ denotes r t ∷ innermost_first denotes r ts
innermost_pushed denotes r [] t = refl
innermost_pushed denotes r (x ∷ ts) t = ap (λ (l : List Tree). l ++ (denotes r x ∷ [])) (innermost_pushed denotes r ts t)

-- contexts

pub context_kept : {R T : Type 0} {owns : R → T → Type 0} {denotes : R → T → Tree} (old new : R) (c : Context T) → Keeps owns denotes old new → OwnsContext owns old c → OwnsContext owns new c
context_kept old new c k h = record { rule_vars = owned_kept old new c.rule_vars k h.rule_vars; bound = owned_kept old new c.bound k h.bound }

pub context_bound : {R T : Type 0} {owns : R → T → Type 0} (r : R) (c : Context T) (t : T) → OwnsContext owns r c → owns r t → OwnsContext owns r (with_bound c t)
context_bound {R} {T} {owns} r c t h o = record { rule_vars = h.rule_vars; bound = owned_pushed owns r c.bound t h.bound o }

pub bound_types_pushed : {R T : Type 0} (denotes : R → T → Tree) (r : R) (c : Context T) (t : T) → bound_types denotes r (with_bound c t) ≡ denotes r t ∷ bound_types denotes r c
bound_types_pushed denotes r c t = innermost_pushed denotes r c.bound t

pub rule_types_kept : {R T : Type 0} {owns : R → T → Type 0} {denotes : R → T → Tree} (old new : R) (c : Context T) → Keeps owns denotes old new → OwnsContext owns old c
    → rule_types denotes new c ≡ rule_types denotes old c
rule_types_kept old new c k h = types_kept old new c.rule_vars k h.rule_vars

pub bound_types_kept : {R T : Type 0} {owns : R → T → Type 0} {denotes : R → T → Tree} (old new : R) (c : Context T) → Keeps owns denotes old new → OwnsContext owns old c
    → bound_types denotes new c ≡ bound_types denotes old c
bound_types_kept old new c k h = innermost_kept old new c.bound k h.bound

-- nodes

pub parts_kept : {R T : Type 0} {owns : R → T → Type 0} {denotes : R → T → Tree} (old new : R) (n : NodeOf T) → Keeps owns denotes old new → OwnsParts owns old n → OwnsParts owns new n
parts_kept old new Star k h = tt
parts_kept old new Kind k h = tt
parts_kept old new (Sym i) k h = tt
parts_kept old new (Var i) k h = tt
parts_kept old new (Rvar i) k h = tt
parts_kept old new (App f a) k h = (k.own f h.0, k.own a h.1)
parts_kept old new (Abs None b) k h = k.own b h
parts_kept old new (Abs (Some n) b) k h = (k.own n h.0, k.own b h.1)
parts_kept old new (Prod a b) k h = (k.own a h.0, k.own b h.1)

-- the type at a place

length_innermost : {R T : Type 0} (denotes : R → T → Tree) (r : R) (ts : List T) → length (innermost_first denotes r ts) ≡ length ts
length_innermost denotes r [] = refl
length_innermost denotes r (t ∷ ts) = let q : length (innermost_first denotes r ts) ≡ length ts = length_innermost denotes r ts in
    simp length-append (omega (arith, q))

get_left : (xs ys : List Tree) (k : ℕ) (y : Tree) → slice_get xs k ≡ Some y → slice_get (xs ++ ys) k ≡ Some y
get_left [] ys k y e = cc
get_left (x ∷ xs) ys zero y e = e
get_left (x ∷ xs) ys (suc k) y e = get_left xs ys k y e

get_last : (xs : List Tree) (y : Tree) (k : ℕ) → k ≡ length xs → slice_get (xs ++ (y ∷ [])) k ≡ Some y
get_last [] y k e = rw e refl
get_last (x ∷ xs) y zero e = absurd (omega arith)
get_last (x ∷ xs) y (suc k) e = get_last xs y k (omega arith)

get_innermost : {R T : Type 0} (denotes : R → T → Tree) (r : R) (ts : List T) (i k : ℕ) (d : T) → i + k + 1 ≡ length ts → slice_get (innermost_first denotes r ts) k ≡ Some (denotes r (get_or ts i d))
get_innermost denotes r [] i k d e = absurd (omega arith)
get_innermost denotes r (t ∷ ts) zero k d e = get_last (innermost_first denotes r ts) (denotes r t) k (let h : length (innermost_first denotes r ts) ≡ length ts = length_innermost denotes r ts in omega (arith, h))
get_innermost denotes r (t ∷ ts) (suc i) k d e = get_left (innermost_first denotes r ts) (denotes r t ∷ []) k (denotes r (get_or ts i d)) (get_innermost denotes r ts i k d (omega arith))

get_past : (xs : List Tree) (k : ℕ) → length xs ≤ k → slice_get xs k ≡ None
get_past [] k h = refl
get_past (x ∷ xs) zero h = absurd (omega arith)
get_past (x ∷ xs) (suc k) h = get_past xs k (omega arith)

pub variable_found : {R T : Type 0} (denotes : R → T → Tree) (r : R) (ts : List T) (i k : ℕ) (d : T) → i + k + 1 ≡ length ts
    → variable_type (innermost_first denotes r ts) k ≡ shift 0 (k + 1) (denotes r (get_or ts i d))
variable_found denotes r ts i k d e = rw (get_innermost denotes r ts i k d e, variable_type) refl

pub variable_missing : {R T : Type 0} (denotes : R → T → Tree) (r : R) (ts : List T) (k : ℕ) → length ts ≤ k → variable_type (innermost_first denotes r ts) k ≡ kind
variable_missing denotes r ts k h = rw (get_past (innermost_first denotes r ts) k (let q : length (innermost_first denotes r ts) ≡ length ts = length_innermost denotes r ts in omega (arith, q)), variable_type) refl

get_mapped : {R T : Type 0} (denotes : R → T → Tree) (r : R) (ts : List T) (k : ℕ) (d : T) → k < length ts → slice_get (map (denotes r) ts) k ≡ Some (denotes r (get_or ts k d))
get_mapped denotes r [] k d h = absurd (omega arith)
get_mapped denotes r (t ∷ ts) zero d h = refl
get_mapped denotes r (t ∷ ts) (suc k) d h = get_mapped denotes r ts k d (omega arith)

length_mapped : {R T : Type 0} (denotes : R → T → Tree) (r : R) (ts : List T) → length (map (denotes r) ts) ≡ length ts
length_mapped denotes r [] = refl
length_mapped denotes r (t ∷ ts) = let q : length (map (denotes r) ts) ≡ length ts = length_mapped denotes r ts in omega (arith, q)

pub rule_variable_found : {R T : Type 0} (denotes : R → T → Tree) (r : R) (ts : List T) (k : ℕ) (d : T) → k < length ts
    → rule_variable_type (map (denotes r) ts) k ≡ denotes r (get_or ts k d)
rule_variable_found denotes r ts k d h = rw (get_mapped denotes r ts k d h, rule_variable_type) refl

pub rule_variable_missing : {R T : Type 0} (denotes : R → T → Tree) (r : R) (ts : List T) (k : ℕ) → length ts ≤ k → rule_variable_type (map (denotes r) ts) k ≡ kind
rule_variable_missing denotes r ts k h = rw (get_past (map (denotes r) ts) k (let q : length (map (denotes r) ts) ≡ length ts = length_mapped denotes r ts in omega (arith, q)), rule_variable_type) refl

pub length_bound_types : {R T : Type 0} (denotes : R → T → Tree) (r : R) (c : Context T) → length (bound_types denotes r c) ≡ length c.bound
length_bound_types denotes r c = length_innermost denotes r c.bound

-- a context of no variables

pub context_empty : {R T : Type 0} (owns : R → T → Type 0) (r : R) (c : Context T) → c.rule_vars ≡ [] → c.bound ≡ [] → OwnsContext owns r c
context_empty {R} {T} owns r c e f = record { rule_vars = subst (AreOwned owns r) (flip e) tt; bound = subst (AreOwned owns r) (flip f) tt }

pub rule_types_empty : {R T : Type 0} (denotes : R → T → Tree) (r : R) (c : Context T) → c.rule_vars ≡ [] → rule_types denotes r c ≡ []
rule_types_empty denotes r c e = ap (map (denotes r)) e

pub bound_types_empty : {R T : Type 0} (denotes : R → T → Tree) (r : R) (c : Context T) → c.bound ≡ [] → bound_types denotes r c ≡ []
bound_types_empty denotes r c e = ap (innermost_first denotes r) e
