-- Scoping of two parts, one after the other.
use Rattle.std.proofs.Common.{◌≡◌, ap, ◌∙◌, subst, sym, refl, Bool, true, false, if◌then◌else◌, List, [], ◌∷◌, ◌++◌}
use Rattle.std.specs.Prelude.{IfErr, Result, Ok, Err}
use Rattle.std.specs.Result.{IsErrAnd}
use Rattle.std.proofs.lemmas.List.{append_assoc}
use Rattle.dk_model.specs.declared.code.Code.{Code}
use Rattle.dk_model.specs.declared.code.Fault.{Fault}
use Rattle.dk_model.specs.declared.code.Fault.TheVariants.{Refused, NoMemory}
use Rattle.scope_terms.specs.Scopes.{Scoping, scoped, refused, one, both}
use Rattle.scope_terms.specs.Answers.{IsFaultOf}

pub one_scoped : {A B : Type 0} (f : A → B) (s : Scoping A) (a : A) (x : B) → s ≡ scoped a → x ≡ f a → one f s ≡ scoped x
one_scoped f s a x is e = ap (one f) is ∙ ap scoped (sym e)

pub one_fault : {A B : Type 0} (f : A → B) (s : Scoping A) (e : Fault) → IsFaultOf s e → IsFaultOf (one f s) e
one_fault f s (Refused c) is = ap (one f) is
one_fault f s NoMemory is = tt

pub both_scoped : {A B C : Type 0} (f : A → B → C) (s : Scoping A) (t : Scoping B) (a : A) (b : B) (x : C) → s ≡ scoped a → t ≡ scoped b → x ≡ f a b → both f s t ≡ scoped x
both_scoped f s t a b x is it e = ap (λ s'. both f s' t) is ∙ one_scoped (f a) t b x it e

pub both_first : {A B C : Type 0} (f : A → B → C) (s : Scoping A) (t : Scoping B) (e : Fault) → IsFaultOf s e → IsFaultOf (both f s t) e
both_first f s t (Refused c) is = ap (λ s'. both f s' t) is
both_first f s t NoMemory is = tt

pub both_second : {A B C : Type 0} (f : A → B → C) (s : Scoping A) (t : Scoping B) (a : A) (e : Fault) → s ≡ scoped a → IsFaultOf t e → IsFaultOf (both f s t) e
both_second f s t a (Refused c) is it = ap (λ s'. both f s' t) is ∙ ap (one (f a)) it
both_second f s t a NoMemory is it = tt

-- a fault that a call hands on
pub handed_on : {A : Type 0} (r : Result A Fault) (e : Fault) (P : Fault → Type 0) → P e → IsErrAnd r (λ f. f ≡ e) → IfErr r P
handed_on (Ok x) e P p is = tt
handed_on (Err f) e P p is = subst P (sym is) p

-- a code that stands before
pub first_of : {A : Type 0} (there : Bool) (c : Code) (s : Scoping A) (e : Fault) → IsFaultOf s e → IsFaultOf (if there then refused c else s) (if there then Refused c else e)
first_of true c s e is = refl
first_of false c s e is = is

-- what is scoped twice is the same, and has no code
pub scoped_again : {A : Type 0} (s : Scoping A) (a b : A) → s ≡ scoped a → s ≡ scoped b → b ≡ a
scoped_again s a b is again = let e : scoped a ≡ scoped b = sym is ∙ again in cc

pub no_fault_again : {A : Type 0} (s : Scoping A) (a : A) (e : Fault) → s ≡ scoped a → IsFaultOf s e → e ≡ NoMemory
no_fault_again s a NoMemory is it = refl
no_fault_again s a (Refused c) is it = let e : scoped a ≡ refused c = sym is ∙ it in cc

-- a list that is scoped behind elements that are scoped already
abbrev pub behind : {A : Type 0} → List A → Scoping (List A) → Scoping (List A)
behind done s = one (λ xs. done ++ xs) s

pub behind_none : {A : Type 0} (s : Scoping (List A)) → s ≡ behind [] s
behind_none (scoped xs) = refl
behind_none (refused c) = refl

pub behind_more : {A : Type 0} (done : List A) (x : A) (s : Scoping (List A)) → behind done (one (λ xs. x ∷ xs) s) ≡ behind (done ++ x ∷ []) s
behind_more done x (scoped xs) = ap scoped (sym (append_assoc done (x ∷ []) xs))
behind_more done x (refused c) = refl
