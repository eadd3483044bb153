-- A walk by its parts.
use Rattle.std.proofs.Common.{ℕ, List, ◌≡◌, refl, ap, ◌∙◌, sym as flip}
use Rattle.std.specs.Prelude.{Result, Ok, Err}
use Rattle.dk_model.specs.Trees.{Tree, apply, symbol, variable}
use Rattle.dk_model.specs.Substitution.{substitute}
use Rattle.dk_model.specs.Signatures.{Pattern, Patterns, more_patterns, symbol_pattern, variable_pattern, PlainSignature}
use Rattle.dk_model.specs.Bindings.{under}
use Rattle.dk_model.specs.TypingOver.{Evaluator, JudgedIn, answer, refused, ended, next, symbol_type, variable_type, as_product}
use Rattle.dk_model.specs.RuleTypingOver.{Found, Walked, as_expected, walked, spine_walked}
use Rattle.dk_model.specs.declared.code.Code.TheVariants.{E34}
use Rattle.dk_model.specs.declared.stop.TypeFault.{TypeFault}
use Rattle.dk_model.specs.declared.stop.TypeFault.TheVariants.{Refused, Ended, NoMemory}
use Rattle.tree_typing.specs.Given.{Fails, Judges}
use Rattle.tree_rules.specs.Walks.{spine_due, argument_due}

pub next_next : {X A B C : Type 0} (x : JudgedIn X A) (f : A → X → JudgedIn X B) (g : B → X → JudgedIn X C) → next (next x f) g ≡ next x (λ a n. next (f a n) g)
next_next (answer a n) f g = refl
next_next (refused c n) f g = refl
next_next ended f g = refl

pub fails_next : {X A B : Type 0} (f : TypeFault) (x : JudgedIn X A) (g : A → X → JudgedIn X B) (l : X) → Fails f x l → Fails f (next x g) l
fails_next (Refused c) x g l e = ap (λ y. next y g) e
fails_next Ended x g l e = ap (λ y. next y g) e
fails_next NoMemory x g l e = tt

pub fails_is : {X A : Type 0} (f : TypeFault) (x y : JudgedIn X A) (l : X) → x ≡ y → Fails f y l → Fails f x l
fails_is (Refused c) x y l e h = e ∙ h
fails_is Ended x y l e h = e ∙ h
fails_is NoMemory x y l e h = tt

pub judges_is : {X A B : Type 0} (view : A → B) (x y : JudgedIn X B) (r : Result A TypeFault) (l : X) → x ≡ y → Judges view y r l → Judges view x r l
judges_is view x y (Ok a) l e h = e ∙ h
judges_is view x y (Err f) l e h = fails_is f x y l e h

module _ {X : Type 0} (E : Evaluator X) (S : PlainSignature) (G : List Tree) where
  along : {A B C D : Type 0} (x : JudgedIn X A) (W : A → X → JudgedIn X B) (s : A → B → C) (K : C → X → JudgedIn X D)
      → next x (λ q m. next (W q m) (λ a i. K (s q a) i)) ≡ next (next x (λ q m. next (W q m) (λ a i. answer (s q a) i))) K
  along (answer q m) W s K = flip (next_next (W q m) (λ a i. answer (s q a) i) K)
  along (refused c n) W s K = refl
  along ended W s K = refl

  pub spine_by_argument : (h : Walked) (p : Pattern) (ps : Patterns) (n : X) → spine_due E S G h (more_patterns p ps) n ≡ next (argument_due E S G h p n) (λ a i. spine_due E S G a ps i)
  spine_by_argument h p ps n = along (as_product E E34 (under h.found.bindings h.typ) n) (λ q m. walked E S G p q.0 h.found m)
      (λ q a. record { term = apply h.term a.term; typ = substitute 0 a.term q.1; found = a.found }) (λ a i. spine_due E S G a ps i)

  pub symbol_walked : {C : Type 0} (view : C → Walked) (k : ℕ) (p : Pattern) (ps : Patterns) (F A : Tree) (w : Found) (n : X) (r : Result C TypeFault) (l : X) → p ≡ symbol_pattern k ps → F ≡ symbol_type S k
      → Judges view (next (spine_walked E S G (symbol k) F ps w n) (as_expected E A)) r l → Judges view (walked E S G p A w n) r l
  symbol_walked view k p ps F A w n r l e f j =
      judges_is view _ _ r l (ap (λ q. walked E S G q A w n) e ∙ ap (λ T. next (spine_walked E S G (symbol k) T ps w n) (as_expected E A)) (flip f)) j

  pub variable_walked : {C : Type 0} (view : C → Walked) (k j i : ℕ) (p : Pattern) (ps : Patterns) (F A : Tree) (w : Found) (n : X) (r : Result C TypeFault) (l : X) → p ≡ variable_pattern k ps
      → F ≡ variable_type G j → j ≡ k → i ≡ k → Judges view (next (spine_walked E S G (variable i) F ps w n) (as_expected E A)) r l → Judges view (walked E S G p A w n) r l
  variable_walked view k j i p ps F A w n r l e f g h x =
      judges_is view _ _ r l (ap (λ q. walked E S G q A w n) e ∙ ap (λ T. next (spine_walked E S G (variable k) T ps w n) (as_expected E A)) (flip (f ∙ ap (variable_type G) g))
      ∙ ap (λ m. next (spine_walked E S G (variable m) F ps w n) (as_expected E A)) (flip h)) x
