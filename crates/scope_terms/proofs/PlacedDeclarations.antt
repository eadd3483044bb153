-- A declaration whose type and body are made one after the other, each under all parameters.
use Rattle.std.proofs.Common.{◌≡◌, List, [], ◌∷◌, Some, None, ap, sym, subst, ◌∙◌, refl}
use Rattle.std.specs.Prelude.{Option}
use Rattle.dk_model.specs.Trees.{Tree}
use Rattle.dk_model.specs.declared.code.Fault.{Fault}
use Rattle.dk_parser.specs.Written.{Written, WrittenParam}
use Rattle.shared_term.specs.Changes.{joined}
use Rattle.shared_term.specs.declared.change.Pair.TheVariants.{Abstraction, Product}
use Rattle.scope_terms.specs.Answers.{IsFaultOf}
use Rattle.scope_terms.specs.Placing.{under_params}
use Rattle.scope_terms.specs.Scopes.{Binder, Declaration, Numbered, Scoping, Symbols, both, declaration_of, no_names, one, refused, scoped, term_of, with_parameter}
use Rattle.scope_terms.proofs.Stages.{both_first, both_second, one_fault}

abbrev whole : Tree → Tree → Declaration
whole t b = record { typ = Some t; body = Some b }

abbrev typed : Tree → Declaration
typed t = record { typ = Some t; body = None }

abbrev bodied : Tree → Declaration
bodied b = record { typ = None; body = Some b }

abbrev plain : Option Tree → Option Tree → Declaration
plain t b = record { typ = t; body = b }

-- ---- without parameters

both_bare : (s t : Scoping Tree) → both plain (one Some s) (one Some t) ≡ both whole s t
both_bare (refused c) t = refl
both_bare (scoped x) (refused c) = refl
both_bare (scoped x) (scoped y) = refl

typ_bare : (s : Scoping Tree) → both plain (one Some s) (scoped None) ≡ one typed s
typ_bare (refused c) = refl
typ_bare (scoped x) = refl

body_bare : (s : Scoping Tree) → both plain (scoped None) (one Some s) ≡ one bodied s
body_bare (refused c) = refl
body_bare (scoped x) = refl

-- ---- under one more

both_under : (a s t : Scoping Tree) → both with_parameter a (both whole s t) ≡ both whole (both (joined Product) a s) (both (joined Abstraction) a t)
both_under (refused c) s t = refl
both_under (scoped a) (refused c) t = refl
both_under (scoped a) (scoped x) (refused c) = refl
both_under (scoped a) (scoped x) (scoped y) = refl

typ_under : (a s : Scoping Tree) → both with_parameter a (one typed s) ≡ one typed (both (joined Product) a s)
typ_under (refused c) s = refl
typ_under (scoped a) (refused c) = refl
typ_under (scoped a) (scoped x) = refl

body_under : (a s : Scoping Tree) → both with_parameter a (one bodied s) ≡ one bodied (both (joined Abstraction) a s)
body_under (refused c) s = refl
body_under (scoped a) (refused c) = refl
body_under (scoped a) (scoped x) = refl

-- ---- under all

module _ (symbols : Symbols) (names : Numbered) where
  declared_whole : (bound : List Binder) (ps : List WrittenParam) (t b : Written) → declaration_of symbols names bound ps (Some t) (Some b) ≡ both whole (under_params symbols names Product bound ps t) (under_params symbols names Abstraction bound ps b)
  declared_whole bound [] t b = both_bare (term_of symbols names no_names bound t) (term_of symbols names no_names bound b)
  declared_whole bound (p ∷ ps) t b =
      ap (both with_parameter (term_of symbols names no_names bound p.typ)) (declared_whole (p.binder ∷ bound) ps t b)
      ∙ both_under (term_of symbols names no_names bound p.typ) (under_params symbols names Product (p.binder ∷ bound) ps t) (under_params symbols names Abstraction (p.binder ∷ bound) ps b)

  declared_typed : (bound : List Binder) (ps : List WrittenParam) (t : Written) → declaration_of symbols names bound ps (Some t) None ≡ one typed (under_params symbols names Product bound ps t)
  declared_typed bound [] t = typ_bare (term_of symbols names no_names bound t)
  declared_typed bound (p ∷ ps) t =
      ap (both with_parameter (term_of symbols names no_names bound p.typ)) (declared_typed (p.binder ∷ bound) ps t)
      ∙ typ_under (term_of symbols names no_names bound p.typ) (under_params symbols names Product (p.binder ∷ bound) ps t)

  declared_bodied : (bound : List Binder) (ps : List WrittenParam) (b : Written) → declaration_of symbols names bound ps None (Some b) ≡ one bodied (under_params symbols names Abstraction bound ps b)
  declared_bodied bound [] b = body_bare (term_of symbols names no_names bound b)
  declared_bodied bound (p ∷ ps) b =
      ap (both with_parameter (term_of symbols names no_names bound p.typ)) (declared_bodied (p.binder ∷ bound) ps b)
      ∙ body_under (term_of symbols names no_names bound p.typ) (under_params symbols names Abstraction (p.binder ∷ bound) ps b)

  -- ---- what the code comes to

  pub whole_placed : (bound : List Binder) (ps : List WrittenParam) (t b : Written) (x y : Tree) → under_params symbols names Product bound ps t ≡ scoped x → under_params symbols names Abstraction bound ps b ≡ scoped y
      → declaration_of symbols names bound ps (Some t) (Some b) ≡ scoped (whole x y)
  whole_placed bound ps t b x y is it =
      declared_whole bound ps t b ∙ ap (λ (s : Scoping Tree). both whole s (under_params symbols names Abstraction bound ps b)) is ∙ ap (one (whole x)) it

  pub whole_first_fault : (bound : List Binder) (ps : List WrittenParam) (t b : Written) (e : Fault) → IsFaultOf (under_params symbols names Product bound ps t) e
      → IsFaultOf (declaration_of symbols names bound ps (Some t) (Some b)) e
  whole_first_fault bound ps t b e is =
      subst (λ (s : Scoping Declaration). IsFaultOf s e) (sym (declared_whole bound ps t b))
      (both_first whole (under_params symbols names Product bound ps t) (under_params symbols names Abstraction bound ps b) e is)

  pub whole_second_fault : (bound : List Binder) (ps : List WrittenParam) (t b : Written) (x : Tree) (e : Fault) → under_params symbols names Product bound ps t ≡ scoped x → IsFaultOf (under_params symbols names Abstraction bound ps b) e
      → IsFaultOf (declaration_of symbols names bound ps (Some t) (Some b)) e
  whole_second_fault bound ps t b x e is it =
      subst (λ (s : Scoping Declaration). IsFaultOf s e) (sym (declared_whole bound ps t b))
      (both_second whole (under_params symbols names Product bound ps t) (under_params symbols names Abstraction bound ps b) x e is it)

  pub typed_placed : (bound : List Binder) (ps : List WrittenParam) (t : Written) (x : Tree) → under_params symbols names Product bound ps t ≡ scoped x
      → declaration_of symbols names bound ps (Some t) None ≡ scoped (typed x)
  typed_placed bound ps t x is = declared_typed bound ps t ∙ ap (one typed) is

  pub typed_fault : (bound : List Binder) (ps : List WrittenParam) (t : Written) (e : Fault) → IsFaultOf (under_params symbols names Product bound ps t) e
      → IsFaultOf (declaration_of symbols names bound ps (Some t) None) e
  typed_fault bound ps t e is =
      subst (λ (s : Scoping Declaration). IsFaultOf s e) (sym (declared_typed bound ps t)) (one_fault typed (under_params symbols names Product bound ps t) e is)

  pub bodied_placed : (bound : List Binder) (ps : List WrittenParam) (b : Written) (y : Tree) → under_params symbols names Abstraction bound ps b ≡ scoped y
      → declaration_of symbols names bound ps None (Some b) ≡ scoped (bodied y)
  bodied_placed bound ps b y is = declared_bodied bound ps b ∙ ap (one bodied) is

  pub bodied_fault : (bound : List Binder) (ps : List WrittenParam) (b : Written) (e : Fault) → IsFaultOf (under_params symbols names Abstraction bound ps b) e
      → IsFaultOf (declaration_of symbols names bound ps None (Some b)) e
  bodied_fault bound ps b e is =
      subst (λ (s : Scoping Declaration). IsFaultOf s e) (sym (declared_bodied bound ps b)) (one_fault bodied (under_params symbols names Abstraction bound ps b) e is)
