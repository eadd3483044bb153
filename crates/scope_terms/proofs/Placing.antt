-- What is made of two parts, one after the other.
use Rattle.std.proofs.Common.{◌≡◌, ◌-◌, ◌<◌, ◌≤◌, List, [], ◌∷◌, drop, get_or, length, map, take, ap, sym, subst, ◌∙◌, refl, arith}
use Rattle.std.proofs.lemmas.List.{take_all}
use Rattle.std.specs.Prelude.{None}
use Rattle.dk_model.specs.Trees.{Tree}
use Rattle.dk_model.specs.declared.code.Fault.{Fault}
use Rattle.dk_parser.specs.RawViews.{written, written_param}
use Rattle.dk_parser.specs.declared.raw.RawParam.{RawParam}
use Rattle.dk_terms.specs.declared.raw.RawTerm.{RawTerm}
use Rattle.shared_term.specs.Changes.{joined}
use Rattle.shared_term.specs.declared.change.Pair.{Pair}
use Rattle.scope_terms.specs.Answers.{IsFaultOf}
use Rattle.scope_terms.specs.Binding.{binders}
use Rattle.scope_terms.specs.Meanings.{declaring, names_of, rule_variables, symbols_of, term_sense}
use Rattle.scope_terms.specs.Placing.{Pushes, no_parts, under_params, under_sense}
use Rattle.scope_terms.specs.Scopes.{Binder, Declaration, Numbered, Scoping, both, declaration_of, no_names, one, scoped, term_of, with_parameter}
use Rattle.scope_terms.specs.declared.binders.Binders.{Binders}
use Rattle.scope_terms.specs.declared.meaning.Scope.{Scope}
use Rattle.scope_terms.proofs.Stages.{both_scoped, both_second, one_scoped}

pub pushes_both : (f : Tree → Tree → Tree) (s t : Scoping Tree) (old mid later new : List Tree) → Pushes s old mid → Pushes t mid later
    → ((x y : Tree) (rest : List Tree) → later ≡ y ∷ x ∷ rest → new ≡ f x y ∷ rest) → Pushes (both f s t) old new
pushes_both f s t old mid later new p q join = record {
  term = f p.term q.term;
  is = both_scoped f s t p.term q.term (f p.term q.term) p.is q.is refl;
  made = join p.term q.term old (q.made ∙ ap (λ ts. q.term ∷ ts) p.made);
}

pub two_pushed : (s t : Scoping Tree) (old mid later : List Tree) → Pushes s old mid → Pushes t mid later → 2 ≤ length later
two_pushed s t old mid later p q =
    subst (λ (ts : List Tree). 2 ≤ length ts) (sym (q.made ∙ ap (λ ts. q.term ∷ ts) p.made)) (omega arith)

pub second_fault : (f : Tree → Tree → Tree) (s t : Scoping Tree) (old mid : List Tree) (e : Fault) → Pushes s old mid → IsFaultOf t e → IsFaultOf (both f s t) e
second_fault f s t old mid e p is = both_second f s t p.term e p.is is

pub pushes_one : (f : Tree → Tree) (s : Scoping Tree) (old mid new : List Tree) → Pushes s old mid
    → ((x : Tree) (rest : List Tree) → mid ≡ x ∷ rest → new ≡ f x ∷ rest) → Pushes (one f s) old new
pushes_one f s old mid new p under = record {
  term = f p.term;
  is = one_scoped f s p.term (f p.term) p.is refl;
  made = under p.term old p.made;
}

pub one_pushed : (s : Scoping Tree) (old mid : List Tree) → Pushes s old mid → 0 < length mid
one_pushed s old mid p = subst (λ (ts : List Tree). 0 < length ts) (sym p.made) (omega arith)

-- the term that was made is taken out
pub taken_scoped : (s : Scoping Tree) (old new : List Tree) (t : Tree) → Pushes s old new → ((x : Tree) (rest : List Tree) → new ≡ x ∷ rest → t ≡ x) → s ≡ scoped t
taken_scoped s old new t p taken = p.is ∙ ap scoped (sym (taken p.term old p.made))

-- ---- a parameter, and what is made under it

-- what stands behind the first item of a slice
abbrev pub behind : {A : Type 0} → List A → List A
behind xs = take (length xs - 1) (drop 1 xs)

pub headed : {A : Type 0} (xs : List A) (x : A) → 1 ≤ length xs → x ≡ get_or xs 0 x → xs ≡ x ∷ behind xs
headed [] x l e = absurd (omega arith)
headed (y ∷ ys) x l e = ap (λ z. z ∷ ys) (sym e) ∙ ap (λ zs. x ∷ zs) (sym (take_all (length (y ∷ ys) - 1) ys (omega arith)))

module _ (scope : Scope) (bound under : Binders) (pair : Pair) (param : RawParam) (others all : List RawParam) (raw : RawTerm) where
  -- the term under one parameter more
  under_more : rule_variables scope ≡ no_names → all ≡ param ∷ others → binders under ≡ param.binder ∷ binders bound
      → both (joined pair) (term_sense scope bound param.typ) (under_sense scope under pair others raw) ≡ under_sense scope bound pair all raw
  under_more none is at =
      ap (λ (v : Numbered). both (joined pair) (term_of (symbols_of scope) (names_of scope) v (binders bound) (written param.typ)) (under_sense scope under pair others raw)) none
      ∙ ap (λ (bs : List Binder). both (joined pair) (term_of (symbols_of scope) (names_of scope) no_names (binders bound) (written param.typ)) (under_params (symbols_of scope) (names_of scope) pair bs (map written_param others) (written raw))) at
      ∙ ap (λ (ps : List RawParam). under_sense scope bound pair ps raw) (sym is)

  pub under_placed : (old mid later new : List Tree) → rule_variables scope ≡ no_names → all ≡ param ∷ others → binders under ≡ param.binder ∷ binders bound
      → Pushes (term_sense scope bound param.typ) old mid → Pushes (under_sense scope under pair others raw) mid later
      → ((x y : Tree) (rest : List Tree) → later ≡ y ∷ x ∷ rest → new ≡ joined pair x y ∷ rest) → Pushes (under_sense scope bound pair all raw) old new
  under_placed old mid later new none is at p q join =
      subst (λ (s : Scoping Tree). Pushes s old new) (under_more none is at)
      (pushes_both (joined pair) (term_sense scope bound param.typ) (under_sense scope under pair others raw) old mid later new p q join)

-- ---- a parameter with nothing under it

module _ (scope : Scope) (bound under : Binders) (param : RawParam) (others all : List RawParam) where
  params_more : rule_variables scope ≡ no_names → all ≡ param ∷ others → binders under ≡ param.binder ∷ binders bound
      → both with_parameter (term_sense scope bound param.typ) (declaring scope under others None None) ≡ declaring scope bound all None None
  params_more none is at =
      ap (λ (v : Numbered). both with_parameter (term_of (symbols_of scope) (names_of scope) v (binders bound) (written param.typ)) (declaring scope under others None None)) none
      ∙ ap (λ (bs : List Binder). both with_parameter (term_of (symbols_of scope) (names_of scope) no_names (binders bound) (written param.typ)) (declaration_of (symbols_of scope) (names_of scope) bs (map written_param others) None None)) at
      ∙ ap (λ (ps : List RawParam). declaring scope bound ps None None) (sym is)

  pub params_placed : (old mid : List Tree) → rule_variables scope ≡ no_names → all ≡ param ∷ others → binders under ≡ param.binder ∷ binders bound
      → Pushes (term_sense scope bound param.typ) old mid → declaring scope under others None None ≡ scoped no_parts → declaring scope bound all None None ≡ scoped no_parts
  params_placed old mid none is at p q =
      sym (params_more none is at) ∙ both_scoped with_parameter (term_sense scope bound param.typ) (declaring scope under others None None) p.term no_parts no_parts p.is q refl

  pub params_second_fault : (old mid : List Tree) (e : Fault) → rule_variables scope ≡ no_names → all ≡ param ∷ others → binders under ≡ param.binder ∷ binders bound
      → Pushes (term_sense scope bound param.typ) old mid → IsFaultOf (declaring scope under others None None) e → IsFaultOf (declaring scope bound all None None) e
  params_second_fault old mid e none is at p f =
      subst (λ (s : Scoping Declaration). IsFaultOf s e) (params_more none is at) (both_second with_parameter (term_sense scope bound param.typ) (declaring scope under others None None) p.term e p.is f)
