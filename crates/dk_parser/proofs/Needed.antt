-- The modules that a written term needs, from the last operation of its list on.
use Rattle.std.proofs.Common.{◌≡◌, ℕ, List, [], ◌∷◌, ◌++◌, ap, sym, ◌∙◌, refl, append_assoc, append-nil, arith, length}
use Rattle.std.specs.Prelude.{reverse}
use Rattle.std.specs.List.{flat_map}
use Rattle.std.proofs.lemmas.Grind.{flat_map-append}
use Rattle.std.proofs.lemmas.List.{reverse-append}
use Rattle.dk_parser.specs.Modules.{modules_in}
use Rattle.dk_parser.specs.Needed.{modules_at}
use Rattle.dk_parser.specs.RawViews.{written}
use Rattle.dk_parser.specs.Written.{Written}
use Rattle.dk_terms.specs.Makes.{Makes, MakesTerm, made_already, makes_then, makes_name, makes_qualified, makes_star, makes_wild, makes_application, makes_scope, makes_product, makes_bare, makes_annotated}
use Rattle.dk_terms.specs.Postfix.{Begun, Item, by_arrow, by_binder, item_scope, item_term, product_by}
use Rattle.dk_terms.specs.declared.operation.RawOperation.{RawOperation}
use Rattle.dk_terms.specs.declared.operation.RawOperation.TheVariants as operation
use Rattle.dk_terms.specs.declared.raw.RawTerm.{RawTerm}
use Rattle.dk_terms.proofs.Whole.{whole_makes}

-- the modules of the terms among the items, the last one on top
abbrev item_modules : List Item → List (List ℕ)
item_modules [] = []
item_modules (item_term t ∷ items) = item_modules items ++ modules_in t
item_modules (item_scope o ∷ items) = item_modules items

product_modules : (o : Begun) (a b : Written) → modules_in (product_by o a b) ≡ modules_in a ++ modules_in b
product_modules by_arrow a b = refl
product_modules (by_binder v) a b = refl

-- those of two terms
two_modules : (ms ns os : List (List ℕ)) → ((ms ++ ns) ++ os) ++ [] ≡ ms ++ (ns ++ os)
two_modules ms ns os = append-nil ((ms ++ ns) ++ os) ∙ append_assoc ms ns os

further : (letters : List ℕ) (x : RawOperation) (items later : List Item) → Makes letters x items later → item_modules items ++ modules_at letters x ≡ item_modules later
further letters x items later makes_name = refl
further letters x items later makes_qualified = refl
further letters x items later makes_star = refl
further letters x items later makes_wild = refl
further letters x items later (makes_application {f} {a} {items = rest}) = two_modules (item_modules rest) (modules_in f) (modules_in a)
further letters x items later makes_scope = append-nil (item_modules items)
further letters x items later (makes_product {o} {a} {b} {items = rest}) =
    two_modules (item_modules rest) (modules_in a) (modules_in b) ∙ ap (λ ms. item_modules rest ++ ms) (sym (product_modules o a b))
further letters x items later (makes_bare {o} {b} {items = rest}) = append-nil (item_modules rest ++ modules_in b)
further letters x items later (makes_annotated {o} {a} {b} {items = rest}) = two_modules (item_modules rest) (modules_in a) (modules_in b)

module _ (letters : List ℕ) where
  abbrev needs : List RawOperation → List (List ℕ)
  needs xs = flat_map (modules_at letters) xs

  needed : (t : Written) (xs : List RawOperation) (items : List Item) → MakesTerm letters t xs items → item_modules items ++ needs xs ≡ modules_in t
  needed t xs items made_already = append-nil (modules_in t)
  needed t xs items (makes_then {x} {xs = more} {items = its} {later} step rest) =
      sym (append_assoc (item_modules items) (modules_at letters x) (needs more))
      ∙ ap (λ ms. ms ++ needs more) (further letters x items later step)
      ∙ needed t more later rest

  -- an operation has one module or none
  one_or_none : (x : RawOperation) → reverse (modules_at letters x) ≡ modules_at letters x
  one_or_none (operation.Qualified s k) = refl
  one_or_none x = refl

  one_less : (front : List RawOperation) (last : RawOperation) → reverse (needs (front ++ last ∷ [])) ≡ modules_at letters last ++ reverse (needs front)
  one_less front last =
      ap reverse (flat_map-append (modules_at letters) front (last ∷ []))
      ∙ reverse-append (needs front) (needs (last ∷ []))
      ∙ ap (λ ms. reverse ms ++ reverse (needs front)) (append-nil (modules_at letters last))
      ∙ ap (λ ms. ms ++ reverse (needs front)) (one_or_none last)

  -- the last operation is gone through
  pub needed_before : (old new all : List (List ℕ)) (rest front : List RawOperation) (last : RawOperation) → old ++ reverse (needs rest) ≡ all → rest ≡ front ++ last ∷ [] → new ≡ old ++ modules_at letters last
      → new ++ reverse (needs front) ≡ all
  needed_before old new all rest front last owes less more =
      ap (λ ms. ms ++ reverse (needs front)) more
      ∙ append_assoc old (modules_at letters last) (reverse (needs front))
      ∙ ap (λ ms. old ++ ms) (sym (ap (λ xs. reverse (needs xs)) less ∙ one_less front last))
      ∙ owes

-- all are
pub all_needed : (t : RawTerm) (old new : List (List ℕ)) (rest : List RawOperation) → length rest ≡ 0 → new ++ reverse (flat_map (modules_at t.letters) rest) ≡ old ++ reverse (flat_map (modules_at t.letters) t.operations)
    → new ≡ old ++ reverse (modules_in (written t))
all_needed t old new [] none owes =
    sym (append-nil new) ∙ owes ∙ ap (λ ms. old ++ reverse ms) (needed t.letters (written t) t.operations [] (whole_makes t.letters t.operations t.whole))
all_needed t old new (x ∷ rest) none owes = absurd (omega (arith, none))
