-- What inference and checking give, from what their parts gave.
use Rattle.std.proofs.Common.{List, ◌∷◌, ◌≡◌, ℕ, false, refl, ap, ◌∙◌, sym as flip}
use Rattle.dk_model.specs.Trees.{Tree, bare, annotated, product}
use Rattle.dk_model.specs.Substitution.{substitute}
use Rattle.dk_model.specs.Erasure.{erased}
use Rattle.dk_model.specs.Signatures.{PlainSignature}
use Rattle.dk_model.specs.Typing.{Judged, by_units, answer, refused, ended, next, not_kind, as_product, as_sort, as_star, as_convertible, inferred, checked, sort_of, is_abstraction}
use Rattle.dk_model.specs.declared.code.Code.TheVariants.{E20, E21, E24}
use Rattle.dk_model.proofs.Inference.{checked_by_inference}
use Rattle.dk_model.specs.declared.stop.TypeFault.{TypeFault}
use Rattle.dk_model.specs.declared.stop.TypeFault.TheVariants.{Refused, Ended, NoMemory}
use Rattle.infer_check.specs.Given.{Fails}
use Rattle.infer_check.specs.Spine.{argument_type, domain_fits}

-- stages

pub next_next : {A B C : Type 0} (x : Judged A) (f : A → ℕ → Judged B) (g : B → ℕ → Judged C) → next (next x f) g ≡ next x (λ a n. next (f a n) g)
next_next (answer a n) f g = refl
next_next (refused c n) f g = refl
next_next ended f g = refl

pub next_answer : (x : Judged Tree) → next x answer ≡ x
next_answer (answer a n) = refl
next_answer (refused c n) = refl
next_answer ended = refl

pub fails_next : {A B : Type 0} (f : TypeFault) (spare : ℕ) (x : Judged A) (g : A → ℕ → Judged B) → Fails f spare x → Fails f spare (next x g)
fails_next (Refused c) spare x g e = ap (λ y. next y g) e
fails_next Ended spare x g e = (ap (λ y. next y g) e.0, e.1)
fails_next NoMemory spare x g e = tt

pub fails_is : {A : Type 0} (f : TypeFault) (spare : ℕ) (x y : Judged A) → x ≡ y → Fails f spare y → Fails f spare x
fails_is (Refused c) spare x y e h = e ∙ h
fails_is Ended spare x y e h = (e ∙ h.0, h.1)
fails_is NoMemory spare x y e h = tt

goes : {A B : Type 0} (x : Judged A) (a : A) (n : ℕ) (g : A → ℕ → Judged B) → x ≡ answer a n → next x g ≡ g a n
goes x a n g e = ap (λ y. next y g) e

module _ (S : PlainSignature) (V G : List Tree) where
  -- a domain
  pub domain_infer_fails : (f : TypeFault) (spare : ℕ) (d : Tree) (n : ℕ) → Fails f spare (inferred S V G d n) → Fails f spare (domain_fits S V G d n)
  domain_infer_fails f spare d n h = fails_next f spare (inferred S V G d n) (as_star S) h

  pub domain_star : (d s : Tree) (n m : ℕ) → inferred S V G d n ≡ answer s m → domain_fits S V G d n ≡ as_star S s m
  domain_star d s n m e = goes (inferred S V G d n) s m (as_star S) e

  -- an abstraction
  abbrev of_abstraction : Tree → Tree → Unit {0} → ℕ → Judged Tree
  of_abstraction d b u n = next (inferred S V (erased d ∷ G) b n) (λ B i. next (not_kind B i) (λ C j. answer (product (erased d) C) j))

  abstraction_is : (d b : Tree) (n : ℕ) → inferred S V G (annotated d b) n ≡ next (domain_fits S V G d n) (of_abstraction d b)
  abstraction_is d b n = flip (next_next (inferred S V G d n) (as_star S) (of_abstraction d b))

  pub abstraction_domain_fails : (f : TypeFault) (spare : ℕ) (d b : Tree) (n : ℕ) → Fails f spare (domain_fits S V G d n) → Fails f spare (inferred S V G (annotated d b) n)
  abstraction_domain_fails f spare d b n h = fails_is f spare _ _ (abstraction_is d b n) (fails_next f spare (domain_fits S V G d n) (of_abstraction d b) h)

  pub abstraction_body : (d b : Tree) (n m : ℕ) → domain_fits S V G d n ≡ answer tt m → inferred S V G (annotated d b) n
      ≡ next (inferred S V (erased d ∷ G) b m) (λ B i. next (not_kind B i) (λ C j. answer (product (erased d) C) j))
  abstraction_body d b n m e = abstraction_is d b n ∙ goes (domain_fits S V G d n) tt m (of_abstraction d b) e

  pub abstraction_body_fails : (f : TypeFault) (spare : ℕ) (d b : Tree) (n m : ℕ) → domain_fits S V G d n ≡ answer tt m → Fails f spare (inferred S V (erased d ∷ G) b m)
      → Fails f spare (inferred S V G (annotated d b) n)
  abstraction_body_fails f spare d b n m e h = fails_is f spare _ _ (abstraction_body d b n m e) (fails_next f spare (inferred S V (erased d ∷ G) b m) _ h)

  pub abstraction_kind : (d b B : Tree) (n m i : ℕ) → domain_fits S V G d n ≡ answer tt m → inferred S V (erased d ∷ G) b m ≡ answer B i → inferred S V G (annotated d b) n
      ≡ next (not_kind B i) (λ C j. answer (product (erased d) C) j)
  abstraction_kind d b B n m i e q = abstraction_body d b n m e ∙ goes (inferred S V (erased d ∷ G) b m) B i _ q

  pub abstraction_kind_fails : (f : TypeFault) (spare : ℕ) (d b B : Tree) (n m i : ℕ) → domain_fits S V G d n ≡ answer tt m → inferred S V (erased d ∷ G) b m ≡ answer B i → Fails f spare (not_kind B i)
      → Fails f spare (inferred S V G (annotated d b) n)
  abstraction_kind_fails f spare d b B n m i e q h = fails_is f spare _ _ (abstraction_kind d b B n m i e q) (fails_next f spare (not_kind B i) _ h)

  pub abstraction_given : (d b B C : Tree) (n m i : ℕ) → domain_fits S V G d n ≡ answer tt m → inferred S V (erased d ∷ G) b m ≡ answer B i → not_kind B i ≡ answer C i
      → inferred S V G (annotated d b) n ≡ answer (product (erased d) C) i
  abstraction_given d b B C n m i e q r = abstraction_kind d b B n m i e q ∙ goes (not_kind B i) C i _ r

  -- a product
  abbrev of_product : Tree → Tree → Unit {0} → ℕ → Judged Tree
  of_product d b u n = next (inferred S V (erased d ∷ G) b n) (as_sort S)

  product_is : (d b : Tree) (n : ℕ) → inferred S V G (product d b) n ≡ next (domain_fits S V G d n) (of_product d b)
  product_is d b n = flip (next_next (inferred S V G d n) (as_star S) (of_product d b))

  pub product_domain_fails : (f : TypeFault) (spare : ℕ) (d b : Tree) (n : ℕ) → Fails f spare (domain_fits S V G d n) → Fails f spare (inferred S V G (product d b) n)
  product_domain_fails f spare d b n h = fails_is f spare _ _ (product_is d b n) (fails_next f spare (domain_fits S V G d n) (of_product d b) h)

  pub product_codomain : (d b : Tree) (n m : ℕ) → domain_fits S V G d n ≡ answer tt m → inferred S V G (product d b) n ≡ next (inferred S V (erased d ∷ G) b m) (as_sort S)
  product_codomain d b n m e = product_is d b n ∙ goes (domain_fits S V G d n) tt m (of_product d b) e

  pub product_codomain_fails : (f : TypeFault) (spare : ℕ) (d b : Tree) (n m : ℕ) → domain_fits S V G d n ≡ answer tt m → Fails f spare (inferred S V (erased d ∷ G) b m)
      → Fails f spare (inferred S V G (product d b) n)
  product_codomain_fails f spare d b n m e h = fails_is f spare _ _ (product_codomain d b n m e) (fails_next f spare (inferred S V (erased d ∷ G) b m) (as_sort S) h)

  pub product_sort : (d b B : Tree) (n m i : ℕ) → domain_fits S V G d n ≡ answer tt m → inferred S V (erased d ∷ G) b m ≡ answer B i → inferred S V G (product d b) n ≡ as_sort S B i
  product_sort d b B n m i e q = product_codomain d b n m e ∙ goes (inferred S V (erased d ∷ G) b m) B i (as_sort S) q

  -- an argument
  pub argument_product_fails : (f : TypeFault) (spare : ℕ) (a F : Tree) (n : ℕ) → Fails f spare (as_product S E20 F n) → Fails f spare (argument_type S V G a F n)
  argument_product_fails f spare a F n h = fails_next f spare (as_product S E20 F n) _ h

  pub argument_check : (a F A B : Tree) (n m : ℕ) → as_product S E20 F n ≡ answer (A, B) m → argument_type S V G a F n ≡ next (checked S V G a A m) (λ u i. answer (substitute 0 (erased a) B) i)
  argument_check a F A B n m e = goes (as_product S E20 F n) (A, B) m _ e

  pub argument_check_fails : (f : TypeFault) (spare : ℕ) (a F A B : Tree) (n m : ℕ) → as_product S E20 F n ≡ answer (A, B) m → Fails f spare (checked S V G a A m) → Fails f spare (argument_type S V G a F n)
  argument_check_fails f spare a F A B n m e h = fails_is f spare _ _ (argument_check a F A B n m e) (fails_next f spare (checked S V G a A m) _ h)

  pub argument_given_type : (a F A B : Tree) (n m i : ℕ) → as_product S E20 F n ≡ answer (A, B) m → checked S V G a A m ≡ answer tt i
      → argument_type S V G a F n ≡ answer (substitute 0 (erased a) B) i
  argument_given_type a F A B n m i e q = argument_check a F A B n m e ∙ goes (checked S V G a A m) tt i _ q

  -- checking by inference
  pub check_infer_fails : (f : TypeFault) (spare : ℕ) (t T : Tree) (n : ℕ) → is_abstraction t ≡ false → Fails f spare (inferred S V G t n) → Fails f spare (checked S V G t T n)
  check_infer_fails f spare t T n e h = fails_is f spare _ _ (checked_by_inference (by_units S) S V G t T n e) (fails_next f spare (inferred S V G t n) _ h)

  pub check_same : (t T U : Tree) (n m : ℕ) → is_abstraction t ≡ false → inferred S V G t n ≡ answer U m → checked S V G t T n ≡ as_convertible S E21 U T m
  check_same t T U n m e q = checked_by_inference (by_units S) S V G t T n e ∙ goes (inferred S V G t n) U m _ q

  -- a bare abstraction
  pub bare_product_fails : (f : TypeFault) (spare : ℕ) (b T : Tree) (n : ℕ) → Fails f spare (as_product S E24 T n) → Fails f spare (checked S V G (bare b) T n)
  bare_product_fails f spare b T n h = fails_next f spare (as_product S E24 T n) _ h

  pub bare_body : (b T A B : Tree) (n m : ℕ) → as_product S E24 T n ≡ answer (A, B) m → checked S V G (bare b) T n ≡ checked S V (A ∷ G) b B m
  bare_body b T A B n m e = goes (as_product S E24 T n) (A, B) m _ e

  pub bare_body_fails : (f : TypeFault) (spare : ℕ) (b T A B : Tree) (n m : ℕ) → as_product S E24 T n ≡ answer (A, B) m → Fails f spare (checked S V (A ∷ G) b B m) → Fails f spare (checked S V G (bare b) T n)
  bare_body_fails f spare b T A B n m e h = fails_is f spare _ _ (bare_body b T A B n m e) h

  pub bare_given : (b T A B : Tree) (n m i : ℕ) → as_product S E24 T n ≡ answer (A, B) m → checked S V (A ∷ G) b B m ≡ answer tt i → checked S V G (bare b) T n ≡ answer tt i
  bare_given b T A B n m i e q = bare_body b T A B n m e ∙ q

  -- an annotated abstraction
  pub annotated_product_fails : (f : TypeFault) (spare : ℕ) (d b T : Tree) (n : ℕ) → Fails f spare (as_product S E24 T n) → Fails f spare (checked S V G (annotated d b) T n)
  annotated_product_fails f spare d b T n h = fails_next f spare (as_product S E24 T n) _ h

  abbrev of_annotated : Tree → Tree → Tree → Tree → Unit {0} → ℕ → Judged (Unit {0})
  of_annotated d b A B u n = next (as_convertible S E21 (erased d) A n) (λ v i. checked S V (A ∷ G) b B i)

  pub annotated_domain : (d b T A B : Tree) (n m : ℕ) → as_product S E24 T n ≡ answer (A, B) m → checked S V G (annotated d b) T n ≡ next (domain_fits S V G d m) (of_annotated d b A B)
  annotated_domain d b T A B n m e = goes (as_product S E24 T n) (A, B) m _ e ∙ flip (next_next (inferred S V G d m) (as_star S) (of_annotated d b A B))

  pub annotated_domain_fails : (f : TypeFault) (spare : ℕ) (d b T A B : Tree) (n m : ℕ) → as_product S E24 T n ≡ answer (A, B) m → Fails f spare (domain_fits S V G d m) → Fails f spare (checked S V G (annotated d b) T n)
  annotated_domain_fails f spare d b T A B n m e h = fails_is f spare _ _ (annotated_domain d b T A B n m e) (fails_next f spare (domain_fits S V G d m) (of_annotated d b A B) h)

  pub annotated_same : (d b T A B : Tree) (n m i : ℕ) → as_product S E24 T n ≡ answer (A, B) m → domain_fits S V G d m ≡ answer tt i
      → checked S V G (annotated d b) T n ≡ next (as_convertible S E21 (erased d) A i) (λ v j. checked S V (A ∷ G) b B j)
  annotated_same d b T A B n m i e q = annotated_domain d b T A B n m e ∙ goes (domain_fits S V G d m) tt i (of_annotated d b A B) q

  pub annotated_same_fails : (f : TypeFault) (spare : ℕ) (d b T A B : Tree) (n m i : ℕ) → as_product S E24 T n ≡ answer (A, B) m → domain_fits S V G d m ≡ answer tt i
      → Fails f spare (as_convertible S E21 (erased d) A i) → Fails f spare (checked S V G (annotated d b) T n)
  annotated_same_fails f spare d b T A B n m i e q h = fails_is f spare _ _ (annotated_same d b T A B n m i e q) (fails_next f spare (as_convertible S E21 (erased d) A i) _ h)

  pub annotated_body : (d b T A B : Tree) (n m i j : ℕ) → as_product S E24 T n ≡ answer (A, B) m → domain_fits S V G d m ≡ answer tt i → as_convertible S E21 (erased d) A i ≡ answer tt j
      → checked S V G (annotated d b) T n ≡ checked S V (A ∷ G) b B j
  annotated_body d b T A B n m i j e q r = annotated_same d b T A B n m i e q ∙ goes (as_convertible S E21 (erased d) A i) tt j _ r

  pub annotated_body_fails : (f : TypeFault) (spare : ℕ) (d b T A B : Tree) (n m i j : ℕ) → as_product S E24 T n ≡ answer (A, B) m → domain_fits S V G d m ≡ answer tt i → as_convertible S E21 (erased d) A i ≡ answer tt j
      → Fails f spare (checked S V (A ∷ G) b B j) → Fails f spare (checked S V G (annotated d b) T n)
  annotated_body_fails f spare d b T A B n m i j e q r h = fails_is f spare _ _ (annotated_body d b T A B n m i j e q r) h

  pub annotated_given : (d b T A B : Tree) (n m i j k : ℕ) → as_product S E24 T n ≡ answer (A, B) m → domain_fits S V G d m ≡ answer tt i → as_convertible S E21 (erased d) A i ≡ answer tt j
      → checked S V (A ∷ G) b B j ≡ answer tt k → checked S V G (annotated d b) T n ≡ answer tt k
  annotated_given d b T A B n m i j k e q r h = annotated_body d b T A B n m i j e q r ∙ h

  -- the sort of a type
  pub sort_fails : (f : TypeFault) (spare : ℕ) (t : Tree) (n : ℕ) → Fails f spare (inferred S V G t n) → Fails f spare (sort_of S V G t n)
  sort_fails f spare t n h = fails_next f spare (inferred S V G t n) (as_sort S) h

  pub sort_given : (t T : Tree) (n m : ℕ) → inferred S V G t n ≡ answer T m → sort_of S V G t n ≡ as_sort S T m
  sort_given t T n m e = goes (inferred S V G t n) T m (as_sort S) e
