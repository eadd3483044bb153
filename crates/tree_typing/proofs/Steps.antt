-- Typing by its parts.
use Rattle.std.proofs.Common.{List, ◌∷◌, ◌≡◌, refl, ap, ◌∙◌, sym as flip}
use Rattle.dk_model.specs.Trees.{Tree, annotated, product}
use Rattle.dk_model.specs.Erasure.{erased}
use Rattle.dk_model.specs.Signatures.{PlainSignature}
use Rattle.dk_model.specs.TypingOver.{Evaluator, JudgedIn, answer, refused, ended, next, as_product, as_star, as_convertible, not_kind, annotated_fits, inferred, checked, sort_of}
use Rattle.dk_model.specs.declared.code.Code.TheVariants.{E21, E24}
use Rattle.dk_model.specs.declared.code.Code.{Code}
use Rattle.tree_typing.specs.Steps.{domain_of, annotation_fits}
use Rattle.tree_typing.specs.Clauses.{body_type}

pub next_next : {X A B C : Type 0} (x : JudgedIn X A) (f : A → X → JudgedIn X B) (g : B → X → JudgedIn X C) → next (next x f) g ≡ next x (λ a n. next (f a n) g)
next_next (answer a n) f g = refl
next_next (refused c n) f g = refl
next_next ended f g = refl

module _ {X : Type 0} (E : Evaluator X) (S : PlainSignature) (V G : List Tree) where
  -- the rest of typing behind a domain
  domain_next : {A : Type 0} (d : Tree) (n : X) (g : Tree → X → JudgedIn X A)
      → next (inferred E S V G d n) (λ s m. next (as_star E s m) (λ u i. g (erased d) i)) ≡ next (domain_of E S V G d n) g
  domain_next d n g = flip (domain_split (inferred E S V G d n) d g) where
    star_split : {A : Type 0} (x : JudgedIn X (Unit {0})) (d : Tree) (g : Tree → X → JudgedIn X A) → next (next x (λ u i. answer (erased d) i)) g ≡ next x (λ u i. g (erased d) i)
    star_split (answer a n) d g = refl
    star_split (refused c n) d g = refl
    star_split ended d g = refl

    domain_split : {A : Type 0} (x : JudgedIn X Tree) (d : Tree) (g : Tree → X → JudgedIn X A)
        → next (next x (λ s m. next (as_star E s m) (λ u i. answer (erased d) i))) g ≡ next x (λ s m. next (as_star E s m) (λ u i. g (erased d) i))
    domain_split (answer s m) d g = star_split (as_star E s m) d g
    domain_split (refused c n) d g = refl
    domain_split ended d g = refl

  pub product_by_domain : (d b : Tree) (n : X) → inferred E S V G (product d b) n ≡ next (domain_of E S V G d n) (λ D i. sort_of E S V (D ∷ G) b i)
  product_by_domain d b n = domain_next d n (λ D i. sort_of E S V (D ∷ G) b i)

  pub abstraction_by_domain : (d b : Tree) (n : X) → inferred E S V G (annotated d b) n
      ≡ next (domain_of E S V G d n) (λ D i. next (inferred E S V (D ∷ G) b i) (λ B k. next (not_kind B k) (λ C j. answer (product D C) j)))
  abstraction_by_domain d b n = domain_next d n (λ D i. next (inferred E S V (D ∷ G) b i) (λ B k. next (not_kind B k) (λ C j. answer (product D C) j)))

  abstraction_over : (d b D : Tree) (n m : X) → domain_of E S V G d n ≡ answer D m
      → inferred E S V G (annotated d b) n ≡ next (body_type E S V (D ∷ G) b m) (λ C j. answer (product D C) j)
  abstraction_over d b D n m e = abstraction_by_domain d b n
      ∙ ap (λ x. next x (λ D i. next (inferred E S V (D ∷ G) b i) (λ B k. next (not_kind B k) (λ C j. answer (product D C) j)))) e
      ∙ flip (next_next (inferred E S V (D ∷ G) b m) not_kind (λ C j. answer (product D C) j))

  pub abstraction_given : (d b D C : Tree) (n m l : X) → domain_of E S V G d n ≡ answer D m → body_type E S V (D ∷ G) b m ≡ answer C l
      → inferred E S V G (annotated d b) n ≡ answer (product D C) l
  abstraction_given d b D C n m l e h = abstraction_over d b D n m e ∙ ap (λ x. next x (λ C j. answer (product D C) j)) h

  pub abstraction_refused : (d b D : Tree) (n m l : X) (c : Code) → domain_of E S V G d n ≡ answer D m → body_type E S V (D ∷ G) b m ≡ refused c l
      → inferred E S V G (annotated d b) n ≡ refused c l
  abstraction_refused d b D n m l c e h = abstraction_over d b D n m e ∙ ap (λ x. next x (λ C j. answer (product D C) j)) h

  pub abstraction_ended : (d b D : Tree) (n m : X) → domain_of E S V G d n ≡ answer D m → body_type E S V (D ∷ G) b m ≡ ended
      → inferred E S V G (annotated d b) n ≡ ended
  abstraction_ended d b D n m e h = abstraction_over d b D n m e ∙ ap (λ x. next x (λ C j. answer (product D C) j)) h

  annotation_next : (d b A B : Tree) (m : X) → next (inferred E S V G d m) (annotated_fits E (checked E S V (A ∷ G) b B) d A)
      ≡ next (annotation_fits E S V G d A m) (λ v j. checked E S V (A ∷ G) b B j)
  annotation_next d b A B m =
      domain_next d m (λ D i. next (as_convertible E E21 D A i) (λ v j. checked E S V (A ∷ G) b B j))
      ∙ flip (next_next (domain_of E S V G d m) (λ D i. as_convertible E E21 D A i) (λ v j. checked E S V (A ∷ G) b B j))

  pub annotated_by_annotation : (d b T A B : Tree) (n m : X) → as_product E E24 T n ≡ answer (A, B) m
      → checked E S V G (annotated d b) T n ≡ next (annotation_fits E S V G d A m) (λ v j. checked E S V (A ∷ G) b B j)
  annotated_by_annotation d b T A B n m e =
      ap (λ x. next x (λ p i. next (inferred E S V G d i) (annotated_fits E (checked E S V (p.0 ∷ G) b p.1) d p.0))) e ∙ annotation_next d b A B m
