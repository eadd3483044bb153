-- What the typing of a declaration gives, from what its parts gave.
use Rattle.std.proofs.Common.{[], ◌≡◌, ◌∙◌, ℕ, Option, Some, None, ap, sym as flip}
use Rattle.dk_model.specs.Trees.{Tree}
use Rattle.dk_model.specs.Signatures.{PlainSignature}
use Rattle.dk_model.specs.Typing.{Judged, answer, next, not_kind, inferred, sort_of}
use Rattle.dk_model.specs.Verdicts.{body_checked, body_type, declaration_checked}
use Rattle.dk_model.specs.declared.stop.TypeFault.{TypeFault}
use Rattle.infer_check.specs.Contexts.{rule_types, bound_types}
use Rattle.infer_check.specs.Given.{Fails}
use Rattle.infer_check.specs.declared.walk.Walk.{Walk}
use Rattle.infer_check.proofs.Contexts.{rule_types_empty, bound_types_empty}
use Rattle.infer_check.proofs.Judging.{fails_next}

goes : {A B : Type 0} (x : Judged A) (a : A) (n : ℕ) (g : A → ℕ → Judged B) → x ≡ answer a n → next x g ≡ g a n
goes x a n g e = ap (λ y. next y g) e

-- typing without variables in the context
module _ {R T : Type 0} (denotes : R → T → Tree) (S : PlainSignature) (r : R) (w : Walk T) (t u U : Tree) (n m : ℕ) (v : w.context.rule_vars ≡ []) (g : w.context.bound ≡ []) (e : t ≡ u) (l : w.left ≡ n) where
  pub sorted_alone : sort_of S (rule_types denotes r w.context) (bound_types denotes r w.context) t w.left ≡ answer U m → sort_of S [] [] u n ≡ answer U m
  sorted_alone h = (λ i. sort_of S (flip (rule_types_empty denotes r w.context v) i) (flip (bound_types_empty denotes r w.context g) i) (flip e i) (flip l i)) ∙ h

  pub inferred_alone : inferred S (rule_types denotes r w.context) (bound_types denotes r w.context) t w.left ≡ answer U m → inferred S [] [] u n ≡ answer U m
  inferred_alone h = (λ i. inferred S (flip (rule_types_empty denotes r w.context v) i) (flip (bound_types_empty denotes r w.context g) i) (flip e i) (flip l i)) ∙ h

module _ (S : PlainSignature) where
  pub declared_fails : (f : TypeFault) (spare : ℕ) (A : Tree) (b : Option Tree) (n : ℕ) → Fails f spare (sort_of S [] [] A n) → Fails f spare (declaration_checked S (Some A) b n)
  declared_fails f spare A b n h = fails_next f spare (sort_of S [] [] A n) (λ s m. body_checked S A b m) h

  pub declared_body : (A s : Tree) (b : Option Tree) (n m : ℕ) → sort_of S [] [] A n ≡ answer s m → declaration_checked S (Some A) b n ≡ body_checked S A b m
  declared_body A s b n m e = goes (sort_of S [] [] A n) s m (λ t i. body_checked S A b i) e

  pub untyped_fails : (f : TypeFault) (spare : ℕ) (b : Tree) (n : ℕ) → Fails f spare (body_type S b n) → Fails f spare (declaration_checked S None (Some b) n)
  untyped_fails f spare b n h = fails_next f spare (body_type S b n) (λ T m. answer tt m) h

  pub untyped_given : (b T : Tree) (n m : ℕ) → body_type S b n ≡ answer T m → declaration_checked S None (Some b) n ≡ answer tt m
  untyped_given b T n m e = goes (body_type S b n) T m (λ U i. answer tt i) e

  pub body_fails : (f : TypeFault) (spare : ℕ) (b : Tree) (n : ℕ) → Fails f spare (inferred S [] [] b n) → Fails f spare (body_type S b n)
  body_fails f spare b n h = fails_next f spare (inferred S [] [] b n) not_kind h

  pub body_kind : (b T : Tree) (n m : ℕ) → inferred S [] [] b n ≡ answer T m → body_type S b n ≡ not_kind T m
  body_kind b T n m e = goes (inferred S [] [] b n) T m not_kind e
