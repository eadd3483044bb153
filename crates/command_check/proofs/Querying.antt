-- What the check of a query gives, from what its parts gave.
use Rattle.std.proofs.Common.{[], ◌≡◌, ◌∙◌, ℕ, Bool, true, false, Option, Some, ap, refl}
use Rattle.dk_model.specs.Trees.{Tree}
use Rattle.dk_model.specs.Erasure.{erased}
use Rattle.dk_model.specs.Signatures.{PlainSignature}
use Rattle.dk_model.specs.Scoping.{PlainAsked, typed, alike, type_of, value_of, PlainFound, no, query}
use Rattle.dk_model.specs.Evaluation.{normal_of}
use Rattle.dk_model.specs.Typing.{Judged, answer, refused, ended, after, next, as_convertible, inferred}
use Rattle.dk_model.specs.Verdicts.{answer_of, command_checked, compared, evaluated, found_by, found_of, query_found, verdict, verdict_of}
use Rattle.dk_model.specs.declared.code.Code.{Code}
use Rattle.dk_model.specs.declared.code.Code.TheVariants.{E21}
use Rattle.dk_model.specs.declared.code.Verdict.TheVariants.{Accepted}
use Rattle.dk_model.specs.declared.stop.TypeFault.{TypeFault}
use Rattle.infer_check.specs.Given.{Fails}
use Rattle.infer_check.proofs.Judging.{fails_is, fails_next}
use Rattle.command_check.specs.Finding.{says_no}

pub goes : {A B : Type 0} (x : Judged A) (a : A) (n : ℕ) (g : A → ℕ → Judged B) → x ≡ answer a n → next x g ≡ g a n
goes x a n g e = ap (λ y. next y g) e

module _ (S : PlainSignature) where
  -- a comparison
  pub compared_first_fails : (f : TypeFault) (spare : ℕ) (t u : Tree) (n : ℕ) → Fails f spare (inferred S [] [] t n) → Fails f spare (compared S t u n)
  compared_first_fails f spare t u n h = fails_next f spare (inferred S [] [] t n) _ h

  compared_other : (t u T : Tree) (n m : ℕ) → inferred S [] [] t n ≡ answer T m → compared S t u n ≡ next (inferred S [] [] u m) (λ U i. as_convertible S E21 (erased t) (erased u) i)
  compared_other t u T n m e = goes (inferred S [] [] t n) T m _ e

  pub compared_other_fails : (f : TypeFault) (spare : ℕ) (t u T : Tree) (n m : ℕ) → inferred S [] [] t n ≡ answer T m → Fails f spare (inferred S [] [] u m) → Fails f spare (compared S t u n)
  compared_other_fails f spare t u T n m e h = fails_is f spare _ _ (compared_other t u T n m e) (fails_next f spare (inferred S [] [] u m) _ h)

  pub compared_same : (t u T U : Tree) (n m i : ℕ) → inferred S [] [] t n ≡ answer T m → inferred S [] [] u m ≡ answer U i → compared S t u n ≡ as_convertible S E21 (erased t) (erased u) i
  compared_same t u T U n m i e h = compared_other t u T n m e ∙ goes (inferred S [] [] u m) U i _ h

  -- a normal form
  pub evaluated_fails : (f : TypeFault) (spare : ℕ) (t : Tree) (n : ℕ) → Fails f spare (inferred S [] [] t n) → Fails f spare (evaluated S t n)
  evaluated_fails f spare t n h = fails_next f spare (inferred S [] [] t n) _ h

  pub evaluated_normal : (t T : Tree) (n m : ℕ) (o : Option (Tree × ℕ)) → inferred S [] [] t n ≡ answer T m → normal_of S m (erased t) ≡ o → evaluated S t n ≡ after o answer
  evaluated_normal t T n m o e h = goes (inferred S [] [] t n) T m _ e ∙ ap (λ x. after x answer) h

-- ---- the answer no

module _ (x : Judged PlainFound) where
  pub answers_found : (demand : Bool) (a : PlainAsked) (found : PlainFound) (n : ℕ) → x ≡ answer found n → found_by demand a x ≡ answer found n
  answers_found true a found n e = e
  answers_found false (typed t A) found n e = rw e refl
  answers_found false (alike t u) found n e = rw e refl
  answers_found false (type_of t) found n e = e
  answers_found false (value_of t) found n e = e

  pub answers_no : (demand : Bool) (a : PlainAsked) (c : Code) (n : ℕ) → says_no demand a ≡ true → x ≡ refused c n → found_by demand a x ≡ answer no n
  answers_no true a c n s e = cc
  answers_no false (typed t A) c n s e = rw e refl
  answers_no false (alike t u) c n s e = rw e refl
  answers_no false (type_of t) c n s e = cc
  answers_no false (value_of t) c n s e = cc

  pub answers_refusal : (demand : Bool) (a : PlainAsked) (c : Code) (n : ℕ) → says_no demand a ≡ false → x ≡ refused c n → found_by demand a x ≡ refused c n
  answers_refusal true a c n s e = e
  answers_refusal false (typed t A) c n s e = cc
  answers_refusal false (alike t u) c n s e = cc
  answers_refusal false (type_of t) c n s e = e
  answers_refusal false (value_of t) c n s e = e

  pub answers_end : (demand : Bool) (a : PlainAsked) → x ≡ ended → found_by demand a x ≡ ended
  answers_end true a e = e
  answers_end false (typed t A) e = rw e refl
  answers_end false (alike t u) e = rw e refl
  answers_end false (type_of t) e = e
  answers_end false (value_of t) e = e

-- ---- the verdict

module _ (S : PlainSignature) (demand : Bool) (a : PlainAsked) (n : ℕ) where
  pub checked_query : (found : PlainFound) (m : ℕ) → query_found S demand a n ≡ answer found m → command_checked S (query demand a) n ≡ answer tt m
  checked_query found m e = goes (query_found S demand a n) found m _ e

  pub checked_fails : (f : TypeFault) (spare : ℕ) → Fails f spare (query_found S demand a n) → Fails f spare (command_checked S (query demand a) n)
  checked_fails f spare h = fails_next f spare (query_found S demand a n) _ h

  pub query_verdict : (found : PlainFound) (m : ℕ) → query_found S demand a n ≡ answer found m → verdict_of S (query demand a) n ≡ Accepted
  query_verdict found m e = ap verdict (checked_query found m e)

  pub query_finds : (found : PlainFound) (m : ℕ) → query_found S demand a n ≡ answer found m → found_of S (query demand a) n ≡ Some found
  query_finds found m e = ap answer_of e
