-- The answer on a command, kept or made anew.
use Rattle.std.proofs.Common.{ℕ, ◌≡◌, ◌&&◌, Bool, true, false, Option, Some, None, List, [], ◌∷◌, ◌++◌, map, refl, ap, sym, subst, ◌∙◌, if◌then◌else◌}
use Rattle.std.specs.Prelude.{Result, Ok, Err, IfOk}
use Rattle.std.specs.Arc.{arc_value}
use Rattle.std.specs.Cmp.Lexicographic.{bytes_decides}
use Rattle.std.specs.Option.{ForSome, option_map}
use Rattle.scope_terms.specs.Scopes.{same_spelling}
use Rattle.prune_theory.specs.Renumbering.{picked}
use Rattle.dk_model.specs.declared.limits.Limits.{Limits}
use Rattle.edit_session.specs.Answering.{AnswersRightly, IsAskedAt, IsKeptAnswer, Question, kept_of, list_of}
use Rattle.edit_session.specs.Answers.{IsMade, answer_on, is_among}
use Rattle.edit_session.specs.Grounds.{same_texts}
use Rattle.edit_session.specs.Held.{kept_list, plain_answer, plain_kept}
use Rattle.edit_session.specs.Sessions.{checks_for}
use Rattle.edit_session.specs.declared.answering.Answered.{Answered}
use Rattle.edit_session.specs.declared.finding.Findings.{Findings}
use Rattle.edit_session.specs.declared.grounds.Ground.{Ground}
use Rattle.edit_session.specs.declared.slot.Kept.{Kept}
use Rattle.edit_session.specs.declared.slot.Slot.{Slot}
use Rattle.edit_session.proofs.Keeping.{kept_serve}

-- one check, where that is how many are due
pub checks_are : {E : Type 0} (n : ℕ) (o : Result Answered E) → IfOk o (λ a. a.checks ≡ 1) → 1 ≡ n → IfOk o (λ a. a.checks ≡ n)
checks_are n (Ok a) h e = h ∙ e
checks_are n (Err x) h e = tt

-- ---- lists of texts

both_true : (a b : Bool) → (a && b) ≡ true → (a ≡ true) × (b ≡ true)
both_true true b e = (refl, e)
both_true false b e = absurd cc

pub texts_same : (xs ys : List (List ℕ)) → same_texts xs ys ≡ true → xs ≡ ys
texts_same [] [] e = refl
texts_same [] (y ∷ ys) e = absurd cc
texts_same (x ∷ xs) [] e = absurd cc
texts_same (x ∷ xs) (y ∷ ys) e = let b : (same_spelling x y ≡ true) × (same_texts xs ys ≡ true) = both_true (same_spelling x y) (same_texts xs ys) e in
    λ i. (bytes_decides x y).0 b.0 i ∷ texts_same xs ys b.1 i

-- letter by letter, of lists and of two that differ at the first text
pub first_same : (x y : List ℕ) (xs ys : List (List ℕ)) → x ≡ y → same_texts (x ∷ xs) (y ∷ ys) ≡ same_texts xs ys
first_same x y xs ys e = ap (λ b. b && same_texts xs ys) ((bytes_decides x y).1 e)

pub first_differs : (x y : List ℕ) (xs ys : List (List ℕ)) → ¬ (x ≡ y) → same_texts (x ∷ xs) (y ∷ ys) ≡ false
first_differs x y xs ys n = by (same_spelling x y) refl
  where
    by : (b : Bool) → same_spelling x y ≡ b → (same_spelling x y && same_texts xs ys) ≡ false
    by true e = absurd (n ((bytes_decides x y).0 e))
    by false e = ap (λ b. b && same_texts xs ys) e

-- a text is the same as itself
itself_same : (text : List ℕ) → same_spelling text text ≡ true
itself_same text = (bytes_decides text text).1 refl

and_true : (b : Bool) → (b && true) ≡ b
and_true true = refl
and_true false = refl

and_false : (b : Bool) → (b && false) ≡ false
and_false true = refl
and_false false = refl

never_empty : (ys : List (List ℕ)) (text : List ℕ) → same_texts [] (ys ++ text ∷ []) ≡ false
never_empty [] text = refl
never_empty (y ∷ ys) text = refl

empty_never : (xs : List (List ℕ)) (text : List ℕ) → same_texts (xs ++ text ∷ []) [] ≡ false
empty_never [] text = refl
empty_never (x ∷ xs) text = refl

-- the own text last changes nothing
pub same_with : (xs ys : List (List ℕ)) (text : List ℕ) → same_texts (xs ++ text ∷ []) (ys ++ text ∷ []) ≡ same_texts xs ys
same_with [] [] text = and_true (same_spelling text text) ∙ itself_same text
same_with [] (y ∷ ys) text = ap (λ b. same_spelling text y && b) (never_empty ys text) ∙ and_false (same_spelling text y)
same_with (x ∷ xs) [] text = ap (λ b. same_spelling x text && b) (empty_never xs text) ∙ and_false (same_spelling x text)
same_with (x ∷ xs) (y ∷ ys) text = ap (λ b. same_spelling x y && b) (same_with xs ys text)

-- ---- answers

kept_for : (slot : Slot) (o : Option Kept) → slot.kept ≡ o → kept_of slot ≡ option_map (kept_list (arc_value slot.text)) o
kept_for slot o e = ap (option_map (kept_list (arc_value slot.text))) e

some_of : {P : Kept → Type 0} (o : Option Kept) (k : Kept) → o ≡ Some k → ForSome o P → P k
some_of {P} o k e h = h k e

some_is : {A : Type 0} {a b : A} → Some a ≡ Some b → a ≡ b
some_is e = cc

module _ (slot : Slot) (g : Ground) (q : Question) where
  -- a kept answer serves
  pub kept_right : (o : Option Kept) (f : Findings) (a : Answered) → slot.kept ≡ o → IsKeptAnswer o g (Some f) → a.findings ≡ f → AnswersRightly slot slot g q a
  kept_right None f a e is r = absurd cc
  kept_right (Some k) f a e is r = record { answers = λ limits at. answers limits at; made = λ limits at. at.kept }
    where
      answers : (limits : Limits) → IsAskedAt limits slot g q → plain_answer a.findings ≡ answer_on q.signature q.command q.budget
      answers limits at =
          let made : IsMade limits q.budget (arc_value slot.text) (plain_kept k) = some_of slot.kept k e at.kept in
          let texts : map arc_value k.texts.items ≡ picked (is_among g.places) 0 at.before = texts_same (map arc_value k.texts.items) (map arc_value g.texts.items) is.0 ∙ at.texts in
          ap plain_answer r ∙ is.1
          ∙ sym (kept_serve limits q.budget (arc_value slot.text) (plain_kept k) at.before g.places at.theory q.command made at.is_behind texts)
          ∙ ap (λ S. answer_on S q.command q.budget) at.signature

  pub kept_listed : (o : Option Kept) (f : Findings) → slot.kept ≡ o → IsKeptAnswer o g (Some f) → kept_of slot ≡ Some (list_of slot g)
  kept_listed None f e is = absurd cc
  kept_listed (Some k) f e is = kept_for slot (Some k) e ∙ ap (λ (z : List (List ℕ)). Some (z ++ arc_value slot.text ∷ [])) (texts_same (map arc_value k.texts.items) (map arc_value g.texts.items) is.0)

  pub none_checked : (o : Option Kept) (f : Findings) → slot.kept ≡ o → IsKeptAnswer o g (Some f) → 0 ≡ checks_for (kept_of slot) (Some (list_of slot g))
  none_checked None f e is = absurd cc
  none_checked (Some k) f e is = sym (ap (λ z. checks_for z (Some (list_of slot g))) (kept_for slot (Some k) e)
      ∙ ap (λ b. if b then 0 else 1) (same_with (map arc_value k.texts.items) (map arc_value g.texts.items) (arc_value slot.text) ∙ is.0))

  pub one_checked : (o : Option Kept) → slot.kept ≡ o → IsKeptAnswer o g None → 1 ≡ checks_for (kept_of slot) (Some (list_of slot g))
  one_checked None e is = sym (ap (λ z. checks_for z (Some (list_of slot g))) (kept_for slot None e))
  one_checked (Some k) e is = sym (ap (λ z. checks_for z (Some (list_of slot g))) (kept_for slot (Some k) e)
      ∙ ap (λ b. if b then 0 else 1) (same_with (map arc_value k.texts.items) (map arc_value g.texts.items) (arc_value slot.text) ∙ is))

  -- an answer that is made anew is kept
  pub made_right : (new : Slot) (f : Findings) (a : Answered) (copy : Findings) → new.kept ≡ Some (record { texts = g.texts; places = g.places; findings = copy }) → plain_answer copy ≡ plain_answer f → a.findings ≡ f
      → plain_answer f ≡ answer_on q.signature q.command q.budget → AnswersRightly slot new g q a
  made_right new f a copy e c r is = record { answers = λ limits at. ap plain_answer r ∙ is; made = λ limits at k d. subst (λ (x : Kept). IsMade limits q.budget (arc_value slot.text) (plain_kept x)) (let p : Some (let y : Kept = record { texts = g.texts; places = g.places; findings = copy } in y) ≡ Some k = sym e ∙ d in some_is p) (made limits at) }
    where
      made : (limits : Limits) → IsAskedAt limits slot g q → IsMade limits q.budget (arc_value slot.text) (plain_kept (record { texts = g.texts; places = g.places; findings = copy }))
      made limits at = record {
        before = at.before;
        theory = at.theory;
        command = q.command;
        is_command = at.is_behind;
        texts_are = at.texts;
        answer_is = c ∙ is ∙ ap (λ S. answer_on S q.command q.budget) (sym at.signature);
      }

  pub made_listed : (new : Slot) (copy : Findings) → new.text ≡ slot.text → new.kept ≡ Some (record { texts = g.texts; places = g.places; findings = copy }) → kept_of new ≡ Some (list_of slot g)
  made_listed new copy t e = ap (option_map (kept_list (arc_value new.text))) e ∙ ap (λ z. Some (map arc_value g.texts.items ++ arc_value z ∷ [])) t
