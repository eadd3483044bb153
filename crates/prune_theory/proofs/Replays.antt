-- A verdict is the same wherever the command rests on the same commands, so that it can be kept.
use Rattle.std.proofs.Common.{List, [], ◌∷◌, ◌++◌, length, slice_get, ℕ, suc, ◌≡◌, ◌+◌, Bool, true, Option, Some, refl, ap, sym, subst, ◌∙◌, arith}
use Rattle.dk_model.specs.PlainTerms.{Tree, symbol, apply, bare, annotated, product}
use Rattle.dk_model.specs.PlainCommands.{PlainFound, of_type, value, PlainCommand}
use Rattle.dk_model.specs.Typing.{Judged, answer}
use Rattle.dk_model.specs.Verdicts.{command_checked, found_of, inferred_type}
use Rattle.scope_terms.specs.Scopes.{Scoping, scoped, refused, scope_of}
use Rattle.prune_theory.specs.Alike.{Maybe, neither, both, Alike, alike_star, alike_kind, alike_symbol, alike_variable, alike_rule_variable, alike_apply, alike_bare, alike_annotated, alike_product, AlikeFinding, alike_yes, alike_no, alike_of_type, alike_value}
use Rattle.prune_theory.specs.Renumbering.{rank, Renumbers, picked}
use Rattle.prune_theory.specs.Mentions.{itself}
use Rattle.prune_theory.specs.Laws.{IsBehind, SameAnswer, AnswersAreKept}
use Rattle.prune_theory.specs.Folds.{Stated, Declared, nothing_declared, declared_with, AreAccepted, accepts_none, accepts_more}
use Rattle.prune_theory.specs.Renamed.{found_with_symbols, with_symbols}
use Rattle.prune_theory.proofs.Scoping.{IsWhole, KeptCommand}
use Rattle.prune_theory.proofs.Folds.{IsClosedFrom, SameCheck, kept_checks, Pruned, pruned_accepted, nothing_cut}
use Rattle.prune_theory.proofs.Closure.{AreWhole, closed_from}
use Rattle.prune_theory.proofs.Whole.{scoped_whole}
use Rattle.prune_theory.proofs.Pruning.{accepted_whole, tests_closed}

abbrev or_else : {A : Type 0} → A → Scoping A → A
or_else a (scoped b) = b
or_else a (refused c) = a

same_scoped : {A : Type 0} {x : Scoping A} {a b : A} → x ≡ scoped a → x ≡ scoped b → a ≡ b
same_scoped {a} p q = ap (or_else a) (sym p ∙ q)

abbrev units_of : {A : Type 0} → Judged A → ℕ
units_of (answer a n) = n
units_of x = 0

-- forms are accepted in one way
pub accepted_once : {budget : ℕ} {T U V : Declared} {fs : List Stated} {cs ds : List PlainCommand} {ns ms : List ℕ} → AreAccepted budget T fs cs ns U → AreAccepted budget T fs ds ms V → U ≡ V
accepted_once accepts_none accepts_none = refl
accepted_once {budget} {T} {V} (accepts_more {f} {fs} e a rest) (accepts_more {cs = ds} {ns = ms} g b other) =
    accepted_once rest (subst (λ z. AreAccepted budget (declared_with budget T f z) fs ds ms V) (same_scoped g e) other)

-- ---- commands before the last one

closed_last : (keep : ℕ → Bool) (n : ℕ) (cs : List PlainCommand) (c : PlainCommand) → keep (n + length cs) ≡ true → IsClosedFrom keep n (cs ++ c ∷ []) → IsClosedFrom keep n cs × KeptCommand keep c
closed_last keep n [] c k h = (tt, h.0 (subst (λ z. keep z ≡ true) (let q : n + 0 ≡ n = omega arith in q) k))
closed_last keep n (d ∷ cs) c k h = let r : IsClosedFrom keep (suc n) cs × KeptCommand keep c = closed_last keep (suc n) cs c (subst (λ z. keep z ≡ true) (let q : n + length (d ∷ cs) ≡ suc n + length cs = omega arith in q) k) h.2 in
    ((h.0, h.1, r.0), r.1)

whole_both : (cs : List PlainCommand) (c : PlainCommand) → AreWhole cs → IsWhole c → AreWhole (cs ++ c ∷ [])
whole_both [] c h w = (w, tt)
whole_both (d ∷ cs) c h w = (h.0, whole_both cs c h.1 w)

pushed : (cs : List PlainCommand) (c : PlainCommand) → length (cs ++ c ∷ []) ≡ suc (length cs)
pushed [] c = refl
pushed (d ∷ cs) c = ap suc (pushed cs c)

-- its check over the commands that it rests on alone
pub record CutDown (budget : ℕ) (keep : ℕ → Bool) (T : Declared) (fs : List Stated) (f : Stated) (c : PlainCommand) : Type 0 where
  pub commands : List PlainCommand
  pub left : List ℕ
  pub theory : Declared
  pub accepted : AreAccepted budget nothing_declared (picked keep 0 fs) commands left theory
  pub last : SameCheck keep budget T theory f c

pub cut_down : {budget : ℕ} {keep : ℕ → Bool} {T : Declared} {fs : List Stated} {f : Stated} {c : PlainCommand} → IsBehind budget keep T fs f c → CutDown budget keep T fs f c
cut_down {budget} {keep} {T} {fs} {f} {c} h =
    let whole : AreWhole (h.commands ++ c ∷ []) = whole_both h.commands c (accepted_whole h.accepted h.written) (scoped_whole T.names f.place f.form c h.last_written h.scopes) in
    let all : IsClosedFrom keep 0 (h.commands ++ c ∷ []) = closed_from (h.commands ++ c ∷ []) (length h.commands) keep (tests_closed _ _ keep h.rests) (h.rests.all _ itself) (h.commands ++ c ∷ []) 0
    (let q : length (h.commands ++ c ∷ []) ≡ suc (length h.commands) = pushed h.commands c in omega arith) (λ i d e. subst (λ z. slice_get (h.commands ++ c ∷ []) z ≡ Some d) (let q : i ≡ 0 + i = omega arith in q) e) whole in
    let both_closed : IsClosedFrom keep 0 h.commands × KeptCommand keep c = closed_last keep 0 h.commands c (subst (λ z. keep z ≡ true) (let q : length h.commands ≡ 0 + length h.commands = omega arith in q) (h.rests.all _ itself)) all in
    let p : Pruned keep budget 0 nothing_declared T fs h.commands h.left = pruned_accepted keep budget 0 h.accepted nothing_declared (nothing_cut keep) both_closed.0 in
    record { commands = p.commands; left = picked keep 0 h.left; theory = p.after; accepted = p.accepted; last = kept_checks keep budget f c p.cut h.scopes both_closed.1 }

-- two terms that are alike to one are the same but for the numbers that their symbols have there
pub renumbered : {P Q : ℕ → ℕ → Type 0} (m : ℕ → ℕ) → ((a b k : ℕ) → P a k → Q b k → m a ≡ b) → {t u v : Tree} → Alike P t v → Alike Q u v → u ≡ with_symbols m t
renumbered m h alike_star alike_star = refl
renumbered m h alike_kind alike_kind = refl
renumbered m h (alike_symbol {j = a} {k} p) (alike_symbol {j = b} q) = ap symbol (sym (h a b k p q))
renumbered m h alike_variable alike_variable = refl
renumbered m h alike_rule_variable alike_rule_variable = refl
renumbered m h (alike_apply p q) (alike_apply r s) = λ i. apply (renumbered m h p r i) (renumbered m h q s i)
renumbered m h (alike_bare p) (alike_bare q) = ap bare (renumbered m h p q)
renumbered m h (alike_annotated p q) (alike_annotated r s) = λ i. annotated (renumbered m h p r i) (renumbered m h q s i)
renumbered m h (alike_product p q) (alike_product r s) = λ i. product (renumbered m h p r i) (renumbered m h q s i)

-- the numbers of two places of the same rank
same_places : (keep other : ℕ → Bool) (m : ℕ → ℕ) → ((a b : ℕ) → keep a ≡ true → other b ≡ true → rank keep a ≡ rank other b → m a ≡ b) → (a b k : ℕ) → Renumbers keep a k → Renumbers other b k → m a ≡ b
same_places keep other m h a b k p q = h a b p.0 q.0 (sym p.1 ∙ q.1)

found_renumbered : {P Q : ℕ → ℕ → Type 0} (m : ℕ → ℕ) → ((a b k : ℕ) → P a k → Q b k → m a ≡ b) → {x y z : PlainFound} → AlikeFinding P x z → AlikeFinding Q y z → y ≡ found_with_symbols m x
found_renumbered m h alike_yes alike_yes = refl
found_renumbered m h alike_no alike_no = refl
found_renumbered m h (alike_of_type p) (alike_of_type q) = ap of_type (renumbered m h p q)
found_renumbered m h (alike_value p) (alike_value q) = ap value (renumbered m h p q)

maybe_found_renumbered : (keep other : ℕ → Bool) (m : ℕ → ℕ) → ((a b : ℕ) → keep a ≡ true → other b ≡ true → rank keep a ≡ rank other b → m a ≡ b) → {x y z : Option PlainFound}
    → Maybe (AlikeFinding (Renumbers keep)) x z → Maybe (AlikeFinding (Renumbers other)) y z → Maybe (λ x y. y ≡ found_with_symbols m x) x y
maybe_found_renumbered keep other m h neither neither = neither
maybe_found_renumbered keep other m h (both p) (both q) = both (found_renumbered m (same_places keep other m h) p q)

maybe_renumbered : (keep other : ℕ → Bool) (m : ℕ → ℕ) → ((a b : ℕ) → keep a ≡ true → other b ≡ true → rank keep a ≡ rank other b → m a ≡ b) → {t u v : Option Tree}
    → Maybe (Alike (Renumbers keep)) t v → Maybe (Alike (Renumbers other)) u v → Maybe (λ t u. u ≡ with_symbols m t) t u
maybe_renumbered keep other m h neither neither = neither
maybe_renumbered keep other m h (both p) (both q) = both (renumbered m (same_places keep other m h) p q)

same_cuts : {budget : ℕ} {keep other : ℕ → Bool} {T U : Declared} {fs gs : List Stated} {f : Stated} {c d : PlainCommand} (x : CutDown budget keep T fs f c) (y : CutDown budget other U gs f d)
    → x.theory ≡ y.theory → SameAnswer budget T U keep other c d
same_cuts {budget} {keep} {other} {T} {U} {f} {c} {d} x y e =
    let same : x.last.command ≡ y.last.command = same_scoped (subst (λ V. scope_of V.names f.place f.form ≡ scoped x.last.command) e x.last.scopes) y.last.scopes in record {
      checks = x.last.checks ∙ (λ i. command_checked (e i).signature (same i) budget) ∙ sym y.last.checks;
      types = λ m h. maybe_renumbered keep other m h (subst (λ V. Maybe (Alike (Renumbers keep)) (inferred_type T.signature c budget) (inferred_type V.signature y.last.command budget)) e
          (subst (λ z. Maybe (Alike (Renumbers keep)) (inferred_type T.signature c budget) (inferred_type x.theory.signature z budget)) same x.last.types)) y.last.types;
      findings = λ m h. maybe_found_renumbered keep other m h (subst (λ V. Maybe (AlikeFinding (Renumbers keep)) (found_of T.signature c budget) (found_of V.signature y.last.command budget)) e
          (subst (λ z. Maybe (AlikeFinding (Renumbers keep)) (found_of T.signature c budget) (found_of x.theory.signature z budget)) same x.last.findings)) y.last.findings;
    }

pub same_answer : AnswersAreKept
same_answer budget keep other T U fs gs f c d h g e = let x : CutDown budget keep T fs f c = cut_down h in let y : CutDown budget other U gs f d = cut_down g in
    same_cuts x y (accepted_once (subst (λ z. AreAccepted budget nothing_declared z x.commands x.left x.theory) e x.accepted) y.accepted)
