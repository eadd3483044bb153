-- Evaluation over similar signatures: terms that are alike have forms that are alike, with the same units.
use Rattle.std.proofs.Common.{List, take, drop, map, length, ℕ, zero, suc, ◌≡◌, ◌*◌, refl, subst}
use Rattle.dk_model.specs.PlainTerms.{Tree}
use Rattle.dk_model.specs.PlainEntries.{PlainSignature, PlainRule}
use Rattle.dk_model.specs.Spines.{arguments, applied}
use Rattle.dk_model.specs.SymbolRules.{rules_of}
use Rattle.dk_model.specs.Matrix.{Column, Row, rows_for, width}
use Rattle.dk_model.specs.Captures.{filled}
use Rattle.dk_model.specs.Selection.{Selected}
use Rattle.dk_model.specs.Evaluation.{columns, rows, rewritten, whnf_with, selection_with, comparison_with, normal_with, whnf_of, comparison_of, normal_of}
use Rattle.prune_theory.specs.Alike.{Each, Maybe, InUnits, both_end, both_give, Alike, AlikeRule, alike_rule, AreSimilar}
use Rattle.prune_theory.proofs.Lists.{if_alike, option_alike, bind_alike, each_length, each_take, each_drop}
use Rattle.prune_theory.proofs.Terms.{equal_alike, arguments_alike, applied_alike, head_symbol_alike, contraction_alike, pairs_alike, filled_alike}
use Rattle.prune_theory.proofs.Matrix.{AlikeColumn, AlikeRow, rows_alike, width_alike, argument_columns_alike}
use Rattle.prune_theory.proofs.Selection.{AlikeSelected, alike_selected, select_alike, each_same_alike, each_normal_alike}

pats_length : {Q : ℕ → ℕ → Type 0} {r s : PlainRule} → AlikeRule Q r s → length r.pats ≡ length s.pats
pats_length (alike_rule q ps ns t) = each_length ps

right_alike : {Q : ℕ → ℕ → Type 0} {r s : PlainRule} → AlikeRule Q r s → Alike Q r.right s.right
right_alike (alike_rule q ps ns t) = t

rewritten_alike : {Q : ℕ → ℕ → Type 0} {t u : Tree} {a b : Selected} → Alike Q t u → AlikeSelected Q a b → Alike Q (rewritten t a) (rewritten u b)
rewritten_alike {Q} {t} {u} p (alike_selected {cs} {ds} {r} {s} e k) = subst (λ z. Alike Q (rewritten t (record { captures = cs; rule = r })) (applied (filled ds 0 s.right) (drop z (arguments u)))) (pats_length k)
    (applied_alike (filled_alike e 0 (right_alike k)) (each_drop (length r.pats) (arguments_alike p)))

module _ {Q : ℕ → ℕ → Type 0} {S S' : PlainSignature} (similar : AreSimilar Q S S') where
  width_same : {j a : ℕ} {t u : Tree} → Q j a → Alike Q t u → width (length (arguments t)) (rules_of S j) ≡ width (length (arguments u)) (rules_of S' a)
  width_same {j} {a} {t} {u} q p = subst (λ z. width (length (arguments t)) (rules_of S j) ≡ width z (rules_of S' a)) (each_length (arguments_alike p)) (width_alike (length (arguments t)) (similar.rules j a q))

  columns_same : {j a : ℕ} {t u : Tree} → Q j a → Alike Q t u → Each (AlikeColumn Q) (columns S j t) (columns S' a u)
  columns_same {j} {t} {u} q p = subst (λ w. Each (AlikeColumn Q) (columns S j t) (map (λ argument. record { depth = 0; term = argument }) (take w (arguments u)))) (width_same q p)
      (argument_columns_alike (each_take (width (length (arguments t)) (rules_of S j)) (arguments_alike p)))

  rows_same : {j a : ℕ} {t u : Tree} → Q j a → Alike Q t u → Each (AlikeRow Q) (rows S j t) (rows S' a u)
  rows_same {j} {a} {t} {u} q p = subst (λ w. Each (AlikeRow Q) (rows S j t) (rows_for (length (arguments u)) w (rules_of S' a))) (width_same q p)
      (subst (λ c. Each (AlikeRow Q) (rows S j t) (rows_for c (width (length (arguments t)) (rules_of S j)) (rules_of S' a))) (each_length (arguments_alike p))
      (rows_alike (length (arguments t)) (width (length (arguments t)) (rules_of S j)) (similar.rules j a q)))

  mutual
    whnf_with_alike : (f n : ℕ) {t u : Tree} → Alike Q t u → InUnits (Alike Q) (whnf_with f S n t) (whnf_with f S' n u)
    whnf_with_alike zero n p = both_end
    whnf_with_alike (suc f) zero p = both_end
    whnf_with_alike (suc f) (suc n) p = option_alike (InUnits (Alike Q)) _ _ _ _ (contraction_alike p)
        (option_alike (InUnits (Alike Q)) _ _ _ _ (head_symbol_alike p) (both_give p) (λ j a q.
        bind_alike (selection_with_alike f n (columns_same q p) (rows_same q p)) (λ o o' m r.
        option_alike (InUnits (Alike Q)) _ _ _ _ r (both_give p) (λ s s' d. whnf_with_alike f m (rewritten_alike p d)))))
        (λ t' u' r. whnf_with_alike f n r)

    selection_with_alike : (f n : ℕ) {as' bs : List Column} {xs ys : List Row} → Each (AlikeColumn Q) as' bs → Each (AlikeRow Q) xs ys
        → InUnits (Maybe (AlikeSelected Q)) (selection_with f S n as' xs) (selection_with f S' n bs ys)
    selection_with_alike zero n as' xs = both_end
    selection_with_alike (suc f) n as' xs = select_alike (λ m t u. normal_with_alike f m) (λ m t u v w. comparison_with_alike f m) similar.matching (λ m t u. whnf_with_alike f m)
        (λ m cs ds rs qs e d. selection_with_alike f m e d) n xs as'

    comparison_with_alike : (f n : ℕ) {t u v w : Tree} → Alike Q t v → Alike Q u w → InUnits ◌≡◌ (comparison_with f S n t u) (comparison_with f S' n v w)
    comparison_with_alike zero n p q = both_end
    comparison_with_alike (suc f) zero p q = both_end
    comparison_with_alike (suc f) (suc n) p q = if_alike (InUnits ◌≡◌) _ _ _ _ _ _ (equal_alike similar.matching p q) (both_give refl)
        (bind_alike (whnf_with_alike f n p) (λ t v m r. bind_alike (whnf_with_alike f m q) (λ u w i s.
        option_alike (InUnits ◌≡◌) _ _ _ _ (pairs_alike similar.matching r s) (both_give refl) (λ ps qs e.
        each_same_alike (λ k a b. normal_with_alike f k) (λ k a b c d. comparison_with_alike f k) i e))))

    normal_with_alike : (f n : ℕ) {t u : Tree} → Alike Q t u → InUnits (Alike Q) (normal_with f S n t) (normal_with f S' n u)
    normal_with_alike zero n p = both_end
    normal_with_alike (suc f) zero p = both_end
    normal_with_alike (suc f) (suc n) p = bind_alike (whnf_with_alike f n p) (λ t u m r. each_normal_alike (λ k a b. normal_with_alike f k) (λ k a b c d. comparison_with_alike f k) m r)

  pub whnf_alike : (n : ℕ) {t u : Tree} → Alike Q t u → InUnits (Alike Q) (whnf_of S n t) (whnf_of S' n u)
  whnf_alike n p = whnf_with_alike (2 * n) n p

  pub comparison_alike : (n : ℕ) {t u v w : Tree} → Alike Q t v → Alike Q u w → InUnits ◌≡◌ (comparison_of S n t u) (comparison_of S' n v w)
  comparison_alike n p q = comparison_with_alike (2 * n) n p q

  pub normal_alike : (n : ℕ) {t u : Tree} → Alike Q t u → InUnits (Alike Q) (normal_of S n t) (normal_of S' n u)
  normal_alike n p = normal_with_alike (2 * n) n p
