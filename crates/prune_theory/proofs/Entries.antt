-- A cut signature with one more entry.
use Rattle.std.proofs.Common.{List, [], ◌∷◌, ◌++◌, length, ℕ, suc, ◌≡◌, ◌+◌, Bool, true, false, Option, Some, None, Result, Ok, Err, sym, subst, arith, if◌then◌else◌}
use Rattle.dk_model.specs.PlainTerms.{Tree}
use Rattle.dk_model.specs.PlainEntries.{Patterns, no_patterns, PlainRule, PlainEntry, PlainSignature}
use Rattle.dk_model.specs.PlainCommands.{PlainScopedRule, PlainCommand, declare, rule_command, query}
use Rattle.dk_model.specs.Shapes.{left_head, left_patterns, is_covered, rule_with, shape_with, shape_of, is_definable, defined_shape, both_shapes, shapes_of, kept_rules}
use Rattle.dk_model.specs.Verdicts.{entry_of}
use Rattle.dk_model.specs.declared.code.Code.{Code}
use Rattle.dk_model.specs.declared.code.Code.TheVariants.{E30, E33}
use Rattle.prune_theory.specs.Alike.{AlikeEntry}
use Rattle.prune_theory.specs.Renumbering.{Renumbers}
use Rattle.prune_theory.proofs.Cuts.{NoHeadKept, IsLeftOut, Cut, cut_end, cut_kept, cut_left}
use Rattle.prune_theory.specs.Mentions.{maybe_head, rules_heads, heads_of}

-- none is kept
abbrev pub AreLeft : (ℕ → Bool) → List ℕ → Type 0
AreLeft keep [] = Unit {0}
AreLeft keep (k ∷ ks) = (keep k ≡ false) × AreLeft keep ks

module _ (keep : ℕ → Bool) where
  left_both : (xs ys : List ℕ) → AreLeft keep (xs ++ ys) → AreLeft keep xs × AreLeft keep ys
  left_both [] ys h = (tt, h)
  left_both (x ∷ xs) ys h = let r : AreLeft keep xs × AreLeft keep ys = left_both xs ys h.1 in ((h.0, r.0), r.1)

  -- the place of the last entry
  place : (n : ℕ) (S : PlainSignature) (e : PlainEntry) → suc n + length S ≡ n + length (e ∷ S)
  place n S e = omega arith

  pub more_kept : {n : ℕ} {S S' : PlainSignature} {e d : PlainEntry} → Cut keep n S S' → keep (n + length S) ≡ true → AlikeEntry (Renumbers keep) e d → Cut keep n (S ++ e ∷ []) (S' ++ d ∷ [])
  more_kept cut_end k a = cut_kept (subst (λ z. keep z ≡ true) (let q : _ + 0 ≡ _ = omega arith in q) k) a cut_end
  more_kept (cut_kept {n} {e} {S} h b c) k a = cut_kept h b (more_kept c (subst (λ z. keep z ≡ true) (sym (place n S e)) k) a)
  more_kept (cut_left {n} {e} {S} h b c) k a = cut_left h b (more_kept c (subst (λ z. keep z ≡ true) (sym (place n S e)) k) a)

  pub more_left : (x : PlainEntry) {n : ℕ} {S S' : PlainSignature} → Cut keep n S S' → keep (n + length S) ≡ false → IsLeftOut keep x → Cut keep n (S ++ x ∷ []) S'
  more_left x cut_end k a = cut_left (subst (λ z. keep z ≡ false) (let q : _ + 0 ≡ _ = omega arith in q) k) a cut_end
  more_left x (cut_kept {n} {e} {S} h b c) k a = cut_kept h b (more_left x c (subst (λ z. keep z ≡ false) (sym (place n S e)) k) a)
  more_left x (cut_left {n} {e} {S} h b c) k a = cut_left h b (more_left x c (subst (λ z. keep z ≡ false) (sym (place n S e)) k) a)

  -- ---- an entry that is left out

  abbrev HeadLeft : Result PlainRule Code → Type 0
  HeadLeft (Ok r) = keep r.head ≡ false
  HeadLeft (Err c) = Unit {0}

  shape_head : (r : PlainScopedRule) (o : Option ℕ) (ps : Option Patterns) → AreLeft keep (maybe_head o) → HeadLeft (shape_with r o ps)
  shape_head r None ps h = tt
  shape_head r (Some k) None h = tt
  shape_head r (Some k) (Some ps) h = by (is_covered r ps)
    where
      by : (b : Bool) → HeadLeft (if b then Ok (rule_with r k ps) else Err E33)
      by true = h.0
      by false = tt

  defined_head : (S : PlainSignature) (x : Result PlainRule Code) → HeadLeft x → HeadLeft (defined_shape S x)
  defined_head S (Err c) h = tt
  defined_head S (Ok r) h = by (is_definable S r.head)
    where
      by : (b : Bool) → HeadLeft (if b then Ok r else Err E30)
      by true = h
      by false = tt

  both_heads : (x : Result PlainRule Code) (y : Result (List PlainRule) Code) → HeadLeft x → NoHeadKept keep (kept_rules y) → NoHeadKept keep (kept_rules (both_shapes x y))
  both_heads (Err c) y h k = tt
  both_heads (Ok r) (Err c) h k = tt
  both_heads (Ok r) (Ok rs) h k = (h, k)

  shapes_left : (S : PlainSignature) (rs : List PlainScopedRule) → AreLeft keep (rules_heads rs) → NoHeadKept keep (kept_rules (shapes_of S rs))
  shapes_left S [] h = tt
  shapes_left S (r ∷ rs) h = let q : AreLeft keep (maybe_head (left_head r.left)) × AreLeft keep (rules_heads rs) = left_both (maybe_head (left_head r.left)) (rules_heads rs) h in
      both_heads (defined_shape S (shape_of r)) (shapes_of S rs) (defined_head S (shape_of r) (shape_head r (left_head r.left) (left_patterns r.vars r.left no_patterns) q.0)) (shapes_left S rs q.1)

  pub entry_left : (S : PlainSignature) (c : PlainCommand) (T : Option Tree) → AreLeft keep (heads_of c) → IsLeftOut keep (entry_of S c T)
  entry_left S (declare s A b) T h = tt
  entry_left S (rule_command rs) T h = shapes_left S rs h
  entry_left S (query demand a) T h = tt
