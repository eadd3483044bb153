-- A capture applied to its arguments gives the part: one beta step for each argument, the first one first.
use Rattle.std.specs.Prelude.{length, map, false}
use Rattle.std.proofs.Common.{List, [], ◌∷◌, ◌++◌, ℕ, suc, ◌+◌, ◌≡◌, refl, ap, subst as along, ◌∙◌, sym as flip, arith}
use Rattle.std.proofs.lemmas.List.{append_assoc, append-nil}
use Rattle.dk_model.specs.Trees.{Tree, variable, apply, bare}
use Rattle.dk_model.specs.Signatures.{PlainSignature}
use Rattle.dk_model.specs.Substitution.{shift, substitute}
use Rattle.dk_model.specs.Spines.{applied}
use Rattle.dk_model.specs.Captures.{mentions_others, renamed, abstracted, captured}
use Rattle.typing_model.specs.Steps.{beta, in_function, no_step, one_step}
use Rattle.typing_model.specs.PlainSteps.{Step, Steps}
use Rattle.typing_model.proofs.Rebound.{opened, opened_none, opened_all, put_argument}

shift_abstracted : (xs : List ℕ) (e d : ℕ) (t : Tree) → shift e d (abstracted xs t) ≡ abstracted xs (shift (e + length xs) d t)
shift_abstracted [] e d t = ap (λ n. shift n d t) (let q : e ≡ e + 0 = omega arith in q)
shift_abstracted (x ∷ xs) e d t =
    ap bare (shift_abstracted xs (e + 1) d t ∙ ap (λ n. abstracted xs (shift n d t)) (let q : e + 1 + length xs ≡ e + suc (length xs) = omega arith in q))

substitute_abstracted : (xs : List ℕ) (e : ℕ) (u t : Tree) → substitute e u (abstracted xs t) ≡ abstracted xs (substitute (e + length xs) u t)
substitute_abstracted [] e u t = ap (λ n. substitute n u t) (let q : e ≡ e + 0 = omega arith in q)
substitute_abstracted (x ∷ xs) e u t =
    ap bare (substitute_abstracted xs (e + 1) u t ∙ ap (λ n. abstracted xs (substitute n u t)) (let q : e + 1 + length xs ≡ e + suc (length xs) = omega arith in q))

module _ (S : PlainSignature) (h : ℕ) where
  step_applied : (ts : List Tree) (f g : Tree) → Step S h f g → Step S h (applied f ts) (applied g ts)
  step_applied [] f g s = s
  step_applied (t ∷ ts) f g s = step_applied ts (apply f t) (apply g t) (in_function s)

  module _ (d : ℕ) (t : Tree) where
    -- the variables before are put in already, the rest is left
    given : (before rest : List ℕ) → mentions_others 0 d (before ++ rest) t ≡ false
        → Steps S h (applied (abstracted rest (opened 0 d before rest t)) (map variable rest)) t
    given before [] s =
        let q : opened 0 d before [] t ≡ t = opened_all 0 d before t (along (λ xs. mentions_others 0 d xs t ≡ false) (append-nil before) s) in
        along (λ u. Steps S h u t) (flip q) no_step
    given before (x ∷ rest) s =
        let put : substitute 0 (variable x) (abstracted rest (opened 0 d before (x ∷ rest) t)) ≡ abstracted rest (opened 0 d (before ++ (x ∷ [])) rest t) =
        substitute_abstracted rest 0 (variable x) (opened 0 d before (x ∷ rest) t)
        ∙ ap (abstracted rest) (put_argument 0 d before rest x (0 + length rest) t refl s) in
        one_step (step_applied (map variable rest) (apply (bare (abstracted rest (opened 0 d before (x ∷ rest) t))) (variable x)) (substitute 0 (variable x) (abstracted rest (opened 0 d before (x ∷ rest) t))) beta)
        (along (λ u. Steps S h (applied u (map variable rest)) t) (flip put)
        (given (before ++ (x ∷ [])) rest (along (λ xs. mentions_others 0 d xs t ≡ false) (flip (append_assoc before (x ∷ []) rest)) s)))

    pub capture_gives_part : (xs : List ℕ) → mentions_others 0 d xs t ≡ false → Steps S h (applied (shift 0 d (captured d xs t)) (map variable xs)) t
    capture_gives_part xs s =
        let below : shift 0 d (captured d xs t) ≡ abstracted xs (opened 0 d [] xs t) =
        shift_abstracted xs 0 d (renamed 0 d xs t) ∙ ap (abstracted xs) (opened_none 0 d (0 + length xs) xs t refl s) in
        along (λ u. Steps S h (applied u (map variable xs)) t) (flip below) (given [] xs s)
