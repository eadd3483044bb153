-- An argument put into the codomain of its function.
use Rattle.std.proofs.Common.{[], ◌∷◌, ◌≡◌, Bool, true, false, refl, ap, sym as flip, ◌∙◌}
use Rattle.dk_model.specs.Trees.{Tree}
use Rattle.dk_model.specs.Substitution.{substitute}
use Rattle.dk_model.specs.Captures.{mentions_others}
use Rattle.shared_term.specs.Changes.{substitute_all}
use Rattle.shared_term.proofs.Together.{all_none, all_pushed, all_unmentioned}

alone : (x t : Tree) → substitute 0 x t ≡ substitute_all 0 (x ∷ []) t
alone x t = flip (all_pushed 0 [] x t ∙ ap (substitute 0 x) (all_none 1 t))

-- where the variable isn't mentioned it doesn't matter what is put in its place
pub put_same : (x e t : Tree) → (mentions_others 0 1 [] t ≡ true → x ≡ e) → substitute 0 x t ≡ substitute 0 e t
put_same x e t h = by (mentions_others 0 1 [] t) refl
  where
    by : (b : Bool) → mentions_others 0 1 [] t ≡ b → substitute 0 x t ≡ substitute 0 e t
    by true q = ap (λ y. substitute 0 y t) (h q)
    by false q = alone x t ∙ all_unmentioned 0 [] x e t q ∙ flip (alone e t)
