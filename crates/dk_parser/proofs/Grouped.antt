-- The groups that a parser keeps, as they grow and shrink.
use Rattle.std.proofs.Common.{◌≡◌, ℕ, ◌+◌, List, [], ◌∷◌, ◌++◌, length, refl, ap, arith}
use Rattle.dk_terms.proofs.Stacked.{pushed}
use Rattle.dk_terms.specs.Views.{stacked_on}
use Rattle.dk_parser.specs.declared.standing.Group.{Group}
use Rattle.dk_parser.specs.Groups.{open_arrows, plain_group, plain_groups}
use Rattle.dk_parser.specs.Levels as levels
use Rattle.dk_parser.specs.Levels.{Side, arrows_of, behind_head, in_head, on_left, params_closed, side_at_colon}

-- one bracket more is open
pub arrows_pushed : (old new : List Group) (g : Group) → new ≡ old ++ g ∷ [] → open_arrows new ≡ (g.arrows + 1) + open_arrows old
arrows_pushed old new g e = ap arrows_of (pushed plain_group old new g e)

inside : (s : Side) (g : levels.Group) (gs : List levels.Group) (hs : List Group) → side_at_colon s (stacked_on plain_group (g ∷ gs) hs) ≡ s
inside in_head g gs [] = refl
inside s g gs [] = refl
inside s g gs (h ∷ hs) = inside s (plain_group h) (g ∷ gs) hs

-- a colon in a bracket
pub colon_inside : (s : Side) (gs : List Group) → (gs ≡ [] → ⊥) → side_at_colon s (plain_groups gs) ≡ s
colon_inside s [] some = absurd (some refl)
colon_inside s (g ∷ gs) some = inside s (plain_group g) [] gs

-- the only bracket of a head closes
pub one_closed : (gs : List Group) (n : ℕ) → length gs ≡ 1 → params_closed in_head (plain_groups gs) n ≡ n + 1
one_closed (g ∷ []) n e = refl
one_closed gs n e = omega (arith, e)

more_open : (g h : levels.Group) (gs : List levels.Group) (hs : List Group) (n : ℕ) → params_closed in_head (stacked_on plain_group (g ∷ h ∷ gs) hs) n ≡ n
more_open g h gs [] n = refl
more_open g h gs (k ∷ hs) n = more_open (plain_group k) g (h ∷ gs) hs n

-- a bracket within a bracket closes, or none
pub other_closed : (gs : List Group) (n : ℕ) → (length gs ≡ 1 → ⊥) → params_closed in_head (plain_groups gs) n ≡ n
other_closed [] n e = refl
other_closed (g ∷ []) n e = absurd (e refl)
other_closed (g ∷ h ∷ gs) n e = more_open (plain_group h) (plain_group g) [] gs n
