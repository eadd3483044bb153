-- A derivation under bindings is one where reduction may replace what is bound, for other types that are the same under them.
use Rattle.std.specs.Prelude.{map, length, slice_get, false}
use Rattle.std.proofs.Common.{List, [], ◌∷◌, ℕ, zero, suc, ◌+◌, ◌≡◌, Option, Some, None, refl, ap, ◌∙◌, sym as flip, subst as along, arith}
use Rattle.dk_model.specs.Trees.{Tree, star, kind, symbol, variable, rule_variable, apply, bare, annotated, product}
use Rattle.dk_model.specs.Substitution.{shift, substitute}
use Rattle.dk_model.specs.Erasure.{erased, IsPlain}
use Rattle.dk_model.specs.Signatures.{PlainSignature}
use Rattle.dk_model.specs.TypingOver.{symbol_type, variable_type, rule_variable_type, is_abstraction}
use Rattle.typing_model.specs.Derivations.{HasType, HasTypeBy, FitsBy, type_has, symbol_has, variable_has, rule_variable_has, application_has, abstraction_has, product_has, Fits, bare_fits, annotated_fits, other_fits, IsSort, type_is_sort, kind_is_sort}
use Rattle.dk_model.specs.Bindings.{Bindings, under, under_option}
use Rattle.typing_model.specs.Steps.{ReducesTo, ReducesBy, AreJoinable, AreJoinableBy}
use Rattle.dk_model.proofs.Unders.{settled_closed, got_under, variable_under, Settled, under_again, under_shift, under_substitute}
use Rattle.typing_model.proofs.Reduction.{reduces_itself, reduces_then, joins, joinable_turned, joinable_before}
use Rattle.typing_model.proofs.Stable.{reduces_under, reduces_stable, joinable_stable}

module _ (s : Bindings) where
  -- two contexts that are the same under the bindings
  pub record IsLike (G H : List Tree) : Type 0 where
    pub same : map (under s) H ≡ map (under s) G
    pub long : length H ≡ length G

  pub like_more : (G H : List Tree) (A B : Tree) → IsLike G H → under s B ≡ under s A → IsLike (A ∷ G) (B ∷ H)
  like_more G H A B l e = record { same = rw (e, l.same) refl; long = ap suc l.long }

module _ (s : Bindings) (d : Settled s) where
  kind_or : (o : Option Tree) → under s (elim o as (λ _. Tree) [ None ↦ kind | Some t ↦ t ]) ≡ elim (under_option s o) as (λ _. Tree) [ None ↦ kind | Some t ↦ t ]
  kind_or None = refl
  kind_or (Some t) = refl

  got_settled : (G : List Tree) (k : ℕ) → slice_get (map (under s) G) k ≡ under_option s (slice_get G k)
  got_settled G k = got_under s (settled_closed s d) G k

  pub rule_type_under : (V : List Tree) (k : ℕ) → under s (rule_variable_type V k) ≡ rule_variable_type (map (under s) V) k
  rule_type_under V k = kind_or (slice_get V k) ∙ ap (λ o. elim o as (λ _. Tree) [ None ↦ kind | Some t ↦ t ]) (flip (got_settled V k))

  pub variable_settled : (G : List Tree) (k : ℕ) → under s (variable_type G k) ≡ variable_type (map (under s) G) k
  variable_settled G k = variable_under s (settled_closed s d) G k

  pub same_variable : (G H : List Tree) (k : ℕ) → IsLike s G H → under s (variable_type H k) ≡ under s (variable_type G k)
  same_variable G H k l = variable_settled H k ∙ ap (λ X. variable_type X k) l.same ∙ flip (variable_settled G k)

  module _ (S : PlainSignature) where
    -- a type that is the same under the bindings as one that reduces to U
    pub reduces_like : (T X U : Tree) → under s X ≡ under s T → ReducesTo S T U → ReducesBy S s X (under s U)
    reduces_like T X U e r = reduces_then S s X (under s T) (under s U) (along (ReducesBy S s X) e (reduces_under S s d X)) (reduces_stable S s d T U r)

    -- and then it is joinable with U
    pub joins_like : (T X U : Tree) → under s X ≡ under s T → ReducesTo S T U → AreJoinableBy S s X U
    joins_like T X U e r = joins S s X U (under s U) (reduces_like T X U e r) (reduces_under S s d U)

    joinable_like : (T X U Y : Tree) → under s X ≡ under s T → under s Y ≡ under s U → AreJoinable S T U → AreJoinableBy S s X Y
    joinable_like T X U Y e q j = joinable_before S s X (under s T) Y (under s U) (along (ReducesBy S s X) e (reduces_under S s d X)) (along (ReducesBy S s Y) q (reduces_under S s d Y)) (joinable_stable S s d T U j)

    sort_under : (q : Tree) → IsSort q → under s q ≡ q
    sort_under q type_is_sort = refl
    sort_under q kind_is_sort = refl

    module _ (V : List Tree) where
      mutual
        has_moved : {G : List Tree} {t T : Tree} → HasType S (map (under s) V) G t T → IsPlain t → (H : List Tree) → IsLike s G H
            → (X : Tree) × HasTypeBy S s V H t X × (under s X ≡ under s T)
        has_moved type_has p H l = (kind, type_has, refl)
        has_moved (symbol_has k) p H l = (symbol_type S k, symbol_has k, refl)
        has_moved (variable_has {context = G} k) p H l = (variable_type H k, variable_has k, same_variable G H k l)
        has_moved (rule_variable_has {context = G} k) p H l = (
          shift 0 (length H) (rule_variable_type V k),
          rule_variable_has k,
          under_shift s d 0 (length H) (rule_variable_type V k)
              ∙ ap (λ n. shift 0 n (under s (rule_variable_type V k))) l.long
              ∙ ap (shift 0 (length G)) (flip (under_again s d (rule_variable_type V k)) ∙ ap (under s) (rule_type_under V k))
              ∙ flip (under_shift s d 0 (length G) (rule_variable_type (map (under s) V) k)),
        )
        has_moved (application_has {context = G} {f} {a} {F} {A} {B} h r k) p H l =
            let x : (X : Tree) × HasTypeBy S s V H f X × (under s X ≡ under s F) = has_moved h p.0 H l in (
              substitute 0 (erased a) (under s B),
              application_has x.1 (reduces_like F x.0 (product A B) x.2 r) (fits_moved k p.1 H (under s A) l (under_again s d A)),
              under_substitute s d 0 (erased a) (under s B) ∙ ap (substitute 0 (under s (erased a))) (under_again s d B) ∙ flip (under_substitute s d 0 (erased a) B),
            )
        has_moved (abstraction_has h r k n) p H l = absurd p
        has_moved (product_has {context = G} {a} {b} {d = c} {r} {q} h i k j e) p H l =
            let x : (X : Tree) × HasTypeBy S s V H a X × (under s X ≡ under s c) = has_moved h p.0 H l in
            let y : (X : Tree) × HasTypeBy S s V (erased a ∷ H) b X × (under s X ≡ under s r) = has_moved k p.1 (erased a ∷ H) (like_more s G H (erased a) (erased a) l refl) in
            (q, product_has x.1 (reduces_like c x.0 star x.2 i) y.1 (along (ReducesBy S s y.0) (sort_under q e) (reduces_like r y.0 q y.2 j)) e, refl)

        pub fits_moved : {G : List Tree} {t T : Tree} → Fits S (map (under s) V) G t T → IsPlain t → (H : List Tree) (X : Tree) → IsLike s G H → under s X ≡ under s T → FitsBy S s V H t X
        fits_moved (bare_fits {context = G} {t} {T} {A} {B} r k) p H X l e = bare_fits (reduces_like T X (product A B) e r)
            (fits_moved k p (under s A ∷ H) (under s B) (like_more s G H A (under s A) l (under_again s d A)) (under_again s d B))
        fits_moved (annotated_fits r h i j k) p H X l e = absurd p
        fits_moved (other_fits {context = G} {t} {T} {U} a h j) p H X l e =
            let x : (Y : Tree) × HasTypeBy S s V H t Y × (under s Y ≡ under s U) = has_moved h p H l in other_fits a x.1 (joinable_like U x.0 T X x.2 e j)
