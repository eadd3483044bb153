-- Terms under bindings: bindings that are settled, and how `under` stands with shift, substitution and the like.
use Rattle.std.specs.Prelude.{map, eqb, nat_lt, length, slice_get, ◌&&◌, ◌||◌, not, Bool, true, false, if◌then◌else◌}
use Rattle.std.proofs.Common.{List, [], ◌∷◌, ◌++◌, ℕ, zero, suc, ◌+◌, ◌-◌, ◌≡◌, ◌≢◌, ◌<◌, ◌≤◌, Option, Some, None, refl, ap, ◌∙◌, sym as flip, subst as along, arith}
use Rattle.std.proofs.lemmas.Bool.{eqb-true, eq-eqb, ne_eqb, lt-ltb, ltb-true}
use Rattle.dk_model.specs.Trees.{Tree, star, kind, symbol, variable, rule_variable, apply, bare, annotated, product}
use Rattle.dk_model.specs.Substitution.{shift, substitute, substituted_variable}
use Rattle.dk_model.specs.Erasure.{erased, IsPlain}
use Rattle.dk_model.specs.Bounds.{IsClosedAt}
use Rattle.dk_model.specs.Spines.{applied}
use Rattle.dk_model.specs.Captures.{capture_at, mentions_others, index_of, renamed, abstracted, captured, filled}
use Rattle.dk_model.specs.TypingOver.{variable_type}
use Rattle.dk_model.proofs.Closed.{closed_further, shift_closed, substitute_closed}
use Rattle.dk_model.specs.Bindings.{Bindings, bound_or, under, under_option, with_binding, bound, mentions_rule_variable, is_closed_at, may_bind}

and_true : (a b : Bool) → (a && b) ≡ true → (a ≡ true) × (b ≡ true)
and_true true b e = (refl, e)
and_true false b e = cc

-- ---- bindings

pub with_here : (s : Bindings) (k : ℕ) (u : Tree) → capture_at (with_binding s k u) k ≡ Some u
with_here [] zero u = refl
with_here [] (suc k) u = with_here [] k u
with_here (o ∷ s) zero u = refl
with_here (o ∷ s) (suc k) u = with_here s k u

pub with_other : (s : Bindings) (k j : ℕ) (u : Tree) → k ≢ j → capture_at (with_binding s k u) j ≡ capture_at s j
with_other [] zero zero u n = absurd (n refl)
with_other [] zero (suc j) u n = refl
with_other [] (suc k) zero u n = refl
with_other [] (suc k) (suc j) u n = with_other [] k j u (λ e. n (ap suc e))
with_other (o ∷ s) zero zero u n = absurd (n refl)
with_other (o ∷ s) zero (suc j) u n = refl
with_other (o ∷ s) (suc k) zero u n = refl
with_other (o ∷ s) (suc k) (suc j) u n = with_other s k j u (λ e. n (ap suc e))

pub mapped_at : (s r : Bindings) (k : ℕ) → capture_at (map (under_option r) s) k ≡ under_option r (capture_at s k)
mapped_at [] r k = refl
mapped_at (o ∷ s) r zero = refl
mapped_at (o ∷ s) r (suc k) = mapped_at s r k

pub under_none : (t : Tree) → under [] t ≡ t
under_none star = refl
under_none kind = refl
under_none (symbol k) = refl
under_none (variable k) = refl
under_none (rule_variable k) = refl
under_none (apply f a) = rw (under_none f, under_none a) refl
under_none (bare b) = ap bare (under_none b)
under_none (annotated n b) = rw (under_none n, under_none b) refl
under_none (product a b) = rw (under_none a, under_none b) refl

-- what rule variables are bound to is closed
abbrev pub AreClosed : Bindings → Type 0
AreClosed s = (k : ℕ) (u : Tree) → capture_at s k ≡ Some u → IsClosedAt 0 u

module _ (s : Bindings) (closed : AreClosed s) where
  closed_or_shift : (c e k : ℕ) (o : Option Tree) → capture_at s k ≡ o → shift c e (bound_or k o) ≡ bound_or k o
  closed_or_shift c e k None q = refl
  closed_or_shift c e k (Some u) q = shift_closed c e u (closed_further 0 c u (omega arith) (closed k u q))

  pub shift_under : (c e : ℕ) (t : Tree) → under s (shift c e t) ≡ shift c e (under s t)
  shift_under c e star = refl
  shift_under c e kind = refl
  shift_under c e (symbol k) = refl
  shift_under c e (variable k) = refl
  shift_under c e (rule_variable k) = flip (closed_or_shift c e k (capture_at s k) refl)
  shift_under c e (apply f a) = rw (shift_under c e f, shift_under c e a) refl
  shift_under c e (bare b) = ap bare (shift_under (c + 1) e b)
  shift_under c e (annotated n b) = rw (shift_under c e n, shift_under (c + 1) e b) refl
  shift_under c e (product a b) = rw (shift_under c e a, shift_under (c + 1) e b) refl

  pub got_under : (G : List Tree) (k : ℕ) → slice_get (map (under s) G) k ≡ under_option s (slice_get G k)
  got_under [] k = refl
  got_under (t ∷ G) zero = refl
  got_under (t ∷ G) (suc k) = got_under G k

  shifted_or : (e : ℕ) (o : Option Tree) → under s (elim o as (λ _. Tree) [ None ↦ kind | Some t ↦ shift 0 e t ]) ≡ elim (under_option s o) as (λ _. Tree) [ None ↦ kind | Some t ↦ shift 0 e t ]
  shifted_or e None = refl
  shifted_or e (Some t) = shift_under 0 e t

  pub variable_under : (G : List Tree) (k : ℕ) → under s (variable_type G k) ≡ variable_type (map (under s) G) k
  variable_under G k = shifted_or (k + 1) (slice_get G k) ∙ ap (λ o. elim o as (λ _. Tree) [ None ↦ kind | Some t ↦ shift 0 (k + 1) t ]) (flip (got_under G k))

-- the term mentions no rule variable that is bound
abbrev pub Avoids : Bindings → Tree → Type 0
Avoids s star = Unit {0}
Avoids s kind = Unit {0}
Avoids s (symbol k) = Unit {0}
Avoids s (variable k) = Unit {0}
Avoids s (rule_variable k) = capture_at s k ≡ None
Avoids s (apply f a) = Avoids s f × Avoids s a
Avoids s (bare b) = Avoids s b
Avoids s (annotated n b) = Avoids s n × Avoids s b
Avoids s (product a b) = Avoids s a × Avoids s b

-- what rule variables are bound to is closed, has no annotations, and mentions no bound one
pub record IsSettled (s : Bindings) (u : Tree) : Type 0 where
  pub closed : IsClosedAt 0 u
  pub plain : IsPlain u
  pub avoids : Avoids s u

abbrev pub Settled : Bindings → Type 0
Settled s = (k : ℕ) (u : Tree) → capture_at s k ≡ Some u → IsSettled s u

pub nothing_settled : Settled []
nothing_settled k u e = cc

pub avoids_same : (s : Bindings) (t : Tree) → Avoids s t → under s t ≡ t
avoids_same s star h = refl
avoids_same s kind h = refl
avoids_same s (symbol k) h = refl
avoids_same s (variable k) h = refl
avoids_same s (rule_variable k) h = rw h refl
avoids_same s (apply f a) h = rw (avoids_same s f h.0, avoids_same s a h.1) refl
avoids_same s (bare b) h = ap bare (avoids_same s b h)
avoids_same s (annotated n b) h = rw (avoids_same s n h.0, avoids_same s b h.1) refl
avoids_same s (product a b) h = rw (avoids_same s a h.0, avoids_same s b h.1) refl

module _ (s : Bindings) (d : Settled s) where
  or_avoids : (k : ℕ) (o : Option Tree) → capture_at s k ≡ o → Avoids s (bound_or k o)
  or_avoids k None e = e
  or_avoids k (Some u) e = (d k u e).avoids

  pub under_avoids : (t : Tree) → Avoids s (under s t)
  under_avoids star = tt
  under_avoids kind = tt
  under_avoids (symbol k) = tt
  under_avoids (variable k) = tt
  under_avoids (rule_variable k) = or_avoids k (capture_at s k) refl
  under_avoids (apply f a) = (under_avoids f, under_avoids a)
  under_avoids (bare b) = under_avoids b
  under_avoids (annotated n b) = (under_avoids n, under_avoids b)
  under_avoids (product a b) = (under_avoids a, under_avoids b)

  pub under_again : (t : Tree) → under s (under s t) ≡ under s t
  under_again t = avoids_same s (under s t) (under_avoids t)

  or_plain : (k : ℕ) (o : Option Tree) → capture_at s k ≡ o → IsPlain (bound_or k o)
  or_plain k None e = tt
  or_plain k (Some u) e = (d k u e).plain

  pub under_plain : (t : Tree) → IsPlain t → IsPlain (under s t)
  under_plain star h = tt
  under_plain kind h = tt
  under_plain (symbol k) h = tt
  under_plain (variable k) h = tt
  under_plain (rule_variable k) h = or_plain k (capture_at s k) refl
  under_plain (apply f a) h = (under_plain f h.0, under_plain a h.1)
  under_plain (bare b) h = under_plain b h
  under_plain (annotated n b) h = absurd h
  under_plain (product a b) h = (under_plain a h.0, under_plain b h.1)

  -- ---- with shift and substitution

  pub settled_closed : AreClosed s
  settled_closed k u e = (d k u e).closed

  pub under_shift : (c e : ℕ) (t : Tree) → under s (shift c e t) ≡ shift c e (under s t)
  under_shift c e t = shift_under s settled_closed c e t

  or_substitute : (e k : ℕ) (a : Tree) (o : Option Tree) → capture_at s k ≡ o → substitute e a (bound_or k o) ≡ bound_or k o
  or_substitute e k a None q = refl
  or_substitute e k a (Some u) q = substitute_closed e a u (closed_further 0 e u (omega arith) (d k u q).closed)

  under_if : (b : Bool) (t u : Tree) → under s (if b then t else u) ≡ (if b then under s t else under s u)
  under_if true t u = refl
  under_if false t u = refl

  under_substituted : (e k : ℕ) (a : Tree) → under s (substituted_variable e a k) ≡ substituted_variable e (under s a) k
  under_substituted e k a = under_if (nat_lt k e) (variable k) (if eqb k e then shift 0 e a else variable (k - 1))
      ∙ ap (λ x. if nat_lt k e then variable k else x) (under_if (eqb k e) (shift 0 e a) (variable (k - 1)) ∙ ap (λ x. if eqb k e then x else variable (k - 1)) (under_shift 0 e a))

  pub under_substitute : (e : ℕ) (a t : Tree) → under s (substitute e a t) ≡ substitute e (under s a) (under s t)
  under_substitute e a star = refl
  under_substitute e a kind = refl
  under_substitute e a (symbol k) = refl
  under_substitute e a (variable k) = under_substituted e k a
  under_substitute e a (rule_variable k) = flip (or_substitute e k (under s a) (capture_at s k) refl)
  under_substitute e a (apply f b) = rw (under_substitute e a f, under_substitute e a b) refl
  under_substitute e a (bare b) = ap bare (under_substitute (e + 1) a b)
  under_substitute e a (annotated n b) = rw (under_substitute e a n, under_substitute (e + 1) a b) refl
  under_substitute e a (product c b) = rw (under_substitute e a c, under_substitute (e + 1) a b) refl

  or_erased : (k : ℕ) (o : Option Tree) → capture_at s k ≡ o → erased (bound_or k o) ≡ bound_or k o
  or_erased k None q = refl
  or_erased k (Some u) q = plain_same u (d k u q).plain
    where
      plain_same : (t : Tree) → IsPlain t → erased t ≡ t
      plain_same star h = refl
      plain_same kind h = refl
      plain_same (symbol k) h = refl
      plain_same (variable k) h = refl
      plain_same (rule_variable k) h = refl
      plain_same (apply f a) h = rw (plain_same f h.0, plain_same a h.1) refl
      plain_same (bare b) h = ap bare (plain_same b h)
      plain_same (annotated n b) h = absurd h
      plain_same (product a b) h = rw (plain_same a h.0, plain_same b h.1) refl

  pub under_erased : (t : Tree) → erased (under s t) ≡ under s (erased t)
  under_erased star = refl
  under_erased kind = refl
  under_erased (symbol k) = refl
  under_erased (variable k) = refl
  under_erased (rule_variable k) = or_erased k (capture_at s k) refl
  under_erased (apply f a) = rw (under_erased f, under_erased a) refl
  under_erased (bare b) = ap bare (under_erased b)
  under_erased (annotated n b) = ap bare (under_erased b)
  under_erased (product a b) = rw (under_erased a, under_erased b) refl

  -- ---- with captures

  closed_mentions : (c depth : ℕ) (xs : List ℕ) (u : Tree) → IsClosedAt c u → mentions_others c depth xs u ≡ false
  closed_mentions c depth xs star h = refl
  closed_mentions c depth xs kind h = refl
  closed_mentions c depth xs (symbol k) h = refl
  closed_mentions c depth xs (variable k) h = rw (lt-ltb k c h) refl
  closed_mentions c depth xs (rule_variable k) h = refl
  closed_mentions c depth xs (apply f a) h = rw (closed_mentions c depth xs f h.0, closed_mentions c depth xs a h.1) refl
  closed_mentions c depth xs (bare b) h = closed_mentions (c + 1) depth xs b h
  closed_mentions c depth xs (annotated n b) h = rw (closed_mentions c depth xs n h.0, closed_mentions (c + 1) depth xs b h.1) refl
  closed_mentions c depth xs (product a b) h = rw (closed_mentions c depth xs a h.0, closed_mentions (c + 1) depth xs b h.1) refl

  or_mentions : (c depth : ℕ) (xs : List ℕ) (k : ℕ) (o : Option Tree) → capture_at s k ≡ o → mentions_others c depth xs (bound_or k o) ≡ false
  or_mentions c depth xs k None q = refl
  or_mentions c depth xs k (Some u) q = closed_mentions c depth xs u (closed_further 0 c u (omega arith) (d k u q).closed)

  pub under_mentions : (c depth : ℕ) (xs : List ℕ) (t : Tree) → mentions_others c depth xs (under s t) ≡ mentions_others c depth xs t
  under_mentions c depth xs star = refl
  under_mentions c depth xs kind = refl
  under_mentions c depth xs (symbol k) = refl
  under_mentions c depth xs (variable k) = refl
  under_mentions c depth xs (rule_variable k) = or_mentions c depth xs k (capture_at s k) refl
  under_mentions c depth xs (apply f a) = rw (under_mentions c depth xs f, under_mentions c depth xs a) refl
  under_mentions c depth xs (bare b) = under_mentions (c + 1) depth xs b
  under_mentions c depth xs (annotated n b) = rw (under_mentions c depth xs n, under_mentions (c + 1) depth xs b) refl
  under_mentions c depth xs (product a b) = rw (under_mentions c depth xs a, under_mentions (c + 1) depth xs b) refl

  closed_renamed : (c depth : ℕ) (xs : List ℕ) (u : Tree) → IsClosedAt c u → renamed c depth xs u ≡ u
  closed_renamed c depth xs star h = refl
  closed_renamed c depth xs kind h = refl
  closed_renamed c depth xs (symbol k) h = refl
  closed_renamed c depth xs (variable k) h = rw (lt-ltb k c h) refl
  closed_renamed c depth xs (rule_variable k) h = refl
  closed_renamed c depth xs (apply f a) h = rw (closed_renamed c depth xs f h.0, closed_renamed c depth xs a h.1) refl
  closed_renamed c depth xs (bare b) h = ap bare (closed_renamed (c + 1) depth xs b h)
  closed_renamed c depth xs (annotated n b) h = rw (closed_renamed c depth xs n h.0, closed_renamed (c + 1) depth xs b h.1) refl
  closed_renamed c depth xs (product a b) h = rw (closed_renamed c depth xs a h.0, closed_renamed (c + 1) depth xs b h.1) refl

  or_renamed : (c depth : ℕ) (xs : List ℕ) (k : ℕ) (o : Option Tree) → capture_at s k ≡ o → renamed c depth xs (bound_or k o) ≡ bound_or k o
  or_renamed c depth xs k None q = refl
  or_renamed c depth xs k (Some u) q = closed_renamed c depth xs u (closed_further 0 c u (omega arith) (d k u q).closed)

  pub under_renamed : (c depth : ℕ) (xs : List ℕ) (t : Tree) → under s (renamed c depth xs t) ≡ renamed c depth xs (under s t)
  under_renamed c depth xs star = refl
  under_renamed c depth xs kind = refl
  under_renamed c depth xs (symbol k) = refl
  under_renamed c depth xs (variable k) = under_if (nat_lt k c) (variable k) (if nat_lt (k - c) depth then variable (index_of (k - c) xs + c) else variable (((k - depth) + length xs)))
      ∙ ap (λ x. if nat_lt k c then variable k else x) (under_if (nat_lt (k - c) depth) (variable (index_of (k - c) xs + c)) (variable (((k - depth) + length xs))))
  under_renamed c depth xs (rule_variable k) = flip (or_renamed c depth xs k (capture_at s k) refl)
  under_renamed c depth xs (apply f a) = rw (under_renamed c depth xs f, under_renamed c depth xs a) refl
  under_renamed c depth xs (bare b) = ap bare (under_renamed (c + 1) depth xs b)
  under_renamed c depth xs (annotated n b) = rw (under_renamed c depth xs n, under_renamed (c + 1) depth xs b) refl
  under_renamed c depth xs (product a b) = rw (under_renamed c depth xs a, under_renamed (c + 1) depth xs b) refl

  pub under_abstracted : (xs : List ℕ) (t : Tree) → under s (abstracted xs t) ≡ abstracted xs (under s t)
  under_abstracted [] t = refl
  under_abstracted (x ∷ xs) t = ap bare (under_abstracted xs t)

  pub under_captured : (depth : ℕ) (xs : List ℕ) (t : Tree) → under s (captured depth xs t) ≡ captured depth xs (under s t)
  under_captured depth xs t = under_abstracted xs (renamed 0 depth xs t) ∙ ap (abstracted xs) (under_renamed 0 depth xs t)

  pub under_applied : (t : Tree) (ts : List Tree) → under s (applied t ts) ≡ applied (under s t) (map (under s) ts)
  under_applied t [] = refl
  under_applied t (a ∷ ts) = under_applied (apply t a) ts

-- what fills captures in puts bindings in, where these are closed: nothing is shifted
module _ (s : Bindings) (closed : AreClosed s) where
  or_filled : (e k : ℕ) (o : Option Tree) → capture_at s k ≡ o → elim o as (λ _. Tree) [ None ↦ rule_variable k | Some t ↦ shift 0 e t ] ≡ bound_or k o
  or_filled e k None q = refl
  or_filled e k (Some u) q = shift_closed 0 e u (closed k u q)

  pub filled_under : (e : ℕ) (t : Tree) → filled s e t ≡ under s t
  filled_under e star = refl
  filled_under e kind = refl
  filled_under e (symbol k) = refl
  filled_under e (variable k) = refl
  filled_under e (rule_variable k) = or_filled e k (capture_at s k) refl
  filled_under e (apply f a) = rw (filled_under e f, filled_under e a) refl
  filled_under e (bare b) = ap bare (filled_under (e + 1) b)
  filled_under e (annotated n b) = rw (filled_under e n, filled_under (e + 1) b) refl
  filled_under e (product a b) = rw (filled_under e a, filled_under (e + 1) b) refl

-- ---- a further binding

module _ (k : ℕ) (u : Tree) where
  abbrev pub put : Tree → Tree
  put t = under (with_binding [] k u) t

  or_put : (j : ℕ) → j ≡ k → put (rule_variable j) ≡ u
  or_put j e = rw e (rw (with_here [] k u) refl)

  or_left : (j : ℕ) → k ≢ j → put (rule_variable j) ≡ rule_variable j
  or_left j n = rw (with_other [] k j u n) refl

  pub put_closed : (c : ℕ) (t : Tree) → IsClosedAt 0 u → IsClosedAt c t → IsClosedAt c (put t)
  put_closed c star h g = tt
  put_closed c kind h g = tt
  put_closed c (symbol j) h g = tt
  put_closed c (variable j) h g = g
  put_closed c (rule_variable j) h g = by_case (eqb j k) refl
    where
      by_case : (b : Bool) → eqb j k ≡ b → IsClosedAt c (put (rule_variable j))
      by_case true e = along (IsClosedAt c) (flip (or_put j (eqb-true j k e))) (closed_further 0 c u (omega arith) h)
      by_case false e = along (IsClosedAt c) (flip (or_left j (λ q. let f : true ≡ false = flip (eq-eqb j k (flip q)) ∙ e in cc))) tt
  put_closed c (apply f a) h g = (put_closed c f h g.0, put_closed c a h g.1)
  put_closed c (bare b) h g = put_closed (c + 1) b h g
  put_closed c (annotated n b) h g = (put_closed c n h g.0, put_closed (c + 1) b h g.1)
  put_closed c (product a b) h g = (put_closed c a h g.0, put_closed (c + 1) b h g.1)

  put_plain : (t : Tree) → IsPlain u → IsPlain t → IsPlain (put t)
  put_plain star h g = tt
  put_plain kind h g = tt
  put_plain (symbol j) h g = tt
  put_plain (variable j) h g = tt
  put_plain (rule_variable j) h g = by_case (eqb j k) refl
    where
      by_case : (b : Bool) → eqb j k ≡ b → IsPlain (put (rule_variable j))
      by_case true e = along IsPlain (flip (or_put j (eqb-true j k e))) h
      by_case false e = along IsPlain (flip (or_left j (λ q. let f : true ≡ false = flip (eq-eqb j k (flip q)) ∙ e in cc))) tt
  put_plain (apply f a) h g = (put_plain f h g.0, put_plain a h g.1)
  put_plain (bare b) h g = put_plain b h g
  put_plain (annotated n b) h g = absurd g
  put_plain (product a b) h g = (put_plain a h g.0, put_plain b h g.1)

or_none : (a b : Bool) → (a || b) ≡ false → (a ≡ false) × (b ≡ false)
or_none true b e = cc
or_none false b e = (refl, e)

apart : (j k : ℕ) → eqb j k ≡ false → k ≢ j
apart j k e q = let f : true ≡ false = flip (eq-eqb j k (flip q)) ∙ e in cc

module _ (s : Bindings) (d : Settled s) (k : ℕ) (u : Tree) (free : capture_at s k ≡ None) (closed : IsClosedAt 0 u) (plain : IsPlain u) (avoids : Avoids s u)
    (without : mentions_rule_variable k u ≡ false) where
  bound_here : capture_at (bound s k u) k ≡ Some u
  bound_here = with_here (map (under_option (with_binding [] k u)) s) k u

  bound_other : (j : ℕ) → k ≢ j → capture_at (bound s k u) j ≡ under_option (with_binding [] k u) (capture_at s j)
  bound_other j n = with_other (map (under_option (with_binding [] k u)) s) k j u n ∙ mapped_at s (with_binding [] k u) j

  still_none : (j : ℕ) → k ≢ j → capture_at s j ≡ None → capture_at (bound s k u) j ≡ None
  still_none j n e = bound_other j n ∙ ap (under_option (with_binding [] k u)) e

  avoids_further : (t : Tree) → Avoids s t → mentions_rule_variable k t ≡ false → Avoids (bound s k u) t
  avoids_further star h m = tt
  avoids_further kind h m = tt
  avoids_further (symbol j) h m = tt
  avoids_further (variable j) h m = tt
  avoids_further (rule_variable j) h m = still_none j (apart j k m) h
  avoids_further (apply f a) h m = let i : _ = or_none (mentions_rule_variable k f) (mentions_rule_variable k a) m in (avoids_further f h.0 i.0, avoids_further a h.1 i.1)
  avoids_further (bare b) h m = avoids_further b h m
  avoids_further (annotated n b) h m = let i : _ = or_none (mentions_rule_variable k n) (mentions_rule_variable k b) m in (avoids_further n h.0 i.0, avoids_further b h.1 i.1)
  avoids_further (product a b) h m = let i : _ = or_none (mentions_rule_variable k a) (mentions_rule_variable k b) m in (avoids_further a h.0 i.0, avoids_further b h.1 i.1)

  put_avoids : (t : Tree) → Avoids s t → Avoids (bound s k u) (put k u t)
  put_avoids star h = tt
  put_avoids kind h = tt
  put_avoids (symbol j) h = tt
  put_avoids (variable j) h = tt
  put_avoids (rule_variable j) h = by_case (eqb j k) refl
    where
      by_case : (b : Bool) → eqb j k ≡ b → Avoids (bound s k u) (put k u (rule_variable j))
      by_case true e = along (Avoids (bound s k u)) (flip (or_put k u j (eqb-true j k e))) (avoids_further u avoids without)
      by_case false e = along (Avoids (bound s k u)) (flip (or_left k u j (apart j k e))) (still_none j (apart j k e) h)
  put_avoids (apply f a) h = (put_avoids f h.0, put_avoids a h.1)
  put_avoids (bare b) h = put_avoids b h
  put_avoids (annotated n b) h = (put_avoids n h.0, put_avoids b h.1)
  put_avoids (product a b) h = (put_avoids a h.0, put_avoids b h.1)

  other_settled : (v : Tree) (o : Option Tree) (j : ℕ) → capture_at s j ≡ o → under_option (with_binding [] k u) o ≡ Some v → IsSettled (bound s k u) v
  other_settled v None j q e = cc
  other_settled v (Some t) j q e = let i : put k u t ≡ v = cc in let h : IsSettled s t = d j t q in
      along (IsSettled (bound s k u)) i (record { closed = put_closed k u 0 t closed h.closed; plain = put_plain k u t plain h.plain; avoids = put_avoids t h.avoids })

  -- the bindings are settled with one more
  pub bound_settled : Settled (bound s k u)
  bound_settled j v e = by_case (eqb j k) refl
    where
      by_case : (b : Bool) → eqb j k ≡ b → IsSettled (bound s k u) v
      by_case true q = let i : Some u ≡ Some v = flip bound_here ∙ ap (capture_at (bound s k u)) (flip (eqb-true j k q)) ∙ e in
          let r : u ≡ v = cc in along (IsSettled (bound s k u)) r (record { closed = closed; plain = plain; avoids = avoids_further u avoids without })
      by_case false q = other_settled v (capture_at s j) j refl (flip (bound_other j (apart j k q)) ∙ e)

  same_put : (t : Tree) → Avoids s t → under (bound s k u) t ≡ put k u t
  same_put star h = refl
  same_put kind h = refl
  same_put (symbol j) h = refl
  same_put (variable j) h = refl
  same_put (rule_variable j) h = by_case (eqb j k) refl
    where
      by_case : (b : Bool) → eqb j k ≡ b → under (bound s k u) (rule_variable j) ≡ put k u (rule_variable j)
      by_case true e = rw (eqb-true j k e) (rw bound_here (flip (or_put k u k refl)))
      by_case false e = rw (still_none j (apart j k e) h) (flip (or_left k u j (apart j k e)))
  same_put (apply f a) h = rw (same_put f h.0, same_put a h.1) refl
  same_put (bare b) h = ap bare (same_put b h)
  same_put (annotated n b) h = rw (same_put n h.0, same_put b h.1) refl
  same_put (product a b) h = rw (same_put a h.0, same_put b h.1) refl

  or_further : (j : ℕ) (o : Option Tree) → capture_at s j ≡ o → under (bound s k u) (bound_or j o) ≡ under (bound s k u) (rule_variable j)
  or_further j None q = refl
  or_further j (Some t) q = same_put t (d j t q).avoids
      ∙ flip (ap (bound_or j) (bound_other j (λ i. let f : None ≡ Some t = flip free ∙ ap (capture_at s) i ∙ q in cc) ∙ ap (under_option (with_binding [] k u)) q))

  -- a term under them is as the term under these and then those
  pub bound_grows : (t : Tree) → under (bound s k u) (under s t) ≡ under (bound s k u) t
  bound_grows star = refl
  bound_grows kind = refl
  bound_grows (symbol j) = refl
  bound_grows (variable j) = refl
  bound_grows (rule_variable j) = or_further j (capture_at s j) refl
  bound_grows (apply f a) = rw (bound_grows f, bound_grows a) refl
  bound_grows (bare b) = ap bare (bound_grows b)
  bound_grows (annotated n b) = rw (bound_grows n, bound_grows b) refl
  bound_grows (product a b) = rw (bound_grows a, bound_grows b) refl

-- ---- bindings that grow

-- what is bound stays so, in the terms as they are under more bindings
abbrev pub Grows : Bindings → Bindings → Type 0
Grows s r = (t : Tree) → under r (under s t) ≡ under r t

pub grows_itself : (s : Bindings) → Settled s → Grows s s
grows_itself s d t = under_again s d t

pub grows_then : (s q r : Bindings) → Grows s q → Grows q r → Grows s r
grows_then s q r g h t = flip (h (under s t)) ∙ ap (under r) (g t) ∙ h t

-- ---- the test of a binding

pub is_closed : (c : ℕ) (t : Tree) → is_closed_at c t ≡ true → IsClosedAt c t
is_closed c star e = tt
is_closed c kind e = tt
is_closed c (symbol k) e = tt
is_closed c (variable k) e = ltb-true k c e
is_closed c (rule_variable k) e = tt
is_closed c (apply f a) e = let i : _ = and_true (is_closed_at c f) (is_closed_at c a) e in (is_closed c f i.0, is_closed c a i.1)
is_closed c (bare b) e = is_closed (c + 1) b e
is_closed c (annotated n b) e = let i : _ = and_true (is_closed_at c n) (is_closed_at (c + 1) b) e in (is_closed c n i.0, is_closed (c + 1) b i.1)
is_closed c (product a b) e = let i : _ = and_true (is_closed_at c a) (is_closed_at (c + 1) b) e in (is_closed c a i.0, is_closed (c + 1) b i.1)

not_it : (b : Bool) → not b ≡ true → b ≡ false
not_it true e = cc
not_it false e = refl

pub may_bind_is : (k : ℕ) (u : Tree) → may_bind k u ≡ true → (mentions_rule_variable k u ≡ false) × IsClosedAt 0 u
may_bind_is k u e = let i : _ = and_true (not (mentions_rule_variable k u)) (is_closed_at 0 u) e in (not_it (mentions_rule_variable k u) i.0, is_closed 0 u i.1)
