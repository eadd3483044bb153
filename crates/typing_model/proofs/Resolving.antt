-- Equations that resolve: resolutions follow one another, and the bindings that come stay settled and grow.
use Rattle.std.specs.Prelude.{Contains, Bool, true, false, if◌then◌else◌, eqb}
use Rattle.std.proofs.Common.{List, [], ◌∷◌, ◌++◌, append_assoc, ℕ, ◌≡◌, Option, Some, None, refl, sym as flip, subst as along}
use Rattle.dk_model.specs.Trees.{Tree, star, kind, symbol, variable, rule_variable, apply, bare, annotated, product}
use Rattle.dk_model.specs.Erasure.{IsPlain}
use Rattle.dk_model.specs.Bounds.{IsClosedAt}
use Rattle.dk_model.specs.Signatures.{PlainRule, PlainSignature}
use Rattle.dk_model.specs.Spines.{pairs_of}
use Rattle.dk_model.specs.SymbolRules.{rules_of}
use Rattle.dk_model.specs.Bindings.{Bindings, under, bound, mentions_rule_variable, may_bind}
use Rattle.dk_model.specs.TypingOver.{Evaluator, answer}
use Rattle.dk_model.proofs.Unders.{Settled, Avoids, Grows, grows_itself, grows_then, under_avoids, under_plain, bound_settled, bound_grows, may_bind_is}
use Rattle.typing_model.specs.Steps.{ReducesTo}
use Rattle.typing_model.specs.Derivations.{Equations, Binds, left_binds, right_binds, Resolves, resolved, dropped, replaced, binding}
use Rattle.typing_model.specs.Laws.{Reduces}
use Rattle.typing_model.proofs.Plain.{reduct_plain}

-- ---- parts without annotations

abbrev pub ArePlainPairs : Equations → Type 0
ArePlainPairs [] = Unit {0}
ArePlainPairs (p ∷ ps) = IsPlain p.0 × IsPlain p.1 × ArePlainPairs ps

plain_append : (ps qs : Equations) → ArePlainPairs ps → ArePlainPairs qs → ArePlainPairs (ps ++ qs)
plain_append [] qs h g = g
plain_append (p ∷ ps) qs h g = (h.0, h.1, plain_append ps qs h.2 g)

plain_front : (ps qs : Equations) → ArePlainPairs (ps ++ qs) → ArePlainPairs ps
plain_front [] qs h = tt
plain_front (p ∷ ps) qs h = (h.0, h.1, plain_front ps qs h.2)

plain_back : (ps qs : Equations) → ArePlainPairs (ps ++ qs) → ArePlainPairs qs
plain_back [] qs h = h
plain_back (p ∷ ps) qs h = plain_back ps qs h.2

applied_pairs : (o : Option Equations) (a b : Tree) (ps : Equations) → ((qs : Equations) → o ≡ Some qs → ArePlainPairs qs) → IsPlain a → IsPlain b
    → elim o as (λ _. Option Equations) [ None ↦ None | Some qs ↦ Some (qs ++ ((a, b) ∷ [])) ] ≡ Some ps → ArePlainPairs ps
applied_pairs None a b ps h i j e = cc
applied_pairs (Some qs) a b ps h i j e = let q : qs ++ ((a, b) ∷ []) ≡ ps = cc in along ArePlainPairs q (plain_append qs ((a, b) ∷ []) (h qs refl) (i, j, tt))

no_pairs : (b : Bool) (ps : Equations) → (if b then Some [] else None) ≡ Some ps → ArePlainPairs ps
no_pairs true ps e = let q : [] ≡ ps = cc in along ArePlainPairs q tt
no_pairs false ps e = cc

empty_pairs : (ps : Equations) → Some [] ≡ Some ps → ArePlainPairs ps
empty_pairs ps e = let q : [] ≡ ps = cc in along ArePlainPairs q tt

pairs_plain : (t u : Tree) (ps : Equations) → IsPlain t → IsPlain u → pairs_of t u ≡ Some ps → ArePlainPairs ps
pairs_plain (apply f a) (apply g b) ps h i e = applied_pairs (pairs_of f g) a b ps (λ qs. pairs_plain f g qs h.0 i.0) h.1 i.1 e
pairs_plain star star ps h i e = empty_pairs ps e
pairs_plain kind kind ps h i e = empty_pairs ps e
pairs_plain (symbol a) (symbol b) ps h i e = no_pairs (eqb a b) ps e
pairs_plain (variable a) (variable b) ps h i e = no_pairs (eqb a b) ps e
pairs_plain (rule_variable a) (rule_variable b) ps h i e = no_pairs (eqb a b) ps e
pairs_plain (bare b) (bare c) ps h i e = let q : ((b, c) ∷ []) ≡ ps = cc in along ArePlainPairs q (h, i, tt)
pairs_plain (product a b) (product c d) ps h i e = let q : ((a, c) ∷ (b, d) ∷ []) ≡ ps = cc in along ArePlainPairs q (h.0, i.0, (h.1, i.1, tt))
pairs_plain t u ps h i e = cc

-- ---- bindings

-- what one binding keeps
binds_settled : {s : Bindings} {t u : Tree} {q : Bindings} → Binds s t u q → Settled s → Avoids s t → Avoids s u → IsPlain t → IsPlain u → Settled q × Grows s q
binds_settled {s} (left_binds k {u = u} may) d free avoids i plain = let m : (mentions_rule_variable k u ≡ false) × IsClosedAt 0 u = may_bind_is k u may in
    (bound_settled s d k u free m.1 plain avoids m.0, bound_grows s d k u free m.1 plain avoids m.0)
binds_settled {s} (right_binds k {t = t} may) d avoids free plain i = let m : (mentions_rule_variable k t ≡ false) × IsClosedAt 0 t = may_bind_is k t may in
    (bound_settled s d k t free m.1 plain avoids m.0, bound_grows s d k t free m.1 plain avoids m.0)

module _ (S : PlainSignature) where
  -- one resolution after another
  pub resolves_then : {s r q : Bindings} {E : Equations} (D : Equations) → Resolves S s E r → Resolves S r D q → Resolves S s (E ++ D) q
  resolves_then D resolved g = g
  resolves_then {q = q} D (dropped {s} {r} t u before behind h) g = along (λ z. Resolves S s z q) (flip (append_assoc before ((t, u) ∷ behind) D))
      (dropped t u before (behind ++ D) (along (λ z. Resolves S s z q) (append_assoc before behind D) (resolves_then D h g)))
  resolves_then {q = q} D (replaced {s} {r} t u v w {ps} before behind rt ru i h) g = along (λ z. Resolves S s z q) (flip (append_assoc before ((t, u) ∷ behind) D))
      (replaced t u v w before (behind ++ D) rt ru i (along (λ z. Resolves S s (before ++ z) q) (append_assoc ps behind D)
      (along (λ z. Resolves S s z q) (append_assoc before (ps ++ behind) D) (resolves_then D h g))))
  resolves_then {q = q} D (binding {s} {q = p} {r} t u v w before behind rt ru b h) g = along (λ z. Resolves S s z q) (flip (append_assoc before ((t, u) ∷ behind) D))
      (binding t u v w before (behind ++ D) rt ru b (along (λ z. Resolves S p z q) (append_assoc before behind D) (resolves_then D h g)))

  module _ (R : (k : ℕ) (r : PlainRule) → Contains (rules_of S k) r → IsPlain r.right) where
    side_plain : (s : Bindings) → Settled s → (t v : Tree) → IsPlain t → ReducesTo S (under s t) v → IsPlain (under s v)
    side_plain s d t v p r = under_plain s d v (reduct_plain S R (under s t) v r (under_plain s d t p))

    -- bindings that equations resolve to are settled, and those before grow to them
    settles : {s r : Bindings} {E : Equations} → Resolves S s E r → Settled s → ArePlainPairs E → Settled r × Grows s r
    settles (resolved {s}) d p = (d, grows_itself s d)
    settles (dropped {s} {r} t u before behind h) d p =
        settles h d (plain_append before behind (plain_front before ((t, u) ∷ behind) p) (plain_back before ((t, u) ∷ behind) p).2)
    settles (replaced {s} {r} t u v w {ps} before behind rt ru i h) d p =
        let at : ArePlainPairs ((t, u) ∷ behind) = plain_back before ((t, u) ∷ behind) p in
        settles h d (plain_append before (ps ++ behind) (plain_front before ((t, u) ∷ behind) p)
        (plain_append ps behind (pairs_plain (under s v) (under s w) ps (side_plain s d t v at.0 rt) (side_plain s d u w at.1 ru) i.1) at.2))
    settles (binding {s} {q} {r} t u v w before behind rt ru b h) d p =
        let at : ArePlainPairs ((t, u) ∷ behind) = plain_back before ((t, u) ∷ behind) p in
        let x : Settled q × Grows s q = binds_settled b d (under_avoids s d v) (under_avoids s d w) (side_plain s d t v at.0 rt) (side_plain s d u w at.1 ru) in
        let y : Settled r × Grows q r = settles h x.0 (plain_append before behind (plain_front before ((t, u) ∷ behind) p) at.2) in
        (y.0, grows_then s q r x.1 y.1)

  -- ---- what is solved

  -- equations that resolve from these bindings to those, which stay settled
  pub record Solves (s r : Bindings) (E : Equations) : Type 0 where
    pub settled : Settled r
    pub grows : Grows s r
    pub resolves : Resolves S s E r

  pub none_solves : (s : Bindings) → Settled s → Solves s s []
  none_solves s d = record { settled = d; grows = grows_itself s d; resolves = resolved }

  pub both_solve : (s r q : Bindings) (E D : Equations) → Solves s r E → Solves r q D → Solves s q (E ++ D)
  both_solve s r q E D h g = record { settled = g.settled; grows = grows_then s r q h.grows g.grows; resolves = resolves_then D h.resolves g.resolves }

  module _ {X : Type 0} (Ev : Evaluator X) (M : Reduces S Ev) (R : (k : ℕ) (r : PlainRule) → Contains (rules_of S k) r → IsPlain r.right) where
    -- the equation of two types
    pub solves : (s : Bindings) (t u : Tree) (n m : X) (r : Bindings) → Settled s → IsPlain t → IsPlain u → Ev.solve n s t u ≡ answer r m → Solves s r ((t, u) ∷ [])
    solves s t u n m r d i j e = let h : Resolves S s ((t, u) ∷ []) r = M.solve n m s r t u e in let x : Settled r × Grows s r = settles R h d (i, j, tt) in
        record { settled = x.0; grows = x.1; resolves = h }
