-- A walk from one call of a reducer to the next, and along a spine.
use Rattle.std.proofs.Common.{List, [], ◌∷◌, ◌++◌, ◌≡◌, ◌∙◌, ℕ, Option, None, map, ap, refl, sym as flip, subst}
use Rattle.std.specs.Prelude.{Result, replicate, zero, suc}
use Rattle.dk_model.specs.Trees.{Tree, apply}
use Rattle.dk_model.specs.Substitution.{substitute}
use Rattle.dk_model.specs.Signatures.{Pattern, Patterns, more_patterns, pattern, maybe_by, PlainSignature}
use Rattle.dk_model.specs.Bindings.{Bindings as PlainBindings, under}
use Rattle.dk_model.specs.Typing.{Judged, answer, refused, ended, next, as_product}
use Rattle.dk_model.specs.RuleTyping.{Found as PlainFound, Walked, as_expected, walked, spine_walked, types_under, type_or_kind, nothing_found}
use Rattle.dk_model.specs.declared.code.Code.TheVariants.{E34}
use Rattle.dk_model.specs.declared.signature.Pat.{Pat}
use Rattle.dk_model.specs.declared.term.Term.{Term}
use Rattle.dk_model.specs.declared.stop.TypeFault.{TypeFault}
use Rattle.signature_log.specs.Reducers.{Keeps, AreOwned, OwnsSome, OwnsSomes}
use Rattle.infer_check.specs.Given.{Fails}
use Rattle.infer_check.proofs.Contexts.{types_kept as values_kept}
use Rattle.infer_check.proofs.Judging.{fails_next, fails_is, next_next}
use Rattle.infer_check.proofs.Spines.{map_pushed}
use Rattle.rule_check.specs.declared.found.Found.{Found}
use Rattle.rule_check.specs.declared.found.Bindings.{Bindings}
use Rattle.rule_check.specs.Founds.{types_of, terms_of, guards_of, found_of, OwnsGuards, OwnsBindings, OwnsFound}
use Rattle.rule_check.specs.Mentioned.{may_mention}
use Rattle.rule_check.specs.Levels.{resolved, behind_first, AreLevelled}
use Rattle.rule_check.specs.Steps.{argument_walked}
use Rattle.rule_check.specs.Given.{GivesTerm}
use Rattle.rule_check.proofs.Founds.{same_found, maybe_kept, terms_kept}
use Rattle.rule_check.proofs.Resolved.{nothing_levelled}
use Rattle.rule_check.proofs.Moving.{moved_over}
use Rattle.rule_check.proofs.Sizes.{plain_patterns}

module _ (S : PlainSignature) where
  pub walked_same : {G H : List Tree} {A B : Tree} {w v : PlainFound} (p : Pattern) (n : ℕ) → G ≡ H → A ≡ B → w ≡ v → walked S G p A w n ≡ walked S H p B v n
  walked_same {G} {H} {A} {B} {w} {v} p n e f g = ap (λ (x : List Tree). walked S x p A w n) e ∙ ap (λ (x : Tree). walked S H p x w n) f ∙ ap (λ (x : PlainFound). walked S H p B x n) g

  pub spine_same : {G H : List Tree} {t u F E : Tree} {ps qs : Patterns} {w v : PlainFound} (n : ℕ) → G ≡ H → t ≡ u → F ≡ E → ps ≡ qs → w ≡ v → spine_walked S G t F ps w n ≡ spine_walked S H u E qs v n
  spine_same {G} {H} {t} {u} {F} {E} {ps} {qs} {w} {v} n e f g h k = ap (λ (x : List Tree). spine_walked S x t F ps w n) e ∙ ap (λ (x : Tree). spine_walked S H x F ps w n) f
      ∙ ap (λ (x : Tree). spine_walked S H u x ps w n) g ∙ ap (λ (x : Patterns). spine_walked S H u E x w n) h ∙ ap (λ (x : PlainFound). spine_walked S H u E qs x n) k

  pub argument_same : {G H : List Tree} (t F : Tree) (p : Pattern) (w : PlainFound) (n : ℕ) → G ≡ H → argument_walked S G t F p w n ≡ argument_walked S H t F p w n
  argument_same t F p w n e = ap (λ (x : List Tree). argument_walked S x t F p w n) e

  module _ {R T : Type 0} (owns : R → T → Type 0) (denotes : R → T → Tree) where
    pub headed_is : {G H : List Tree} {t u F E A B : Tree} {w v : PlainFound} (ps : Patterns) (n : ℕ) (new : R) (found : Found T) (o : Result T TypeFault) (m : ℕ) → G ≡ H → t ≡ u → F ≡ E → w ≡ v → A ≡ B
        → GivesTerm owns denotes A (next (spine_walked S G t F ps w n) (as_expected S A)) new found o m → GivesTerm owns denotes B (next (spine_walked S H u E ps v n) (as_expected S B)) new found o m
    headed_is {G} {H} {t} {u} {F} {E} {A} {B} {w} {v} ps n new found o m e f g h a x =
        let P : Judged Walked → Type 0 = λ y. GivesTerm owns denotes A (next y (as_expected S A)) new found o m in
        let Q : Tree → Type 0 = λ y. GivesTerm owns denotes y (next (spine_walked S H u E ps v n) (as_expected S y)) new found o m in
        subst Q a (subst P (spine_same n e f g refl h) x)

    pub pattern_is : {p q : Pattern} (G : List Tree) (A : Tree) (w : PlainFound) (n : ℕ) (new : R) (found : Found T) (o : Result T TypeFault) (m : ℕ) → p ≡ q
        → GivesTerm owns denotes A (walked S G q A w n) new found o m → GivesTerm owns denotes A (walked S G p A w n) new found o m
    pattern_is G A w n new found o m e x = let P : Pattern → Type 0 = λ y. GivesTerm owns denotes A (walked S G y A w n) new found o m in subst P (flip e) x

  module _ (G : List Tree) where
    walked_along : (X : Judged (Tree × Tree)) (W : Tree × Tree → ℕ → Judged Walked) (s : Tree × Tree → Walked → Walked) (K : Walked → ℕ → Judged Walked)
        → next X (λ q m. next (W q m) (λ a i. K (s q a) i)) ≡ next (next X (λ q m. next (W q m) (λ a i. answer (s q a) i))) K
    walked_along (answer q m) W s K = flip (next_next (W q m) (λ a i. answer (s q a) i) K)
    walked_along (refused c n) W s K = refl
    walked_along ended W s K = refl

    spine_step : (t F : Tree) (p : Pattern) (ps : Patterns) (w : PlainFound) (n : ℕ)
        → spine_walked S G t F (more_patterns p ps) w n ≡ next (argument_walked S G t F p w n) (λ a m. spine_walked S G a.term a.typ ps a.found m)
    spine_step t F p ps w n = walked_along (as_product S E34 (under w.bindings F) n) (λ q m. walked S G p q.0 w m) (λ q a. (let x : Walked = record { term = apply t a.term; typ = substitute 0 a.term q.1; found = a.found } in x))
        (λ a m. spine_walked S G a.term a.typ ps a.found m)

    pub spine_fails : (f : TypeFault) (spare : ℕ) (t F : Tree) (p : Pat Term) (rest others : List (Pat Term)) (w : PlainFound) (n : ℕ) → rest ≡ p ∷ others → Fails f spare (argument_walked S G t F (pattern p) w n)
        → Fails f spare (spine_walked S G t F (plain_patterns rest) w n)
    spine_fails f spare t F p rest others w n e h = let P : List (Pat Term) → Type 0 = λ l. Fails f spare (spine_walked S G t F (plain_patterns l) w n) in
        subst P (flip e) (fails_is f spare _ _ (spine_step t F (pattern p) (plain_patterns others) w n) (fails_next f spare (argument_walked S G t F (pattern p) w n) _ h))

    pub spine_given : (t F : Tree) (p : Pat Term) (rest others : List (Pat Term)) (w : PlainFound) (a : Walked) (n m : ℕ) → rest ≡ p ∷ others → argument_walked S G t F (pattern p) w n ≡ answer a m
        → spine_walked S G a.term a.typ (plain_patterns others) a.found m ≡ spine_walked S G t F (plain_patterns rest) w n
    spine_given t F p rest others w a n m e h = let P : List (Pat Term) → Type 0 = λ l. spine_walked S G a.term a.typ (plain_patterns others) a.found m ≡ spine_walked S G t F (plain_patterns l) w n in
        subst P (flip e) (flip (spine_step t F (pattern p) (plain_patterns others) w n ∙ ap (λ y. next y (λ b i. spine_walked S G b.term b.typ (plain_patterns others) b.found i)) h))

    pub argument_fails : (f : TypeFault) (spare : ℕ) (t F A B : Tree) (p : Pattern) (w : PlainFound) (n m : ℕ) → as_product S E34 (under w.bindings F) n ≡ answer (A, B) m → Fails f spare (walked S G p A w m) → Fails f spare (argument_walked S G t F p w n)
    argument_fails f spare t F A B p w n m e h =
        fails_is f spare _ _ (ap (λ y. next y (λ q j. next (walked S G p q.0 w j) (λ a i. answer (record { term = apply t a.term; typ = substitute 0 a.term q.1; found = a.found }) i))) e)
        (fails_next f spare (walked S G p A w m) _ h)

    pub argument_given : (t F A B : Tree) (p : Pattern) (w : PlainFound) (a : Walked) (n m i : ℕ) → as_product S E34 (under w.bindings F) n ≡ answer (A, B) m → walked S G p A w m ≡ answer a i
        → argument_walked S G t F p w n ≡ answer (record { term = apply t a.term; typ = substitute 0 a.term B; found = a.found }) i
    argument_given t F A B p w a n m i e h =
        ap (λ y. next y (λ q j. next (walked S G p q.0 w j) (λ b l. answer (record { term = apply t b.term; typ = substitute 0 b.term q.1; found = b.found }) l))) e
        ∙ ap (λ y. next y (λ b l. answer (record { term = apply t b.term; typ = substitute 0 b.term B; found = b.found }) l)) h

pub headed_same : {t u F E : Tree} {w v : PlainFound} → t ≡ u → F ≡ E → w ≡ v → (let a : Walked = record { term = t; typ = F; found = w } in a) ≡ (let a : Walked = record { term = u; typ = E; found = v } in a)
headed_same {t} {u} {F} {E} {w} {v} e f g = ap (λ (x : Tree). (let a : Walked = record { term = x; typ = F; found = w } in a)) e ∙ ap (λ (x : Tree). (let a : Walked = record { term = u; typ = x; found = w } in a)) f
    ∙ ap (λ (x : PlainFound). (let a : Walked = record { term = u; typ = E; found = x } in a)) g

-- all types

pub all_more : {R T : Type 0} {owns : R → T → Type 0} {denotes : R → T → Tree} (old at new : R) (w : Found T) → OwnsFound owns denotes old w → (done pushed : List T) (rest others : List (Option T)) (x : Option T) (y : T)
    → Keeps owns denotes old at → Keeps owns denotes at new → AreOwned owns at done → OwnsSomes owns old rest
    → map (denotes at) done ++ types_under (terms_of denotes old w.bindings) (types_of denotes old rest) ≡ types_under (terms_of denotes old w.bindings) (types_of denotes old w.types.items)
    → rest ≡ x ∷ others → denotes new y ≡ under (terms_of denotes at w.bindings) (type_or_kind (maybe_by (denotes at) x)) → pushed ≡ done ++ y ∷ []
    → map (denotes new) pushed ++ types_under (terms_of denotes old w.bindings) (types_of denotes old others) ≡ types_under (terms_of denotes old w.bindings) (types_of denotes old w.types.items)
all_more {R} {T} {owns} {denotes} old at new w v done pushed rest others x y k l b d e f h q =
    let s : PlainBindings = terms_of denotes old w.bindings in
    let o : OwnsSome owns old x × OwnsSomes owns old others = subst (OwnsSomes owns old) f d in
    let p : denotes new y ≡ under s (type_or_kind (maybe_by (denotes old) x)) = h ∙ ap (λ z. under z (type_or_kind (maybe_by (denotes at) x))) (terms_kept old at k w.bindings v.bindings)
    ∙ ap (λ z. under s (type_or_kind z)) (maybe_kept old at k x o.0) in
    let tail : List Tree = types_under s (types_of denotes old others) in
    ap (λ (zs : List T). map (denotes new) zs ++ tail) q
    ∙ ap (λ (zs : List Tree). zs ++ tail) (map_pushed (denotes new) done y ∙ ap (λ (zs : List Tree). zs ++ denotes new y ∷ []) (values_kept at new done l b))
    ∙ moved_over (map (denotes at) done) (denotes new y) tail
    ∙ ap (λ (z : Tree). map (denotes at) done ++ z ∷ tail) p
    ∙ ap (λ (zs : List (Option T)). map (denotes at) done ++ types_under s (types_of denotes old zs)) (flip f) ∙ e

-- nothing found yet

none_types : {R T : Type 0} (denotes : R → T → Tree) (r : R) (n : ℕ) → types_of denotes r (replicate n None) ≡ replicate n None
none_types denotes r zero = refl
none_types denotes r (suc n) = ap (λ (os : List (Option Tree)). None ∷ os) (none_types denotes r n)

none_types_owned : {R T : Type 0} (owns : R → T → Type 0) (r : R) (n : ℕ) → OwnsSomes owns r (replicate n None)
none_types_owned owns r zero = tt
none_types_owned owns r (suc n) = (tt, none_types_owned owns r n)

no_bindings : {R T : Type 0} (owns : R → T → Type 0) (denotes : R → T → Tree) (r : R) (b : Bindings T) → b.terms.items ≡ [] → b.mentioned.term ≡ None → OwnsBindings owns denotes r b
no_bindings owns denotes r b e f = record {
  own = subst (OwnsSomes owns r) (flip e) tt;
  noted = subst (OwnsSome owns r) (flip f) tt;
  levels = subst (AreLevelled (may_mention denotes r b.mentioned) b.levels.items) (flip (ap (types_of denotes r) e)) (nothing_levelled (may_mention denotes r b.mentioned) b.levels.items);
}

pub nothing_owned : {R T : Type 0} (owns : R → T → Type 0) (denotes : R → T → Tree) (r : R) (w : Found T) (n : ℕ) → w.types.items ≡ replicate n None → w.guards.items ≡ [] → w.bindings.terms.items ≡ [] → w.bindings.mentioned.term ≡ None
    → OwnsFound owns denotes r w
nothing_owned owns denotes r w n e f g h = record { types = subst (OwnsSomes owns r) (flip e) (none_types_owned owns r n); guards = subst (OwnsGuards owns r) (flip f) tt; bindings = no_bindings owns denotes r w.bindings g h }

pub nothing_is : {R T : Type 0} (denotes : R → T → Tree) (r : R) (w : Found T) (n : ℕ) → w.types.items ≡ replicate n None → w.guards.items ≡ [] → w.bindings.terms.items ≡ [] → found_of denotes r w ≡ nothing_found n
nothing_is denotes r w n e f g = same_found (ap (types_of denotes r) e ∙ none_types denotes r n) (ap (guards_of denotes r) f) (ap (λ bs. resolved (behind_first w.bindings.levels.items) (types_of denotes r bs)) g)
