-- Typing that writes down its calls: it answers as with units alone, and what it answers, items that answer its calls answer.
use Rattle.std.specs.Prelude.{Bool, true, false}
use Rattle.std.proofs.Common.{List, [], ◌∷◌, ◌++◌, append-nil, append_assoc, ℕ, ◌≡◌, Option, Some, None, refl, ap, ◌∙◌, sym as flip, subst as along}
use Rattle.dk_model.specs.PlainTerms.{Tree}
use Rattle.dk_model.specs.PlainEntries.{PlainSignature}
use Rattle.dk_model.specs.Evaluation.{whnf_of, comparison_of, normal_of}
use Rattle.dk_model.specs.Bindings.{Bindings}
use Rattle.dk_model.specs.Solving.{solved}
use Rattle.dk_model.specs.ByUnits.{by_units}
use Rattle.dk_model.specs.TypingOver.{JudgedIn, answer, refused, ended, after, next, agreed}
use Rattle.dk_model.specs.declared.code.Code.{Code}
use Rattle.dk_model.specs.declared.stop.TypeFault.{TypeFault}
use Rattle.dk_model.specs.declared.stop.TypeFault.TheVariants.{Refused, Ended, NoMemory}
use Rattle.dk_model.proofs.RelatedTyping.{IsRespected}
use Rattle.typing_model.proofs.Typing.{from_next}
use Rattle.checked_steps.specs.Items.{Item}
use Rattle.checked_steps.specs.Checked.{by_items, next_reduction, next_joining, next_solution}
use Rattle.tree_typing.specs.Given.{Fails}
use Rattle.told_items.specs.Calls.{PlainCall, reduced, joined, resolved, Log, with_reduced, joined_if, with_joined, with_resolved, by_calls, is_answered}
use Rattle.told_items.proofs.Answers.{AreAnswered, reduces, joins, resolves, in_two}

-- ---- as with units alone

-- without the calls
abbrev pub units_of : {A : Type 0} → JudgedIn Log A → JudgedIn ℕ A
units_of (answer a x) = answer a x.0
units_of (refused c x) = refused c x.0
units_of ended = ended

abbrev pub AsWithUnits : (A : Type 0) → (Log → JudgedIn Log A) → (ℕ → JudgedIn ℕ A) → Type 0
AsWithUnits A f g = (x : Log) → units_of (f x) ≡ g x.0

units_next : {A B : Type 0} (y : JudgedIn Log A) (z : JudgedIn ℕ A) (h : A → Log → JudgedIn Log B) (k : A → ℕ → JudgedIn ℕ B)
    → units_of y ≡ z → ((a : A) → AsWithUnits B (h a) (k a)) → units_of (next y h) ≡ next z k
units_next (answer a x) z h k e i = i a x ∙ ap (λ w. next w k) e
units_next (refused c x) z h k e i = ap (λ w. next w k) e
units_next ended z h k e i = ap (λ w. next w k) e

module _ (S : PlainSignature) where
  units_reduced : {B : Type 0} (t : Tree) (calls : List PlainCall) (o : Option (Tree × ℕ)) (h : Tree → Log → JudgedIn Log B) (k : Tree → ℕ → JudgedIn ℕ B)
      → ((u : Tree) → AsWithUnits B (h u) (k u)) → units_of (after (with_reduced S t calls o) h) ≡ after o k
  units_reduced t calls None h k i = refl
  units_reduced t calls (Some p) h k i = i p.0 (p.1, calls ++ (reduced S t p.0 ∷ []))

  units_agreed : (c : Code) (b : Bool) (x : Log) → units_of (agreed c b x) ≡ agreed c b x.0
  units_agreed c true x = refl
  units_agreed c false x = refl

  units_joined : (c : Code) (t u : Tree) (calls : List PlainCall) (o : Option (Bool × ℕ)) → units_of (after (with_joined S t u calls o) (agreed c)) ≡ after o (agreed c)
  units_joined c t u calls None = refl
  units_joined c t u calls (Some p) = units_agreed c p.0 (p.1, calls ++ joined_if S t u p.0)

  units_resolved : (s : Bindings) (t u : Tree) (calls : List PlainCall) (o : JudgedIn ℕ Bindings) → units_of (with_resolved S s t u calls o) ≡ o
  units_resolved s t u calls (answer r n) = refl
  units_resolved s t u calls (refused c n) = refl
  units_resolved s t u calls ended = refl

  pub as_with_units : IsRespected AsWithUnits (by_calls S) (by_units S)
  as_with_units = record {
    answers = λ A a x. refl;
    refuses = λ A c x. refl;
    goes_on = λ A B f g h k i j x. units_next (f x) (g x.0) h k (i x) j;
    whnf = λ B t h k i x. units_reduced t x.1 (whnf_of S x.0 t) h k i;
    normal = λ B t h k i x. units_reduced t x.1 (normal_of S x.0 t) h k i;
    same = λ c t u x. units_joined c t u x.1 (comparison_of S x.0 t u);
  }

  pub solved_with_units : (s : Bindings) (t u : Tree) → AsWithUnits Bindings (λ x. (by_calls S).solve x s t u) (λ n. (by_units S).solve n s t u)
  solved_with_units s t u x = units_resolved s t u x.1 (solved S s t u x.0)

-- a fault of an equation writes nothing down
pub fails_resolved : (S : PlainSignature) (f : TypeFault) (s : Bindings) (t u : Tree) (calls : List PlainCall) (o : JudgedIn ℕ Bindings) (n : ℕ) → Fails f o n → Fails f (with_resolved S s t u calls o) (n, calls)
fails_resolved S (Refused c) s t u calls o n e = ap (with_resolved S s t u calls) e
fails_resolved S Ended s t u calls o n e = ap (with_resolved S s t u calls) e
fails_resolved S NoMemory s t u calls o n e = tt

-- ---- as by items

-- items that answer these calls give this answer, and leave the others
abbrev pub Answers : {A : Type 0} → List PlainCall → (List Item → JudgedIn (List Item) A) → A → Type 0
Answers {A} calls g a = (items rest : List Item) → AreAnswered calls items → g (items ++ rest) ≡ answer a rest

-- what is written down for this answer has items that give it
abbrev pub Written : {A : Type 0} → List PlainCall → Log → (List Item → JudgedIn (List Item) A) → A → Type 0
Written {A} before y g a = (calls : List PlainCall) × (y.1 ≡ before ++ calls) × Answers calls g a

abbrev pub AsByItems : (A : Type 0) → (Log → JudgedIn Log A) → (List Item → JudgedIn (List Item) A) → Type 0
AsByItems A f g = (x y : Log) (a : A) → f x ≡ answer a y → Written x.1 y g a

-- nothing is written down
none_written : {A : Type 0} (before : List PlainCall) (y : Log) (g : List Item → JudgedIn (List Item) A) (a : A) → before ≡ y.1 → ((rest : List Item) → g rest ≡ answer a rest) → Written before y g a
none_written before y g a e i = ([], flip e ∙ flip (append-nil before), λ items rest h. ap (λ z. g (z ++ rest)) h ∙ i rest)

-- what is written down first, and what is written down then
written_behind : {A : Type 0} (before first : List PlainCall) (z : Log) (g k : List Item → JudgedIn (List Item) A) (a : A)
    → Written (before ++ first) z k a → ((items rest : List Item) → AreAnswered first items → g (items ++ rest) ≡ k rest) → Written before z g a
written_behind before first z g k a w i = (
  first ++ w.0,
  w.1 ∙ append_assoc before first w.0,
  λ items rest h.
      let two : (xs : List Item) × (ys : List Item) × (items ≡ xs ++ ys) × AreAnswered first xs × AreAnswered w.0 ys = in_two first w.0 items h in
      ap (λ q. g (q ++ rest)) two.2 ∙ ap g (append_assoc two.0 two.1 rest) ∙ i two.0 (two.1 ++ rest) two.3 ∙ w.2 two.1 rest two.4,
)

goes_on : {A B : Type 0} (f : Log → JudgedIn Log A) (g : List Item → JudgedIn (List Item) A) (h : A → Log → JudgedIn Log B) (k : A → List Item → JudgedIn (List Item) B)
    → AsByItems A f g → ((a : A) → AsByItems B (h a) (k a)) → AsByItems B (λ n. next (f n) h) (λ n. next (g n) k)
goes_on {A} {B} f g h k i j x z b e = from_next (Written x.1 z (λ n. next (g n) k) b) (f x) h b z e (λ a y e1 e2.
    let w : Written x.1 y g a = i x y a e1 in
    written_behind x.1 w.0 z (λ n. next (g n) k) (k a) b (along (λ q. Written q z (k a) b) w.1 (j a y z b e2))
    (λ items rest l. ap (λ q. next q k) (w.2 items rest l)))

-- the items of one call
of_one : (c : PlainCall) (items : List Item) → AreAnswered (c ∷ []) items → is_answered c items ≡ true
of_one c items h = ap (is_answered c) (h.2 ∙ ap (λ q. h.0 ++ q) h.4 ∙ append-nil h.0) ∙ h.3

module _ (S : PlainSignature) where
  reduced_written : {B : Type 0} (t : Tree) (before : List PlainCall) (o : Option (Tree × ℕ)) (h : Tree → Log → JudgedIn Log B) (k : Tree → List Item → JudgedIn (List Item) B)
      → ((u : Tree) → AsByItems B (h u) (k u)) → (z : Log) (b : B) → after (with_reduced S t before o) h ≡ answer b z
      → Written before z (λ n. after (next_reduction S n t) k) b
  reduced_written t before None h k i z b e = cc
  reduced_written t before (Some p) h k i z b e = written_behind before (reduced S t p.0 ∷ []) z (λ n. after (next_reduction S n t) k) (k p.0) b
      (i p.0 (p.1, before ++ (reduced S t p.0 ∷ [])) z b e)
      (λ items rest l. ap (λ q. after q k) (reduces S t p.0 items (of_one (reduced S t p.0) items l) rest))

  agreed_written : (c : Code) (t u : Tree) (before : List PlainCall) (yes : Bool) (n : ℕ) (z : Log) (b : Unit {0}) → agreed c yes (n, before ++ joined_if S t u yes) ≡ answer b z
      → Written before z (λ m. after (next_joining S m t u) (agreed c)) b
  agreed_written c t u before true n z b e = (
    joined S t u ∷ [],
    (let q : ◌≡◌ {A = Log} (n, before ++ (joined S t u ∷ [])) z = cc in ap (λ (x : Log). x.1) (flip q)),
    λ items rest l. ap (λ q. after q (agreed c)) (joins S t u items (of_one (joined S t u) items l) rest),
  )
  agreed_written c t u before false n z b e = cc

  joined_written : (c : Code) (t u : Tree) (before : List PlainCall) (o : Option (Bool × ℕ)) (z : Log) (b : Unit {0}) → after (with_joined S t u before o) (agreed c) ≡ answer b z
      → Written before z (λ n. after (next_joining S n t u) (agreed c)) b
  joined_written c t u before None z b e = cc
  joined_written c t u before (Some p) z b e = agreed_written c t u before p.0 p.1 z b e

  resolved_written : (s : Bindings) (t u : Tree) (before : List PlainCall) (o : JudgedIn ℕ Bindings) (z : Log) (r : Bindings) → with_resolved S s t u before o ≡ answer r z
      → Written before z (λ n. next_solution S n s t u) r
  resolved_written s t u before (answer q n) z r e = (
    resolved S s t u q ∷ [],
    (let i : ◌≡◌ {A = Log} (n, before ++ (resolved S s t u q ∷ [])) z = cc in ap (λ (x : Log). x.1) (flip i)),
    λ items rest l. resolves S s t u q items (of_one (resolved S s t u q) items l) rest ∙ (let i : q ≡ r = cc in ap (λ w. answer w rest) i),
  )
  resolved_written s t u before (refused c n) z r e = cc
  resolved_written s t u before ended z r e = cc

  answer_written : {A : Type 0} (a b : A) (x y : Log) → ◌≡◌ {A = JudgedIn Log A} (answer a x) (answer b y) → Written x.1 y (λ n. answer a n) b
  answer_written a b x y e = none_written x.1 y (λ n. answer a n) b (let q : x ≡ y = cc in ap (λ (l : Log). l.1) q) (λ rest. let q : a ≡ b = cc in ap (λ c. answer c rest) q)

  pub as_by_items : IsRespected AsByItems (by_calls S) (by_items S)
  as_by_items = record {
    answers = λ A a x y b e. answer_written a b x y e;
    refuses = λ A c x y b e. cc;
    goes_on = λ A B f g h k i j. goes_on f g h k i j;
    whnf = λ B t h k i x z b e. reduced_written t x.1 (whnf_of S x.0 t) h k i z b e;
    normal = λ B t h k i x z b e. reduced_written t x.1 (normal_of S x.0 t) h k i z b e;
    same = λ c t u x z b e. joined_written c t u x.1 (comparison_of S x.0 t u) z b e;
  }

  pub solved_by_items : (s : Bindings) (t u : Tree) → AsByItems Bindings (λ x. (by_calls S).solve x s t u) (λ n. (by_items S).solve n s t u)
  solved_by_items s t u x z r e = resolved_written s t u x.1 (solved S s t u x.0) z r e
