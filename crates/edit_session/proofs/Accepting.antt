-- Commands that are accepted one after the other: one more, the first of them, and that it comes about in one way.
use Rattle.std.proofs.Common.{ℕ, zero, suc, ◌≡◌, ◌<◌, ◌≤◌, true, Some, None, List, [], ◌∷◌, ◌++◌, All, length, map, take, slice_get, refl, ap, subst, ◌∙◌, arith}
use Rattle.std.proofs.lemmas.List.Elements.{All-head, All-tail}
use Rattle.dk_model.specs.PlainCommands.{PlainCommand}
use Rattle.dk_model.specs.PlainEntries.{PlainSignature}
use Rattle.dk_model.specs.Typing.{Judged, answer, ended, refused as refused_check}
use Rattle.dk_model.specs.Verdicts.{command_checked, verdict, verdict_of}
use Rattle.dk_model.specs.declared.limits.Limits.{Limits}
use Rattle.dk_model.specs.declared.code.Verdict.TheVariants.{Accepted}
use Rattle.dk_lexer.specs.Tokens.{whole}
use Rattle.dk_parser.specs.FileReading.{Tail, read}
use Rattle.dk_parser.specs.FileReading as tail
use Rattle.dk_parser.specs.Written.{WrittenCommand, WrittenForm}
use Rattle.scope_terms.specs.Scopes.{scope_of, scoped}
use Rattle.prune_theory.specs.Folds.{AreAccepted, Declared, Stated, accepts_more, accepts_none, declared_with, nothing_declared}
use Rattle.prune_theory.specs.Laws.{HasTypeOrBody, HaveTypeOrBody, TestsRests}
use Rattle.prune_theory.proofs.Replays.{accepted_once}
use Rattle.prune_theory.proofs.Whole.{read_have}
use Rattle.edit_session.specs.Answers.{at_top, is_among}
use Rattle.edit_session.specs.Folding.{forms_in}
use Rattle.edit_session.specs.Grounds.{texts_in}
use Rattle.edit_session.specs.Held.{IsSlot}
use Rattle.edit_session.specs.Resting.{RestOn}
use Rattle.edit_session.specs.Sessions.{is_shaped}
use Rattle.edit_session.specs.Texts.{form_of, forms_of, maybe_form, only_form}
use Rattle.edit_session.specs.declared.slot.Slot.{Slot}
use Rattle.edit_session.proofs.Counting.{get_same}
use Rattle.edit_session.proofs.Numbers.{contains_in, in_contains}

-- ---- one more

pub accepts_last : {budget : ℕ} {T U : Declared} {fs : List Stated} {cs : List PlainCommand} {ns : List ℕ} (f : Stated) (c : PlainCommand) (n : ℕ) → AreAccepted budget T fs cs ns U → scope_of U.names f.place f.form ≡ scoped c
    → command_checked U.signature c budget ≡ answer tt n → AreAccepted budget T (fs ++ f ∷ []) (cs ++ c ∷ []) (ns ++ n ∷ []) (declared_with budget U f c)
accepts_last f c n accepts_none e a = accepts_more e a accepts_none
accepts_last f c n (accepts_more e a rest) g b = accepts_more e a (accepts_last f c n rest g b)

-- a verdict leaves some units
pub units_left : (S : PlainSignature) (c : PlainCommand) (budget : ℕ) → verdict_of S c budget ≡ Accepted → (n : ℕ) × (command_checked S c budget ≡ answer tt n)
units_left S c budget e = by (command_checked S c budget) e
  where
    by : (j : Judged (Unit {0})) → verdict j ≡ Accepted → (n : ℕ) × (j ≡ answer tt n)
    by (answer u n) e = (n, refl)
    by (refused_check code n) e = absurd cc
    by ended e = absurd cc

-- ---- the first of them

pub record Next (budget : ℕ) (T : Declared) (fs : List Stated) (k : ℕ) (f : Stated) : Type 0 where
  pub commands : List PlainCommand
  pub left : List ℕ
  pub theory : Declared
  pub accepted : AreAccepted budget T (take k fs) commands left theory
  pub command : PlainCommand
  pub scopes : scope_of theory.names f.place f.form ≡ scoped command
  pub verdict_is : verdict_of theory.signature command budget ≡ Accepted

pub accepted_at : {budget : ℕ} {T U : Declared} {fs : List Stated} {cs : List PlainCommand} {ns : List ℕ} (k : ℕ) (f : Stated) → AreAccepted budget T fs cs ns U → slice_get fs k ≡ Some f → Next budget T fs k f
accepted_at k f accepts_none e = absurd cc
accepted_at zero f (accepts_more {T} {f = g} {c} e a rest) h = let q : g ≡ f = cc in record {
  commands = [];
  left = [];
  theory = T;
  accepted = accepts_none;
  command = c;
  scopes = subst (λ (z : Stated). scope_of T.names z.place z.form ≡ scoped c) q e;
  verdict_is = ap verdict a;
}
accepted_at (suc k) f (accepts_more {c} {n} e a rest) h = let r : _ = accepted_at k f rest h in record {
  commands = c ∷ r.commands;
  left = n ∷ r.left;
  theory = r.theory;
  accepted = accepts_more e a r.accepted;
  command = r.command;
  scopes = r.scopes;
  verdict_is = r.verdict_is;
}

-- ---- lists

pub take_take : {A : Type 0} (k j : ℕ) (xs : List A) → k ≤ j → take k (take j xs) ≡ take k xs
take_take zero j xs l = refl
take_take (suc k) zero xs l = absurd (omega (arith, l))
take_take (suc k) (suc j) [] l = refl
take_take (suc k) (suc j) (x ∷ xs) l = ap (λ (z : List _). x ∷ z) (take_take k j xs (omega (arith, l)))

pub get_take : {A : Type 0} (k j : ℕ) (xs : List A) → k < j → slice_get (take j xs) k ≡ slice_get xs k
get_take k zero xs l = absurd (omega (arith, l))
get_take k (suc j) [] l = refl
get_take zero (suc j) (x ∷ xs) l = refl
get_take (suc k) (suc j) (x ∷ xs) l = get_take k j xs (omega (arith, l))

pub take_map : {A B : Type 0} (f : A → B) (k : ℕ) (xs : List A) → take k (map f xs) ≡ map f (take k xs)
take_map f zero xs = refl
take_map f (suc k) [] = refl
take_map f (suc k) (x ∷ xs) = ap (λ (l : List _). f x ∷ l) (take_map f k xs)

pub get_map_at : (fs : List WrittenForm) (k : ℕ) (f : WrittenForm) → slice_get fs k ≡ Some f → slice_get (map at_top fs) k ≡ Some (at_top f)
get_map_at [] k f e = absurd cc
get_map_at (g ∷ fs) zero f e = let q : g ≡ f = cc in ap (λ z. Some (at_top z)) q
get_map_at (g ∷ fs) (suc k) f e = get_map_at fs k f e

-- ---- what the report doesn't get to

-- the form at `k`, behind those that are accepted, isn't
module _ (budget : ℕ) (forms : List WrittenForm) (k : ℕ) (form : WrittenForm) (T : Declared) (cs : List PlainCommand) (ns : List ℕ) (here : slice_get forms k ≡ Some form)
    (accepted : AreAccepted budget nothing_declared (map at_top (take k forms)) cs ns T) where
  pub passed : (j : ℕ) {ds : List PlainCommand} {ms : List ℕ} {U : Declared} → k < j → AreAccepted budget nothing_declared (map at_top (take j forms)) ds ms U
      → (c : PlainCommand) × (scope_of T.names None form ≡ scoped c) × (verdict_of T.signature c budget ≡ Accepted)
  passed j l a = let n : Next budget nothing_declared (map at_top (take j forms)) k (at_top form) = accepted_at k (at_top form) a (get_map_at (take j forms) k form (get_take k j forms l ∙ here)) in
      let front : take k (map at_top (take j forms)) ≡ map at_top (take k forms) = take_map at_top k (take j forms) ∙ ap (map at_top) (take_take k j forms (omega (arith, l))) in
      let same : n.theory ≡ T = accepted_once (subst (λ z. AreAccepted budget nothing_declared z n.commands n.left n.theory) front n.accepted) accepted in
      (n.command, subst (λ U. scope_of U.names None form ≡ scoped n.command) same n.scopes, subst (λ U. verdict_of U.signature n.command budget ≡ Accepted) same n.verdict_is)

  pub reached_here : {ds : List PlainCommand} {ms : List ℕ} {U : Declared} (f : WrittenForm) (c : PlainCommand) → AreAccepted budget nothing_declared (map at_top (take k forms)) ds ms U → slice_get forms k ≡ Some f
      → scope_of U.names None f ≡ scoped c → is_shaped U.signature c ≡ true → (scope_of T.names None form ≡ scoped c) × (is_shaped T.signature c ≡ true)
  reached_here {U} f c a e s h = let same : U ≡ T = accepted_once a accepted in let is : f ≡ form = get_same (slice_get forms k) f form e here in
      (subst (λ g. scope_of T.names None g ≡ scoped c) is (subst (λ V. scope_of V.names None f ≡ scoped c) same s), subst (λ V. is_shaped V.signature c ≡ true) same h)

-- ---- texts and forms

some_only : (cs : List WrittenCommand) (t : Tail) (form : WrittenForm) → only_form cs t ≡ Some form → All (λ (c : WrittenCommand). HasTypeOrBody c.form) cs → HasTypeOrBody form
some_only [] t form e h = absurd cc
some_only (c ∷ []) tail.whole form e h = let q : c.form ≡ form = cc in subst HasTypeOrBody q (All-head (λ (c : WrittenCommand). HasTypeOrBody c.form) c [] h)
some_only (c ∷ []) (tail.fault line code) form e h = absurd cc
some_only (c ∷ []) tail.unread form e h = absurd cc
some_only (c ∷ d ∷ ds) t form e h = absurd cc

pub form_has : (limits : Limits) (text : List ℕ) (form : WrittenForm) → form_of limits text ≡ Some form → HasTypeOrBody form
form_has limits text form e = some_only (read limits text whole).commands (read limits text whole).tail form e (read_have limits text whole)

module _ (limits : Limits) (budget : ℕ) where
  pub forms_are : (slots : List Slot) → All (IsSlot limits budget) slots → forms_of limits (texts_in slots) ≡ forms_in slots
  forms_are [] h = refl
  forms_are (s ∷ ss) h = let is : IsSlot limits budget s = All-head (IsSlot limits budget) s ss h in
      λ i. maybe_form (is.form i) ++ forms_are ss (All-tail (IsSlot limits budget) s ss h) i

  pub some_forms : (slots : List Slot) → All (IsSlot limits budget) slots → map (form_of limits) (texts_in slots) ≡ map Some (forms_in slots)
  some_forms [] h = refl
  some_forms (s ∷ ss) h = let is : IsSlot limits budget s = All-head (IsSlot limits budget) s ss h in λ i. is.form i ∷ some_forms ss (All-tail (IsSlot limits budget) s ss h) i

  pub forms_have : (k : ℕ) (slots : List Slot) → All (IsSlot limits budget) slots → HaveTypeOrBody (map at_top (take k (forms_in slots)))
  forms_have zero slots h = tt
  forms_have (suc k) [] h = tt
  forms_have (suc k) (s ∷ ss) h = let is : IsSlot limits budget s = All-head (IsSlot limits budget) s ss h in (form_has limits _ _ is.form, forms_have k ss (All-tail (IsSlot limits budget) s ss h))

-- ---- a test for what a command rests on

pub tests : (cs : List PlainCommand) (c : PlainCommand) (places : List ℕ) → RestOn cs c places → TestsRests (cs ++ c ∷ []) (length cs) (is_among places)
tests cs c places h = record { rests = λ i e. h.only i (in_contains i places e); all = λ i r. contains_in i places (h.all i r) }
