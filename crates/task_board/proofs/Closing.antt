-- What the closed book has of all passes together.
use Rattle.std.proofs.Common.{◌≡◌, ℕ, zero, suc, ◌+◌, ◌≤◌, Bool, true, false, cond, eqb, List, [], ◌∷◌, ◌++◌, length, map, sym, refl, ap, ◌∙◌, subst, arith, append-nil, append_assoc, length-append, All, lt_of_not-le}
use mathlib.Core.Logic.{dite}
use native.Mathlib.Decide.{dec_le, ℕ_discrete}
use Rattle.std.specs.List.{list_any, count_by, Any}
use Rattle.std.proofs.lemmas.Bool.{eqb-true}
use Rattle.std.proofs.lemmas.List.{nil_from_length, map-append}
use Rattle.std.proofs.lemmas.List.Elements.{All-map}
use Rattle.std.proofs.lemmas.List.Sums.{sum_by-append}
use Rattle.dk_model.specs.declared.code.Verdict.{Verdict}
use Rattle.board_core.specs.declared.event.Event.{Event}
use Rattle.board_core.specs.declared.event.Event.TheVariants.{Put, Claim, Answer, Seal}
use Rattle.board_core.specs.Events.{end_of, is_seal, puts}
use Rattle.board_core.specs.Machine.{HoldsNone, IsClaimable, IsFinished, IsLawful, IsLegal, marks_of}
use Rattle.board_core.proofs.Lawful.{finished, no_more_puts, still_drained, lawful_parts}
use Rattle.ticket_slot.specs.Views.{StartsWith, EachOnce, EndsIn, calls_by, ended_of, has_number, joined}
use Rattle.ticket_slot.specs.declared.view.Ended.{Ended}
use Rattle.ticket_slot.specs.declared.view.View.{View}
use Rattle.task_board.specs.Histories.{tagged, log_of, events_in, IsLegalLog}
use Rattle.task_board.specs.Passes.{IsIdle, IsOver}
use Rattle.task_board.proofs.Alls.{tail_all}
use Rattle.task_board.proofs.Logs.{none_whole}
use Rattle.task_board.proofs.Changing.{log_legal}
use Rattle.task_board.proofs.Reading.{events_from, seal_whole}

-- the reader's own events tell how the board ended
own_end : (es : List Event) → end_of (events_in (calls_by 0 (log_of es))) ≡ end_of es
own_end [] = refl
own_end ((Put n) ∷ es) = own_end es
own_end ((Claim w n) ∷ es) = go (eqb w 0) (own_end es)
  where
    go : (b : Bool) → end_of (events_in (calls_by 0 (log_of es))) ≡ end_of es → end_of (events_in (cond b (tagged (Claim w n) ∷ calls_by 0 (log_of es)) (calls_by 0 (log_of es)))) ≡ end_of es
    go true h = h
    go false h = h
own_end ((Answer w n v) ∷ es) = go (eqb w 0) (own_end es)
  where
    go : (b : Bool) → end_of (events_in (calls_by 0 (log_of es))) ≡ end_of es → end_of (events_in (cond b (tagged (Answer w n v) ∷ calls_by 0 (log_of es)) (calls_by 0 (log_of es)))) ≡ end_of es
    go true h = h
    go false h = h
own_end ((Seal e) ∷ es) = refl

pub same_end : (n : ℕ) (es : List Event) (mine : List (ℕ × Event)) → n ≡ 0 → calls_by n (log_of es) ≡ mine → end_of es ≡ end_of (events_in mine)
same_end n es mine first is = sym (own_end es) ∙ (ap (λ k. end_of (events_in (calls_by k (log_of es)))) (sym first) ∙ ap (λ l. end_of (events_in l)) is)

-- where a test counts one, some element passes it
pub counted : {A : Type 0} (p : A → Bool) (P : A → Type 0) (xs : List A) → All P xs → count_by p xs ≡ 1 → (x : A) × (p x ≡ true) × P x
counted p P [] all h = absurd (omega (arith, h))
counted {A = A} p P (x ∷ xs) all h = go (p x) refl (λ k. counted p P xs (tail_all P x xs all) k)
  where
    cons : count_by p (x ∷ xs) ≡ cond (p x) 1 0 + count_by p xs
    cons = let t = sum_by-append (λ y. cond (p y) 1 0) (x ∷ []) xs in omega (arith, t)

    go : (b : Bool) → p x ≡ b → (count_by p xs ≡ 1 → (y : A) × (p y ≡ true) × P y) → (y : A) × (p y ≡ true) × P y
    go true e rest = (x, e, all zero x (omega arith))
    go false e rest = rest (let c : ◌≡◌ {A = ℕ} (cond (p x) 1 0) 0 = ap (λ b. cond b 1 0) e in omega (arith, cons, c, h))

module _ {J : Type 0} where
  -- of a pass that was joined: the history has its events, and it holds no task
  abbrev Rests : List Event → List (J × Bool) → Ended Event (J × Bool) → Type 0
  Rests es jobs x = EndsIn (log_of es) jobs x × HoldsNone x.number (events_in x.mine)

  -- once no pass holds a task, nobody does
  none_held : (es : List Event) (jobs : List (J × Bool)) (v : View Event (J × Bool)) (ended : List (Ended Event (J × Bool))) → v.number ≡ 0 → IsIdle v → EndsIn (log_of es) jobs (ended_of v) → All (Rests es jobs) ended → EachOnce v.made ended
      → ((n : ℕ) → v.made ≤ n → calls_by n (log_of es) ≡ []) → (w : ℕ) → HoldsNone w es
  none_held es jobs v ended first idle reader all once others w = dite (ℕ_discrete w 0)
      (λ e. subst (λ k. HoldsNone k es) (first ∙ sym e) (none_whole v.number es v.mine reader.2 idle))
      (λ ne. dite (dec_le v.made w)
      (λ h. none_whole w es [] (others w h) (λ n claimed. let z : false ≡ true = claimed in cc))
      (λ h. let lt = lt_of_not-le h in let c = counted (has_number w) (Rests es jobs) ended all (once w (omega (arith, ne)) lt) in
      let same : c.0.number ≡ w = eqb-true c.0.number w c.1 in
      subst (λ k. HoldsNone k es) same (none_whole c.0.number es c.0.mine c.2.0.2 c.2.1)))

  -- what was over stays so
  stays_over : (es : List Event) (jobs : List (J × Bool)) (x : View Event (J × Bool)) → IsLawful (marks_of jobs) es → puts es ≡ length jobs → StartsWith (log_of es) x.seen → StartsWith jobs x.known → IsOver x → (n : ℕ) → ¬ IsClaimable (marks_of jobs) es n
  stays_over es jobs x lawful all_put seen known over n c = let before = events_in x.seen in let more = events_in seen.0 in let is : es ≡ before ++ more = events_from es x.seen seen in
      let lawful' = subst (IsLawful (marks_of jobs)) is lawful in
      let same : puts (before ++ more) ≡ puts before = no_more_puts (marks_of jobs) before more (lawful_parts (marks_of jobs) [] before more lawful').1 over.ended in
      let count = ap length known.1 in let lengths = length-append x.known known.0 in let p = over.all_put in let q = ap puts is in
      let none : known.0 ≡ [] = nil_from_length known.0 (omega (arith, same, count, lengths, p, q, all_put)) in
      let jobs_are : jobs ≡ x.known = known.1 ∙ (ap (λ l. x.known ++ l) none ∙ append-nil x.known) in
      still_drained (marks_of jobs) before more lawful' over.ended (λ m k. over.drained m (subst (λ l. IsClaimable (marks_of l) before m) jobs_are k)) n (subst (λ l. IsClaimable (marks_of jobs) l n) is c)

  pub closed : (due : J → Verdict) (early : J → Bool) (es : List Event) (jobs : List (J × Bool)) (v : View Event (J × Bool)) (ended : List (Ended Event (J × Bool))) (x : View Event (J × Bool)) → IsLegal due early jobs es → v.number ≡ 0 → IsIdle v
      → list_any is_seal (events_in v.mine) ≡ true → EndsIn (log_of es) jobs (ended_of v) → All (Rests es jobs) ended → EachOnce v.made ended → ((n : ℕ) → v.made ≤ n → calls_by n (log_of es) ≡ [])
      → EndsIn (log_of es) jobs (ended_of x) → IsOver x → IsFinished (marks_of jobs) es
  closed due early es jobs v ended x legal first idle sealed reader all once others ends over = finished (marks_of jobs) es (seal_whole v.number es v.mine true first reader.2 sealed)
      (none_held es jobs v ended first idle reader all once others) (stays_over es jobs x legal.lawful legal.all_put ends.0 ends.1 over)

all_of_map : {A B : Type 0} (P : B → Type 0) (g : A → B) (xs : List A) → All P (map g xs) → All (λ x. P (g x)) xs
all_of_map P g [] all k d h = absurd (omega arith)
all_of_map P g (x ∷ xs) all zero d h = all zero (g d) (omega arith)
all_of_map P g (x ∷ xs) all (suc k) d h = all_of_map P g xs (tail_all P (g x) (map g xs) all) k d (omega arith)

-- one more pass is joined
pub join_kept : {E J X : Type 0} (v w : View E J) (old new : View E J × List X) → new ≡ (joined old.0 w, old.1) → old ≡ (record v { ended = old.0.ended }, []) → new ≡ (record v { ended = new.0.ended }, [])
join_kept {E} {J} {X} v w old new j is = let e : new.0.ended ≡ ended_of w ∷ old.0.ended = ap (λ (m : View E J × List X). m.0.ended) j in
    j ∙ (ap (λ (m : View E J × List X). (record m.0 { ended = ended_of w ∷ old.0.ended }, m.1)) is ∙ (λ i. (record v { ended = sym e i }, [])))

pub join_moves : {A X : Type 0} (g : A → X) (xs ys : List A) (x : A) (old new all : List X) → ys ≡ xs ++ x ∷ [] → map g ys ++ old ≡ all → new ≡ g x ∷ old → map g xs ++ new ≡ all
join_moves g xs ys x old new all is before e = ap (λ l. map g xs ++ l) e ∙ (sym (append_assoc (map g xs) (g x ∷ []) old) ∙ (ap (λ l. l ++ old) (sym (map-append g xs (x ∷ []))) ∙ (ap (λ l. map g l ++ old) (sym is) ∙ before)))

pub join_ends : {A X : Type 0} (g : A → X) (xs : List A) (old all : List X) → length xs ≡ 0 → map g xs ++ old ≡ all → old ≡ all
join_ends g xs old all none is = ap (λ l. map g l ++ old) (sym (nil_from_length xs none)) ∙ is

module _ {A J : Type 0} (f : A → View Event (J × Bool)) (due : J → Verdict) (early : J → Bool) (es : List Event) (jobs : List (J × Bool)) (v u : View Event (J × Bool)) (passes : List A) where
  -- what the closed book has of the reader's pass v and of the workers' passes
  pub record Together : Type 0 where
    pub legal : IsLegal due early jobs es
    pub list : jobs ≡ v.known
    pub reader : EndsIn (log_of es) jobs (ended_of v)
    pub workers : All (λ p. EndsIn (log_of es) jobs (ended_of (f p))) passes
    pub each_once : EachOnce v.made (map (λ p. ended_of (f p)) passes)
    pub no_others : (n : ℕ) → v.made ≤ n → calls_by n (log_of es) ≡ []
    pub last : end_of es ≡ end_of (events_in v.mine)
    pub done : Any (λ p. IsOver (f p)) passes → IsFinished (marks_of jobs) es

  pub together : u ≡ record v { ended = u.ended } → u.ended ≡ map (λ p. ended_of (f p)) passes → v.number ≡ 0 → IsIdle v → list_any is_seal (events_in v.mine) ≡ true → All (λ p. IsIdle (f p)) passes
      → IsLegalLog due early (log_of es) jobs → jobs ≡ u.known → EndsIn (log_of es) jobs (ended_of u) → All (EndsIn (log_of es) jobs) u.ended → EachOnce u.made u.ended → ((n : ℕ) → u.made ≤ n → calls_by n (log_of es) ≡ []) → Together
  together same joins first idle sealed idles log list reader ended once others = let legal = log_legal due early es jobs log in
      let reader' : EndsIn (log_of es) jobs (ended_of v) = subst (λ x. EndsIn (log_of es) jobs x) (ap (λ (x : View Event (J × Bool)). ended_of x) same) reader in
      let made : u.made ≡ v.made = ap (λ (x : View Event (J × Bool)). x.made) same in
      let workers = all_of_map (EndsIn (log_of es) jobs) (λ p. ended_of (f p)) passes (subst (All (EndsIn (log_of es) jobs)) joins ended) in
      let once' : EachOnce v.made (map (λ p. ended_of (f p)) passes) = subst (λ (z : ℕ × List (Ended Event (J × Bool))). EachOnce z.0 z.1) (λ i. (made i, joins i)) once in
      let others' : (n : ℕ) → v.made ≤ n → calls_by n (log_of es) ≡ [] = λ n h. others n (subst (λ k. k ≤ n) (sym made) h) in record {
        legal = legal;
        list = list ∙ ap (λ (x : View Event (J × Bool)). x.known) same;
        reader = reader';
        workers = workers;
        each_once = once';
        no_others = others';
        last = same_end v.number es v.mine first reader'.2;
        done = λ any. closed due early es jobs v (map (λ p. ended_of (f p)) passes) (f any.1) legal first idle sealed reader' (All-map (Rests es jobs) (λ p. ended_of (f p)) passes (λ k d h. (workers k d h, idles k d h))) once' others'
            (subst (λ p. EndsIn (log_of es) jobs (ended_of (f p))) any.3 (workers any.0 any.1 any.2)) any.4;
      }
