-- What the reader's calls tell.
use Rattle.std.proofs.Common.{◌≡◌, ℕ, ◌+◌, Bool, true, false, List, [], ◌∷◌, ◌++◌, length, sym, refl, ap, ◌∙◌, subst, arith, length-append}
use Rattle.std.specs.Prelude.{None, Result, Ok, Err, IfOk, IfErr}
use Rattle.std.specs.List.{list_any}
use Rattle.std.proofs.lemmas.List.{map-append}
use Rattle.dk_model.specs.declared.code.Verdict.{Verdict}
use Rattle.board_core.specs.declared.event.End.{End}
use Rattle.board_core.specs.declared.event.End.TheVariants.{Whole, Fault, Unread, Unopened, Stopped}
use Rattle.board_core.specs.declared.event.Event.{Event}
use Rattle.board_core.specs.declared.event.Event.TheVariants.{Put, Claim, Answer, Seal}
use Rattle.board_core.specs.declared.task.PutRefused.{PutRefused}
use Rattle.board_core.specs.Events.{is_seal, is_fault, puts}
use Rattle.board_core.specs.Machine.{HoldsNone, IsLawful, IsLegal, MayEnd, MaySettle, Allowed, marks_of}
use Rattle.board_core.specs.Shown.{Shown, added, put_on, IsRefusal}
use Rattle.board_core.proofs.Histories.{any_same, any_hit, any_kept}
use Rattle.board_core.proofs.Lawful.{still_none}
use Rattle.ticket_slot.specs.Views.{StartsWith, IsReader, calls_by}
use Rattle.ticket_slot.specs.declared.view.View.{View}
use Rattle.task_board.specs.Histories.{maker, tagged, log_of, events_in, IsLegalLog}
use Rattle.task_board.specs.Passes.{Adds, IsIdle, PutRefusedTold, PutTold, TakesTurn, new_reader}
use Rattle.task_board.proofs.Alls.{all_one}
use Rattle.task_board.proofs.Logs.{events_log, own_any, starts_self}
use Rattle.task_board.proofs.Changing.{changed, changed_adds, changed_turn, legal_more, log_legal, looked, looked_turn}
use Rattle.task_board.proofs.Claiming.{legal_then}

pub seal_made : (e : Event) → is_seal e ≡ true → maker e ≡ 0
seal_made (Put k) h = cc
seal_made (Claim w k) h = cc
seal_made (Answer w k x) h = cc
seal_made (Seal x) h = refl

-- the reader alone seals
pub seal_whole : (n : ℕ) (es : List Event) (mine : List (ℕ × Event)) (b : Bool) → n ≡ 0 → calls_by n (log_of es) ≡ mine → list_any is_seal (events_in mine) ≡ b → list_any is_seal es ≡ b
seal_whole n es mine b zero is h = sym (own_any is_seal 0 seal_made es) ∙ (ap (λ k. list_any is_seal (events_in (calls_by k (log_of es)))) (sym zero) ∙ (ap (λ l. list_any is_seal (events_in l)) is ∙ h))

-- the events that a pass has seen are the first of all
pub events_from : (es : List Event) (seen : List (ℕ × Event)) (s : StartsWith (log_of es) seen) → es ≡ events_in seen ++ events_in s.0
events_from es seen s = sym (events_log es) ∙ (ap events_in s.1 ∙ map-append (λ (x : ℕ × Event). x.1) seen s.0)

may_end : (es more : List Event) (end : End) → MayEnd es end → MayEnd (es ++ more) end
may_end es more Whole h = h
may_end es more (Fault place v) h = h
may_end es more (Unread place) h = h
may_end es more (Unopened name) h = h
may_end es more Stopped h = any_kept is_fault es more h

module _ {J : Type 0} where
  -- what a reader's pass that holds no ticket shows, sealed or not
  pub record IsReaders (sealed : Bool) (x : View Event (J × Bool)) : Type 0 where
    pub reader : IsReader x
    pub free : x.ticket ≡ None
    pub none_joined : length x.ended ≡ 0
    pub seals : list_any is_seal (events_in x.mine) ≡ sealed
    pub idle : IsIdle x

  pub new_readers : (x : View Event (J × Bool)) (made : ℕ) → x ≡ new_reader made → IsReaders false x
  new_readers x made is = subst (IsReaders false) (sym is) record { reader = (refl, refl); free = refl; none_joined = refl; seals = refl; idle = λ n h. let z : false ≡ true = h in cc }

  mine_events : (v x : View Event (J × Bool)) (e : Event) → x.mine ≡ v.mine ++ tagged e ∷ [] → events_in x.mine ≡ events_in v.mine ++ e ∷ []
  mine_events v x e is = ap events_in is ∙ map-append (λ (y : ℕ × Event). y.1) v.mine (tagged e ∷ [])

  -- the reader knows one job more after a put, and the same after one that was refused
  pub put_more : (v x : View Event (J × Bool)) (job : J) (settled : Bool) (reply : Result ℕ (PutRefused J)) → IfOk reply (λ n. PutTold v job settled n x) → (n : ℕ) → reply ≡ Ok n → length x.known ≡ length v.known + 1
  put_more v x job settled reply ok n is = let told = subst (λ q. IfOk q (λ n. PutTold v job settled n x)) is ok in
      let e = ap length told.known in let l = length-append v.known ((job, settled) ∷ []) in omega (arith, e, l)

  pub put_known : (v x : View Event (J × Bool)) (job : J) (reply : Result ℕ (PutRefused J)) → IfErr reply (λ why. PutRefusedTold v job why x) → ((n : ℕ) → ¬ (reply ≡ Ok n)) → length x.known ≡ length v.known
  put_known v x job (Ok n) refused none = absurd (none n refl)
  put_known v x job (Err why) refused none = ap length refused.known

  module _ (due : J → Verdict) (early : J → Bool) (v : View Event (J × Bool)) (t : ℕ) (b d : Shown J) (old : IsReaders false v) (legal : IsLegalLog due early (log_of b.events) b.jobs) (seen : StartsWith (log_of b.events) v.seen) (known : StartsWith b.jobs v.known)
      (mine : calls_by v.number (log_of b.events) ≡ v.mine) where
    pub open_book : list_any is_seal b.events ≡ false
    open_book = seal_whole v.number b.events v.mine false old.reader.0 mine old.seals

    pub seal_allowed : (end : End) → MayEnd (events_in v.seen) end → Allowed (marks_of b.jobs) b.events (Seal end)
    seal_allowed end may = (open_book, subst (λ es. MayEnd es end) (sym (events_from b.events v.seen seen)) (may_end (events_in v.seen) (events_in seen.0) end may))

    pub put_legal : (job : J) (settled : Bool) (n : ℕ) → MaySettle due early (job, settled) → d ≡ put_on b job settled n → IsLawful (marks_of d.jobs) d.events → puts d.events ≡ length d.jobs → IsLegal due early d.jobs d.events
    put_legal job settled n may is lawful all_put = legal_more due early b d (Put n) (log_legal due early b.events b.jobs legal) (ap (λ (x : Shown J). x.events) is) ((job, settled) ∷ []) (ap (λ (x : Shown J). x.jobs) is) (all_one (MaySettle due early) (job, settled) may) tt lawful all_put

    kept_by_put : (n : ℕ) → Adds v (Put n) (changed v t b d) → IsReaders false (changed v t b d)
    kept_by_put n adds = let es = mine_events v (changed v t b d) (Put n) adds.1 in record {
      reader = old.reader;
      free = refl;
      none_joined = old.none_joined;
      seals = ap (list_any is_seal) es ∙ (any_same is_seal (events_in v.mine) (Put n) refl ∙ old.seals);
      idle = subst (HoldsNone v.number) (sym es) (still_none v.number (events_in v.mine) (Put n) old.idle (λ k. refl));
    }

    -- what a put tells, by its reply
    pub record PutDone (job : J) (settled : Bool) (reply : Result ℕ (PutRefused J)) (x : View Event (J × Bool)) : Type 0 where
      pub stays : IsReaders false x
      pub made : x.made ≡ v.made
      pub turn : TakesTurn due early v x
      pub ok : IfOk reply (λ n. PutTold v job settled n x)
      pub refused : IfErr reply (λ why. PutRefusedTold v job why x)

    pub put_done : (job : J) (settled : Bool) (reply : Result ℕ (PutRefused J)) (x : View Event (J × Bool)) → b.jobs ≡ v.known → MaySettle due early (job, settled)
        → IfOk reply (λ n. list_any is_fault b.events ≡ false) → IfOk reply (λ n. n ≡ length b.jobs + 1) → IfOk reply (λ n. d ≡ put_on b job settled n) → IfErr reply (λ why. IsRefusal b.events job why)
        → IsLawful (marks_of d.jobs) d.events → puts d.events ≡ length d.jobs
        → ((n : ℕ) → reply ≡ Ok n → x ≡ changed v t b d) → (((n : ℕ) → ¬ (reply ≡ Ok n)) → x ≡ looked v t b) → PutDone job settled reply x
    put_done job settled (Ok n) x own may running number is why lawful all_put ok err = let es = ap (λ (y : Shown J). y.events) is in let jobs = ap (λ (y : Shown J). y.jobs) is in
        let adds = changed_adds due early v t b seen known mine d (Put n) es in
        subst (PutDone job settled (Ok n)) (sym (ok n refl)) record {
          stays = kept_by_put n adds;
          made = refl;
          turn = changed_turn due early v t b seen known mine d ((job, settled) ∷ [], jobs) (put_legal job settled n may is lawful all_put);
          ok = record {
            number = number ∙ ap (λ l. length l + 1) own;
            added = adds;
            known = jobs ∙ ap (λ l. l ++ (job, settled) ∷ []) own;
            running = ap (list_any is_fault) (events_log d.events ∙ es) ∙ (any_same is_fault b.events (Put n) refl ∙ running);
          };
          refused = tt;
        }
    put_done job settled (Err why) x own may running number is reason lawful all_put ok err = subst (PutDone job settled (Err why)) (sym (err (λ n e. cc))) record {
      stays = record { reader = old.reader; free = refl; none_joined = old.none_joined; seals = old.seals; idle = old.idle };
      made = refl;
      turn = looked_turn due early v t b seen known mine legal;
      ok = tt;
      refused = record { seen = (seen, refl); known = own; reason = subst (λ es. IsRefusal es job why) (sym (events_log b.events)) reason };
    }

    -- what a seal tells
    pub record SealDone (end : End) (x : View Event (J × Bool)) : Type 0 where
      pub stays : IsReaders true x
      pub turn : TakesTurn due early v x
      pub added : Adds v (Seal end) x

    pub seal_done : (end : End) (x : View Event (J × Bool)) → d ≡ added b (Seal end) → IsLawful (marks_of d.jobs) d.events → puts d.events ≡ length d.jobs → x ≡ changed v t b d → SealDone end x
    seal_done end x is lawful all_put same = let es = ap (λ (y : Shown J). y.events) is in let adds = changed_adds due early v t b seen known mine d (Seal end) es in
        let own = mine_events v (changed v t b d) (Seal end) adds.1 in
        subst (SealDone end) (sym same) record {
          stays = record {
            reader = old.reader;
            free = refl;
            none_joined = old.none_joined;
            seals = ap (list_any is_seal) own ∙ any_hit is_seal (events_in v.mine) (Seal end) refl;
            idle = subst (HoldsNone v.number) (sym own) (still_none v.number (events_in v.mine) (Seal end) old.idle (λ k. refl));
          };
          turn = changed_turn due early v t b seen known mine d (starts_self d.jobs b.jobs (ap (λ (y : Shown J). y.jobs) is)) (legal_then due early b d (Seal end) legal is tt lawful all_put);
          added = adds;
        }
