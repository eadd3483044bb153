-- A history with and without its makers' numbers, and what it has of one maker.
use Rattle.std.proofs.Common.{◌≡◌, ℕ, Bool, true, false, ◌||◌, cond, eqb, eq-eqb, List, [], ◌∷◌, ◌++◌, sym, refl, ap, ◌∙◌, append_assoc, append-nil}
use Rattle.std.specs.List.{list_any}
use Rattle.std.proofs.lemmas.Bool.{eqb-true}
use Rattle.std.proofs.lemmas.List.{map-append}
use Rattle.std.proofs.lemmas.List.Elements.{filter-append}
use Rattle.board_core.specs.declared.event.Event.{Event}
use Rattle.board_core.specs.declared.event.Event.TheVariants.{Put, Claim, Answer, Seal}
use Rattle.board_core.specs.Events.{claims_by, answers_by}
use Rattle.board_core.specs.Machine.{Holds, HoldsNone}
use Rattle.board_core.proofs.Histories.{and_left}
use Rattle.ticket_slot.specs.Views.{StartsWith, calls_by}
use Rattle.task_board.specs.Histories.{maker, tagged, log_of, events_in}

pub events_log : (es : List Event) → events_in (log_of es) ≡ es
events_log [] = refl
events_log (e ∷ es) = ap (λ l. e ∷ l) (events_log es)

pub log_snoc : (es : List Event) (e : Event) → log_of (es ++ e ∷ []) ≡ log_of es ++ tagged e ∷ []
log_snoc es e = map-append tagged es (e ∷ [])

-- one more event of a maker is one more of its own
pub mine_snoc : (n : ℕ) (es : List Event) (e : Event) (mine : List (ℕ × Event)) → maker e ≡ n → calls_by n (log_of es) ≡ mine → calls_by n (log_of (es ++ e ∷ [])) ≡ mine ++ tagged e ∷ []
mine_snoc n es e mine made is = ap (calls_by n) (log_snoc es e)
    ∙ (filter-append (λ (x : ℕ × Event). eqb x.0 n) (log_of es) (tagged e ∷ []) ∙ (λ i. is i ++ cond (eq-eqb (maker e) n made i) (tagged e ∷ []) []))

-- of a test that only this maker's events pass, its own events tell what all do
pub own_any : (p : Event → Bool) (w : ℕ) → ((e : Event) → p e ≡ true → maker e ≡ w) → (es : List Event) → list_any p (events_in (calls_by w (log_of es))) ≡ list_any p es
own_any p w own [] = refl
own_any p w own (e ∷ es) = go (eqb (maker e) w) refl (p e) refl (own_any p w own es)
  where
    go : (b : Bool) → eqb (maker e) w ≡ b → (d : Bool) → p e ≡ d → list_any p (events_in (calls_by w (log_of es))) ≡ list_any p es
        → list_any p (events_in (cond b (tagged e ∷ calls_by w (log_of es)) (calls_by w (log_of es)))) ≡ (p e || list_any p es)
    go true q d r rec = ap (λ b. p e || b) rec
    go false q true r rec = absurd (let yes = eq-eqb (maker e) w (own e r) in let z : true ≡ false = sym yes ∙ q in cc)
    go false q false r rec = rec ∙ sym (ap (λ b. b || list_any p es) r)

pub claim_made : (w n : ℕ) (e : Event) → claims_by w n e ≡ true → maker e ≡ w
claim_made w n (Put k) h = cc
claim_made w n (Claim v k) h = eqb-true v w (and_left (eqb v w) (eqb k n) h)
claim_made w n (Answer v k x) h = cc
claim_made w n (Seal x) h = cc

pub answer_made : (w n : ℕ) (e : Event) → answers_by w n e ≡ true → maker e ≡ w
answer_made w n (Put k) h = cc
answer_made w n (Claim v k) h = cc
answer_made w n (Answer v k x) h = eqb-true v w (and_left (eqb v w) (eqb k n) h)
answer_made w n (Seal x) h = cc

module _ (w : ℕ) (es : List Event) (mine : List (ℕ × Event)) (is : calls_by w (log_of es) ≡ mine) where
  own_claims : (n : ℕ) → list_any (claims_by w n) (events_in mine) ≡ list_any (claims_by w n) es
  own_claims n = ap (λ l. list_any (claims_by w n) (events_in l)) (sym is) ∙ own_any (claims_by w n) w (claim_made w n) es

  own_answers : (n : ℕ) → list_any (answers_by w n) (events_in mine) ≡ list_any (answers_by w n) es
  own_answers n = ap (λ l. list_any (answers_by w n) (events_in l)) (sym is) ∙ own_any (answers_by w n) w (answer_made w n) es

  -- what a worker holds by its own events it holds by all, and the other way round
  pub none_whole : HoldsNone w (events_in mine) → HoldsNone w es
  none_whole h n c = sym (own_answers n) ∙ h n (own_claims n ∙ c)

  pub none_own : HoldsNone w es → HoldsNone w (events_in mine)
  none_own h n c = own_answers n ∙ h n (sym (own_claims n) ∙ c)

  pub held_whole : (n : ℕ) → Holds w n (events_in mine) → Holds w n es
  held_whole n h = (sym (own_claims n) ∙ h.0, sym (own_answers n) ∙ h.1)

  pub held_own : (n : ℕ) → Holds w n es → Holds w n (events_in mine)
  held_own n h = (own_claims n ∙ h.0, own_answers n ∙ h.1)

pub starts_self : {A : Type 0} (xs ys : List A) → xs ≡ ys → StartsWith xs ys
starts_self xs ys e = ([], e ∙ sym (append-nil ys))

pub starts_then : {A : Type 0} (xs ys zs : List A) → StartsWith xs ys → StartsWith ys zs → StartsWith xs zs
starts_then xs ys zs p q = (q.0 ++ p.0, p.1 ∙ (ap (λ l. l ++ p.0) q.1 ∙ append_assoc zs q.0 p.0))
