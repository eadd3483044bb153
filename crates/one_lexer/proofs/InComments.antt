-- A comment that the bytes so far don't end.
use Rattle.std.proofs.Common.{◌≡◌, ◌≤◌, ◌<◌, ℕ, ◌+◌, ◌-◌, Bool, true, false, List, [], ◌∷◌, ◌++◌, length, take, refl, sym, ap, subst, ◌∙◌, arith, length-append}
use Rattle.std.proofs.lemmas.List.{append-nil}
use Rattle.std.specs.Prelude.{Option}
use Rattle.dk_model.specs.declared.code.Code.TheVariants.{E03}
use Rattle.dk_model.specs.declared.limits.Limits.{Limits}
use Rattle.dk_lexer.specs.declared.class.Class.{Class}
use Rattle.dk_lexer.specs.declared.class.Class.TheVariants as class
use Rattle.dk_lexer.specs.declared.token.Token.{Token}
use Rattle.dk_lexer.specs.declared.place.Place.{Place}
use Rattle.one_lexer.specs.Places.{place_behind}
use Rattle.dk_lexer.specs.Spelling.{Spelling, blank, comment, comment_open}
use Rattle.dk_lexer.specs.Tokens.{Ending, whole, broken, Lexed, Setting, at_end, behind, bound, fault_at, nothing_at, outcome_at, tokens, tokens_from, within}
use Rattle.one_lexer.proofs.Leaves.{comment_blank}
use Rattle.one_lexer.proofs.Leaves.{IsBlank}
use Rattle.dk_lexer.proofs.Outcomes.{begins, skip, within_false, within_true}
use Rattle.one_lexer.specs.Reading.{Fails, MayCome, Reads, ReadsComment, adds, last_of, setting_at}
use Rattle.one_lexer.specs.Views.{spelled_front}
use Rattle.one_lexer.proofs.Places.{last_length, last_parts, place_offset}
use Rattle.one_lexer.proofs.Reading.{behind_it, skip_all}

-- what comes behind a comment counts only as far as it leaves bytes
blank_onward : (s : Setting) (n : ℕ) (x : Spelling) (f g : Option ℕ → ℕ → Lexed) → IsBlank n x → ((left : ℕ) → left ≤ n → f s.command left ≡ g s.command left) → outcome_at s x f ≡ outcome_at s x g
blank_onward s n (blank left) f g h same = ap (λ (y : Lexed). within s (bound s.limits s.command) left y) (same left h)
blank_onward s n comment_open f g h same = refl
blank_onward s n _ f g h same = absurd h

-- a comment past the bound
pub blank_over : (s : Setting) (n : ℕ) (x : Spelling) (f : Option ℕ → ℕ → Lexed) → IsBlank n x → (bound s.limits s.command).last + n < s.total → outcome_at s x f ≡ fault_at s.here (bound s.limits s.command).code
blank_over s n (blank left) f h lt = within_false s (bound s.limits s.command) left (f s.command left) (omega arith)
blank_over s n comment_open f h lt = within_false s (bound s.limits s.command) 0 (at_end s.ending (fault_at s.here E03) (nothing_at s.here)) (omega arith)
blank_over s n _ f h lt = absurd h

-- ---- it begins

abbrev Starts : ℕ → ℕ → ℕ → List ℕ → Type 0
Starts limit b c ds = (more : List ℕ) → spelled_front limit (b ∷ c ∷ (ds ++ more)) ≡ comment 1 class.Other (ds ++ more)

pub comment_begins : (over : Bool) (limits : Limits) (before : List ℕ) (ts : List Token) (here : Place) (command : Option ℕ) (b c : ℕ) (ds : List ℕ)
    → Reads over limits before ts here command (b ∷ c ∷ ds) → Starts limits.name_bytes b c ds → here.offset + 2 ≤ (bound limits command).last
    → ReadsComment over limits before ts here command (place_behind here (b ∷ c ∷ [])) 1 class.Other ds
comment_begins over limits before ts here command b c ds r starts fits =
    let size = r.total in
    let o = place_offset here (b ∷ c ∷ []) in
    record {
      total = omega arith;
      deep = omega arith;
      fits = omega arith;
      onward = λ more e may.
          let total = length (before ++ more) in
          let s = setting_at limits e total here command in
          r.onward more e may
          ∙ ap (adds ts) (begins limits e total here command b (c ∷ (ds ++ more))
          ∙ ap (λ (x : Spelling). outcome_at s x (λ k left. tokens_from limits e total (behind here b) k left (c ∷ (ds ++ more)))) (starts more)
          ∙ blank_onward s (length (ds ++ more)) (comment 1 class.Other (ds ++ more)) (λ k left. tokens_from limits e total (behind here b) k left (c ∷ (ds ++ more)))
          (λ k left. tokens_from limits e total (behind (behind here b) c) k left (ds ++ more)) (comment_blank 1 class.Other (ds ++ more))
          (λ left le. skip limits e total (behind here b) command left c (ds ++ more) le));
    }

pub start_fails : (over : Bool) (limits : Limits) (before : List ℕ) (ts : List Token) (here : Place) (command : Option ℕ) (b c : ℕ) (ds : List ℕ)
    → Reads over limits before ts here command (b ∷ c ∷ ds) → Starts limits.name_bytes b c ds → (bound limits command).last < here.offset + 2
    → Fails over limits before ts here (bound limits command).code
start_fails over limits before ts here command b c ds r starts past = record {
  stands = λ more e may.
      let size = r.total in
      let total = length (before ++ more) in
      let n = length-append before more in
      let m = length-append ds more in
      let s = setting_at limits e total here command in
      r.onward more e may
      ∙ ap (adds ts) (begins limits e total here command b (c ∷ (ds ++ more))
      ∙ ap (λ (x : Spelling). outcome_at s x (λ k left. tokens_from limits e total (behind here b) k left (c ∷ (ds ++ more)))) (starts more)
      ∙ blank_over s (length (ds ++ more)) (comment 1 class.Other (ds ++ more)) (λ k left. tokens_from limits e total (behind here b) k left (c ∷ (ds ++ more))) (comment_blank 1 class.Other (ds ++ more)) (omega arith));
}

-- ---- it goes on

abbrev Inner : Limits → Ending → ℕ → Place → List ℕ → Option ℕ → ℕ → Lexed
Inner limits e total next bytes k left = tokens_from limits e total next k left bytes

pub comment_goes : (over : Bool) (limits : Limits) (before : List ℕ) (ts : List Token) (here : Place) (command : Option ℕ) (next : Place) (depth : ℕ) (last : Class) (bytes : List ℕ) (deeper : ℕ) (later : Class)
    → ReadsComment over limits before ts here command next depth last bytes → ((more : List ℕ) → comment deeper later more ≡ comment depth last (bytes ++ more))
    → deeper ≤ depth + length bytes → next.offset + length bytes ≤ (bound limits command).last
    → ReadsComment over limits before ts here command (place_behind next bytes) deeper later []
comment_goes over limits before ts here command next depth last bytes deeper later r goes deep fits =
    let size = r.total in
    let was = r.deep in
    let o = place_offset next bytes in
    record {
      total = omega arith;
      deep = omega arith;
      fits = omega arith;
      onward = λ more e may.
          let total = length (before ++ more) in
          let s = setting_at limits e total here command in
          r.onward more e may
          ∙ ap (adds ts) (ap (λ (x : Spelling). outcome_at s x (λ k left. tokens_from limits e total next k left (bytes ++ more))) (sym (goes more))
          ∙ blank_onward s (length more) (comment deeper later more) (λ k left. tokens_from limits e total next k left (bytes ++ more))
          (λ k left. tokens_from limits e total (place_behind next bytes) k left more) (comment_blank deeper later more)
          (λ left le. skip_all limits e total next command left bytes more le));
    }

pub comment_past : (over : Bool) (limits : Limits) (before : List ℕ) (ts : List Token) (here : Place) (command : Option ℕ) (next : Place) (depth : ℕ) (last : Class) (bytes : List ℕ) (deeper : ℕ) (later : Class)
    → ReadsComment over limits before ts here command next depth last bytes → ((more : List ℕ) → comment deeper later more ≡ comment depth last (bytes ++ more))
    → (bound limits command).last < next.offset + length bytes → Fails over limits before ts here (bound limits command).code
comment_past over limits before ts here command next depth last bytes deeper later r goes past = record {
  stands = λ more e may.
      let size = r.total in
      let total = length (before ++ more) in
      let n = length-append before more in
      let s = setting_at limits e total here command in
      r.onward more e may
      ∙ ap (adds ts) (ap (λ (x : Spelling). outcome_at s x (λ k left. tokens_from limits e total next k left (bytes ++ more))) (sym (goes more))
      ∙ blank_over s (length more) (comment deeper later more) (λ k left. tokens_from limits e total next k left (bytes ++ more)) (comment_blank deeper later more) (omega arith));
}

-- ---- it ends

abbrev Closes : ℕ → Class → List ℕ → ℕ → Type 0
Closes depth last bytes left = (more : List ℕ) → blank (left + length more) ≡ comment depth last (bytes ++ more)

pub comment_ends : (over : Bool) (limits : Limits) (before : List ℕ) (ts : List Token) (here : Place) (command : Option ℕ) (next : Place) (depth : ℕ) (last : Class) (bytes : List ℕ) (left : ℕ)
    → ReadsComment over limits before ts here command next depth last bytes → Closes depth last bytes left → left ≤ length bytes
    → length before ≤ (bound limits command).last + left
    → Reads over limits before ts (place_behind next (take (length bytes - left) bytes)) command (last_of left bytes)
comment_ends over limits before ts here command next depth last bytes left r goes le fits =
    let size = r.total in
    let front = take (length bytes - left) bytes in
    let rest = last_of left bytes in
    let split = last_parts left bytes in
    let k : length bytes ≡ length front + length rest = ap length split ∙ length-append front rest in
    let l = last_length left bytes le in
    let o = place_offset next front in
    record {
      total = omega arith;
      onward = λ more e may.
          let total = length (before ++ more) in
          let n = length-append before more in
          let s = setting_at limits e total here command in
          r.onward more e may
          ∙ ap (adds ts) (ap (λ (x : Spelling). outcome_at s x (λ k left. tokens_from limits e total next k left (bytes ++ more))) (sym (goes more))
          ∙ within_true s (bound limits command) (left + length more) (tokens_from limits e total next command (left + length more) (bytes ++ more)) (omega arith)
          ∙ ap (λ (i : ℕ). tokens_from limits e total next command (i + length more) (bytes ++ more)) (sym l)
          ∙ behind_it limits e total next command bytes front rest more split);
    }

pub end_fails : (over : Bool) (limits : Limits) (before : List ℕ) (ts : List Token) (here : Place) (command : Option ℕ) (next : Place) (depth : ℕ) (last : Class) (bytes : List ℕ) (left : ℕ)
    → ReadsComment over limits before ts here command next depth last bytes → Closes depth last bytes left
    → (bound limits command).last + left < length before → Fails over limits before ts here (bound limits command).code
end_fails over limits before ts here command next depth last bytes left r goes past = record {
  stands = λ more e may.
      let total = length (before ++ more) in
      let n = length-append before more in
      let s = setting_at limits e total here command in
      r.onward more e may
      ∙ ap (adds ts) (ap (λ (x : Spelling). outcome_at s x (λ k left. tokens_from limits e total next k left (bytes ++ more))) (sym (goes more))
      ∙ within_false s (bound limits command) (left + length more) (tokens_from limits e total next command (left + length more) (bytes ++ more)) (omega arith));
}

-- ---- no byte is left

open_now : (over : Bool) (limits : Limits) (before : List ℕ) (ts : List Token) (here : Place) (command : Option ℕ) (next : Place) (depth : ℕ) (last : Class) (e : Ending)
    → ReadsComment over limits before ts here command next depth last [] → MayCome over [] e → tokens limits (before ++ []) e ≡ adds ts (at_end e (fault_at here E03) (nothing_at here))
open_now over limits before ts here command next depth last e r may =
    let size = r.total in
    let fits = r.fits in
    let n : length (before ++ []) ≡ length before = ap length (append-nil before) in
    r.onward [] e may
    ∙ ap (adds ts) (within_true (setting_at limits e (length (before ++ [])) here command) (bound limits command) 0 (at_end e (fault_at here E03) (nothing_at here)) (omega arith))

pub comment_waits : (limits : Limits) (before : List ℕ) (ts : List Token) (here : Place) (command : Option ℕ) (next : Place) (depth : ℕ) (last : Class)
    → ReadsComment false limits before ts here command next depth last [] → tokens limits before broken ≡ adds ts (nothing_at here)
comment_waits limits before ts here command next depth last r =
    ap (λ (x : List ℕ). tokens limits x broken) (sym (append-nil before)) ∙ open_now false limits before ts here command next depth last broken r tt

pub comment_unended : (limits : Limits) (before : List ℕ) (ts : List Token) (here : Place) (command : Option ℕ) (next : Place) (depth : ℕ) (last : Class)
    → ReadsComment true limits before ts here command next depth last [] → Fails true limits before ts here E03
comment_unended limits before ts here command next depth last r = record {
  stands = λ more e may.
      subst (λ (x : List ℕ). tokens limits (before ++ x) e ≡ adds ts (fault_at here E03)) (sym may.0)
      (subst (λ (y : Ending). tokens limits (before ++ []) y ≡ adds ts (fault_at here E03)) (sym may.1) (open_now true limits before ts here command next depth last whole r (refl, refl)));
}
