-- The next spelling, as the code finds it.
use Rattle.std.proofs.Common.{◌≡◌, ◌≤◌, ◌<◌, ℕ, suc, ◌+◌, ◌-◌, Bool, true, false, List, [], ◌∷◌, ◌++◌, length, take, refl, sym, ap, subst, ◌∙◌, arith, length-append}
use Rattle.std.specs.Prelude.{Option, Some}
use Rattle.dk_model.specs.declared.code.Code.{Code}
use Rattle.dk_model.specs.declared.limits.Limits.{Limits}
use Rattle.dk_lexer.specs.declared.token.Token.{Token}
use Rattle.dk_lexer.specs.declared.token.TokenKind.{TokenKind}
use Rattle.dk_lexer.specs.declared.place.Place.{Place}
use Rattle.one_lexer.specs.Places.{place_behind}
use Rattle.dk_lexer.specs.Spelling.{Spelling, blank, behind_run, kind_of, run_and_dot, run_of, token, wrong}
use Rattle.dk_lexer.specs.Tokens.{begin_of, behind, bound, command_after, token_at, tokens_from}
use Rattle.dk_lexer.proofs.Outcomes.{within_false, within_true}
use Rattle.one_lexer.specs.Bounds.{LateFits, front_bound}
use Rattle.one_lexer.specs.Reading.{Fails, Reads, adds, last_of, setting_at}
use Rattle.one_lexer.specs.Settled.{is_settled}
use Rattle.one_lexer.specs.Views.{late_by, settled_by, spelled_front}
use Rattle.one_lexer.proofs.Places.{cut_parts, place_offset}
use Rattle.one_lexer.proofs.Reading.{Decided, Gives, IsKnown, IsMet, LeftIs, behind_it, gives_found, next_is, past_fails, token_comes, wrong_fails}
use Rattle.one_lexer.proofs.Runs.{StartsRun, There, run_comes, run_fits, run_found, run_split, run_starts}
use Rattle.one_lexer.proofs.Slices.{last_before, take_before}

-- ---- blanks

decided : (over : Bool) (s : Spelling) → is_settled s ≡ true → Decided over s
decided false s h = h
decided true s h = tt

pub blank_comes : (over : Bool) (limits : Limits) (bytes : List ℕ) (ts : List Token) (here : Place) (command : Option ℕ) (b : ℕ) (bs front rest : List ℕ)
    → Reads over limits bytes ts here command (b ∷ bs) → spelled_front limits.name_bytes (b ∷ bs) ≡ blank (length rest) → bs ≡ front ++ rest
    → length bytes ≤ (bound limits command).last + length rest → Reads over limits bytes ts (place_behind here (b ∷ front)) command rest
blank_comes over limits bytes ts here command b bs front rest r is split fits =
    let o = place_offset here (b ∷ front) in
    let k : length bs ≡ length front + length rest = ap length split ∙ length-append front rest in
    let size = r.total in
    record {
      total = omega arith;
      onward = λ more e may.
          let n = length-append bytes more in
          let total = length (bytes ++ more) in
          let s = setting_at limits e total here command in
          next_is over limits bytes ts here command b bs (blank (length rest)) more e r is (decided over (blank (length rest)) refl) may
          ∙ ap (adds ts) (within_true s (bound limits command) (length rest + length more) (tokens_from limits e total (behind here b) command (length rest + length more) (bs ++ more)) (omega arith)
          ∙ behind_it limits e total (behind here b) command bs front rest more split);
    }

pub blank_next : (over : Bool) (limits : Limits) (before bytes : List ℕ) (ts : List Token) (here : Place) (command : Option ℕ) (left : ℕ)
    → Reads over limits before ts here command bytes → spelled_front limits.name_bytes bytes ≡ blank left → left < length bytes → length before ≤ (bound limits command).last + left
    → Reads over limits before ts (place_behind here (take (length bytes - left) bytes)) command (last_of left bytes)
blank_next over limits before [] ts here command left r is lt fits = absurd (omega arith)
blank_next over limits before (b ∷ bs) ts here command left r is lt fits =
    let k = cut_parts b bs left lt in
    let l = k.left_is in
    subst (λ (x : List ℕ). Reads over limits before ts (place_behind here x) command (last_of left (b ∷ bs))) (sym k.passed_is)
    (blank_comes over limits before ts here command b bs k.front (last_of left (b ∷ bs)) r (is ∙ ap blank (sym k.left_is)) k.whole (omega arith))

pub blank_fails : (over : Bool) (limits : Limits) (before bytes : List ℕ) (ts : List Token) (here : Place) (command : Option ℕ) (left : ℕ)
    → Reads over limits before ts here command bytes → spelled_front limits.name_bytes bytes ≡ blank left → left < length bytes → (bound limits command).last + left < length before
    → Fails over limits before ts here (bound limits command).code
blank_fails over limits before [] ts here command left r is lt past = absurd (omega arith)
blank_fails over limits before (b ∷ bs) ts here command left r is lt past = record {
  stands = λ more e may.
      let n = length-append before more in
      let total = length (before ++ more) in
      let s = setting_at limits e total here command in
      next_is over limits before ts here command b bs (blank left) more e r is (decided over (blank left) refl) may
      ∙ ap (adds ts) (within_false s (bound limits command) (left + length more) (tokens_from limits e total (behind here b) command (left + length more) (bs ++ more)) (omega arith));
}

-- ---- tokens and faults

-- this is found at these bytes, and it is settled, or the end was met
pub record Meets (over : Bool) (limits : Limits) (before : List ℕ) (ts : List Token) (here : Place) (command : Option ℕ) (bytes : List ℕ) (brace : Option ℕ) (s : Spelling) : Type 0 where
  pub settled : Bool
  pub reads : Reads over limits before ts here command bytes
  pub is : late_by brace (settled_by settled s) ≡ spelled_front limits.name_bytes bytes
  pub met : IsMet s
  pub known : IsKnown settled over
  pub fits : LateFits limits (begin_of command here.offset) (length before) brace

gives_of : (over : Bool) (limits : Limits) (before : List ℕ) (ts : List Token) (here : Place) (command : Option ℕ) (b : ℕ) (bs : List ℕ) (brace : Option ℕ) (s : Spelling)
    → Meets over limits before ts here command (b ∷ bs) brace s → Gives over limits before ts here command b bs brace s
gives_of over limits before ts here command b bs brace s m = gives_found over m.settled limits before ts here command b bs brace s m.reads m.is m.met m.known m.fits

pub token_next : (over : Bool) (limits : Limits) (before : List ℕ) (ts : List Token) (here : Place) (command : Option ℕ) (bytes : List ℕ) (brace : Option ℕ) (kind : TokenKind) (text : List ℕ) (left : ℕ)
    → Meets over limits before ts here command bytes brace (token kind text left) → left < length bytes
    → length before ≤ (front_bound limits (begin_of command here.offset) (length before) brace).last + left
    → Reads over limits before (ts ++ token_at here kind text ∷ []) (place_behind here (take (length bytes - left) bytes)) (command_after kind (begin_of command here.offset)) (last_of left bytes)
token_next over limits before ts here command [] brace kind text left m lt fits = absurd (omega arith)
token_next over limits before ts here command (b ∷ bs) brace kind text left m lt fits =
    let k = cut_parts b bs left lt in
    let l = k.left_is in
    let begin = begin_of command here.offset in
    let size = m.reads.total in
    let g : Gives over limits before ts here command b bs brace (token kind text (length (last_of left (b ∷ bs)))) =
    subst (λ (n : ℕ). Gives over limits before ts here command b bs brace (token kind text n)) (sym k.left_is) (gives_of over limits before ts here command b bs brace (token kind text left) m) in
    subst (λ (x : List ℕ). Reads over limits before (ts ++ token_at here kind text ∷ []) (place_behind here x) (command_after kind begin) (last_of left (b ∷ bs))) (sym k.passed_is)
    (token_comes over limits before ts here command b bs brace kind text k.front (last_of left (b ∷ bs)) size g k.whole (omega arith))

pub past_next : (over : Bool) (limits : Limits) (before : List ℕ) (ts : List Token) (here : Place) (command : Option ℕ) (bytes : List ℕ) (brace : Option ℕ) (s : Spelling) (left : ℕ)
    → Meets over limits before ts here command bytes brace s → 0 < length bytes → LeftIs s left
    → (front_bound limits (begin_of command here.offset) (length before) brace).last + left < length before
    → Fails over limits before ts here (front_bound limits (begin_of command here.offset) (length before) brace).code
past_next over limits before ts here command [] brace s left m some is past = absurd (omega arith)
past_next over limits before ts here command (b ∷ bs) brace s left m some is past =
    past_fails over limits before ts here command b bs brace s left (gives_of over limits before ts here command b bs brace s m) is past

pub wrong_next : (over : Bool) (limits : Limits) (before : List ℕ) (ts : List Token) (here : Place) (command : Option ℕ) (bytes : List ℕ) (brace : Option ℕ) (code : Code) (left : ℕ)
    → Meets over limits before ts here command bytes brace (wrong code left) → 0 < length bytes
    → length before ≤ (front_bound limits (begin_of command here.offset) (length before) brace).last + left → Fails over limits before ts here code
wrong_next over limits before ts here command [] brace code left m some fits = absurd (omega arith)
wrong_next over limits before ts here command (b ∷ bs) brace code left m some fits =
    wrong_fails over limits before ts here command b bs brace code left (gives_of over limits before ts here command b bs brace (wrong code left) m) fits

-- ---- a run with its dot

-- the bytes are the run, the dot, and so many
pub record RunBytes (bytes text : List ℕ) (left : ℕ) : Type 0 where
  pub more : List ℕ
  pub bytes_are : bytes ≡ text ++ 46 ∷ more
  pub left_is : left ≡ length more
  pub some : 0 < length text

run_bytes_by : (b : ℕ) (bs text : List ℕ) (left : ℕ) → There (b ∷ run_of bs) (behind_run bs) text left → RunBytes (b ∷ bs) text left
run_bytes_by b bs text left k =
    let some : length text ≡ suc (length (run_of bs)) = ap length k.text_is in
    record {
      more = k.more;
      bytes_are = ap (λ (x : List ℕ). b ∷ x) (sym (run_split bs)) ∙ ap (λ (x : List ℕ). (b ∷ run_of bs) ++ x) k.rest_is ∙ ap (λ (x : List ℕ). x ++ 46 ∷ k.more) (sym k.text_is);
      left_is = k.left_is;
      some = omega arith;
    }

pub run_bytes : (limit : ℕ) (bytes : List ℕ) (settled : Bool) (brace : Option ℕ) (text : List ℕ) (left : ℕ) → 0 < length bytes
    → late_by brace (settled_by settled (run_and_dot text left)) ≡ spelled_front limit bytes → RunBytes bytes text left
run_bytes limit [] settled brace text left some is = absurd (omega arith)
run_bytes limit (b ∷ bs) settled brace text left some is =
    let at = run_found b bs settled brace text left (subst (StartsRun b bs) (sym is) (run_starts limit b bs)) in
    run_bytes_by b bs text left at.1

-- one byte more is left where the dot is
pub run_size : (bytes text : List ℕ) (left : ℕ) → RunBytes bytes text left → suc left < length bytes
run_size bytes text left k =
    let n : length bytes ≡ length text + suc (length k.more) = ap length k.bytes_are ∙ length-append text (46 ∷ k.more) in
    let m = k.left_is in
    let some = k.some in
    omega arith

run_cut : (bytes text : List ℕ) (left : ℕ) (k : RunBytes bytes text left) → (take (length bytes - suc left) bytes ≡ text) × (last_of (suc left) bytes ≡ 46 ∷ k.more)
run_cut bytes text left k =
    let left_is : suc left ≡ length (46 ∷ k.more) = ap suc k.left_is in
    (take_before bytes text (46 ∷ k.more) (suc left) k.bytes_are left_is, last_before bytes text (46 ∷ k.more) (suc left) k.bytes_are left_is)

pub run_next : (over : Bool) (limits : Limits) (before : List ℕ) (ts : List Token) (here : Place) (command : Option ℕ) (bytes : List ℕ) (brace : Option ℕ) (text : List ℕ) (left : ℕ)
    → Meets over limits before ts here command bytes brace (run_and_dot text left) → 0 < length bytes
    → length before ≤ (front_bound limits (begin_of command here.offset) (length before) brace).last + left
    → Reads over limits before (ts ++ token_at here (kind_of text) text ∷ []) (place_behind here (take (length bytes - (left + 1)) bytes)) (Some (begin_of command here.offset)) (last_of (left + 1) bytes)
unfolding run_bytes_by
run_next over limits before ts here command [] brace text left m some fits = absurd (omega arith)
run_next over limits before ts here command (b ∷ bs) brace text left m some fits =
    let begin = begin_of command here.offset in
    let at = subst (StartsRun b bs) (sym m.is) (run_starts limits.name_bytes b bs) in
    let there = run_found b bs m.settled brace text left at in
    let own = run_fits limits b begin (length before) bs m.settled brace text left at m.fits fits in
    let k = run_bytes_by b bs text left there.1 in
    let cut = run_cut (b ∷ bs) text left k in
    let n : left + 1 ≡ suc left = omega arith in
    let ts_new = ts ++ token_at here (kind_of text) text ∷ [] in
    subst (λ (i : ℕ). Reads over limits before ts_new (place_behind here (take (length (b ∷ bs) - i) (b ∷ bs))) (Some begin) (last_of i (b ∷ bs))) (sym n)
    (subst (λ (x : List ℕ). Reads over limits before ts_new (place_behind here x) (Some begin) (last_of (suc left) (b ∷ bs))) (sym cut.0)
    (subst (λ (x : List ℕ). Reads over limits before ts_new (place_behind here text) (Some begin) x) (sym cut.1)
    (run_comes over limits before ts here command b bs brace text left m.reads.total (gives_of over limits before ts here command b bs brace (run_and_dot text left) m) there.1 there.0 fits own)))
