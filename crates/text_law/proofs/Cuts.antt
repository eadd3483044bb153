-- Bytes that are read without a fault, between two commands: blanks, the next command up to its dot, and the rest.
use Rattle.std.proofs.Common.{ℕ, zero, suc, ◌+◌, ◌-◌, ◌≡◌, ◌≤◌, true, false, true≢false, List, [], ◌∷◌, ◌++◌, length, append_assoc, length-append, Option, None, refl, ap, sym, subst, ◌∙◌, arith}
use Rattle.dk_model.specs.declared.limits.Limits.{Limits}
use Rattle.dk_lexer.specs.declared.token.Token.{Token}
use Rattle.dk_lexer.specs.declared.place.Place.{Place}
use Rattle.dk_lexer.specs.Spelling.{blank, spelled}
use Rattle.dk_lexer.specs.Tokens.{Ending, whole, Lexed, begin_of as first_of, behind, bound, command_limit, input_limit, token_at}
use Rattle.dk_lexer.proofs.Bounds.{bound_input}
use Rattle.one_lexer.specs.Places.{place_behind}
use Rattle.one_lexer.specs.Reading.{adds}
use Rattle.one_lexer.proofs.Places.{place_offset}
use Rattle.text_law.specs.Cutting.{begin_of, end_of}
use Rattle.text_law.proofs.Dots.{keeps_open, AllOpen}
use Rattle.text_law.proofs.Firsts.{EndsAtDot, nothing_there, same_dot}
use Rattle.text_law.proofs.Found.{Found, found_part, found_end, found, IsNoDot, Closes}
use Rattle.text_law.proofs.Gives.{read_from, given_at, command_at, PartWithin, part_read}
use Rattle.text_law.proofs.Onward.{Part, passed, spelt, as_spelling, anew, blank_anew}
use Rattle.text_law.proofs.Runs.{EndsDot, newline_ends, blank_ends}
use Rattle.text_law.proofs.Stands.{core}

-- these tokens and no fault
abbrev pub IsGood : Lexed → List Token → Type 0
IsGood x ts = (x.tokens ≡ ts) × (x.fault ≡ None)

pub good_of : (x y : Lexed) (ts : List Token) → x ≡ y → IsGood x ts → IsGood y ts
good_of x y ts e h = (sym (ap (λ (z : Lexed). z.tokens) e) ∙ h.0, sym (ap (λ (z : Lexed). z.fault) e) ∙ h.1)

pub place_append : (here : Place) (xs ys : List ℕ) → place_behind here (xs ++ ys) ≡ place_behind (place_behind here xs) ys
place_append here [] ys = refl
place_append here (x ∷ xs) ys = place_append (behind here x) xs ys

-- ---- tokens up to a dot

-- behind these of them the others end so too
record Others (given xs ts us : List Token) : Type 0 where
  pub others : List Token
  pub all_are : ts ≡ given ++ others
  pub dot : EndsAtDot others
  pub left : xs ≡ others ++ us
  pub ends : end_of ts ≡ end_of others

end_behind : (t : Token) (front : List Token) (last : Token) → end_of (t ∷ (front ++ last ∷ [])) ≡ end_of (front ++ last ∷ [])
end_behind t [] last = refl
end_behind t (u ∷ front) last = refl

others_by : (t : Token) (xs us front : List Token) (last : Token) → keeps_open t.kind ≡ true → AllOpen front → keeps_open last.kind ≡ false → t ∷ xs ≡ (front ++ last ∷ []) ++ us → Others (t ∷ []) xs (front ++ last ∷ []) us
others_by t xs us [] last keeps a d h = let q : t ≡ last = cc in absurd (true≢false (sym keeps ∙ ap (λ (z : Token). keeps_open z.kind) q ∙ d))
others_by t xs us (u ∷ front) last keeps a d h =
    let q : t ≡ u = cc in
    record {
      others = front ++ last ∷ [];
      all_are = ap (λ z. z ∷ (front ++ last ∷ [])) (sym q);
      dot = record { front = front; last = last; are_open = a.1; is_dot = d; ends_so = refl };
      left = (let r : xs ≡ (front ++ last ∷ []) ++ us = cc in r);
      ends = end_behind u front last;
    }

others_of : (here : Place) (p : Part) (xs ts us : List Token) → IsNoDot p → EndsAtDot ts → given_at here p ++ xs ≡ ts ++ us → Others (given_at here p) xs ts us
others_of here passed xs ts us kept d h = record { others = ts; all_are = refl; dot = d; left = h; ends = refl }
others_of here (spelt k text) xs ts us kept d h =
    subst (λ z. Others (token_at here k text ∷ []) xs z us) (sym d.ends_so) (others_by (token_at here k text) xs us d.front d.last kept d.are_open d.is_dot (h ∙ ap (λ z. z ++ us) d.ends_so))

-- ---- the next command

-- up to the dot of these tokens: its text may have blanks before it, and gives the same tokens before anything that leaves the dot a sign
pub record Cut (limits : Limits) (total : ℕ) (here : Place) (command : Option ℕ) (bs : List ℕ) (ts us : List Token) : Type 0 where
  pub text : List ℕ
  pub rest : List ℕ
  pub some : 1 ≤ length text
  pub bytes_are : bs ≡ text ++ rest
  pub ends : end_of ts ≡ here.offset + length text
  pub later : IsGood (read_from limits whole total (place_behind here text) None rest) us
  pub onward : (r : List ℕ) (e : Ending) (all : ℕ) → EndsDot r → all ≡ here.offset + length (text ++ r)
      → read_from limits e all here command (text ++ r) ≡ adds ts (read_from limits e all (place_behind here text) None r)

-- what a blank or a token is within, it is within as well where fewer or more bytes follow
within_anew : (limits : Limits) (total all : ℕ) (here : Place) (command : Option ℕ) (p : Part) (left n : ℕ) → all + left ≡ total + n → PartWithin limits total here command p left → PartWithin limits all here command p n
within_anew limits total all here command passed left n e f = omega arith
within_anew limits total all here command (spelt k text) left n e f =
    let c : total ≤ first_of command here.offset + command_limit limits + left = f.0 in
    let i : total ≤ input_limit limits + left = f.1 in
    (omega arith, omega arith)

adds_both : (ts us : List Token) (x : Lexed) → adds ts (adds us x) ≡ adds (ts ++ us) x
adds_both ts us x = ap (λ (z : List Token). let y : Lexed = record x { tokens = z } in y) (sym (append_assoc ts us x.tokens))

part_cut : (limits : Limits) (total : ℕ) (here : Place) (command : Option ℕ) (b : ℕ) (bs front rest : List ℕ) (p : Part) (ts others us : List Token) → total ≡ here.offset + suc (length bs) → bs ≡ front ++ rest
    → core (spelled limits.name_bytes b bs) ≡ as_spelling p (length rest) → PartWithin limits total here command p (length rest) → ts ≡ given_at here p ++ others → end_of ts ≡ end_of others
    → Cut limits total (place_behind here (b ∷ front)) (command_at here command p) rest others us → Cut limits total here command (b ∷ bs) ts us
part_cut limits total here command b bs front rest p ts others us size split e f ts_are end_is c =
    let next : Place = place_behind here (b ∷ front) in
    let o : next.offset ≡ here.offset + suc (length front) = place_offset here (b ∷ front) in
    let n : length bs ≡ length front + length rest = ap length split ∙ length-append front rest in
    let m : length (front ++ c.text) ≡ length front + length c.text = length-append front c.text in
    let some : 1 ≤ length c.text = c.some in
    let ends : end_of others ≡ next.offset + length c.text = c.ends in
    let place : place_behind here (b ∷ (front ++ c.text)) ≡ place_behind next c.text = place_append here (b ∷ front) c.text in
    let there : core (spelled limits.name_bytes b (front ++ (c.text ++ c.rest))) ≡ as_spelling p (length (c.text ++ c.rest)) =
    ap (λ (z : List ℕ). core (spelled limits.name_bytes b z)) (ap (λ (z : List ℕ). front ++ z) (sym c.bytes_are) ∙ sym split) ∙ e ∙ ap (λ (z : List ℕ). as_spelling p (length z)) c.bytes_are in
    record {
      text = b ∷ (front ++ c.text);
      rest = c.rest;
      some = omega arith;
      bytes_are = ap (λ (z : List ℕ). b ∷ z) (split ∙ ap (λ (z : List ℕ). front ++ z) c.bytes_are ∙ sym (append_assoc front c.text c.rest));
      ends = omega arith;
      later = subst (λ (q : Place). IsGood (read_from limits whole total q None c.rest) us) (sym place) c.later;
      onward = λ r e' all dots is.
          let k : length ((front ++ c.text) ++ r) ≡ length (front ++ c.text) + length r = length-append (front ++ c.text) r in
          let l : length (c.text ++ r) ≡ length c.text + length r = length-append c.text r in
          ap (λ (z : List ℕ). read_from limits e' all here command (b ∷ z)) (append_assoc front c.text r)
          ∙ part_read limits e' all here command b front (c.text ++ r) p (anew limits.name_bytes b front c.text c.rest r p some there) (within_anew limits total all here command p (length rest) (length (c.text ++ r)) (omega arith) f)
          ∙ ap (adds (given_at here p)) (c.onward r e' all dots (omega arith))
          ∙ adds_both (given_at here p) others (read_from limits e' all (place_behind next c.text) None r)
          ∙ (λ i. adds (sym ts_are i) (read_from limits e' all (sym place i) None r));
    }

module _ (limits : Limits) (total : ℕ) where
  close_cut : (here : Place) (command : Option ℕ) (b : ℕ) (bs front rest : List ℕ) (y : Lexed) (ts us : List Token) → bs ≡ front ++ rest → (c : Closes limits total here command b front rest y) → (c.tokens ≡ ts)
      → IsGood (read_from limits whole total (place_behind here (b ∷ front)) None rest) us → Cut limits total here command (b ∷ bs) ts us
  close_cut here command b bs front rest y ts us split c same good = subst (λ z. Cut limits total here command (b ∷ bs) z us) same (record {
    text = b ∷ front;
    rest = rest;
    some = omega arith;
    bytes_are = ap (λ (z : List ℕ). b ∷ z) split;
    ends = c.ends;
    later = good;
    onward = λ r e all dots is. let k : length (front ++ r) ≡ length front + length r = length-append front r in c.onward r e all dots (omega arith);
  })

  -- the bytes that come, of which there are no more than this
  abbrev Cuts : ℕ → Type 0
  Cuts n = (here : Place) (command : Option ℕ) (bs : List ℕ) (ts us : List Token) → length bs ≤ n → total ≡ here.offset + length bs → IsGood (read_from limits whole total here command bs) (ts ++ us) → EndsAtDot ts → Cut limits total here command bs ts us

  cut_by : (n : ℕ) (here : Place) (command : Option ℕ) (b : ℕ) (bs : List ℕ) (y : Lexed) (ts us : List Token) → Cuts n → length bs ≤ n → total ≡ here.offset + suc (length bs) → IsGood y (ts ++ us) → EndsAtDot ts → Found limits total here command b bs y
      → Cut limits total here command (b ∷ bs) ts us
  cut_by n here command b bs y ts us ih le size h d (found_part p front rest split e kept f is) =
      let x : Lexed = read_from limits whole total (place_behind here (b ∷ front)) (command_at here command p) rest in
      let good : IsGood (adds (given_at here p) x) (ts ++ us) = good_of y (adds (given_at here p) x) (ts ++ us) is h in
      let k : Others (given_at here p) x.tokens ts us = others_of here p x.tokens ts us kept d good.0 in
      let o : (place_behind here (b ∷ front)).offset ≡ here.offset + suc (length front) = place_offset here (b ∷ front) in
      let m : length bs ≡ length front + length rest = ap length split ∙ length-append front rest in
      part_cut limits total here command b bs front rest p ts k.others us size split e f k.all_are k.ends
      (ih (place_behind here (b ∷ front)) (command_at here command p) rest k.others us (omega arith) (omega arith) (k.left, good.1) k.dot)
  cut_by n here command b bs y ts us ih le size h d (found_end front rest split c) =
      let x : Lexed = read_from limits whole total (place_behind here (b ∷ front)) None rest in
      let good : IsGood (adds c.tokens x) (ts ++ us) = good_of y (adds c.tokens x) (ts ++ us) c.is h in
      let same : (c.tokens ≡ ts) × (x.tokens ≡ us) = same_dot c.dot d good.0 in
      close_cut here command b bs front rest y ts us split c same.0 (same.1, good.1)

  pub cut : (n : ℕ) → Cuts n
  cut n here command [] ts us le size h d = absurd (nothing_there d us h.0)
  cut zero here command (b ∷ bs) ts us le size h d = absurd (omega arith)
  cut (suc n) here command (b ∷ bs) ts us le size h d =
      let y : Lexed = read_from limits whole total here command (b ∷ bs) in cut_by n here command b bs y ts us (cut n) (omega arith) size h d (found limits total here command b bs size y refl h.1)

  -- ---- all of them are within the bound of the input

  abbrev Fits : ℕ → Type 0
  Fits n = (here : Place) (command : Option ℕ) (bs : List ℕ) → length bs ≤ n → total ≡ here.offset + length bs → total ≤ input_limit limits + length bs → (read_from limits whole total here command bs).fault ≡ None → total ≤ input_limit limits

  part_fits : (here : Place) (command : Option ℕ) (p : Part) (left : ℕ) → PartWithin limits total here command p left → total ≤ input_limit limits + left
  part_fits here command passed left f = let le : total - left ≤ input_limit limits = bound_input limits command (total - left) (let q : total - left ≤ (bound limits command).last = omega arith in q) in omega arith
  part_fits here command (spelt k text) left f = f.1

  fits_by : (n : ℕ) (here : Place) (command : Option ℕ) (b : ℕ) (bs : List ℕ) (y : Lexed) → Fits n → length bs ≤ n → total ≡ here.offset + suc (length bs) → y.fault ≡ None → Found limits total here command b bs y → total ≤ input_limit limits
  fits_by n here command b bs y ih le size h (found_part p front rest split e kept f is) =
      let o : (place_behind here (b ∷ front)).offset ≡ here.offset + suc (length front) = place_offset here (b ∷ front) in
      let m : length bs ≡ length front + length rest = ap length split ∙ length-append front rest in
      ih (place_behind here (b ∷ front)) (command_at here command p) rest (omega arith) (omega arith) (part_fits here command p (length rest) f) (sym (ap (λ (z : Lexed). z.fault) is) ∙ h)
  fits_by n here command b bs y ih le size h (found_end front rest split c) =
      let o : (place_behind here (b ∷ front)).offset ≡ here.offset + suc (length front) = place_offset here (b ∷ front) in
      let m : length bs ≡ length front + length rest = ap length split ∙ length-append front rest in
      ih (place_behind here (b ∷ front)) None rest (omega arith) (omega arith) c.input (sym (ap (λ (z : Lexed). z.fault) c.is) ∙ h)

  pub fits : (n : ℕ) → Fits n
  fits n here command [] le size few h = let q : total ≤ input_limit limits + 0 = few in omega arith
  fits zero here command (b ∷ bs) le size few h = absurd (omega arith)
  fits (suc n) here command (b ∷ bs) le size few h =
      let y : Lexed = read_from limits whole total here command (b ∷ bs) in fits_by n here command b bs y (fits n) (omega arith) size h (found limits total here command b bs size y refl h)

-- ---- no more tokens

-- these bytes give nothing, whatever comes behind them
pub record Tail (limits : Limits) (here : Place) (bs : List ℕ) : Type 0 where
  pub dots : (more : List ℕ) → EndsDot (bs ++ 10 ∷ more)
  pub onward : (r : List ℕ) (e : Ending) (all : ℕ) → all ≡ here.offset + length (bs ++ r) → read_from limits e all here None (bs ++ r) ≡ read_from limits e all (place_behind here bs) None r

pub no_tail : (limits : Limits) (here : Place) → Tail limits here []
no_tail limits here = record { dots = newline_ends; onward = λ r e all is. refl }

blank_tail : (limits : Limits) (total : ℕ) (here : Place) (b : ℕ) (bs front rest : List ℕ) → total ≡ here.offset + suc (length bs) → bs ≡ front ++ rest → core (spelled limits.name_bytes b bs) ≡ blank (length rest)
    → total ≤ (bound limits None).last + length rest → Tail limits (place_behind here (b ∷ front)) rest → Tail limits here (b ∷ bs)
blank_tail limits total here b bs front rest size split e f t =
    let o : (place_behind here (b ∷ front)).offset ≡ here.offset + suc (length front) = place_offset here (b ∷ front) in
    let n : length bs ≡ length front + length rest = ap length split ∙ length-append front rest in
    record {
      dots = λ more. blank_ends limits.name_bytes b bs (length rest) e (bs ++ 10 ∷ more);
      onward = λ r e' all is.
          let m : length (bs ++ r) ≡ length bs + length r = length-append bs r in
          let k : length (rest ++ r) ≡ length rest + length r = length-append rest r in
          ap (λ (z : List ℕ). read_from limits e' all here None (b ∷ z)) (ap (λ (z : List ℕ). z ++ r) split ∙ append_assoc front rest r)
          ∙ part_read limits e' all here None b front (rest ++ r) passed (blank_anew limits.name_bytes b front rest r (ap (λ (z : List ℕ). core (spelled limits.name_bytes b z)) (sym split) ∙ e)) (omega arith)
          ∙ t.onward r e' all (omega arith)
          ∙ ap (λ (p : Place). read_from limits e' all p None r) (sym (ap (λ (z : List ℕ). place_behind here (b ∷ z)) split ∙ place_append here (b ∷ front) rest));
    }

module _ (limits : Limits) (total : ℕ) where
  abbrev Tails : ℕ → Type 0
  Tails n = (here : Place) (bs : List ℕ) → length bs ≤ n → total ≡ here.offset + length bs → IsGood (read_from limits whole total here None bs) [] → Tail limits here bs

  tail_by : (n : ℕ) (here : Place) (b : ℕ) (bs : List ℕ) (y : Lexed) → Tails n → length bs ≤ n → total ≡ here.offset + suc (length bs) → IsGood y [] → Found limits total here None b bs y → Tail limits here (b ∷ bs)
  tail_by n here b bs y ih le size h (found_part passed front rest split e kept f is) =
      let o : (place_behind here (b ∷ front)).offset ≡ here.offset + suc (length front) = place_offset here (b ∷ front) in
      let m : length bs ≡ length front + length rest = ap length split ∙ length-append front rest in
      blank_tail limits total here b bs front rest size split e f (ih (place_behind here (b ∷ front)) rest (omega arith) (omega arith) (good_of y (read_from limits whole total (place_behind here (b ∷ front)) None rest) [] is h))
  tail_by n here b bs y ih le size h (found_part (spelt k text) front rest split e kept f is) =
      let x : Lexed = read_from limits whole total (place_behind here (b ∷ front)) (command_at here None (spelt k text)) rest in
      let q : token_at here k text ∷ x.tokens ≡ [] = (good_of y (adds (token_at here k text ∷ []) x) [] is h).0 in absurd cc
  tail_by n here b bs y ih le size h (found_end front rest split c) =
      let x : Lexed = read_from limits whole total (place_behind here (b ∷ front)) None rest in absurd (nothing_there c.dot x.tokens (sym (good_of y (adds c.tokens x) [] c.is h).0))

  pub tail : (n : ℕ) → Tails n
  tail n here [] le size h = no_tail limits here
  tail zero here (b ∷ bs) le size h = absurd (omega arith)
  tail (suc n) here (b ∷ bs) le size h =
      let y : Lexed = read_from limits whole total here None (b ∷ bs) in tail_by n here b bs y (tail n) (omega arith) size h (found limits total here None b bs size y refl h.1)

  -- ---- what stands before a command

  -- blanks, and then the first of its tokens
  pub record Gap (here : Place) (bs : List ℕ) (ts : List Token) : Type 0 where
    pub gap : List ℕ
    pub rest : List ℕ
    pub bytes_are : bs ≡ gap ++ rest
    pub begins : begin_of ts ≡ here.offset + length gap
    pub same : read_from limits whole total here None bs ≡ read_from limits whole total (place_behind here gap) None rest

  abbrev Gaps : ℕ → Type 0
  Gaps n = (here : Place) (bs : List ℕ) (ts us : List Token) → length bs ≤ n → total ≡ here.offset + length bs → IsGood (read_from limits whole total here None bs) (ts ++ us) → EndsAtDot ts → Gap here bs ts

  no_gap : (here : Place) (bs : List ℕ) (ts : List Token) → begin_of ts ≡ here.offset → Gap here bs ts
  no_gap here bs ts e = record { gap = []; rest = bs; bytes_are = refl; begins = e ∙ (let p : here.offset ≡ here.offset + 0 = omega arith in p); same = refl }

  gap_by : (n : ℕ) (here : Place) (b : ℕ) (bs : List ℕ) (ts us : List Token) → Gaps n → length bs ≤ n → total ≡ here.offset + suc (length bs) → IsGood (read_from limits whole total here None (b ∷ bs)) (ts ++ us) → EndsAtDot ts
      → Found limits total here None b bs (read_from limits whole total here None (b ∷ bs)) → Gap here (b ∷ bs) ts
  gap_by n here b bs ts us ih le size h d (found_part passed front rest split e kept f is) =
      let next : Place = place_behind here (b ∷ front) in
      let o : next.offset ≡ here.offset + suc (length front) = place_offset here (b ∷ front) in
      let m : length bs ≡ length front + length rest = ap length split ∙ length-append front rest in
      let y : Lexed = read_from limits whole total here None (b ∷ bs) in
      let g : Gap next rest ts = ih next rest ts us (omega arith) (omega arith) (good_of y (read_from limits whole total next None rest) (ts ++ us) is h) d in
      let k : length (front ++ g.gap) ≡ length front + length g.gap = length-append front g.gap in
      let begins : begin_of ts ≡ next.offset + length g.gap = g.begins in
      record {
        gap = b ∷ (front ++ g.gap);
        rest = g.rest;
        bytes_are = ap (λ (z : List ℕ). b ∷ z) (split ∙ ap (λ (z : List ℕ). front ++ z) g.bytes_are ∙ sym (append_assoc front g.gap g.rest));
        begins = omega arith;
        same = is ∙ g.same ∙ ap (λ (p : Place). read_from limits whole total p None g.rest) (sym (place_append here (b ∷ front) g.gap));
      }
  gap_by n here b bs ts us ih le size h d (found_part (spelt k text) front rest split e kept f is) =
      let x : Lexed = read_from limits whole total (place_behind here (b ∷ front)) (command_at here None (spelt k text)) rest in
      let good : IsGood (adds (token_at here k text ∷ []) x) (ts ++ us) = good_of _ (adds (token_at here k text ∷ []) x) (ts ++ us) is h in
      let o : Others (token_at here k text ∷ []) x.tokens ts us = others_of here (spelt k text) x.tokens ts us kept d good.0 in
      no_gap here (b ∷ bs) ts (ap begin_of o.all_are)
  gap_by n here b bs ts us ih le size h d (found_end front rest split c) =
      let x : Lexed = read_from limits whole total (place_behind here (b ∷ front)) None rest in
      let good : IsGood (adds c.tokens x) (ts ++ us) = good_of _ (adds c.tokens x) (ts ++ us) c.is h in
      let same : (c.tokens ≡ ts) × (x.tokens ≡ us) = same_dot c.dot d good.0 in
      no_gap here (b ∷ bs) ts (sym (ap begin_of same.0) ∙ c.begins)

  pub gap_before : (n : ℕ) → Gaps n
  gap_before n here [] ts us le size h d = absurd (nothing_there d us h.0)
  gap_before zero here (b ∷ bs) ts us le size h d = absurd (omega arith)
  gap_before (suc n) here (b ∷ bs) ts us le size h d = gap_by n here b bs ts us (gap_before n) (omega arith) size h d (found limits total here None b bs size (read_from limits whole total here None (b ∷ bs)) refl h.1)
