-- Texts cut out of a file are texts of its commands; some of them, each on lines of its own, are read as just these.
use Rattle.std.proofs.Common.{List, [], ◌∷◌, ◌++◌, length, length-append, map, take, drop, append-nil, append_assoc, ℕ, ◌≡◌, ◌<◌, ◌≤◌, ◌+◌, ◌-◌, None, refl, ap, sym, subst, ◌∙◌, arith}
use Rattle.std.proofs.Math.Seq.{take-append-add, take-append_seam, drop-append_seam}
use Rattle.dk_model.specs.declared.limits.Limits.{Limits}
use Rattle.dk_lexer.specs.declared.place.Place.{Place}
use Rattle.dk_lexer.specs.declared.token.Token.{Token}
use Rattle.dk_lexer.specs.Pieces.{joined}
use Rattle.dk_lexer.specs.Tokens.{Lexed, input_limit, tokens, whole}
use Rattle.dk_parser.specs.FileReading.{Reading}
use Rattle.dk_parser.specs.Grammar.{terminals, SpellsForm}
use Rattle.dk_parser.specs.Levels.{IsWithin}
use Rattle.dk_parser.specs.Reading.{TokenReading, Reads}
use Rattle.dk_parser.specs.Steps.{read_tokens}
use Rattle.dk_parser.specs.Written.{WrittenForm, WrittenCommand}
use Rattle.dk_parser.proofs.Exact.{exact}
use Rattle.one_lexer.specs.Places.{place_behind}
use Rattle.one_lexer.proofs.Places.{place_offset}
use Rattle.text_law.specs.Cuts.{between, begin_of, end_of, text_of, AreCut, cut_none, cut_command, AreTextsOf, lines, Chosen, chosen_none, chosen_more, left_out, IsReadAs, ChosenTextsAreRead}
use Rattle.text_law.specs.Texts.{IsText, AreTexts, texts_none, texts_more, forms_of}
use Rattle.text_law.proofs.Alone.{start, tokens_are, text_line}
use Rattle.text_law.proofs.Cuts.{IsGood, good_of, place_append, Cut, cut, no_tail, Gap, gap_before, fits}
use Rattle.text_law.proofs.Firsts.{EndsAtDot, spelt_dot, ReadsBehind, reads_behind}
use Rattle.text_law.proofs.Gives.{read_from}
use Rattle.text_law.proofs.Lines.{place_line}
use Rattle.text_law.proofs.Moved.{moved_place, moved_token, moved, from_moves}
use Rattle.text_law.proofs.Texts.{terminals_moved, texts_read}
use Rattle.text_law.proofs.Whole.{IsWholeFile, whole_file}

-- each of these texts that isn't too long is, with a newline, a text of its form
abbrev pub AreShort : Limits → List (List ℕ) → List WrittenForm → Type 0
AreShort limits [] [] = Unit {0}
AreShort limits (text ∷ texts) (form ∷ forms) = (length text < input_limit limits → IsText limits (text ++ 10 ∷ []) form) × AreShort limits texts forms
AreShort limits texts forms = ⊥

-- ---- some bytes between others

between_is : (xs ys zs : List ℕ) → between (xs ++ (ys ++ zs)) (length xs) (length xs + length ys) ≡ ys
between_is xs ys zs = ap (drop (length xs)) (take-append-add xs (ys ++ zs) (length ys) ∙ ap (λ z. xs ++ z) (take-append_seam ys zs)) ∙ drop-append_seam xs ys

between_at : (xs ys zs bytes : List ℕ) (begin end : ℕ) → bytes ≡ xs ++ (ys ++ zs) → begin ≡ length xs → end ≡ length xs + length ys → between bytes begin end ≡ ys
between_at xs ys zs bytes begin end e b f = (λ i. between (e i) (b i) (f i)) ∙ between_is xs ys zs

-- fronts of the same length
same_front : (bytes xs ys us vs : List ℕ) → bytes ≡ xs ++ us → bytes ≡ ys ++ vs → length xs ≡ length ys → xs ≡ ys
same_front bytes xs ys us vs e f n = sym (ap (take (length xs)) e ∙ take-append_seam xs us) ∙ ap (λ k. take k bytes) n ∙ ap (take (length ys)) f ∙ take-append_seam ys vs

pub end_is : (front : List Token) (last : Token) → end_of (front ++ last ∷ []) ≡ last.offset + 1
end_is [] last = refl
end_is (t ∷ []) last = refl
end_is (t ∷ u ∷ front) last = end_is (u ∷ front) last

-- ---- tokens that are moved

record Back (D L : ℕ) (all ts us : List Token) : Type 0 where
  pub front : List Token
  pub rest : List Token
  pub all_are : all ≡ front ++ rest
  pub front_is : ts ≡ map (moved_token D L) front

back : (D L : ℕ) (all ts us : List Token) → map (moved_token D L) all ≡ ts ++ us → Back D L all ts us
back D L all [] us e = record { front = []; rest = all; all_are = refl; front_is = refl }
back D L [] (t ∷ ts) us e = absurd cc
back D L (a ∷ all) (t ∷ ts) us e =
    let q : t ≡ moved_token D L a = cc in
    let b : Back D L all ts us = back D L all ts us (let r : map (moved_token D L) all ≡ ts ++ us = cc in r) in
    record { front = a ∷ b.front; rest = b.rest; all_are = ap (λ z. a ∷ z) b.all_are; front_is = λ i. q i ∷ b.front_is i }

end_moved : (D L : ℕ) (front : List Token) (last : Token) → end_of (map (moved_token D L) (front ++ last ∷ [])) ≡ end_of (front ++ last ∷ []) + D
end_moved D L [] last = omega arith
end_moved D L (t ∷ []) last = omega arith
end_moved D L (t ∷ u ∷ front) last = end_moved D L (u ∷ front) last

-- ---- one text after the other

-- what is read at a place behind others is read at the beginning: its first command is, alone and with a newline, a text
line_at : (limits : Limits) (total : ℕ) (here : Place) (rest text old : List ℕ) (ts us : List Token) (form : WrittenForm) → total ≡ here.offset + length rest → total ≤ input_limit limits → 1 ≤ here.line → here.line ≤ 1 + here.offset
    → IsGood (read_from limits whole total here None rest) (ts ++ us) → rest ≡ text ++ old → end_of ts ≡ here.offset + length text → length text < input_limit limits → SpellsForm (terminals ts) form → IsWithin limits.levels (terminals ts)
    → IsText limits (text ++ 10 ∷ []) form
line_at limits total here rest text old ts us form size few least most h split end lt s w =
    let D : ℕ = here.offset in
    let L : ℕ = here.line - 1 in
    let n : ℕ = length rest in
    let at : here.offset ≡ start.offset + D = omega arith in
    let line : here.line ≡ start.line + L = omega arith in
    let place : here ≡ moved_place D L start = λ i. record { offset = at i; line = line i } in
    let sum : total ≡ n + D = omega arith in
    let x : Lexed = read_from limits whole n start None rest in
    let same : read_from limits whole total here None rest ≡ moved D L x = (λ i. read_from limits whole (sum i) (place i) None rest) ∙ from_moves limits whole n D L (omega arith) rest start None n (omega arith) in
    let good : IsGood (moved D L x) (ts ++ us) = good_of (read_from limits whole total here None rest) (moved D L x) (ts ++ us) same h in
    let b : Back D L x.tokens ts us = back D L x.tokens ts us good.0 in
    let terminals_are : terminals ts ≡ terminals b.front = ap terminals b.front_is ∙ terminals_moved D L b.front in
    let spells : SpellsForm (terminals b.front) form = subst (λ xs. SpellsForm xs form) terminals_are s in
    let d : EndsAtDot b.front = spelt_dot spells in
    let c : Cut limits n start None rest b.front b.rest = cut limits n n start None rest b.front b.rest (omega arith) (omega arith) (b.all_are, good.1) d in
    let ends : end_of b.front ≡ start.offset + length c.text = c.ends in
    let moves : end_of ts ≡ end_of b.front + D = ap end_of b.front_is ∙ ap (λ z. end_of (map (moved_token D L) z)) d.ends_so ∙ end_moved D L d.front d.last ∙ ap (λ z. end_of z + D) (sym d.ends_so) in
    let text_is : c.text ≡ text = same_front rest c.text text c.rest old c.bytes_are split (omega arith) in
    let none : c.text ++ [] ≡ text = append-nil c.text ∙ text_is in
    let none_size : length (c.text ++ []) ≡ length text = ap length none in
    subst (λ (z : List ℕ). IsText limits (z ++ 10 ∷ []) form) none
    (text_line limits c [] (no_tail limits (place_behind start c.text)) (omega arith) form spells (subst (IsWithin limits.levels) terminals_are w))

module _ (limits : Limits) (bytes : List ℕ) (few : length bytes ≤ input_limit limits) where
  -- the bytes behind `before` give these tokens
  abbrev AreShortFrom : List Token → List WrittenCommand → List (List ℕ) → Type 0
  AreShortFrom ts cs texts = (before bs : List ℕ) (r : TokenReading) → bytes ≡ before ++ bs → IsGood (read_from limits whole (length bytes) (place_behind start before) None bs) ts
      → Reads limits ts r → r.begun ≡ None → r.fault ≡ None → AreShort limits texts (forms_of cs)

  cut_text : (ts us : List Token) (c : WrittenCommand) (cs : List WrittenCommand) (texts : List (List ℕ)) (before bs : List ℕ) → SpellsForm (terminals ts) c.form → ReadsBehind limits ts us → AreShortFrom us cs texts
      → bytes ≡ before ++ bs → EndsAtDot ts → IsGood (read_from limits whole (length bytes) (place_behind start before) None bs) (ts ++ us) → AreShort limits (text_of bytes ts ∷ texts) (c.form ∷ forms_of cs)
  cut_text ts us c cs texts before bs s r later e d h =
      let total : ℕ = length bytes in
      let here : Place = place_behind start before in
      let at : here.offset ≡ start.offset + length before = place_offset start before in
      let whole_size : total ≡ length before + length bs = ap length e ∙ length-append before bs in
      let g : Gap limits total here bs ts = gap_before limits total (length bs) here bs ts us (omega arith) (omega arith) h d in
      let xs : List ℕ = before ++ g.gap in
      let len : length xs ≡ length before + length g.gap = length-append before g.gap in
      let there : Place = place_behind start xs in
      let place : place_behind here g.gap ≡ there = sym (place_append start before g.gap) in
      let same : read_from limits whole total here None bs ≡ read_from limits whole total there None g.rest = g.same ∙ ap (λ (p : Place). read_from limits whole total p None g.rest) place in
      let good : IsGood (read_from limits whole total there None g.rest) (ts ++ us) = good_of (read_from limits whole total here None bs) (read_from limits whole total there None g.rest) (ts ++ us) same h in
      let at_there : there.offset ≡ start.offset + length xs = place_offset start xs in
      let all : bytes ≡ xs ++ g.rest = e ∙ ap (λ z. before ++ z) g.bytes_are ∙ sym (append_assoc before g.gap g.rest) in
      let size : total ≡ length xs + length g.rest = ap length all ∙ length-append xs g.rest in
      let k : Cut limits total there None g.rest ts us = cut limits total (length g.rest) there None g.rest ts us (omega arith) (omega arith) good d in
      let ends : end_of ts ≡ there.offset + length k.text = k.ends in
      let begins : begin_of ts ≡ here.offset + length g.gap = g.begins in
      let text_is : text_of bytes ts ≡ k.text = between_at xs k.text k.rest bytes (begin_of ts) (end_of ts) (all ∙ ap (λ z. xs ++ z) k.bytes_are) (omega arith) (omega arith) in
      let line : (1 ≤ there.line) × (there.line ≤ start.line + length xs) = place_line start xs (omega arith) in
      let most : there.line ≤ start.line + length xs = line.1 in
      let short : length k.text < input_limit limits → IsText limits (k.text ++ 10 ∷ []) c.form =
      λ lt. line_at limits total there g.rest k.text k.rest ts us c.form (omega arith) few line.0 (omega arith) good k.bytes_are ends lt s r.within in (
        subst (λ z. length z < input_limit limits → IsText limits (z ++ 10 ∷ []) c.form) (sym text_is) short,
        later (xs ++ k.text) k.rest r.reading (all ∙ ap (λ z. xs ++ z) k.bytes_are ∙ sym (append_assoc xs k.text k.rest))
            (subst (λ (p : Place). IsGood (read_from limits whole total p None k.rest) us) (sym (place_append start xs k.text)) k.later) r.reads r.begun r.fault,
      )

  cut_short : {ts : List Token} {cs : List WrittenCommand} {texts : List (List ℕ)} → AreCut bytes ts cs texts → AreShortFrom ts cs texts
  cut_short cut_none before bs r e h x b f = tt
  cut_short (cut_command {ts} {us} {c} {cs} {texts} s rest) before bs r e h x b f =
      let d : EndsAtDot ts = spelt_dot s.form in cut_text ts us c cs texts before bs s.form (reads_behind ts us x refl d b f) (cut_short rest) e d h

-- ---- a file

pub short_texts : (limits : Limits) (bytes : List ℕ) (commands : List WrittenCommand) (texts : List (List ℕ)) → IsReadAs limits bytes commands → AreTextsOf limits bytes commands texts → AreShort limits texts (forms_of commands)
short_texts limits bytes commands texts e cut =
    let w : IsWholeFile limits bytes = whole_file limits bytes (ap (λ (x : Reading). x.tail) e) in
    let ts : List Token = (tokens limits bytes whole).tokens in
    let same : tokens limits bytes whole ≡ read_from limits whole (length bytes) start None bytes = tokens_are limits bytes whole in
    let no_fault : (read_from limits whole (length bytes) start None bytes).fault ≡ None = sym (ap (λ (x : Lexed). x.fault) same) ∙ w.no_fault in
    let few : length bytes ≤ input_limit limits = fits limits (length bytes) (length bytes) start None bytes (omega arith) (omega arith) (omega arith) no_fault in
    cut_short limits bytes few cut [] bytes (read_tokens limits ts) refl (sym (ap (λ (x : Lexed). x.tokens) same), no_fault) (exact limits ts) w.begun w.fault

-- ---- some of them

chosen_texts : (limits : Limits) {texts some : List (List ℕ)} {forms those : List WrittenForm} → Chosen texts forms some those → AreShort limits texts forms → length (joined (lines some)) ≤ input_limit limits → AreTexts limits (lines some) those
chosen_texts limits chosen_none s h = texts_none
chosen_texts limits (chosen_more {text} {some} c) s h =
    let len : length ((text ++ 10 ∷ []) ++ joined (lines some)) ≡ length (text ++ 10 ∷ []) + length (joined (lines some)) = length-append (text ++ 10 ∷ []) (joined (lines some)) in
    let one : length (text ++ 10 ∷ []) ≡ length text + 1 = length-append text (10 ∷ []) in
    texts_more (s.0 (omega (arith, len, one, h))) (chosen_texts limits c s.1 (omega (arith, len, one, h)))
chosen_texts limits (left_out c) s h = chosen_texts limits c s.1 h

pub chosen_read : ChosenTextsAreRead
chosen_read limits bytes commands texts some forms e cut c h = texts_read limits (lines some) forms (chosen_texts limits c (short_texts limits bytes commands texts e cut) h) h
