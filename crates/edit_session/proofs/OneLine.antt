-- A text of one line with its newline: its tokens are on that line, and the next line follows.
use Rattle.std.proofs.Common.{List, [], ◌∷◌, ◌++◌, length, map, append-nil, ℕ, ◌≡◌, ◌+◌, Bool, true, false, nat_le, nat_lt, ◌==◌, ◌||◌, Option, Some, None, refl, ap, sym, subst, ◌∙◌, if◌then◌else◌}
use Rattle.std.specs.List.{list_any}
use Rattle.dk_model.specs.declared.code.Code.{Code}
use Rattle.dk_model.specs.declared.code.Code.TheVariants.{E03, E07}
use Rattle.dk_model.specs.declared.limits.Limits.{Limits}
use Rattle.dk_lexer.specs.declared.token.Token.{Token}
use Rattle.dk_lexer.specs.declared.place.Place.{Place}
use Rattle.dk_lexer.specs.Spelling.{Spelling, blank, token, run_and_dot, wrong, comment_open, unsettled, late, kind_of, spelled}
use Rattle.dk_lexer.specs.Tokens.{whole, Lexed, Bound, bound, next_line, behind, command_after, input_limit, Setting, fault_at, nothing_at, gives, token_at, dot_at, by_bound, within, at_end, late_bound, outcome, tokens, tokens_from}
use Rattle.one_lexer.specs.Reading.{Reads, adds}
use Rattle.text_law.proofs.Moved.{begun, moved_token, passed}

some_none : {A B : Type 0} {a : A} → Some a ≡ None → B
some_none e = absurd cc

-- ---- tokens on one line

abbrev pub AllOn : ℕ → List Token → Type 0
AllOn n [] = Unit {0}
AllOn n (t ∷ ts) = (t.line ≡ n) × AllOn n ts

-- the tokens are on this line, and where there is no fault the bytes end on the next one
record OnLine (n : ℕ) (x : Lexed) : Type 0 where
  pub tokens : AllOn n x.tokens
  pub line : x.fault ≡ None → x.line ≡ next_line n

fault_on : (here : Place) (code : Code) → OnLine here.line (fault_at here code)
fault_on here code = record { tokens = tt; line = λ e. some_none e }

gives_on : (n : ℕ) (t : Token) (x : Lexed) → t.line ≡ n → OnLine n x → OnLine n (gives t x)
gives_on n t x e h = record { tokens = (e, h.tokens); line = h.line }

bound_on : (here : Place) (code : Code) (fits : Bool) (x : Lexed) → OnLine here.line x → OnLine here.line (by_bound here code fits x)
bound_on here code true x h = h
bound_on here code false x h = fault_on here code

within_on : (s : Setting) (bd : Bound) (left : ℕ) (x : Lexed) → OnLine s.here.line x → OnLine s.here.line (within s bd left x)
within_on s bd left x h = bound_on s.here bd.code (nat_le s.total (bd.last + left)) x h

outcome_on : (s : Setting) (begin : ℕ) (bd : Bound) (spelling : Spelling) (more : Option ℕ → ℕ → Lexed) → s.ending ≡ whole → ((c : Option ℕ) (left : ℕ) → OnLine s.here.line (more c left)) → OnLine s.here.line (outcome s begin bd spelling more)
outcome_on s begin bd (token kind text left) more e h =
    let rest : Lexed = more (command_after kind begin) left in
    within_on s bd left (gives (token_at s.here kind text) rest) (gives_on s.here.line (token_at s.here kind text) rest refl (h (command_after kind begin) left))
outcome_on s begin bd (run_and_dot text left) more e h =
    let rest : Lexed = more None left in
    let name : Token = token_at s.here (kind_of text) text in
    let dot : Token = dot_at s.here text in
    within_on s bd left (gives name (gives dot rest)) (gives_on s.here.line name (gives dot rest) refl (gives_on s.here.line dot rest refl (h None left)))
outcome_on s begin bd (wrong code left) more e h = within_on s bd left (fault_at s.here code) (fault_on s.here code)
outcome_on s begin bd (unsettled settled) more e h =
    subst (λ z. OnLine s.here.line (at_end z (outcome s begin bd settled more) (within s bd 0 (nothing_at s.here)))) (sym e) (outcome_on s begin bd settled more e h)
outcome_on s begin bd (late left spelling) more e h =
    let rest : Lexed = outcome s begin (late_bound s begin left) spelling more in
    let fits : Bool = nat_lt s.total (input_limit s.limits + left) in
    within_on s bd left (by_bound s.here E07 fits rest) (bound_on s.here E07 fits rest (outcome_on s begin (late_bound s begin left) spelling more e h))
outcome_on s begin bd (blank left) more e h = within_on s (bound s.limits s.command) left (more s.command left) (h s.command left)
outcome_on s begin bd comment_open more e h =
    within_on s (bound s.limits s.command) 0 (at_end s.ending (fault_at s.here E03) (nothing_at s.here))
    (subst (λ z. OnLine s.here.line (at_end z (fault_at s.here E03) (nothing_at s.here))) (sym e) (fault_on s.here E03))

-- ---- the tokens of a line

behind_line : (here : Place) (b : ℕ) → (b == 10) ≡ false → (behind here b).line ≡ here.line
unfolding behind
behind_line here b e = ap (λ t. if t then next_line here.line else here.line) e

behind_newline : (here : Place) → (behind here 10).line ≡ next_line here.line
unfolding behind
behind_newline here = refl

or_false : (a b : Bool) → (a || b) ≡ false → (a ≡ false) × (b ≡ false)
or_false true b e = absurd cc
or_false false b e = (refl, e)

module _ (limits : Limits) (total : ℕ) where
  abbrev from : Place → Option ℕ → ℕ → List ℕ → Lexed
  from here command left bs = tokens_from limits whole total here command left bs

  byte_on : (here : Place) (command : Option ℕ) (left b : ℕ) (bs : List ℕ) → ((c : Option ℕ) (left : ℕ) → OnLine here.line (from (behind here b) c left bs)) → OnLine here.line (from here command left (b ∷ bs))
  byte_on here command left b bs next = by (nat_le left (length bs)) refl
    where
      by : (go : Bool) → nat_le left (length bs) ≡ go → OnLine here.line (from here command left (b ∷ bs))
      by true e = subst (OnLine here.line) (sym (passed limits whole total here command left b bs e)) (next command left)
      by false e = subst (OnLine here.line) (sym (begun limits whole total here command left b bs e))
          (outcome_on (record { limits = limits; ending = whole; total = total; here = here; command = command }) _ _ (spelled limits.name_bytes b bs) _ refl next)

  tokens_on : (text : List ℕ) (here : Place) (command : Option ℕ) (left : ℕ) → list_any (λ b. b == 10) text ≡ false → OnLine here.line (from here command left (text ++ 10 ∷ []))
  tokens_on [] here command left h = byte_on here command left 10 [] (λ c n. record { tokens = tt; line = λ e. behind_newline here })
  tokens_on (b ∷ bs) here command left h = let e : ((b == 10) ≡ false) × (list_any (λ b. b == 10) bs ≡ false) = or_false (b == 10) (list_any (λ b. b == 10) bs) h in
      byte_on here command left b (bs ++ 10 ∷ []) (λ c n. subst (λ k. OnLine k (from (behind here b) c n (bs ++ 10 ∷ []))) (behind_line here b e.0) (tokens_on bs (behind here b) c n e.1))

-- ---- a line alone

place_of : (limits : Limits) (line : List ℕ) (ts : List Token) (last : Place) → Reads false limits line ts last None [] → tokens limits line whole ≡ adds ts (nothing_at last)
place_of limits line ts last r = ap (λ bs. tokens limits bs whole) (sym (append-nil line)) ∙ r.onward [] whole tt

on_first : (limits : Limits) (text : List ℕ) → list_any (λ b. b == 10) text ≡ false → OnLine 1 (tokens limits (text ++ 10 ∷ []) whole)
unfolding tokens
on_first limits text none = tokens_on limits (length (text ++ 10 ∷ [])) text (record { offset = 0; line = 1 }) None (length (text ++ 10 ∷ [])) none

pub record LineAlone (ts : List Token) (last : Place) : Type 0 where
  pub tokens : AllOn 1 ts
  pub after : last.line ≡ 2

pub line_alone : (limits : Limits) (text : List ℕ) (ts : List Token) (last : Place) → Reads false limits (text ++ 10 ∷ []) ts last None [] → list_any (λ b. b == 10) text ≡ false → LineAlone ts last
line_alone limits text ts last r none =
    let e : tokens limits (text ++ 10 ∷ []) whole ≡ adds ts (nothing_at last) = place_of limits (text ++ 10 ∷ []) ts last r in
    let on : OnLine 1 (adds ts (nothing_at last)) = subst (OnLine 1) e (on_first limits text none) in
    record { tokens = subst (AllOn 1) (append-nil ts) on.tokens; after = on.line refl }

-- the same behind some lines
pub moved_on : (D L : ℕ) (ts : List Token) → AllOn 1 ts → AllOn (1 + L) (map (moved_token D L) ts)
moved_on D L [] h = tt
moved_on D L (t ∷ ts) h = (ap (λ n. n + L) h.0, moved_on D L ts h.1)
