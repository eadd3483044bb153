-- The text of terminals is read as these terminals.
use Rattle.std.proofs.Common.{◌⊎◌, inl, inr, List, [], ◌∷◌, ◌++◌, ℕ, suc, ◌≡◌, ◌≤◌, ◌+◌, ◌-◌, Bool, true, false, ◌||◌, ◌==◌, nat_lt, length, refl, ap, sym as flip, subst as along_path, ◌∙◌, arith, if◌then◌else◌}
use Rattle.std.specs.Prelude.{Option, Some, None, map}
use Rattle.dk_model.specs.declared.code.Code.TheVariants.{E05, E07}
use Rattle.dk_model.specs.declared.limits.Limits.{Limits}
use Rattle.dk_lexer.specs.declared.class.Class.{Class}
use Rattle.dk_lexer.specs.declared.class.Class.TheVariants as class
use Rattle.dk_lexer.specs.declared.place.Place.{Place}
use Rattle.dk_lexer.specs.declared.token.Sign.{Sign}
use Rattle.dk_lexer.specs.declared.token.Sign.TheVariants as sign
use Rattle.dk_lexer.specs.declared.token.TokenKind.{TokenKind}
use Rattle.dk_lexer.specs.declared.token.TokenKind.TheVariants as kind
use Rattle.dk_lexer.specs.Classes.{begins_name, class_of, in_name}
use Rattle.dk_lexer.specs.Pieces.{place_behind}
use Rattle.dk_lexer.specs.Spelling.{Spelling, blank, token, wrong, run_of, behind_run, kind_of, spelled, spelled_by, name_spelled, behind_name, run_before, bracket_before, colon_before, open_before}
use Rattle.dk_lexer.specs.Tokens.{whole, Bound, Lexed, Setting, bound, by_bound, behind, begin_of, command_limit, input_limit, command_after, gives, late_bound, nearer, token_at, tokens_from, outcome_at, within}
use Rattle.dk_lexer.proofs.Bounds.{nearer_within}
use Rattle.dk_lexer.proofs.Outcomes.{skip, begins, within_true, le_true, lt_true}
use Rattle.dk_terms.specs.declared.terminal.Terminal.{Terminal}
use Rattle.dk_terms.specs.declared.terminal.Terminal.TheVariants as terminal
use Rattle.dk_terms.specs.Terminals.{terminal_by, terminal_of}
use Rattle.dk_terms.specs.Signs.{dot, open_bracket, close_bracket}
use Rattle.term_print.specs.Text.{terminal_text, opens, closes, text_behind}
use Rattle.term_print.specs.Readable.{Ends, Spells, IsToken, IsSpelt, AreSpelt, EndsInDot, StandInName, IsPlainName}

-- ---- bytes

ends_class : (b : ℕ) (bs : List ℕ) → Ends (b ∷ bs) → (class_of b ≡ class.Blank) ⊎ (class_of b ≡ class.CloseBracket)
unfolding class_of
ends_class b bs (inl e) = inl (ap class_of e)
ends_class b bs (inr e) = inr (ap class_of e)

-- a fact of the class of a byte behind a terminal
by_ends : (P : Class → Type 0) (b : ℕ) (bs : List ℕ) → Ends (b ∷ bs) → P class.Blank → P class.CloseBracket → P (class_of b)
by_ends P b bs e x y = by (ends_class b bs e)
  where
    by : ((class_of b ≡ class.Blank) ⊎ (class_of b ≡ class.CloseBracket)) → P (class_of b)
    by (inl c) = along_path P (flip c) x
    by (inr c) = along_path P (flip c) y

-- ---- signs

spelled_sign : (limit : ℕ) (s : Sign) (rest : List ℕ) → Ends rest → Spelling → Type 0
spelled_sign limit s rest e x = x ≡ token (kind.Sign s) [] (length rest)

sign_token : (limit b : ℕ) (bs : List ℕ) (s : Sign) (left : ℕ) → spelled limit b bs ≡ token (kind.Sign s) [] left → IsToken limit b bs left (terminal.Sign s)
sign_token limit b bs s left e = (kind.Sign s, [], inl e, refl)

pub sign_spelt : (limit : ℕ) (s : Sign) → IsSpelt limit (terminal.Sign s)
unfolding class_of
sign_spelt limit sign.Colon = record { first = 58; others = []; text = refl; no_comment = λ e. cc; reads = λ rest e. sign_token limit 58 rest sign.Colon (length rest) (colon rest e) }
  where
    colon : (rest : List ℕ) → Ends rest → spelled limit 58 rest ≡ token (kind.Sign sign.Colon) [] (length rest)
    colon [] e = absurd e
    colon (c ∷ cs) e = by_ends (λ x. colon_before x (length cs) ≡ token (kind.Sign sign.Colon) [] (suc (length cs))) c cs e refl refl
sign_spelt limit sign.Defined = record { first = 58; others = 61 ∷ []; text = refl; no_comment = λ e. cc; reads = λ rest e. sign_token limit 58 (61 ∷ rest) sign.Defined (length rest) refl }
sign_spelt limit sign.Arrow = record { first = 45; others = 62 ∷ []; text = refl; no_comment = λ e. cc; reads = λ rest e. sign_token limit 45 (62 ∷ rest) sign.Arrow (length rest) refl }
sign_spelt limit sign.DoubleArrow = record { first = 61; others = 62 ∷ []; text = refl; no_comment = λ e. cc; reads = λ rest e. sign_token limit 61 (62 ∷ rest) sign.DoubleArrow (length rest) refl }
sign_spelt limit sign.LongArrow = record { first = 45; others = 45 ∷ 62 ∷ []; text = refl; no_comment = λ e. cc; reads = λ rest e. sign_token limit 45 (45 ∷ 62 ∷ rest) sign.LongArrow (length rest) refl }
sign_spelt limit sign.Dot = record { first = 46; others = []; text = refl; no_comment = λ e. cc; reads = λ rest e. sign_token limit 46 rest sign.Dot (length rest) refl }
sign_spelt limit sign.Comma = record { first = 44; others = []; text = refl; no_comment = λ e. cc; reads = λ rest e. sign_token limit 44 rest sign.Comma (length rest) refl }
sign_spelt limit sign.OpenBracket = record { first = 40; others = []; text = refl; no_comment = λ e. cc; reads = λ rest e. sign_token limit 40 rest sign.OpenBracket (length rest) (open_here rest e) }
  where
    open_here : (rest : List ℕ) → Ends rest → spelled limit 40 rest ≡ token (kind.Sign sign.OpenBracket) [] (length rest)
    open_here [] e = absurd e
    open_here (c ∷ cs) e = by_ends (λ x. bracket_before x cs ≡ token (kind.Sign sign.OpenBracket) [] (suc (length cs))) c cs e refl refl
sign_spelt limit sign.CloseBracket = record { first = 41; others = []; text = refl; no_comment = λ e. cc; reads = λ rest e. sign_token limit 41 rest sign.CloseBracket (length rest) refl }
sign_spelt limit sign.OpenSquare = record { first = 91; others = []; text = refl; no_comment = λ e. cc; reads = λ rest e. sign_token limit 91 rest sign.OpenSquare (length rest) refl }
sign_spelt limit sign.CloseSquare = record { first = 93; others = []; text = refl; no_comment = λ e. cc; reads = λ rest e. sign_token limit 93 rest sign.CloseSquare (length rest) refl }
sign_spelt limit sign.OpenBrace = record { first = 123; others = []; text = refl; no_comment = λ e. cc; reads = λ rest e. sign_token limit 123 rest sign.OpenBrace (length rest) (open_here rest e) }
  where
    open_here : (rest : List ℕ) → Ends rest → spelled limit 123 rest ≡ token (kind.Sign sign.OpenBrace) [] (length rest)
    open_here [] e = absurd e
    open_here (c ∷ cs) e = by_ends (λ x. open_before limit x cs ≡ token (kind.Sign sign.OpenBrace) [] (suc (length cs))) c cs e refl refl
sign_spelt limit sign.CloseBrace = record { first = 125; others = []; text = refl; no_comment = λ e. cc; reads = λ rest e. sign_token limit 125 rest sign.CloseBrace (length rest) refl }
sign_spelt limit sign.Equal = record { first = 61; others = 61 ∷ []; text = refl; no_comment = λ e. cc; reads = λ rest e. sign_token limit 61 (61 ∷ rest) sign.Equal (length rest) refl }

-- ---- runs

no_name_here : (rest : List ℕ) → Ends rest → (run_of rest ≡ []) × (behind_run rest ≡ rest)
no_name_here [] e = absurd e
no_name_here (b ∷ bs) e = by_ends (λ c. ((if in_name c then b ∷ run_of bs else []) ≡ []) × ((if in_name c then behind_run bs else (b ∷ bs)) ≡ b ∷ bs)) b bs e (refl, refl) (refl, refl)

pub run_behind : (w rest : List ℕ) → StandInName w → Ends rest → (run_of (w ++ rest) ≡ w) × (behind_run (w ++ rest) ≡ rest)
run_behind [] rest n e = no_name_here rest e
run_behind (b ∷ w) rest n e =
    let more = run_behind w rest n.1 e in (
      ap (λ c. if c then b ∷ run_of (w ++ rest) else []) n.0 ∙ ap (λ r. b ∷ r) more.0,
      ap (λ c. if c then behind_run (w ++ rest) else (b ∷ (w ++ rest))) n.0 ∙ more.1,
    )

name_alone : (limit : ℕ) (text rest : List ℕ) → Ends rest → behind_name limit text rest ≡ token (kind_of text) text (length rest)
name_alone limit text [] e = absurd e
name_alone limit text (b ∷ bs) e = by_ends (λ c. run_before limit text c bs ≡ token (kind_of text) text (suc (length bs))) b bs e refl refl

-- what a run of a name's bytes is read as
pub run_spelled : (limit b : ℕ) (w rest : List ℕ) → begins_name (class_of b) ≡ true → StandInName w → length (b ∷ w) ≤ limit → Ends rest
    → spelled limit b (w ++ rest) ≡ token (kind_of (b ∷ w)) (b ∷ w) (length rest)
run_spelled limit b w rest h n l e =
    by (class_of b) h
    ∙ (ap (λ r. name_spelled limit (b ∷ r) (behind_run (w ++ rest))) (run_behind w rest n e).0
    ∙ (ap (λ r. name_spelled limit (b ∷ w) r) (run_behind w rest n e).1
    ∙ (ap (λ t. if t then behind_name limit (b ∷ w) rest else wrong E05 ((length (b ∷ w) - limit) + length rest)) (le_true (length (b ∷ w)) limit l)
    ∙ name_alone limit (b ∷ w) rest e)))
  where
    by : (c : Class) → begins_name c ≡ true → spelled_by limit c b (w ++ rest) ≡ name_spelled limit (b ∷ run_of (w ++ rest)) (behind_run (w ++ rest))
    by class.Letter g = refl
    by class.Digit g = refl
    by class.Underscore g = refl
    by c g = cc

pub no_semicolon : (c : Class) → begins_name c ≡ true → c ≡ class.Semicolon → ⊥
no_semicolon class.Semicolon g e = cc
no_semicolon c g e = cc

pub name_spelt : (limit : ℕ) (n : List ℕ) → IsPlainName limit n → IsSpelt limit (terminal.Name n)
name_spelt limit [] h = absurd h.run
name_spelt limit (b ∷ w) h = record {
  first = b;
  others = w;
  text = refl;
  no_comment = no_semicolon (class_of b) h.run.0;
  reads = λ rest e. (kind.Plain, b ∷ w, inl (run_spelled limit b w rest h.run.0 h.run.1 h.short e ∙ ap (λ k. token k (b ∷ w) (length rest)) h.no_word), refl);
}

-- ---- texts

pub record Gives (xs : List Terminal) (l : Lexed) : Type 0 where
  pub terminals : map terminal_of l.tokens ≡ xs
  pub fault : l.fault ≡ None

one_more : (xs : List Terminal) (x : Terminal) (here : Place) (k : TokenKind) (text : List ℕ) (l : Lexed) → terminal_by k text ≡ x → Gives xs l → Gives (x ∷ xs) (gives (token_at here k text) l)
one_more xs x here k text l e g = record { terminals = ap (λ y. y ∷ map terminal_of l.tokens) e ∙ ap (λ ys. x ∷ ys) g.terminals; fault = g.fault }

opens_is : (x : Terminal) → opens x ≡ true → x ≡ open_bracket
opens_is (terminal.Sign sign.OpenBracket) e = refl
opens_is x e = cc

closes_is : (x : Terminal) → closes x ≡ true → x ≡ close_bracket
closes_is (terminal.Sign sign.CloseBracket) e = refl
closes_is x e = cc

-- behind a terminal that opens no bracket a blank or a closing bracket stands
ends_behind : (y : Terminal) (ys : List Terminal) → Ends (text_behind false (y ∷ ys))
ends_behind y ys = by (closes y) refl
  where
    by : (b : Bool) → closes y ≡ b → Ends ((if b then [] else (32 ∷ [])) ++ (terminal_text y ++ text_behind (opens y) ys))
    by true e = along_path (λ z. Ends (terminal_text z ++ text_behind (opens y) ys)) (flip (closes_is y e)) (inr refl)
    by false e = inl refl

-- what stands behind a terminal: an end; nothing or anything behind a dot; anything but a semicolon behind an opening bracket
abbrev Follows : Terminal → List ℕ → Type 0
Follows x rest = Ends rest ⊎ ((x ≡ dot) ⊎ ((x ≡ open_bracket) × ((c : ℕ) × (cs : List ℕ) × (rest ≡ c ∷ cs) × (class_of c ≡ class.Semicolon → ⊥))))

opened : (c : Class) (cs : List ℕ) → (c ≡ class.Semicolon → ⊥) → bracket_before c cs ≡ token (kind.Sign sign.OpenBracket) [] (suc (length cs))
opened class.Semicolon cs n = absurd (n refl)
opened c cs n = refl

dot_here : (limit : ℕ) (rest : List ℕ) → spelled limit 46 rest ≡ token (kind.Sign sign.Dot) [] (length rest)
unfolding class_of
dot_here limit rest = refl

bracket_here : (limit : ℕ) (c : ℕ) (cs : List ℕ) → spelled limit 40 (c ∷ cs) ≡ bracket_before (class_of c) cs
unfolding class_of
bracket_here limit c cs = refl

same_bytes : (a b : ℕ) (xs ys : List ℕ) → a ∷ xs ≡ b ∷ ys → (a ≡ b) × (xs ≡ ys)
same_bytes a b xs ys e = (first e, others e)
  where
    first : a ∷ xs ≡ b ∷ ys → a ≡ b
    first e = cc

    others : a ∷ xs ≡ b ∷ ys → xs ≡ ys
    others e = cc

token_here : (limit : ℕ) (x : Terminal) (rest : List ℕ) (s : IsSpelt limit x) → Follows x rest → IsToken limit s.first (s.others ++ rest) (length rest) x
token_here limit x rest s (inl e) = s.reads rest e
token_here limit x rest s (inr (inl e)) =
    let t = same_bytes s.first 46 s.others [] (flip s.text ∙ ap terminal_text e) in
    (kind.Sign sign.Dot, [], inl (ap (λ b. spelled limit b (s.others ++ rest)) t.0 ∙ (ap (λ w. spelled limit 46 (w ++ rest)) t.1 ∙ dot_here limit rest)), flip e)
token_here limit x rest s (inr (inr (e, (c, cs, is, n)))) =
    let t = same_bytes s.first 40 s.others [] (flip s.text ∙ ap terminal_text e) in (
      kind.Sign sign.OpenBracket,
      [],
      inl (ap (λ b. spelled limit b (s.others ++ rest)) t.0 ∙ (ap (λ w. spelled limit 40 (w ++ rest)) t.1 ∙ (ap (spelled limit 40) is
          ∙ (bracket_here limit c cs ∙ (opened (class_of c) cs n ∙ ap (λ r. token (kind.Sign sign.OpenBracket) [] (length r)) (flip is)))))),
      flip e,
    )

-- what follows where another terminal does
follows : (limit : ℕ) (x y : Terminal) (ys : List Terminal) → IsSpelt limit y → Follows x (text_behind (opens x) (y ∷ ys))
follows limit x y ys s = by (opens x) refl
  where
    by : (b : Bool) → opens x ≡ b → Follows x (text_behind b (y ∷ ys))
    by true e = inr (inr (opens_is x e, (s.first, s.others ++ text_behind (opens y) ys, ap (λ w. w ++ text_behind (opens y) ys) s.text, s.no_comment)))
    by false e = inl (ends_behind y ys)

module _ (limits : Limits) (total : ℕ) (small : total ≤ command_limit limits) (fits : total ≤ input_limit limits) where
  in_bound : (command : Option ℕ) (left : ℕ) → total ≤ (bound limits command).last + left
  unfolding bound
  in_bound None left = omega (arith, fits)
  in_bound (Some begin) left = let l : total ≤ begin + command_limit limits = omega (arith, small) in omega (arith, nearer_within (begin + command_limit limits) (input_limit limits) total l fits)

  skip_all : (here : Place) (command : Option ℕ) (w rest : List ℕ) → tokens_from limits whole total here command (length rest) (w ++ rest) ≡ tokens_from limits whole total (place_behind here w) command (length rest) rest
  skip_all here command [] rest = refl
  skip_all here command (b ∷ w) rest = skip limits whole total here command (length rest) b (w ++ rest) (longer w) ∙ skip_all (behind here b) command w rest
    where
      longer : (v : List ℕ) → length rest ≤ length (v ++ rest)
      longer [] = omega arith
      longer (c ∷ v) = let l = longer v in omega arith

  blank_here : (bs : List ℕ) → spelled limits.name_bytes 32 bs ≡ blank (length bs)
  unfolding class_of
  blank_here bs = refl

  blank_read : (here : Place) (command : Option ℕ) (rest : List ℕ) → tokens_from limits whole total here command (suc (length rest)) (32 ∷ rest) ≡ tokens_from limits whole total (behind here 32) command (length rest) rest
  blank_read here command rest = begins limits whole total here command 32 rest
      ∙ (ap (λ s. outcome_at (record { limits = limits; ending = whole; total = total; here = here; command = command }) s (λ c left. tokens_from limits whole total (behind here 32) c left rest)) (blank_here rest)
      ∙ within_true (record { limits = limits; ending = whole; total = total; here = here; command = command }) (bound limits command) (length rest) (tokens_from limits whole total (behind here 32) command (length rest) rest) (in_bound command (length rest)))

  abbrev setting : Place → Option ℕ → Setting
  setting here command = record { limits = limits; ending = whole; total = total; here = here; command = command }

  -- a token and what its bytes leave
  token_given : (here : Place) (command : Option ℕ) (bd : Bound) (b : ℕ) (w rest : List ℕ) (k : TokenKind) (text : List ℕ) → total ≤ bd.last + length rest
      → within (setting here command) bd (length rest) (gives (token_at here k text) (tokens_from limits whole total (behind here b) (command_after k (begin_of command here.offset)) (length rest) (w ++ rest)))
      ≡ gives (token_at here k text) (tokens_from limits whole total (place_behind (behind here b) w) (command_after k (begin_of command here.offset)) (length rest) rest)
  token_given here command bd b w rest k text h =
      within_true (setting here command) bd (length rest) (gives (token_at here k text) (tokens_from limits whole total (behind here b) (command_after k (begin_of command here.offset)) (length rest) (w ++ rest))) h
      ∙ ap (gives (token_at here k text)) (skip_all (behind here b) (command_after k (begin_of command here.offset)) w rest)

  in_late_bound : (here : Place) (command : Option ℕ) (begin left n : ℕ) → total ≤ (late_bound (setting here command) begin left).last + n
  in_late_bound here command begin left n = by (begin + command_limit limits + left == total)
    where
      by : (c : Bool) → total ≤ (nearer (if c then begin + command_limit limits + 1 else begin + command_limit limits) (input_limit limits)).last + n
      by true = let l : total ≤ begin + command_limit limits + 1 = omega (arith, small) in omega (arith, nearer_within (begin + command_limit limits + 1) (input_limit limits) total l fits)
      by false = let l : total ≤ begin + command_limit limits = omega (arith, small) in omega (arith, nearer_within (begin + command_limit limits) (input_limit limits) total l fits)

  token_read : (here : Place) (command : Option ℕ) (b : ℕ) (w rest : List ℕ) (k : TokenKind) (text : List ℕ) → Spells limits.name_bytes b (w ++ rest) (length rest) k text
      → tokens_from limits whole total here command (suc (length (w ++ rest))) (b ∷ (w ++ rest))
      ≡ gives (token_at here k text) (tokens_from limits whole total (place_behind (behind here b) w) (command_after k (begin_of command here.offset)) (length rest) rest)
  token_read here command b w rest k text (inl e) = begins limits whole total here command b (w ++ rest)
      ∙ (ap (λ s. outcome_at (setting here command) s (λ c left. tokens_from limits whole total (behind here b) c left (w ++ rest))) e
      ∙ token_given here command (bound limits (Some (begin_of command here.offset))) b w rest k text (in_bound (Some (begin_of command here.offset)) (length rest)))
  token_read here command b w rest k text (inr (from, e)) = begins limits whole total here command b (w ++ rest)
      ∙ (ap (λ s. outcome_at (setting here command) s (λ c left. tokens_from limits whole total (behind here b) c left (w ++ rest))) e
      ∙ (within_true (setting here command) (bound limits (Some (begin_of command here.offset))) (suc from) (by_bound here E07 (nat_lt total (input_limit limits + suc from)) given) (in_bound (Some (begin_of command here.offset)) (suc from))
      ∙ (ap (λ t. by_bound here E07 t given) (lt_true total (input_limit limits + suc from) (omega (arith, fits)))
      ∙ token_given here command (late_bound (setting here command) (begin_of command here.offset) (suc from)) b w rest k text (in_late_bound here command (begin_of command here.offset) (suc from) (length rest)))))
    where
      given : Lexed
      given = within (setting here command) (late_bound (setting here command) (begin_of command here.offset) (suc from)) (length rest)
          (gives (token_at here k text) (tokens_from limits whole total (behind here b) (command_after k (begin_of command here.offset)) (length rest) (w ++ rest)))

  abbrev ReadAs : List Terminal → List ℕ → Type 0
  ReadAs xs bytes = (here : Place) (command : Option ℕ) → Gives xs (tokens_from limits whole total here command (length bytes) bytes)

  -- a terminal, then others
  terminal_read : (x : Terminal) (xs : List Terminal) (rest : List ℕ) → IsSpelt limits.name_bytes x → Follows x rest → ReadAs xs rest → ReadAs (x ∷ xs) (terminal_text x ++ rest)
  terminal_read x xs rest s f more here command =
      let (k, text, e, t) = token_here limits.name_bytes x rest s f in
      along_path (λ w. Gives (x ∷ xs) (tokens_from limits whole total here command (length (w ++ rest)) (w ++ rest))) (flip s.text)
      (along_path (λ (l : Lexed). Gives (x ∷ xs) l) (flip (token_read here command s.first s.others rest k text e))
      (one_more xs x here k text _ t (more (place_behind (behind here s.first) s.others) (command_after k (begin_of command here.offset)))))

  -- a blank first, or none
  spaced_read : (b : Bool) (xs : List Terminal) (bytes : List ℕ) → ReadAs xs bytes → ReadAs xs ((if b then [] else (32 ∷ [])) ++ bytes)
  spaced_read true xs bytes r here command = r here command
  spaced_read false xs bytes r here command = along_path (λ (l : Lexed). Gives xs l) (flip (blank_read here command bytes)) (r (behind here 32) command)

  pub text_read : (joined : Bool) (xs : List Terminal) → AreSpelt limits.name_bytes xs → EndsInDot xs → ReadAs xs (text_behind joined xs)
  text_read joined [] s e = absurd e
  text_read joined (x ∷ []) s e = spaced_read (joined || closes x) (x ∷ []) (terminal_text x ++ []) (terminal_read x [] [] s.0 (inr (inl e)) (λ here command. record { terminals = refl; fault = refl }))
  text_read joined (x ∷ y ∷ ys) s e = spaced_read (joined || closes x) (x ∷ y ∷ ys) (terminal_text x ++ text_behind (opens x) (y ∷ ys))
      (terminal_read x (y ∷ ys) (text_behind (opens x) (y ∷ ys)) s.0 (follows limits.name_bytes x y ys s.1.0) (text_read (opens x) (y ∷ ys) s.1 e))
