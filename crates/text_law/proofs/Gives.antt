-- What stands at the first of some bytes, and is settled, gives its tokens and then what the rest gives.
use Rattle.std.proofs.Common.{ℕ, ◌+◌, ◌-◌, ◌≡◌, ◌≤◌, Bool, true, false, nat_lt, List, [], ◌∷◌, ◌++◌, length, Option, Some, None, if◌then◌else◌, ◌==◌, ap, ◌∙◌, arith}
use Rattle.dk_model.specs.declared.code.Code.TheVariants.{E07}
use Rattle.dk_model.specs.declared.limits.Limits.{Limits}
use Rattle.dk_lexer.specs.declared.token.Token.{Token}
use Rattle.dk_lexer.specs.declared.token.TokenKind.{TokenKind}
use Rattle.dk_lexer.specs.declared.token.TokenKind.TheVariants as kind
use Rattle.dk_lexer.specs.declared.token.Sign.TheVariants as sign
use Rattle.dk_lexer.specs.declared.class.Class.{Class}
use Rattle.dk_lexer.specs.declared.class.Class.TheVariants as class
use Rattle.dk_lexer.specs.declared.place.Place.{Place}
use Rattle.dk_lexer.specs.Classes.{class_of}
use Rattle.dk_lexer.specs.Spelling.{Spelling, token, run_and_dot, wrong, unsettled, late, kind_of, spelled, spelled_by}
use Rattle.dk_lexer.specs.Tokens.{Ending, Lexed, Bound, Setting, begin_of, behind, bound, by_bound, command_after, command_limit, dot_at, input_limit, late_bound, nearer, outcome, token_at, tokens_from}
use Rattle.dk_lexer.proofs.Bounds.{nearer_within}
use Rattle.dk_lexer.proofs.Outcomes.{begins, within_true, lt_true}
use Rattle.one_lexer.specs.Places.{place_behind}
use Rattle.one_lexer.specs.Reading.{adds, setting_at}
use Rattle.one_lexer.specs.Settled.{is_settled}
use Rattle.one_lexer.proofs.Reading.{skip_all}
use Rattle.text_law.proofs.Onward.{Part, passed, spelt, as_spelling, Stays, sure_blank}
use Rattle.text_law.proofs.Stands.{core, InLate, IsSure, sure}

-- all of some bytes, from a place on
abbrev pub read_from : Limits → Ending → ℕ → Place → Option ℕ → List ℕ → Lexed
read_from limits e total here command bs = tokens_from limits e total here command (length bs) bs

-- the tokens of a blank or a token here, and the command behind it
abbrev pub given_at : Place → Part → List Token
given_at here passed = []
given_at here (spelt k text) = token_at here k text ∷ []

abbrev pub command_at : Place → Option ℕ → Part → Option ℕ
command_at here command passed = command
command_at here command (spelt k text) = command_after k (begin_of command here.offset)

-- what leaves so many bytes is within the bounds of its command and of the input
abbrev pub Within : Limits → ℕ → ℕ → ℕ → Type 0
Within limits total begin left = (total ≤ begin + command_limit limits + left) × (total ≤ input_limit limits + left)

abbrev pub PartWithin : Limits → ℕ → Place → Option ℕ → Part → ℕ → Type 0
PartWithin limits total here command passed left = total ≤ (bound limits command).last + left
PartWithin limits total here command (spelt k text) left = Within limits total (begin_of command here.offset) left

module _ (limits : Limits) (e : Ending) (total : ℕ) (here : Place) (command : Option ℕ) (b : ℕ) (front rest : List ℕ) where
  abbrev there : Setting
  there = setting_at limits e total here command

  abbrev begin : ℕ
  begin = begin_of command here.offset

  abbrev own : Bound
  own = bound limits (Some begin)

  abbrev next : Option ℕ → ℕ → Lexed
  next c left = tokens_from limits e total (behind here b) c left (front ++ rest)

  abbrev rest_gives : Option ℕ → Lexed
  rest_gives c = read_from limits e total (place_behind here (b ∷ front)) c rest

  next_is : (c : Option ℕ) → next c (length rest) ≡ rest_gives c
  next_is c = skip_all limits e total (behind here b) c (length rest) front rest (omega arith)

  bound_fits : Within limits total begin (length rest) → total ≤ own.last + length rest
  unfolding bound
  bound_fits f =
      let c : total ≤ begin + command_limit limits + length rest = f.0 in
      let i : total ≤ input_limit limits + length rest = f.1 in
      let le : total - length rest ≤ (nearer (begin + command_limit limits) (input_limit limits)).last = nearer_within (begin + command_limit limits) (input_limit limits) (total - length rest) (omega arith) (omega arith) in
      omega arith

  late_by : (t : Bool) (c n : ℕ) → n ≤ c → n ≤ (if t then c + 1 else c)
  late_by true c n h = omega arith
  late_by false c n h = h

  late_fits : (m : ℕ) → Within limits total begin (length rest) → total ≤ (late_bound there begin m).last + length rest
  late_fits m f =
      let c : ℕ = begin + command_limit limits in
      let g : total ≤ begin + command_limit limits + length rest = f.0 in
      let i : total ≤ input_limit limits + length rest = f.1 in
      let le : total - length rest ≤ (late_bound there begin m).last =
      nearer_within (if c + m == total then c + 1 else c) (input_limit limits) (total - length rest) (late_by (c + m == total) c (total - length rest) (omega arith)) (omega arith) in
      omega arith

  abbrev part_gives : Part → Lexed
  part_gives p = adds (given_at here p) (next (command_at here command p) (length rest))

  token_by : (bd : Bound) (x : Spelling) (k : TokenKind) (text : List ℕ) → x ≡ token k text (length rest) → total ≤ bd.last + length rest → outcome there begin bd x next ≡ part_gives (spelt k text)
  token_by bd x k text e f = ap (λ (z : Spelling). outcome there begin bd z next) e ∙ within_true there bd (length rest) (part_gives (spelt k text)) f

  late_token : (m : ℕ) (x : Spelling) (k : TokenKind) (text : List ℕ) → is_settled x ≡ true → InLate m x → core x ≡ token k text (length rest) → Within limits total begin (length rest) → outcome there begin own (late m x) next ≡ part_gives (spelt k text)
  late_token m (token k' text' l) k text s i e f =
      let few : l + 2 ≤ m = i.0 in
      let same : l ≡ length rest = cc in
      let input : total ≤ input_limit limits + length rest = f.1 in
      let le : total ≤ own.last + length rest = bound_fits f in
      let y : Lexed = outcome there begin (late_bound there begin m) (token k' text' l) next in
      within_true there own m (by_bound here E07 (nat_lt total (input_limit limits + m)) y) (omega arith)
      ∙ ap (λ (t : Bool). by_bound here E07 t y) (lt_true total (input_limit limits + m) (omega arith))
      ∙ token_by (late_bound there begin m) (token k' text' l) k text e (late_fits m f)
  late_token m (run_and_dot text' l) k text s i e f = absurd cc
  late_token m (wrong code l) k text s i e f = absurd cc
  late_token m (unsettled x) k text s i e f = absurd cc
  late_token m _ k text s i e f = absurd i

  part_out : (x : Spelling) (p : Part) → is_settled x ≡ true → IsSure x → core x ≡ as_spelling p (length rest) → PartWithin limits total here command p (length rest) → outcome there begin own x next ≡ part_gives p
  part_out x passed s i e f = ap (λ (z : Spelling). outcome there begin own z next) (sure_blank x (length rest) i e) ∙ within_true there (bound limits command) (length rest) (next command (length rest)) f
  part_out (token k' text' l) (spelt k text) s i e f = token_by own (token k' text' l) k text e (bound_fits f)
  part_out (late m x) (spelt k text) s i e f = late_token m x k text s i e f
  part_out (unsettled x) (spelt k text) s i e f = absurd cc
  part_out _ (spelt k text) s i e f = absurd cc

  pub part_read : (p : Part) → Stays limits.name_bytes b (front ++ rest) p (length rest) → PartWithin limits total here command p (length rest)
      → read_from limits e total here command (b ∷ (front ++ rest)) ≡ adds (given_at here p) (rest_gives (command_at here command p))
  part_read p s f =
      begins limits e total here command b (front ++ rest)
      ∙ part_out (spelled limits.name_bytes b (front ++ rest)) p s.settled (sure limits.name_bytes b (front ++ rest)) s.is f ∙ ap (adds (given_at here p)) (next_is (command_at here command p))

  pub run_read : (text : List ℕ) → spelled limits.name_bytes b (front ++ rest) ≡ run_and_dot text (length rest) → Within limits total begin (length rest)
      → read_from limits e total here command (b ∷ (front ++ rest)) ≡ adds (token_at here (kind_of text) text ∷ dot_at here text ∷ []) (rest_gives None)
  run_read text is f =
      begins limits e total here command b (front ++ rest)
      ∙ ap (λ (x : Spelling). outcome there begin own x next) is
      ∙ within_true there own (length rest) (adds (token_at here (kind_of text) text ∷ dot_at here text ∷ []) (next None (length rest))) (bound_fits f)
      ∙ ap (adds (token_at here (kind_of text) text ∷ dot_at here text ∷ [])) (next_is None)

-- a dot by itself
pub dot_read : (limits : Limits) (e : Ending) (total : ℕ) (here : Place) (command : Option ℕ) (b : ℕ) (rest : List ℕ) → class_of b ≡ class.Dot → Within limits total (begin_of command here.offset) (length rest)
    → read_from limits e total here command (b ∷ rest) ≡ adds (token_at here (kind.Sign sign.Dot) [] ∷ []) (read_from limits e total (behind here b) None rest)
dot_read limits e total here command b rest is f =
    let same : spelled limits.name_bytes b rest ≡ token (kind.Sign sign.Dot) [] (length rest) = ap (λ (c : Class). spelled_by limits.name_bytes c b rest) is in
    part_read limits e total here command b [] rest (spelt (kind.Sign sign.Dot) []) (record { settled = ap is_settled same; is = ap core same }) f
