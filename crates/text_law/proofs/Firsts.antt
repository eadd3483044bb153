-- The tokens of a command: up to the first dot.
use Rattle.std.proofs.Common.{List, [], ◌∷◌, ◌++◌, ℕ, ◌≡◌, Bool, true, false, not, None, refl, ap, sym, subst, ◌∙◌, codes, true≢false, if◌then◌else◌}
use Rattle.std.specs.Str.{bytes_eq}
use Rattle.dk_model.specs.declared.limits.Limits.{Limits}
use Rattle.dk_lexer.specs.declared.token.Token.{Token}
use Rattle.dk_lexer.specs.declared.token.TokenKind.{TokenKind}
use Rattle.dk_lexer.specs.declared.token.TokenKind.TheVariants as kind
use Rattle.dk_lexer.specs.declared.token.Sign.TheVariants as sign
use Rattle.dk_terms.specs.declared.terminal.Terminal.{Terminal}
use Rattle.dk_terms.specs.declared.terminal.Terminal.TheVariants as terminal
use Rattle.dk_terms.specs.Terminals.{terminal_by, terminal_of}
use Rattle.dk_parser.specs.Grammar.{terminals, SpellsForm, dot}
use Rattle.dk_parser.specs.Levels.{IsWithin}
use Rattle.dk_parser.specs.Reading.{TokenReading, Reads, reads_nothing, reads_front, reads_fault, reads_command}
use Rattle.dk_parser.specs.Written.{WrittenForm}
use Rattle.text_law.proofs.Dots.{keeps_open, AllOpen}
use Rattle.text_law.proofs.Dotless.{is_dot_terminal, Dotless, HasOneDot, one_dot}

-- the last token is a dot, and no other is
pub record EndsAtDot (ts : List Token) : Type 0 where
  pub front : List Token
  pub last : Token
  pub are_open : AllOpen front
  pub is_dot : keeps_open last.kind ≡ false
  pub ends_so : ts ≡ front ++ last ∷ []

word_dotless : (n r c a i v : Bool) → is_dot_terminal (if n then terminal.NameWord else (if r then terminal.RequireWord else (if c then terminal.Check else (if a then terminal.Assert
    else (if i then terminal.Infer else (if v then terminal.Eval else terminal.Profile)))))) ≡ false
word_dotless true r c a i v = refl
word_dotless false true c a i v = refl
word_dotless false false true a i v = refl
word_dotless false false false true i v = refl
word_dotless false false false false true v = refl
word_dotless false false false false false true = refl
word_dotless false false false false false false = refl

-- a token is a dot where its terminal is
dot_kind : (k : TokenKind) (text : List ℕ) → keeps_open k ≡ not (is_dot_terminal (terminal_by k text))
dot_kind (kind.Sign sign.Dot) text = refl
dot_kind (kind.Sign s) text = refl
dot_kind kind.Profile text = sym (ap not (word_dotless (bytes_eq text (codes "#NAME")) (bytes_eq text (codes "#REQUIRE")) (bytes_eq text (codes "#CHECK")) (bytes_eq text (codes "#ASSERT")) (bytes_eq text (codes "#INFER")) (bytes_eq text (codes "#EVAL"))))
dot_kind k text = refl

last_dot : (t : Token) (x : Terminal) → terminal_of t ≡ x → keeps_open t.kind ≡ not (is_dot_terminal x)
last_dot t x e = dot_kind t.kind t.spelling ∙ ap (λ z. not (is_dot_terminal z)) e

split_dot : (ts : List Token) (front : List Terminal) → terminals ts ≡ front ++ dot ∷ [] → Dotless front → EndsAtDot ts
split_dot [] [] e d = absurd cc
split_dot [] (x ∷ front) e d = absurd cc
split_dot (t ∷ []) [] e d = record { front = []; last = t; are_open = tt; is_dot = last_dot t dot (let q : terminal_of t ≡ dot = cc in q); ends_so = refl }
split_dot (t ∷ u ∷ ts) [] e d = absurd cc
split_dot (t ∷ ts) (x ∷ front) e d =
    let rest : EndsAtDot ts = split_dot ts front (let q : terminals ts ≡ front ++ dot ∷ [] = cc in q) d.1 in
    let first : keeps_open t.kind ≡ true = last_dot t x (let q : terminal_of t ≡ x = cc in q) ∙ ap not d.0 in
    record { front = t ∷ rest.front; last = rest.last; are_open = (first, rest.are_open); is_dot = rest.is_dot; ends_so = ap (λ us. t ∷ us) rest.ends_so }

-- the tokens of a command
pub spelt_dot : {ts : List Token} {form : WrittenForm} → SpellsForm (terminals ts) form → EndsAtDot ts
spelt_dot {ts} s = let d : HasOneDot (terminals ts) = one_dot s in split_dot ts d.front d.ends_so d.dotless

-- of the same tokens, these are the same
pub first_dot : (front : List Token) (d : Token) (us other : List Token) (e : Token) (vs : List Token) → AllOpen front → keeps_open d.kind ≡ false → AllOpen other → keeps_open e.kind ≡ false
    → (front ++ d ∷ []) ++ us ≡ (other ++ e ∷ []) ++ vs → (front ++ d ∷ [] ≡ other ++ e ∷ []) × (us ≡ vs)
first_dot [] d us [] e vs a k b h same = (let q : d ∷ [] ≡ e ∷ [] = cc in q, let q : us ≡ vs = cc in q)
first_dot [] d us (u ∷ other) e vs a k b h same = let q : d ≡ u = cc in absurd (true≢false (sym b.0 ∙ ap (λ (t : Token). keeps_open t.kind) (sym q) ∙ k))
first_dot (t ∷ front) d us [] e vs a k b h same = let q : t ≡ e = cc in absurd (true≢false (sym a.0 ∙ ap (λ (t : Token). keeps_open t.kind) q ∙ h))
first_dot (t ∷ front) d us (u ∷ other) e vs a k b h same =
    let q : t ≡ u = cc in
    let r : (front ++ d ∷ [] ≡ other ++ e ∷ []) × (us ≡ vs) = first_dot front d us other e vs a.1 k b.1 h (let z : (front ++ d ∷ []) ++ us ≡ (other ++ e ∷ []) ++ vs = cc in z) in
    (λ i. q i ∷ r.0 i, r.1)

pub same_dot : {ts us vs ws : List Token} → EndsAtDot ts → EndsAtDot vs → ts ++ us ≡ vs ++ ws → (ts ≡ vs) × (us ≡ ws)
same_dot {ts} {us} {vs} {ws} x y e =
    let r : _ = first_dot x.front x.last us y.front y.last ws x.are_open x.is_dot y.are_open y.is_dot (ap (λ z. z ++ us) (sym x.ends_so) ∙ e ∙ ap (λ z. z ++ ws) y.ends_so) in
    (x.ends_so ∙ r.0 ∙ sym y.ends_so, r.1)

nothing_by : (front : List Token) (last : Token) (us : List Token) → [] ≡ (front ++ last ∷ []) ++ us → ⊥
nothing_by [] last us e = cc
nothing_by (t ∷ front) last us e = cc

-- a command has tokens
pub nothing_there : {ts : List Token} → EndsAtDot ts → (us : List Token) → [] ≡ ts ++ us → ⊥
nothing_there d us e = nothing_by d.front d.last us (e ∙ ap (λ z. z ++ us) d.ends_so)

-- ---- reading, command by command

pub record ReadsBehind (limits : Limits) (ts us : List Token) : Type 0 where
  pub within : IsWithin limits.levels (terminals ts)
  pub reading : TokenReading
  pub reads : Reads limits us reading
  pub begun : reading.begun ≡ None
  pub fault : reading.fault ≡ None

pub reads_behind : {limits : Limits} {all : List Token} {r : TokenReading} (ts us : List Token) → Reads limits all r → all ≡ ts ++ us → EndsAtDot ts → r.begun ≡ None → r.fault ≡ None → ReadsBehind limits ts us
reads_behind ts us reads_nothing e d b f = absurd (nothing_there d us e)
reads_behind ts us (reads_front x) e d b f = absurd cc
reads_behind ts us (reads_fault t rest x y) e d b f = absurd cc
reads_behind {limits} ts us (reads_command {ts = vs} {us = ws} {r} s w rest) e d b f =
    let same : (vs ≡ ts) × (ws ≡ us) = same_dot (spelt_dot s.form) d e in
    record { within = subst (λ z. IsWithin limits.levels (terminals z)) same.0 w; reading = r; reads = subst (λ z. Reads limits z r) same.1 rest; begun = b; fault = f }
