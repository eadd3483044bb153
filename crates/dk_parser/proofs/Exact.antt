-- Reading is exact: what the parser makes of a list of tokens is its one reading.
use Rattle.std.proofs.Common.{◌≡◌, ℕ, ◌≤◌, Bool, true, false, List, [], ◌∷◌, ◌++◌, refl, sym, ap, ◌∙◌, subst, append_assoc, inl, inr, append-nil}
use Rattle.std.proofs.lemmas.Bool.{le-ltb, lt-ltb, ltb-false, ltb-true}
use Rattle.std.proofs.lemmas.List.{map-append}
use Rattle.std.specs.Prelude.{Option, Some, None, IsSome, unwrap_or, nat_lt, ◌⊎◌}
use Rattle.dk_model.specs.declared.code.Code.{Code}
use Rattle.dk_model.specs.declared.code.Code.TheVariants.{E02, E04, E06}
use Rattle.dk_model.specs.declared.limits.Limits.{Limits}
use Rattle.dk_lexer.specs.declared.token.Token.{Token}
use Rattle.dk_terms.specs.declared.terminal.Terminal.{Terminal}
use Rattle.dk_terms.specs.declared.terminal.Terminal.TheVariants as terminal
use Rattle.dk_terms.specs.Terminals.{terminal_of}
use Rattle.dk_parser.specs.Written.{WrittenForm, WrittenCommand}
use Rattle.dk_parser.specs.Grammar.{SpellsForm, terminals, first_line, Spells, Begins, IsBegun}
use Rattle.dk_parser.specs.Levels.{Standing, at_start, standing_behind, standing_from, standing, level_or_argument, IsWithin}
use Rattle.dk_parser.specs.Parsing.{CommandSoFar, command_due, Advance, goes, ends, refuses, advanced, Parsing, started, Turn, turn, turn_by_step, turn_by_fault, refusal, parsing_from, answered, commands_from}
use Rattle.dk_parser.specs.Reading.{IsFault, IsFront, TokenReading, with_command, Reads, reads_nothing, reads_front, reads_fault, reads_command}
use Rattle.dk_parser.specs.Steps.{reading_at, read_tokens, Extends}
use Rattle.dk_parser.proofs.Complete.{no_append, Run, going, ended, stuck, run_by, run, Ends, run_next, run_step, front_goes, complete}
use Rattle.dk_parser.proofs.Sound.{sound}
use Rattle.dk_parser.proofs.Alive.{alive}
use Rattle.dk_parser.proofs.Turns.{no_fault, parsing_append, commands_append}

-- Lists

-- a terminal of a list with one terminal more is the last one, or one of the list without it
last_split : (xs front rest : List Terminal) (x y : Terminal) → xs ++ x ∷ [] ≡ front ++ y ∷ rest → ((front ≡ xs) × (y ≡ x)) ⊎ ((zs : List Terminal) × (xs ≡ front ++ y ∷ zs))
last_split [] [] rest x y e =
    let same : y ≡ x = cc in
    inl (refl, same)
last_split [] (f ∷ front) rest x y e =
    let tail : front ++ y ∷ rest ≡ [] = cc in
    absurd (no_append front rest y tail)
last_split (z ∷ xs) [] rest x y e =
    let head : z ≡ y = cc in
    inr (xs, ap (λ w. w ∷ xs) head)
last_split (z ∷ xs) (f ∷ front) rest x y e =
    let head : z ≡ f = cc in
    let tail : xs ++ x ∷ [] ≡ front ++ y ∷ rest = cc in
    elim (last_split xs front rest x y tail) [ inl h ↦ inl (cc (head, h.0), h.1) | inr h ↦ inr (h.0, cc (head, h.1)) ]

within_more : (limit : ℕ) (front : List Token) (t : Token) → IsWithin limit (terminals front) → level_or_argument (terminals front) (terminal_of t) ≤ limit → IsWithin limit (terminals (front ++ t ∷ []))
within_more limit front t h k = subst (IsWithin limit) (sym (map-append terminal_of front (t ∷ []))) (λ xs rest y e.
    elim (last_split (terminals front) xs rest (terminal_of t) y e) [
      | inl f ↦ subst (λ zs. level_or_argument zs y ≤ limit) (sym f.0) (subst (λ z. level_or_argument (terminals front) z ≤ limit) (sym f.1) k)
      | inr f ↦ h xs f.0 y f.1
    ])

within_nothing : (limit : ℕ) → IsWithin limit []
within_nothing limit front rest x e = absurd (no_append front rest x (sym e))

-- What the parts of a command say of the grammar

abbrev LeadsTo : List Token → CommandSoFar → Type 0
LeadsTo front p = run command_due (terminals front) ≡ going p

begun_by : (xs rest : List Terminal) (p : CommandSoFar) (form : WrittenForm) → run command_due xs ≡ going p → Ends p rest form → IsBegun xs
begun_by xs [] p form is e = cc
begun_by xs (y ∷ rest) p form is e = (y, rest, form, sound (xs ++ y ∷ rest) form (run_next command_due p xs (y ∷ rest) is ∙ e))

front_ok : (limits : Limits) (front : List Token) (p : CommandSoFar) → LeadsTo front p → IsWithin limits.levels (terminals front) → IsFront limits front
front_ok limits front p is w =
    let a = alive p in
    record { begun = begun_by (terminals front) a.rest p a.form is a.runs; within = w }

-- a step that refuses nothing
abbrev Takes : Advance → Type 0
Takes refuses = ⊥
Takes a = Unit {0}

takes_begins : (a : Advance) (xs : List Terminal) (p : CommandSoFar) (x : Terminal) → run command_due xs ≡ going p → advanced p x ≡ a → Takes a → Begins (xs ++ x ∷ [])
takes_begins (goes q) xs p x is e h =
    let a = alive q in
    (a.rest, a.form, sound ((xs ++ x ∷ []) ++ a.rest) a.form (run_next command_due q (xs ++ x ∷ []) a.rest (run_step command_due p (goes q) xs x [] is e) ∙ a.runs))
takes_begins (ends form) xs p x is e h =
    ([], form, subst (λ ys. SpellsForm ys form) (sym (append-nil (xs ++ x ∷ []))) (sound (xs ++ x ∷ []) form (run_step command_due p (ends form) xs x [] is e)))
takes_begins refuses xs p x is e h = absurd h

refused_begins : (xs : List Terminal) (p : CommandSoFar) (x : Terminal) → run command_due xs ≡ going p → advanced p x ≡ refuses → Begins (xs ++ x ∷ []) → ⊥
refused_begins xs p x is e (rest, form, h) =
    let whole : run command_due (xs ++ x ∷ rest) ≡ ended form [] = ap (run command_due) (sym (append_assoc xs (x ∷ []) rest)) ∙ complete h in
    let next : run command_due (xs ++ x ∷ rest) ≡ stuck = run_step command_due p refuses xs x rest is e in
    cc

refused_fault : (limits : Limits) (xs : List Terminal) (x : Terminal) → (Begins (xs ++ x ∷ []) → ⊥) → IsFault limits xs x (refusal x)
refused_fault limits xs terminal.Profile n = refl
refused_fault limits xs x n = (λ e. cc, n)

-- Each list of tokens has a reading

module _ (limits : Limits) where
  abbrev HasReading : List Token → Type 0
  HasReading ts = (r : TokenReading) × Reads limits ts r

  has_step : (a : Advance) (deep : Bool) (front : List Token) (p : CommandSoFar) (t : Token) (us : List Token) → LeadsTo front p → IsWithin limits.levels (terminals front) → advanced p (terminal_of t) ≡ a → nat_lt limits.levels (level_or_argument (terminals front) (terminal_of t)) ≡ deep
      → ((f : List Token) (q : CommandSoFar) → LeadsTo f q → IsWithin limits.levels (terminals f) → HasReading (f ++ us)) → HasReading (front ++ t ∷ us)
  has_step refuses deep front p t us is w e d later =
      (_, reads_fault {front = front} {code = refusal (terminal_of t)} t us (front_ok limits front p is w) (refused_fault limits (terminals front) (terminal_of t) (refused_begins (terminals front) p (terminal_of t) is e)))
  has_step a true front p t us is w e d later =
      (_, reads_fault {front = front} {code = E04} t us (front_ok limits front p is w) (takes_begins a (terminals front) p (terminal_of t) is e tt, ltb-true _ _ d))
  has_step (goes q) false front p t us is w e d later =
      let next : LeadsTo (front ++ t ∷ []) q = ap (run command_due) (map-append terminal_of front (t ∷ [])) ∙ run_step command_due p (goes q) (terminals front) (terminal_of t) [] is e in
      let r = later (front ++ t ∷ []) q next (within_more limits.levels front t w (ltb-false _ _ d)) in
      (r.0, subst (λ ts. Reads limits ts r.0) (append_assoc front (t ∷ []) us) r.1)
  has_step (ends form) false front p t us is w e d later =
      let r = later [] command_due refl (within_nothing limits.levels) in
      let spelt : SpellsForm (terminals (front ++ t ∷ [])) form = subst (λ xs. SpellsForm xs form) (sym (map-append terminal_of front (t ∷ []))) (sound (terminals front ++ terminal_of t ∷ []) form (run_step command_due p (ends form) (terminals front) (terminal_of t) [] is e)) in (
        _,
        subst (λ ts. Reads limits ts (with_command (record { line = first_line (front ++ t ∷ []); form = form }) r.0)) (append_assoc front (t ∷ []) us)
            (reads_command (record { line = refl; form = spelt }) (within_more limits.levels front t w (ltb-false _ _ d)) r.1),
      )

  has_reading : (us front : List Token) (p : CommandSoFar) → LeadsTo front p → IsWithin limits.levels (terminals front) → HasReading (front ++ us)
  has_reading [] [] p is w = (_, reads_nothing)
  has_reading [] (f ∷ front) p is w = (_, subst (λ ts. Reads limits ts (record { commands = []; begun = Some f.line; fault = None })) (sym (append-nil (f ∷ front))) (reads_front (front_ok limits (f ∷ front) p is w)))
  has_reading (t ∷ us) front p is w = has_step (advanced p (terminal_of t)) _ front p t us is w refl refl (λ f q l v. has_reading us f q l v)

-- Each reading is the parser's

abbrev first_begun : List Token → Option ℕ
first_begun [] = None
first_begun (t ∷ ts) = Some t.line

line_of : (front : List Token) (t : Token) → unwrap_or (first_begun front) t.line ≡ first_line (front ++ t ∷ [])
line_of [] t = refl
line_of (f ∷ front) t = refl

begun_of : (front : List Token) (t : Token) → Some (first_line (front ++ t ∷ [])) ≡ first_begun (front ++ t ∷ [])
begun_of [] t = refl
begun_of (f ∷ front) t = refl

standing_more : (st : Standing) (xs : List Terminal) (x : Terminal) → standing_from st (xs ++ x ∷ []) ≡ standing_behind (standing_from st xs) x
standing_more st [] x = refl
standing_more st (y ∷ xs) x = standing_more (standing_behind st y) xs x

profile_refused : (p : CommandSoFar) → advanced p terminal.Profile ≡ refuses
profile_refused command_due = refl
profile_refused p = refl

refusal_other : (x : Terminal) → (x ≡ terminal.Profile → ⊥) → E02 ≡ refusal x
refusal_other terminal.Profile n = absurd (n refl)
refusal_other x n = refl

abbrev fault_reading : ℕ → Code → TokenReading
fault_reading line code = record { commands = []; begun = Some line; fault = Some (line, code) }

abbrev read_from : Parsing → List Token → TokenReading
read_from s ts = reading_at (commands_from s ts) (parsing_from s ts)

-- after a fault nothing changes
faulty : (s : Parsing) (line : ℕ) (code : Code) (cs : List WrittenCommand) (ts : List Token) → s.fault ≡ Some (line, code) → reading_at (cs ++ commands_from s ts) (parsing_from s ts) ≡ reading_at cs s
faulty s line code cs [] e = ap (λ cs. reading_at cs s) (append-nil cs)
faulty s line code cs (t ∷ ts) e =
    ap (λ (f : Option (ℕ × Code)). reading_at (cs ++ (answered (turn_by_fault f s t).answer ++ commands_from (turn_by_fault f s t).state ts)) (parsing_from (turn_by_fault f s t).state ts)) e
    ∙ faulty s line code cs ts e

read_by : (s : Parsing) (t : Token) (ts : List Token) (u : Turn) → turn s t ≡ u → read_from s (t ∷ ts) ≡ reading_at (answered u.answer ++ commands_from u.state ts) (parsing_from u.state ts)
read_by s t ts u e = ap (λ (u : Turn). reading_at (answered u.answer ++ commands_from u.state ts) (parsing_from u.state ts)) e

module _ (limits : Limits) where
  -- the parser behind a front of a command
  abbrev state_at : List Token → CommandSoFar → Parsing
  state_at front p = record { limits = limits; begun = first_begun front; standing = standing (terminals front); part = p; fault = None }

  abbrev turn_of : List Token → CommandSoFar → Token → ℕ → Code → Bool → Advance → Turn
  turn_of front p t line code deep a = turn_by_step (record (state_at front p) { standing = standing_behind (standing (terminals front)) (terminal_of t) }) line code deep a

  turn_is : (front : List Token) (p : CommandSoFar) (t : Token) (deep : Bool) (a : Advance) → nat_lt limits.levels (level_or_argument (terminals front) (terminal_of t)) ≡ deep → advanced p (terminal_of t) ≡ a
      → turn (state_at front p) t ≡ turn_of front p t (first_line (front ++ t ∷ [])) (refusal (terminal_of t)) deep a
  turn_is front p t deep a d e =
      ap (λ line. turn_of front p t line (refusal (terminal_of t)) (nat_lt limits.levels (level_or_argument (terminals front) (terminal_of t))) (advanced p (terminal_of t))) (line_of front t)
      ∙ ap (λ (b : Bool). turn_of front p t (first_line (front ++ t ∷ [])) (refusal (terminal_of t)) b (advanced p (terminal_of t))) d
      ∙ ap (λ (a : Advance). turn_of front p t (first_line (front ++ t ∷ [])) (refusal (terminal_of t)) deep a) e

  -- the state behind a step that goes on
  state_on : (front : List Token) (q : CommandSoFar) (t : Token) → (turn_of front q t (first_line (front ++ t ∷ [])) E02 false (goes q)).state ≡ state_at (front ++ t ∷ []) q
  state_on front q t =
      ap (λ begun. record { limits = limits; begun = begun; standing = standing_behind (standing (terminals front)) (terminal_of t); part = q; fault = None }) (begun_of front t)
      ∙ ap (λ st. record { limits = limits; begun = first_begun (front ++ t ∷ []); standing = st; part = q; fault = None }) (sym (ap standing (map-append terminal_of front (t ∷ [])) ∙ standing_more at_start (terminals front) (terminal_of t)))

  goes_read : (front : List Token) (p q : CommandSoFar) (t : Token) (ts : List Token) → advanced p (terminal_of t) ≡ goes q → nat_lt limits.levels (level_or_argument (terminals front) (terminal_of t)) ≡ false → read_from (state_at front p) (t ∷ ts) ≡ read_from (state_at (front ++ t ∷ []) q) ts
  goes_read front p q t ts e d =
      read_by (state_at front p) t ts (turn_of front p t (first_line (front ++ t ∷ [])) (refusal (terminal_of t)) false (goes q)) (turn_is front p t false (goes q) d e)
      ∙ ap (λ (s : Parsing). read_from s ts) (state_on front q t)

  ends_read : (front : List Token) (p : CommandSoFar) (form : WrittenForm) (t : Token) (ts : List Token) → advanced p (terminal_of t) ≡ ends form → nat_lt limits.levels (level_or_argument (terminals front) (terminal_of t)) ≡ false
      → read_from (state_at front p) (t ∷ ts) ≡ with_command (record { line = first_line (front ++ t ∷ []); form = form }) (read_tokens limits ts)
  ends_read front p form t ts e d = read_by (state_at front p) t ts (turn_of front p t (first_line (front ++ t ∷ [])) (refusal (terminal_of t)) false (ends form)) (turn_is front p t false (ends form) d e)

  -- what is read of a run that doesn't end before its list
  abbrev Whole : Run → Type 0
  Whole (ended form (x ∷ xs)) = ⊥
  Whole stuck = ⊥
  Whole r = Unit {0}

  abbrev read_of : Run → List Token → List Token → TokenReading
  read_of (going q) front rest = read_from (state_at front q) rest
  read_of (ended form xs) front rest = with_command (record { line = first_line front; form = form }) (read_tokens limits rest)
  read_of stuck front rest = read_tokens limits rest

  walk_step : (a : Advance) (front us rest : List Token) (p : CommandSoFar) (t : Token) → advanced p (terminal_of t) ≡ a → Whole (run_by a (λ q. run q (terminals us)) (terminals us)) → nat_lt limits.levels (level_or_argument (terminals front) (terminal_of t)) ≡ false
      → ((q : CommandSoFar) → Whole (run q (terminals us)) → read_from (state_at (front ++ t ∷ []) q) (us ++ rest) ≡ read_of (run q (terminals us)) (front ++ t ∷ us) rest)
      → read_from (state_at front p) (t ∷ (us ++ rest)) ≡ read_of (run_by a (λ q. run q (terminals us)) (terminals us)) (front ++ t ∷ us) rest
  walk_step (goes q) front us rest p t e whole d later = goes_read front p q t (us ++ rest) e d ∙ later q whole
  walk_step (ends form) front [] rest p t e whole d later = ends_read front p form t rest e d
  walk_step (ends form) front (u ∷ us) rest p t e whole d later = absurd whole
  walk_step refuses front us rest p t e whole d later = absurd whole

  walk : (us front rest : List Token) (p : CommandSoFar) → Whole (run p (terminals us)) → IsWithin limits.levels (terminals (front ++ us)) → read_from (state_at front p) (us ++ rest) ≡ read_of (run p (terminals us)) (front ++ us) rest
  walk [] front rest p whole w = ap (λ ts. read_from (state_at ts p) rest) (sym (append-nil front))
  walk (t ∷ us) front rest p whole w =
      let lists : (front ++ t ∷ []) ++ us ≡ front ++ t ∷ us = append_assoc front (t ∷ []) us in
      walk_step (advanced p (terminal_of t)) front us rest p t refl whole (le-ltb _ _ (w (terminals front) (terminals us) (terminal_of t) (map-append terminal_of front (t ∷ us))))
      (λ q ok. walk us (front ++ t ∷ []) rest q ok (subst (λ ts. IsWithin limits.levels (terminals ts)) (sym lists) w) ∙ ap (λ ts. read_of (run q (terminals us)) ts rest) lists)

  -- a list of tokens from its first one on
  read_whole : (ts rest : List Token) (r : Run) → run command_due (terminals ts) ≡ r → Whole r → IsWithin limits.levels (terminals ts) → read_tokens limits (ts ++ rest) ≡ read_of r ts rest
  read_whole ts rest r e whole w = walk ts [] rest command_due (subst Whole (sym e) whole) w ∙ ap (λ (r : Run). read_of r ts rest) e

  -- the part that a front leads to
  part_of : (ts : List Token) → IsFront limits ts → (p : CommandSoFar) × LeadsTo ts p
  part_of ts f = front_goes command_due (terminals ts) f.begun.0 f.begun.1 f.begun.2 (complete f.begun.3)

  refuse_read : (front : List Token) (p : CommandSoFar) (t : Token) (ts : List Token) (code : Code) → advanced p (terminal_of t) ≡ refuses → refusal (terminal_of t) ≡ code → read_from (state_at front p) (t ∷ ts) ≡ fault_reading (first_line (front ++ t ∷ [])) code
  refuse_read front p t ts code e is =
      let deep = nat_lt limits.levels (level_or_argument (terminals front) (terminal_of t)) in
      let s : Turn = turn_of front p t (first_line (front ++ t ∷ [])) (refusal (terminal_of t)) deep refuses in
      read_by (state_at front p) t ts s (turn_is front p t deep refuses refl e)
      ∙ faulty s.state (first_line (front ++ t ∷ [])) (refusal (terminal_of t)) [] ts refl
      ∙ ap (fault_reading (first_line (front ++ t ∷ []))) is

  deep_read : (a : Advance) (front : List Token) (p : CommandSoFar) (t : Token) (ts : List Token) → advanced p (terminal_of t) ≡ a → Begins (terminals front ++ terminal_of t ∷ []) → LeadsTo front p → nat_lt limits.levels (level_or_argument (terminals front) (terminal_of t)) ≡ true → read_from (state_at front p) (t ∷ ts) ≡ fault_reading (first_line (front ++ t ∷ [])) E04
  deep_read refuses front p t ts e b is d = absurd (refused_begins (terminals front) p (terminal_of t) is e b)
  deep_read a front p t ts e b is d =
      let s : Turn = turn_of front p t (first_line (front ++ t ∷ [])) (refusal (terminal_of t)) true a in
      read_by (state_at front p) t ts s (turn_is front p t true a d e) ∙ faulty s.state (first_line (front ++ t ∷ [])) E04 [] ts refl

  refuses_step : (a : Advance) (xs : List Terminal) (p : CommandSoFar) (x : Terminal) → run command_due xs ≡ going p → (Begins (xs ++ x ∷ []) → ⊥) → advanced p x ≡ a → advanced p x ≡ refuses
  refuses_step refuses xs p x is n e = e
  refuses_step a xs p x is n e = absurd (n (takes_begins a xs p x is e tt))

  fault_read : (code : Code) (front : List Token) (p : CommandSoFar) (t : Token) (rest : List Token) → LeadsTo front p → IsFault limits (terminals front) (terminal_of t) code → read_from (state_at front p) (t ∷ rest) ≡ fault_reading (first_line (front ++ t ∷ [])) code
  fault_read E06 front p t rest is h = refuse_read front p t rest E06 (ap (advanced p) h ∙ profile_refused p) (ap refusal h)
  fault_read E02 front p t rest is h = refuse_read front p t rest E02 (refuses_step (advanced p (terminal_of t)) (terminals front) p (terminal_of t) is h.1 refl) (sym (refusal_other (terminal_of t) h.0))
  fault_read E04 front p t rest is h = deep_read (advanced p (terminal_of t)) front p t rest refl h.0 is (lt-ltb _ _ h.1)
  fault_read code front p t rest is h = absurd h

-- there is one reading
pub only : {limits : Limits} {ts : List Token} {r : TokenReading} → Reads limits ts r → r ≡ read_tokens limits ts
only reads_nothing = refl
only (reads_front {limits} {t} {ts} f) =
    let p = part_of limits (t ∷ ts) f in
    sym (ap (read_tokens limits) (sym (append-nil (t ∷ ts))) ∙ read_whole limits (t ∷ ts) [] (going p.0) p.1 tt f.within)
only (reads_fault {limits} {front} {code} t rest f h) =
    let p = part_of limits front f in
    sym (read_whole limits front (t ∷ rest) (going p.0) p.1 tt f.within ∙ fault_read limits code front p.0 t rest p.1 h)
only (reads_command {limits} {ts} {us} {c} {r} s w h) =
    sym (read_whole limits ts us (ended c.form []) (complete s.form) tt w
    ∙ ap (λ line. with_command (record { line = line; form = c.form }) (read_tokens limits us)) (sym s.line)
    ∙ ap (with_command c) (sym (only h)))

-- the parser reads what is there
pub exact : (limits : Limits) (ts : List Token) → Reads limits ts (read_tokens limits ts)
exact limits ts =
    let r = has_reading limits ts [] command_due refl (within_nothing limits.levels) in
    subst (Reads limits ts) (only r.1) r.1

fault_stays : (f : Option (ℕ × Code)) (s : Parsing) (cs : List WrittenCommand) (us : List Token) → s.fault ≡ f → IsSome s.fault → reading_at (cs ++ commands_from s us) (parsing_from s us) ≡ reading_at cs s
fault_stays None s cs us e h = absurd (no_fault s.fault e h)
fault_stays (Some (line, code)) s cs us e h = faulty s line code cs us e

-- the reading of more tokens begins with the reading of fewer
pub read_extends : (limits : Limits) (ts us : List Token) → Extends (read_tokens limits ts) (read_tokens limits (ts ++ us))
read_extends limits ts us = record {
  later = commands_from (parsing_from (started limits) ts) us;
  commands = commands_append (started limits) ts us;
  stays = λ h.
      ap (λ cs. reading_at cs (parsing_from (started limits) (ts ++ us))) (commands_append (started limits) ts us)
      ∙ ap (reading_at (commands_from (started limits) ts ++ commands_from (parsing_from (started limits) ts) us)) (parsing_append (started limits) ts us)
      ∙ fault_stays (parsing_from (started limits) ts).fault (parsing_from (started limits) ts) (commands_from (started limits) ts) us refl h;
}

-- a list of tokens spells at most one command
pub one_command : (ts : List Token) (c d : WrittenCommand) → Spells ts c → Spells ts d → c ≡ d
one_command ts c d s t =
    let same : ended c.form [] ≡ ended d.form [] = sym (complete s.form) ∙ complete t.form in
    let forms : c.form ≡ d.form = cc in
    let lines : c.line ≡ d.line = s.line ∙ sym t.line in
    ap (λ line. record { line = line; form = c.form }) lines ∙ ap (λ form. record { line = d.line; form = form }) forms
