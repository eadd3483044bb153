-- One token more: what the turn says of the parser and of the reading.
use Rattle.std.proofs.Common.{◌≡◌, ℕ, Bool, true, false, List, [], ◌∷◌, ◌++◌, refl, sym, ap, ◌∙◌, subst, append_assoc, append-nil}
use Rattle.std.specs.Prelude.{Option, Some, None, Result, Ok, Err, IsSome, unwrap_or, nat_lt}
use Rattle.dk_model.specs.declared.code.Code.{Code}
use Rattle.dk_model.specs.declared.code.Fault.{Fault}
use Rattle.dk_model.specs.declared.code.Fault.TheVariants as fault
use Rattle.dk_model.specs.declared.limits.Limits.{Limits}
use Rattle.dk_lexer.specs.declared.token.Token.{Token}
use Rattle.dk_terms.specs.Terminals.{terminal_of}
use Rattle.dk_parser.specs.declared.parser.Step.{Step}
use Rattle.dk_parser.specs.declared.parser.Step.TheVariants as step
use Rattle.dk_parser.specs.Modules.{is_directive}
use Rattle.dk_parser.specs.Written.{WrittenCommand}
use Rattle.dk_parser.specs.RawViews.{written_command, written_form}
use Rattle.dk_parser.specs.declared.raw.Raw.{Raw}
use Rattle.dk_parser.specs.Groups.{load}
use Rattle.dk_parser.specs.Levels.{standing_behind}
use Rattle.dk_parser.specs.Parsing.{Advance, refuses, advanced, Parsing, started, begun_by, Answer, more, command, refused, Turn, turn, turn_by_step, turn_by_fault, refusal, parsing_from, parsing_after, answered, commands_from}
use Rattle.dk_parser.specs.Reading.{TokenReading}
use Rattle.dk_parser.specs.Steps.{read_tokens, reading_at, GoesOn, AddsCommand, AddsFault, AddsStep, Answers}
use Rattle.dk_parser.specs.Views.{CameTo, IsStep}

pub parsing_append : (s : Parsing) (ts us : List Token) → parsing_from s (ts ++ us) ≡ parsing_from (parsing_from s ts) us
parsing_append s [] us = refl
parsing_append s (t ∷ ts) us = parsing_append (turn s t).state ts us

pub commands_append : (s : Parsing) (ts us : List Token) → commands_from s (ts ++ us) ≡ commands_from s ts ++ commands_from (parsing_from s ts) us
commands_append s [] us = refl
commands_append s (t ∷ ts) us =
    ap (λ cs. answered (turn s t).answer ++ cs) (commands_append (turn s t).state ts us)
    ∙ sym (append_assoc (answered (turn s t).answer) (commands_from (turn s t).state ts) (commands_from (parsing_from (turn s t).state ts) us))

-- what an answer says of the parser before and after
abbrev Says : Answer → Parsing → Parsing → Type 0
Says more s n = (s.fault ≡ None) × (n.fault ≡ None) × IsSome n.begun
Says (command c) s n = (s.fault ≡ None) × (n.fault ≡ None) × (n.begun ≡ None)
Says (refused code) s n = (line : ℕ) × (n.fault ≡ Some (line, code)) × (IsSome s.fault → n ≡ s)

pub no_fault : (f : Option (ℕ × Code)) → f ≡ None → IsSome f → ⊥
no_fault None e h = cc
no_fault (Some fault) e h = cc

says_step : (old s : Parsing) (line : ℕ) (code : Code) (deep : Bool) (a : Advance) → old.fault ≡ None → s.fault ≡ None → Says (turn_by_step s line code deep a).answer old (turn_by_step s line code deep a).state
says_step old s line code deep refuses e f = (line, refl, λ h. absurd (no_fault old.fault e h))
says_step old s line code true a e f = (line, refl, λ h. absurd (no_fault old.fault e h))
says_step old s line code false a e f = (e, f, refl)

says_fault : (f : Option (ℕ × Code)) (s : Parsing) (t : Token) → s.fault ≡ f → Says (turn_by_fault f s t).answer s (turn_by_fault f s t).state
says_fault (Some (line, code)) s t e = (line, e, λ h. refl)
says_fault None s t e =
    let x = terminal_of t in
    says_step s (record s { standing = standing_behind s.standing x }) (unwrap_or s.begun t.line) (refusal x) (nat_lt s.limits.levels (load s.standing x)) (advanced s.part x) e e

-- what each answer adds to a reading
adds_more : (cs : List WrittenCommand) (s n : Parsing) → Says more s n → GoesOn (reading_at cs s) (reading_at (cs ++ []) n)
adds_more cs s n h = record {
  commands = append-nil cs;
  begun = subst (λ (f : Option (ℕ × Code)). IsSome (begun_by f n.begun)) (sym h.1) h.2;
  before = h.0;
  after = h.1;
}

adds_command : (cs : List WrittenCommand) (c : WrittenCommand) (directive : Bool) (s n : Parsing) → Says (command c) s n → is_directive c.form ≡ directive → AddsCommand (reading_at cs s) (reading_at (cs ++ c ∷ []) n) c directive
adds_command cs c directive s n h which = record {
  commands = refl;
  which = which;
  begun = ap (λ (f : Option (ℕ × Code)). begun_by f n.begun) h.1 ∙ h.2;
  before = h.0;
  after = h.1;
}

adds_fault : (cs : List WrittenCommand) (code : Code) (s n : Parsing) → Says (refused code) s n → AddsFault (reading_at cs s) (reading_at (cs ++ []) n) code
adds_fault cs code s n h = record {
  commands = append-nil cs;
  line = h.0;
  begun = ap (λ (f : Option (ℕ × Code)). begun_by f n.begun) h.1;
  after = h.1;
  before = λ some. ap (λ cs. reading_at cs n) (append-nil cs) ∙ ap (reading_at cs) (h.2 some);
}

-- a command or a directive ends
pub step_came : (t : Turn) (raw : Raw) (s : Step) (n : Parsing) → IsStep raw s → n ≡ t.state → t.answer ≡ command (written_command raw) → CameTo t (Ok s) n
step_came t raw step.More n is state answer = absurd is
step_came t raw (step.Command r) n is state answer =
    (state, answer ∙ ap (λ (x : Raw). command (written_command x)) (sym is.0), ap (λ (x : Raw). is_directive (written_form x.form)) is.0 ∙ is.1)
step_came t raw (step.Directive r) n is state answer =
    (state, answer ∙ ap (λ (x : Raw). command (written_command x)) (sym is.0), ap (λ (x : Raw). is_directive (written_form x.form)) is.0 ∙ is.1)

module _ (limits : Limits) (ts : List Token) (t : Token) where
  -- the commands and the parser before the token, and its turn
  abbrev read : List WrittenCommand
  read = commands_from (started limits) ts

  abbrev now : Turn
  now = turn (parsing_after limits ts) t

  says : (a : Answer) → now.answer ≡ a → Says a (parsing_after limits ts) now.state
  says a e = subst (λ (a : Answer). Says a (parsing_after limits ts) now.state) e (says_fault (parsing_after limits ts).fault (parsing_after limits ts) t refl)

  read_more : (a : Answer) → now.answer ≡ a → reading_at (read ++ answered a) now.state ≡ read_tokens limits (ts ++ t ∷ [])
  read_more a e =
      ap (λ (a : Answer). reading_at (read ++ answered a) now.state) (sym e)
      ∙ ap (λ cs. reading_at (read ++ cs) now.state) (sym (append-nil (answered now.answer)))
      ∙ ap (λ cs. reading_at cs now.state) (sym (commands_append (started limits) ts (t ∷ [])))
      ∙ ap (reading_at (commands_from (started limits) (ts ++ t ∷ []))) (sym (parsing_append (started limits) ts (t ∷ [])))

  adds_form : (c : WrittenCommand) (directive : Bool) → now.answer ≡ command c → is_directive c.form ≡ directive → AddsCommand (read_tokens limits ts) (read_tokens limits (ts ++ t ∷ [])) c directive
  adds_form c directive e which =
      subst (λ (r : TokenReading). AddsCommand (read_tokens limits ts) r c directive) (read_more (command c) e) (adds_command read c directive (parsing_after limits ts) now.state (says (command c) e) which)

  adds_came : (r : Result Step Fault) (n : Parsing) → CameTo now r n → AddsStep (read_tokens limits ts) r (read_tokens limits (ts ++ t ∷ []))
  adds_came (Ok step.More) n h = subst (GoesOn (read_tokens limits ts)) (read_more more h.1) (adds_more read (parsing_after limits ts) now.state (says more h.1))
  adds_came (Ok (step.Command raw)) n h = adds_form (written_command raw.value) false h.1 h.2
  adds_came (Ok (step.Directive raw)) n h = adds_form (written_command raw.value) true h.1 h.2
  adds_came (Err (fault.Refused code)) n h =
      subst (λ (r : TokenReading). AddsFault (read_tokens limits ts) r code) (read_more (refused code) h.1) (adds_fault read code (parsing_after limits ts) now.state (says (refused code) h.1))
  adds_came (Err fault.NoMemory) n h = tt

  after_came : (r : Result Step Fault) (n : Parsing) → CameTo now r n → Answers r (n ≡ parsing_after limits (ts ++ t ∷ []))
  after_came (Err fault.NoMemory) n h = tt
  after_came (Ok step.More) n h = h.0 ∙ sym (parsing_append (started limits) ts (t ∷ []))
  after_came r n h = h.0 ∙ sym (parsing_append (started limits) ts (t ∷ []))

  -- what a turn says of the reading
  pub turn_adds : (s n : Parsing) (r : Result Step Fault) → CameTo (turn s t) r n → s ≡ parsing_after limits ts → AddsStep (read_tokens limits ts) r (read_tokens limits (ts ++ t ∷ []))
  turn_adds s n r h e = adds_came r n (subst (λ (s : Parsing). CameTo (turn s t) r n) e h)

  -- what a turn leaves
  pub turn_leaves : (s n : Parsing) (r : Result Step Fault) → CameTo (turn s t) r n → s ≡ parsing_after limits ts → Answers r (n ≡ parsing_after limits (ts ++ t ∷ []))
  turn_leaves s n r h e = after_came r n (subst (λ (s : Parsing). CameTo (turn s t) r n) e h)
