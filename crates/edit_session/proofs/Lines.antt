-- The texts of a session, each with a newline, are read as just their commands, one a line.
use Rattle.std.proofs.Common.{List, [], ◌∷◌, ◌++◌, length, map, append-nil, append_assoc, length-append, ℕ, ◌≡◌, ◌≤◌, ◌+◌, min, Bool, true, false, not, ◌&&◌, ◌==◌, Option, Some, None, refl, ap, sym, subst, ◌∙◌, arith}
use Rattle.std.proofs.lemmas.List.Elements.{All-head, All-tail}
use Rattle.std.specs.List.{list_any}
use Rattle.dk_model.specs.declared.limits.Limits.{Limits}
use Rattle.dk_lexer.specs.declared.token.Token.{Token}
use Rattle.dk_lexer.specs.declared.place.Place.{Place}
use Rattle.dk_lexer.specs.Tokens.{Lexed, input_limit, nothing_at, tokens, tokens_from, whole}
use Rattle.dk_parser.specs.FileReading.{Reading, Tail, read, reading_of}
use Rattle.dk_parser.specs.FileReading as reading
use Rattle.dk_parser.specs.Grammar.{terminals, first_line, SpellsForm}
use Rattle.dk_parser.specs.Levels.{IsWithin}
use Rattle.dk_parser.specs.Modules.{is_directive, modules_of}
use Rattle.dk_parser.specs.Reading.{TokenReading, Reads, reads_nothing, reads_command}
use Rattle.dk_parser.specs.Steps.{read_tokens}
use Rattle.dk_parser.specs.Written.{WrittenForm, WrittenCommand}
use Rattle.dk_parser.proofs.Exact.{only}
use Rattle.one_lexer.specs.Reading.{adds}
use Rattle.text_law.specs.Texts.{IsText}
use Rattle.text_law.proofs.Alone.{alone as one_command_text}
use Rattle.text_law.proofs.Firsts.{EndsAtDot, nothing_there, spelt_dot}
use Rattle.text_law.proofs.Moved.{moved_place, moved_token, place_at, reads_behind}
use Rattle.text_law.proofs.Texts.{terminals_moved}
use Rattle.edit_session.specs.Forms.{AreCommandTexts, CommandsNeedNone, Fit, TextsAreCommands, numbered}
use Rattle.edit_session.specs.Texts.{bytes_of, form_of, forms_of, is_command_text, is_plain, is_qualified, maybe_form, only_form}
use Rattle.edit_session.proofs.Needless.{first_none}
use Rattle.edit_session.proofs.OneLine.{AllOn, LineAlone, line_alone, moved_on}

-- ---- one text

-- the reading of a text that is one command
record IsOne (cs : List WrittenCommand) (t : Tail) (form : WrittenForm) : Type 0 where
  pub command : WrittenCommand
  pub form_is : command.form ≡ form
  pub commands_are : cs ≡ command ∷ []
  pub tail_is : t ≡ reading.whole

is_one : (cs : List WrittenCommand) (t : Tail) (form : WrittenForm) → only_form cs t ≡ Some form → IsOne cs t form
is_one [] t form e = absurd cc
is_one (c ∷ []) reading.whole form e = record { command = c; form_is = cc; commands_are = refl; tail_is = refl }
is_one (c ∷ []) (reading.fault line code) form e = absurd cc
is_one (c ∷ []) reading.unread form e = absurd cc
is_one (c ∷ d ∷ cs) t form e = absurd cc

and_true : (a b : Bool) → (a && b) ≡ true → (a ≡ true) × (b ≡ true)
and_true true b e = (refl, e)
and_true false b e = absurd cc

not_true : (a : Bool) → not a ≡ true → a ≡ false
not_true true e = absurd cc
not_true false e = refl

abbrev has_newline : List ℕ → Bool
has_newline text = list_any (λ b. b == 10) text

module _ (limits : Limits) (text : List ℕ) where
  abbrev has_qualified : Bool
  has_qualified = list_any (λ (t : Token). is_qualified t.kind) (tokens limits text whole).tokens

  -- what a text of one command is
  pub record IsCommand : Type 0 where
    pub form : WrittenForm
    pub form_is : form_of limits text ≡ Some form
    pub one_line : has_newline text ≡ false
    pub is_command : is_directive form ≡ false
    pub unqualified : has_qualified ≡ false

  pub command_text : is_command_text limits text ≡ true → IsCommand
  command_text h = let both : (not (has_newline text) ≡ true) × (is_plain (tokens limits text whole).tokens (form_of limits text) ≡ true) = and_true (not (has_newline text)) _ h in
      by (form_of limits text) refl (not_true (has_newline text) both.0) both.1
    where
      by : (o : Option WrittenForm) → form_of limits text ≡ o → has_newline text ≡ false → is_plain (tokens limits text whole).tokens o ≡ true → IsCommand
      by None e l p = absurd cc
      by (Some form) e l p = let q : (not (is_directive form) ≡ true) × (not has_qualified ≡ true) = and_true (not (is_directive form)) (not has_qualified) p in
          record { form = form; form_is = e; one_line = l; is_command = not_true (is_directive form) q.0; unqualified = not_true has_qualified q.1 }

pub commands_need_none : CommandsNeedNone
commands_need_none limits text form h e = let c : IsCommand limits text = command_text limits text h in
    let same : c.form ≡ form = (let q : Some c.form ≡ Some form = sym c.form_is ∙ e in cc) in
    let one : IsOne (read limits text whole).commands (read limits text whole).tail form = is_one (read limits text whole).commands (read limits text whole).tail form e in
    let directive : is_directive form ≡ false = subst (λ f. is_directive f ≡ false) same c.is_command in
    let none : is_directive one.command.form ≡ false → modules_of one.command.form ≡ [] = first_none limits (tokens limits text whole).tokens one.command one.commands_are c.unqualified in
    (directive, subst (λ f. is_directive f ≡ false → modules_of f ≡ []) one.form_is none directive)

-- ---- texts and their commands

-- texts of one line, each with its form
data AreLines (limits : Limits) : List (List ℕ) → List WrittenForm → Type 0 where
  lines_none : AreLines limits [] []
  lines_more : {text : List ℕ} {form : WrittenForm} {texts : List (List ℕ)} {forms : List WrittenForm} → IsText limits (text ++ 10 ∷ []) form → has_newline text ≡ false → AreLines limits texts forms → AreLines limits (text ∷ texts) (form ∷ forms)

-- the forms behind that of the first text
pub forms_more : (limits : Limits) (text : List ℕ) (texts : List (List ℕ)) (form : WrittenForm) → form_of limits text ≡ Some form → form ∷ forms_of limits texts ≡ forms_of limits (text ∷ texts)
forms_more limits text texts form e = λ i. maybe_form (sym e i) ++ forms_of limits texts

are_lines : (limits : Limits) (texts : List (List ℕ)) → AreCommandTexts limits texts → Fit limits texts → AreLines limits texts (forms_of limits texts)
are_lines limits [] h f = lines_none
are_lines limits (text ∷ texts) h f =
    let c : IsCommand limits text = command_text limits text (All-head (λ text. is_command_text limits text ≡ true) text texts h) in
    let one : IsOne (read limits text whole).commands (read limits text whole).tail c.form = is_one (read limits text whole).commands (read limits text whole).tail c.form c.form_is in
    let len : length ((text ++ 10 ∷ []) ++ bytes_of texts) ≡ length (text ++ 10 ∷ []) + length (bytes_of texts) = length-append (text ++ 10 ∷ []) (bytes_of texts) in
    let more : length (text ++ 10 ∷ []) ≡ length text + 1 = length-append text (10 ∷ []) in
    let is_text : IsText limits (text ++ 10 ∷ []) one.command.form = one_command_text limits text one.command (λ i. record { commands = one.commands_are i; tail = one.tail_is i }) (omega (arith, len, more, f)) in
    subst (AreLines limits (text ∷ texts)) (forms_more limits text texts c.form c.form_is)
    (lines_more (subst (IsText limits (text ++ 10 ∷ [])) one.form_is is_text) c.one_line
    (are_lines limits texts (All-tail (λ text. is_command_text limits text ≡ true) text texts h) (omega (arith, len, f))))

-- as many commands as texts
pub forms_count : (limits : Limits) (texts : List (List ℕ)) → AreCommandTexts limits texts → length (forms_of limits texts) ≡ length texts
forms_count limits [] h = refl
forms_count limits (text ∷ texts) h =
    let c : IsCommand limits text = command_text limits text (All-head (λ text. is_command_text limits text ≡ true) text texts h) in
    let rest : length (forms_of limits texts) ≡ length texts = forms_count limits texts (All-tail (λ text. is_command_text limits text ≡ true) text texts h) in
    sym (ap length (forms_more limits text texts c.form c.form_is)) ∙ (let q : length (c.form ∷ forms_of limits texts) ≡ length (text ∷ texts) = omega (arith, rest) in q)

-- ---- a text behind others

-- the first of tokens that spell a command is on their line
first_on : (n : ℕ) (ts : List Token) → EndsAtDot ts → AllOn n ts → first_line ts ≡ n
first_on n [] d h = absurd (nothing_there d [] refl)
first_on n (t ∷ ts) d h = h.0

-- what the bytes from a place between commands on give, where these are all that is left of so many
abbrev from : Limits → ℕ → ℕ → ℕ → List ℕ → Lexed
from limits total D L bytes = tokens_from limits whole total (place_at D L) None (length bytes) bytes

-- the texts behind some lines
record TextsAt (limits : Limits) (bytes : List ℕ) (forms : List WrittenForm) (total D L : ℕ) : Type 0 where
  pub ts : List Token
  pub last : Place
  pub given : from limits total D L bytes ≡ adds ts (nothing_at last)
  pub reads : Reads limits ts (record { commands = numbered (1 + L) forms; begun = None; fault = None })

-- what a line gives, and then what those behind it do
given_both : (ts us : List Token) (last : Place) {x y : Lexed} → x ≡ adds ts y → y ≡ adds us (nothing_at last) → x ≡ adds (ts ++ us) (nothing_at last)
given_both ts us last e f = e ∙ ap (adds ts) f ∙ ap (λ (xs : List Token). let z : Lexed = record { tokens = xs; fault = None; line = last.line } in z) (sym (append_assoc ts us []))

-- one more line before them
line_at : (limits : Limits) (text : List ℕ) (form : WrittenForm) (behind : List ℕ) (forms : List WrittenForm) (total D L : ℕ) → IsText limits (text ++ 10 ∷ []) form → has_newline text ≡ false → length ((text ++ 10 ∷ []) ++ behind) + D ≡ total
    → total ≤ input_limit limits → L ≤ D → TextsAt limits behind forms total (D + length (text ++ 10 ∷ [])) (1 + L) → TextsAt limits ((text ++ 10 ∷ []) ++ behind) (form ∷ forms) total D L
line_at limits text form behind forms total D L t one size fits few y =
    let line : List ℕ = text ++ 10 ∷ [] in
    let len : length (line ++ behind) ≡ length line + length behind = length-append line behind in
    let more : length line ≡ length text + 1 = length-append text (10 ∷ []) in
    let most : input_limit limits ≤ 4294967294 = (let q : min limits.input_bytes 4294967294 ≤ 4294967294 = omega arith in q) in
    let alone : LineAlone t.given t.behind = line_alone limits text t.given t.behind t.reads one in
    let ends : t.behind.line ≡ 2 = alone.after in
    let all : length line ≡ t.behind.offset + 0 = t.reads.total in
    let us : List Token = map (moved_token D L) t.given in
    let same : terminals t.given ≡ terminals us = sym (terminals_moved D L t.given) in
    let spells : SpellsForm (terminals us) form = subst (λ xs. SpellsForm xs form) same t.spells in
    let first : first_line us ≡ 1 + L = first_on (1 + L) us (spelt_dot spells) (moved_on D L t.given alone.tokens) in
    let place : moved_place D L t.behind ≡ place_at (D + length line) (1 + L) =
    (λ i. record { offset = (let q : t.behind.offset + D ≡ 0 + (D + length line) = omega (arith, all) in q) i; line = (let q : t.behind.line + L ≡ 1 + (1 + L) = omega (arith, ends) in q) i }) in
    let first_given : from limits total D L (line ++ behind) ≡ adds us (tokens_from limits whole total (moved_place D L t.behind) None (length behind) behind) =
    reads_behind limits line behind t.given t.behind total D L t.reads size fits (omega (arith, size, fits, most, few)) (omega (arith, len, more, size, fits, most, few, ends)) in
    let rest_given : tokens_from limits whole total (moved_place D L t.behind) None (length behind) behind ≡ adds y.ts (nothing_at y.last) =
    ap (λ (p : Place). tokens_from limits whole total p None (length behind) behind) place ∙ y.given in
    record {
      ts = us ++ y.ts;
      last = y.last;
      given = given_both us y.ts y.last first_given rest_given;
      reads = reads_command (record { line = sym first; form = spells }) (subst (IsWithin limits.levels) same t.within)
          (subst (λ n. Reads limits y.ts (record { commands = numbered n forms; begun = None; fault = None })) (let q : 1 + (1 + L) ≡ 1 + L + 1 = omega arith in q) y.reads);
    }

texts_at : (limits : Limits) {texts : List (List ℕ)} {forms : List WrittenForm} → AreLines limits texts forms → (total D L : ℕ) → length (bytes_of texts) + D ≡ total → total ≤ input_limit limits → L ≤ D → TextsAt limits (bytes_of texts) forms total D L
texts_at limits lines_none total D L size fits few = record { ts = []; last = place_at D L; given = refl; reads = reads_nothing }
texts_at limits (lines_more {text} {form} {texts} {forms} t one rest) total D L size fits few =
    let line : List ℕ = text ++ 10 ∷ [] in
    let len : length (line ++ bytes_of texts) ≡ length line + length (bytes_of texts) = length-append line (bytes_of texts) in
    let more : length line ≡ length text + 1 = length-append text (10 ∷ []) in
    line_at limits text form (bytes_of texts) forms total D L t one size fits few (texts_at limits rest total (D + length line) (1 + L) (omega (arith, len, size)) fits (omega (arith, few, more)))

-- ---- what they are read as

abbrev AreRead : Limits → List ℕ → List WrittenForm → Type 0
AreRead limits bytes forms = read limits bytes whole ≡ (let r : Reading = record { commands = numbered 1 forms; tail = reading.whole } in r)

tokens_are : (limits : Limits) (bytes : List ℕ) → tokens limits bytes whole ≡ from limits (length bytes) 0 0 bytes
unfolding tokens
tokens_are limits bytes = refl

lines_read : (limits : Limits) (texts : List (List ℕ)) (forms : List WrittenForm) → AreLines limits texts forms → length (bytes_of texts) ≤ input_limit limits → AreRead limits (bytes_of texts) forms
lines_read limits texts forms t f =
    let bytes : List ℕ = bytes_of texts in
    let x : TextsAt limits bytes forms (length bytes) 0 0 = texts_at limits t (length bytes) 0 0 (omega arith) f (omega arith) in
    let all : tokens limits bytes whole ≡ adds x.ts (nothing_at x.last) = tokens_are limits bytes ∙ x.given in
    let toks : (tokens limits bytes whole).tokens ≡ x.ts = ap (λ (z : Lexed). z.tokens) all ∙ append-nil x.ts in
    let r : TokenReading = record { commands = numbered 1 forms; begun = None; fault = None } in
    let exact : r ≡ read_tokens limits (tokens limits bytes whole).tokens = only (subst (λ ts. Reads limits ts r) (sym toks) x.reads) in
    ap (λ z. reading_of z (tokens limits bytes whole) whole) (sym exact)
    ∙ ap (λ (z : Lexed). reading_of r z whole) all

pub texts_are_commands : TextsAreCommands
texts_are_commands limits texts h f = lines_read limits texts (forms_of limits texts) (are_lines limits texts h f) f
