-- What a text is read as, by what a reader answers of it.
use Rattle.std.proofs.Common.{◌≡◌, ℕ, Bool, true, false, not, ◌&&◌, ◌||◌, ◌==◌, List, [], ◌∷◌, ◌++◌, Option, Some, None, Ok, Err, refl, sym, ap, subst, ◌∙◌}
use Rattle.std.specs.List.{list_any}
use Rattle.dk_model.specs.declared.code.Code.{Code}
use Rattle.dk_model.specs.declared.limits.Limits.{Limits}
use Rattle.dk_lexer.specs.declared.token.Token.{Token}
use Rattle.dk_lexer.specs.Tokens.{tokens, whole}
use Rattle.dk_parser.specs.FileReading.{Reading, Tail, read}
use Rattle.dk_parser.specs.FileReading as tail
use Rattle.dk_parser.specs.Modules.{is_directive}
use Rattle.dk_parser.specs.RawViews.{written_command, written_form}
use Rattle.dk_parser.specs.Written.{WrittenCommand, WrittenForm}
use Rattle.dk_parser.specs.declared.raw.Raw.{Raw}
use Rattle.one_lexer.specs.declared.lexer.Lexer.{Lexer}
use Rattle.one_lexer.specs.Lexers.{Knows}
use Rattle.one_lexer.proofs.Lexers.{knows_over}
use Rattle.file_reader.specs.declared.reader.Next.{Next}
use Rattle.file_reader.specs.declared.reader.Next.TheVariants as next
use Rattle.file_reader.specs.declared.reader.ReadEnd.{ReadEnd}
use Rattle.file_reader.specs.declared.reader.ReadEnd.TheVariants as end
use Rattle.file_reader.specs.declared.reader.Reader.{Reader}
use Rattle.file_reader.specs.Nexts.{raw_of}
use Rattle.file_reader.specs.Progress.{Answers, BeginsWith, IsBehind}
use Rattle.file_reader.proofs.Begins.{begins}
use Rattle.edit_session.specs.Reading.{IsOnlyCommand, IsReadAs}
use Rattle.edit_session.specs.Texts.{form_of, is_command_text, is_plain, is_qualified, only_form}
use Rattle.edit_session.proofs.Given.{BeginsSo, tokens_begin}

first_form : (c : WrittenCommand) (later : List WrittenCommand) (t : Tail) (form : WrittenForm) → only_form (c ∷ later) t ≡ Some form → form ≡ c.form
first_form c [] tail.whole form e = cc
first_form c [] (tail.fault line code) form e = absurd cc
first_form c [] tail.unread form e = absurd cc
first_form c (d ∷ ds) t form e = absurd cc

two_forms : (c d : WrittenCommand) (later : List WrittenCommand) (t : Tail) → only_form (c ∷ d ∷ later) t ≡ None
two_forms c d later t = refl

reading_form : (limits : Limits) (text : List ℕ) (commands : List WrittenCommand) (t : Tail) → read limits text whole ≡ (let r : Reading = record { commands = commands; tail = t } in r) → form_of limits text ≡ only_form commands t
reading_form limits text commands t e = ap (λ (r : Reading). only_form r.commands r.tail) e

none_some : {A : Type 0} {o : Option A} {a : A} {B : Type 0} → o ≡ None → o ≡ Some a → B
none_some p q = absurd (let e : None ≡ Some _ = sym p ∙ q in cc)

-- the first thing is a directive
pub directive_first : (limits : Limits) (text : List ℕ) (left : Option (List ℕ)) (r : Reader) (n : Next) (raw : Raw) → n ≡ next.Directive raw → Answers limits text [] left r (Ok n) → IsOnlyCommand (form_of limits text) None
directive_first limits text left r n raw is a = λ form e. let q : Answers limits text [] left r (Ok (next.Directive raw)) = subst (λ z. Answers limits text [] left r (Ok z)) is a in
    let b : BeginsWith limits text (written_command raw ∷ []) = begins limits text (written_command raw ∷ []) left r q.0 in
    ap is_directive (first_form (written_command raw) b.0 (read limits text whole).tail form (sym (ap (λ cs. only_form cs (read limits text whole).tail) b.1) ∙ e)) ∙ q.1

-- nothing is read
pub nothing_read : (limits : Limits) (text : List ℕ) (left : Option (List ℕ)) (r : Reader) (n : ReadEnd) → n ≡ end.Whole → Answers limits text [] left r (Err n) → IsOnlyCommand (form_of limits text) None
nothing_read limits text left r n is a = λ form e. none_some (reading_form limits text [] tail.whole (subst (λ z. Answers limits text [] left r (Err z)) is a)) e

pub fault_first : (limits : Limits) (text : List ℕ) (left : Option (List ℕ)) (r : Reader) (n : ReadEnd) (line : ℕ) (code : Code) → n ≡ end.Refused line code → Answers limits text [] left r (Err n) → IsOnlyCommand (form_of limits text) None
fault_first limits text left r n line code is a = λ form e. none_some (reading_form limits text [] (tail.fault line code) (subst (λ z. Answers limits text [] left r (Err z)) is a)) e

-- a second thing is read
pub second_read : (limits : Limits) (text : List ℕ) (c : WrittenCommand) (left : Option (List ℕ)) (r : Reader) (n : Next) → Answers limits text (c ∷ []) left r (Ok n) → IsOnlyCommand (form_of limits text) None
second_read limits text c left r n a = λ form e. let b : BeginsWith limits text (c ∷ written_command (raw_of n) ∷ []) = begins limits text (c ∷ written_command (raw_of n) ∷ []) left r a.0 in
    none_some (ap (λ cs. only_form cs (read limits text whole).tail) b.1) e

pub fault_second : (limits : Limits) (text : List ℕ) (c : WrittenCommand) (left : Option (List ℕ)) (r : Reader) (n : ReadEnd) (line : ℕ) (code : Code) → n ≡ end.Refused line code → Answers limits text (c ∷ []) left r (Err n) → IsOnlyCommand (form_of limits text) None
fault_second limits text c left r n line code is a = λ form e. none_some (reading_form limits text (c ∷ []) (tail.fault line code) (subst (λ z. Answers limits text (c ∷ []) left r (Err z)) is a)) e

-- a command, and no more
pub one_read : (limits : Limits) (text : List ℕ) (raw : Raw) (left : Option (List ℕ)) (r : Reader) (n : ReadEnd) → n ≡ end.Whole → Answers limits text (written_command raw ∷ []) left r (Err n) → is_directive (written_form raw.form) ≡ false → IsOnlyCommand (form_of limits text) (Some raw)
one_read limits text raw left r n is a e = (reading_form limits text (written_command raw ∷ []) tail.whole (subst (λ z. Answers limits text (written_command raw ∷ []) left r (Err z)) is a), e)

-- ---- texts

module _ (limits : Limits) (text : List ℕ) where
  abbrev lines : Bool
  lines = list_any (λ b. b == 10) text

  abbrev qualified : Bool
  qualified = list_any (λ (t : Token). is_qualified t.kind) (tokens limits text whole).tokens

  pub newline_in : lines ≡ true → is_command_text limits text ≡ false
  newline_in e = ap (λ b. not b && is_plain (tokens limits text whole).tokens (form_of limits text)) e

  and_false : (b : Bool) → (b && false) ≡ false
  and_false true = refl
  and_false false = refl

  plain_qualified : (o : Option WrittenForm) → qualified ≡ true → is_plain (tokens limits text whole).tokens o ≡ false
  plain_qualified None e = refl
  plain_qualified (Some form) e = ap (λ b. not (is_directive form) && not b) e ∙ and_false (not (is_directive form))

  pub qualified_in : qualified ≡ true → is_command_text limits text ≡ false
  qualified_in e = ap (λ b. not lines && b) (plain_qualified (form_of limits text) e) ∙ and_false (not lines)

  no_plain : (o : Option WrittenForm) → IsOnlyCommand o None → is_plain (tokens limits text whole).tokens o ≡ false
  no_plain None h = refl
  no_plain (Some form) h = ap (λ b. not b && not qualified) (h form refl)

  pub read_as : (o : Option Raw) → lines ≡ false → qualified ≡ false → IsOnlyCommand (form_of limits text) o → IsReadAs limits text o
  read_as None l q h = ap (λ b. not lines && b) (no_plain (form_of limits text) h) ∙ and_false (not lines)
  read_as (Some raw) l q h = ((λ i. not (l i) && is_plain (tokens limits text whole).tokens (h.0 i)) ∙ (λ i. not (h.1 i) && not (q i)), h.0)

-- ---- the tokens of a text

abbrev pub any_is_qualified : List Token → Bool
any_is_qualified ts = list_any (λ (t : Token). is_qualified t.kind) ts

or_assoc : (a b c : Bool) → (a || (b || c)) ≡ ((a || b) || c)
or_assoc true b c = refl
or_assoc false b c = refl

any_either : (ts us : List Token) → any_is_qualified (ts ++ us) ≡ (any_is_qualified ts || any_is_qualified us)
any_either [] us = refl
any_either (t ∷ ts) us = ap (λ b. is_qualified t.kind || b) (any_either ts us) ∙ or_assoc (is_qualified t.kind) (any_is_qualified ts) (any_is_qualified us)

any_last : (ts : List Token) (t : Token) (b : Bool) → any_is_qualified ts ≡ false → is_qualified t.kind ≡ b → any_is_qualified (ts ++ t ∷ []) ≡ (b || false)
any_last ts t b none is = any_either ts (t ∷ []) ∙ (λ i. none i || (is i || false))

-- no token before the rest of the text is a qualified name
pub record Looked (limits : Limits) (text rest : List ℕ) (lexer : Lexer) : Type 0 where
  pub ts : List Token
  pub knows : Knows true text ts rest lexer
  pub limits_are : lexer.limits ≡ limits
  pub none : any_is_qualified ts ≡ false

pub looked_none : (limits : Limits) (text : List ℕ) (lexer : Lexer) → Knows false text [] text lexer → lexer.limits ≡ limits → Looked limits text text lexer
looked_none limits text lexer k l = record { ts = []; knows = knows_over text text [] lexer k; limits_are = l; none = refl }

pub looked_more : {limits : Limits} {text rest left : List ℕ} {lexer : Lexer} (new : Lexer) (t : Token) (h : Looked limits text rest lexer) → Knows true text (h.ts ++ t ∷ []) left new → new.limits ≡ lexer.limits → is_qualified t.kind ≡ false
    → Looked limits text left new
looked_more new t h k l is = record { ts = h.ts ++ t ∷ []; knows = k; limits_are = l ∙ h.limits_are; none = any_last h.ts t false h.none is }

-- one is
pub looked_found : {limits : Limits} {text rest : List ℕ} {lexer : Lexer} (left : List ℕ) (new : Lexer) (t : Token) (h : Looked limits text rest lexer) → Knows true text (h.ts ++ t ∷ []) left new → new.limits ≡ lexer.limits → is_qualified t.kind ≡ true
    → true ≡ any_is_qualified (tokens limits text whole).tokens
looked_found {limits} {text} left new t h k l is =
    let front : BeginsSo (tokens new.limits text whole).tokens (h.ts ++ t ∷ []) = tokens_begin text left (h.ts ++ t ∷ []) new k in
    sym (ap (λ (z : Limits). any_is_qualified (tokens z text whole).tokens) (sym (l ∙ h.limits_are)) ∙ ap any_is_qualified front.all_are ∙ any_either (h.ts ++ t ∷ []) front.later
    ∙ ap (λ b. b || any_is_qualified front.later) (any_last h.ts t true h.none is))

-- none is, up to the end or a fault
pub looked_all : {limits : Limits} {text rest : List ℕ} {lexer : Lexer} (new : Lexer) (h : Looked limits text rest lexer) → new.limits ≡ lexer.limits → (tokens new.limits text whole).tokens ≡ h.ts → false ≡ any_is_qualified (tokens limits text whole).tokens
looked_all {text} new h l e = sym (ap (λ (z : Limits). any_is_qualified (tokens z text whole).tokens) (sym (l ∙ h.limits_are)) ∙ ap any_is_qualified e ∙ h.none)

-- ---- a shelf with a text

-- the reader of the text is at its beginning
pub behind_none : (limits : Limits) (text left : List ℕ) (r : Reader) → left ≡ text → IsBehind limits text [] (Some text) r → IsBehind limits text [] (Some left) r
behind_none limits text left r e b = subst (λ z. IsBehind limits text [] (Some z) r) (sym e) b

-- behind the first command
pub behind_one : (limits : Limits) (text : List ℕ) (left : Option (List ℕ)) (r : Reader) (n : Next) (raw : Raw) → n ≡ next.Command raw → Answers limits text [] left r (Ok n)
    → IsBehind limits text (written_command raw ∷ []) left r × (is_directive (written_form raw.form) ≡ false)
behind_one limits text left r n raw e a = let b : Answers limits text [] left r (Ok (next.Command raw)) = subst (λ z. Answers limits text [] left r (Ok z)) e a in (b.0, b.1)
