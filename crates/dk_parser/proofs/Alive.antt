-- From each part of a command some terminals lead to its end.
use Rattle.std.proofs.Common.{◌≡◌, ℕ, List, [], ◌∷◌, refl, ap, ◌∙◌}
use Rattle.std.specs.Prelude.{Option, Some, None, true, codes, if◌then◌else◌}
use Rattle.dk_lexer.specs.Classes.{class_of}
use Rattle.dk_lexer.specs.Spelling.{is_plain_name}
use Rattle.dk_model.specs.declared.signature.SymSort.{SymSort}
use Rattle.dk_model.specs.declared.signature.SymSort.TheVariants.{Static, Theorem}
use Rattle.dk_lexer.specs.declared.token.Sign.{Sign}
use Rattle.dk_lexer.specs.declared.token.Sign.TheVariants as sign
use Rattle.dk_terms.specs.declared.terminal.Terminal.{Terminal}
use Rattle.dk_terms.specs.declared.terminal.Terminal.TheVariants as terminal
use Rattle.dk_terms.specs.Parsing.{at_front, asked, domain, Application, reading, bindable, bracketed, Frame, bracket_frame, wrapping, binder_term, applied_to, ended, end_next, PatternFrame, pattern_bracket, pattern_wrapping, LeftApplication, pattern_reading, pattern_bindable, LeftSoFar, left_ended, binder_pattern, left_read, pattern_applied_to, end_left}
use Rattle.dk_parser.specs.Written.{Written, written_star, written_product, WrittenParam, WrittenPattern, pattern_wild, pattern_guard, WrittenForm}
use Rattle.dk_parser.specs.Grammar.{colon, dot, arrow, open_square, close_square, close_brace}
use Rattle.dk_parser.specs.Parsing.{Head, with_param, RuleHead, with_entry, Purpose, as_param, as_type, as_entry, as_guard, as_asked, as_query, asking_alike, CommandSoFar, command_due, name_due, head_due, binder_due, binder_colon_due, rule_name_due, rule_brace_due, square_due, context_due, entry_due, entry_named, in_left, in_term, module_due, dot_due, in_term_by, in_left_by, in_left_next, Advance, goes, ends, refuses, advanced}
use Rattle.dk_parser.proofs.Complete as machine
use Rattle.dk_parser.proofs.Complete.{run_by, run, Enders, at, head_of}

-- a command ends behind this step and some terminals
pub record AliveBy (a : Advance) : Type 0 where
  pub rest : List Terminal
  pub form : WrittenForm
  pub runs : run_by a (λ q. run q rest) rest ≡ machine.ended form []

abbrev pub Alive : CommandSoFar → Type 0
Alive p = AliveBy (goes p)

whole : {form : WrittenForm} → AliveBy (ends form)
whole {form} = record { rest = []; form = form; runs = refl }

-- with a terminal before them
before : {p : CommandSoFar} {a : Advance} (x : Terminal) → advanced p x ≡ a → AliveBy a → Alive p
before x e t = record { rest = x ∷ t.rest; form = t.form; runs = ap (λ (a : Advance). run_by a (λ q. run q t.rest) t.rest) e ∙ t.runs }

-- one of these signs, and terminals behind it, end a command
record EndsBy (Takes : Sign → Type 0) (step : Sign → Advance) : Type 0 where
  pub next : Sign
  pub takes : Takes next
  pub alive : AliveBy (step next)

-- Left sides

module _ (h : RuleHead) where
  abbrev left_at : List PatternFrame → LeftApplication → CommandSoFar
  left_at fs s = in_left h (record { frames = fs; application = s })

  -- a sign that ends an application of patterns
  abbrev LeftEnders : Sign → Type 0
  LeftEnders s = (part : LeftSoFar) → in_left_next h part (terminal.Sign s) ≡ in_left_by h (end_left part.frames (left_read part.application) s)

  left_read_alive : (fs : List PatternFrame) (t : LeftApplication) → EndsBy LeftEnders (λ s. in_left_by h (end_left fs (left_read t) s)) → Alive (left_at fs t)
  left_read_alive fs t k = before (terminal.Sign k.next) (k.takes (record { frames = fs; application = t })) k.alive

  -- a pattern in its frames
  left_ends_at : (fs : List PatternFrame) (p : WrittenPattern) → EndsBy LeftEnders (λ s. in_left_by h (left_ended fs p s))
  left_ends_at [] p = record { next = sign.LongArrow; takes = λ part. refl; alive = before terminal.Star refl (before dot refl whole) }
  left_ends_at (pattern_wrapping g ∷ fs) p = left_ends_at fs (g p)
  left_ends_at (pattern_bracket o ∷ fs) p =
      let q = pattern_applied_to o p in
      record { next = sign.CloseBracket; takes = λ part. refl; alive = left_read_alive fs (pattern_reading (Some q)) (left_ends_at fs q) }

  left_alive : (fs : List PatternFrame) (t : LeftApplication) → Alive (left_at fs t)
  left_alive fs (pattern_reading (Some p)) = left_read_alive fs (pattern_reading (Some p)) (left_ends_at fs p)
  left_alive fs (pattern_bindable v) = left_read_alive fs (pattern_bindable v) (left_ends_at fs (binder_pattern v))
  left_alive fs (pattern_reading None) = before terminal.Wildcard refl (left_read_alive fs (pattern_bindable None) (left_ends_at fs pattern_wild))

-- Terms

-- a term in its frames
abbrev EndsAt : Purpose → List Frame → Written → Type 0
EndsAt purpose fs a = EndsBy Enders (λ s. in_term_by purpose (ended fs a s))

read_alive : (purpose : Purpose) (fs : List Frame) (t : Application) → EndsBy Enders (λ s. in_term_by purpose (end_next fs t s)) → Alive (at purpose fs t)
read_alive purpose fs t k = before (terminal.Sign k.next) (ap (in_term_by purpose) (k.takes (record { frames = fs; application = t }))) k.alive

due_by : (purpose : Purpose) (fs : List Frame) → EndsAt purpose fs written_star → Alive (at purpose fs (reading at_front None))
due_by purpose fs k = before terminal.Star refl (read_alive purpose fs (reading at_front (Some written_star)) k)

type_ends_at : (s : SymSort) (n : List ℕ) (ps : List WrittenParam) (a : Written) → EndsAt (as_type (head_of s n ps)) [] a
type_ends_at Theorem n ps a = record { next = sign.Defined; takes = λ p. refl; alive = before terminal.Star refl (before dot refl whole) }
type_ends_at s n ps a = record { next = sign.Dot; takes = λ p. refl; alive = whole }

head_alive : (h : Head) → Alive (head_due h)
head_alive h = before colon refl (due_by (as_type h) [] (type_ends_at h.sort h.name h.params written_star))

term_ends_at : (purpose : Purpose) (fs : List Frame) (a : Written) → EndsAt purpose fs a
term_ends_at purpose (wrapping g ∷ fs) a = term_ends_at purpose fs (g a)
term_ends_at purpose (bracket_frame at_front o ∷ fs) a =
    let b = applied_to o a in
    record { next = sign.CloseBracket; takes = λ p. refl; alive = read_alive purpose fs (reading at_front (Some b)) (term_ends_at purpose fs b) }
term_ends_at purpose (bracket_frame asked o ∷ fs) a =
    let b = applied_to o a in
    record { next = sign.CloseBracket; takes = λ p. refl; alive = read_alive purpose fs (reading asked (Some b)) (term_ends_at purpose fs b) }
term_ends_at purpose (bracket_frame (domain v) o ∷ fs) a =
    let k = term_ends_at purpose fs (written_product v (applied_to o a) written_star) in
    record { next = sign.CloseBracket; takes = λ p. refl; alive = before arrow refl (due_by purpose (wrapping (λ b. written_product v (applied_to o a) b) ∷ fs) k) }
term_ends_at (as_param h v) [] a = record { next = sign.CloseBracket; takes = λ p. refl; alive = head_alive (with_param h v a) }
term_ends_at (as_type h) [] a = type_ends_at h.sort h.name h.params a
term_ends_at (as_entry h n) [] a = record { next = sign.CloseSquare; takes = λ p. refl; alive = left_alive (with_entry h n (Some a)) [] (pattern_reading None) }
term_ends_at (as_guard h part) [] a = record { next = sign.CloseBrace; takes = λ p. refl; alive = left_alive h part.frames (pattern_reading (Some (pattern_applied_to (left_read part.application) (pattern_guard a)))) }
term_ends_at (as_asked d) [] a = record { next = sign.Equal; takes = λ p. refl; alive = due_by (as_query (asking_alike d a)) [] (record { next = sign.Dot; takes = λ p. refl; alive = whole }) }
term_ends_at purpose [] a = record { next = sign.Dot; takes = λ p. refl; alive = whole }

due_alive : (purpose : Purpose) (fs : List Frame) → Alive (at purpose fs (reading at_front None))
due_alive purpose fs = due_by purpose fs (term_ends_at purpose fs written_star)

domain_alive : (purpose : Purpose) (fs : List Frame) (v : Option (List ℕ)) (a : Written) → Alive (at purpose (wrapping (λ b. written_product v a b) ∷ fs) (reading at_front None))
domain_alive purpose fs v a = due_alive purpose (wrapping (λ b. written_product v a b) ∷ fs)

term_alive : (purpose : Purpose) (fs : List Frame) (s : Application) → Alive (at purpose fs s)
term_alive purpose fs (reading at_front None) = due_alive purpose fs
term_alive purpose fs (reading at_front (Some a)) = read_alive purpose fs (reading at_front (Some a)) (term_ends_at purpose fs a)
term_alive purpose fs (reading asked None) = before terminal.Star refl (read_alive purpose fs (reading asked (Some written_star)) (term_ends_at purpose fs written_star))
term_alive purpose fs (reading asked (Some a)) = read_alive purpose fs (reading asked (Some a)) (term_ends_at purpose fs a)
term_alive purpose fs (bindable v) = read_alive purpose fs (bindable v) (term_ends_at purpose fs (binder_term v))
term_alive purpose fs (reading (domain v) None) = before terminal.Star refl (before arrow refl (domain_alive purpose fs v written_star))
term_alive purpose fs (reading (domain v) (Some a)) = before arrow refl (domain_alive purpose fs v a)
term_alive purpose fs (bracketed v a) = before arrow refl (domain_alive purpose fs v a)

-- Commands

square_alive : (h : RuleHead) → Alive (square_due h)
square_alive h = before open_square refl (before close_square refl (left_alive h [] (pattern_reading None)))

named_alive : (h : RuleHead) (n : List ℕ) → Alive (entry_named h n)
named_alive h n = before close_square refl (left_alive (with_entry h n None) [] (pattern_reading None))

plain_m : is_plain_name (codes "m") ≡ true
unfolding class_of
plain_m = refl

pub alive : (p : CommandSoFar) → Alive p
alive command_due = before (terminal.Name []) refl (head_alive (head_of Static [] []))
alive (name_due s) = before (terminal.Name []) refl (head_alive (head_of s [] []))
alive (head_due h) = head_alive h
alive (binder_due h) = before terminal.Wildcard refl (before colon refl (due_alive (as_param h None) []))
alive (binder_colon_due h v) = before colon refl (due_alive (as_param h v) [])
alive (rule_name_due h) = before (terminal.Name []) refl (before close_brace refl (square_alive h))
alive (rule_brace_due h) = before close_brace refl (square_alive h)
alive (square_due h) = square_alive h
alive (context_due h) = before close_square refl (left_alive h [] (pattern_reading None))
alive (entry_due h) = before (terminal.Name []) refl (named_alive h [])
alive (entry_named h n) = named_alive h n
alive (module_due d) = before (terminal.Name (codes "m")) (ap (λ b. if b then goes (dot_due d (codes "m")) else refuses) plain_m) (before dot refl whole)
alive (dot_due d m) = before dot refl whole
alive (in_left h part) = left_alive h part.frames part.application
alive (in_term purpose p) = term_alive purpose p.frames p.application
