-- Bytes that are read without a fault, to their end: what stands at the first of them, within its bound, and what they give.
use Rattle.std.proofs.Common.{ℕ, suc, ◌+◌, ◌≡◌, ◌≤◌, Bool, true, false, nat_le, nat_lt, List, [], ◌∷◌, ◌++◌, length, length-append, Option, Some, None, if◌then◌else◌, ◌==◌, refl, ap, sym, subst, ◌∙◌, arith}
use Rattle.std.proofs.lemmas.Bool.{eqb-true}
use Rattle.std.proofs.lemmas.Bool.Decides.{nat_tests}
use Rattle.dk_model.specs.declared.code.Code.{Code}
use Rattle.dk_model.specs.declared.code.Code.TheVariants.{E03, E07}
use Rattle.dk_model.specs.declared.limits.Limits.{Limits}
use Rattle.dk_lexer.specs.declared.token.Token.{Token}
use Rattle.dk_lexer.specs.declared.token.TokenKind.{TokenKind}
use Rattle.dk_lexer.specs.declared.token.TokenKind.TheVariants as kind
use Rattle.dk_lexer.specs.declared.token.Sign.TheVariants as sign
use Rattle.dk_lexer.specs.declared.class.Class.{Class}
use Rattle.dk_lexer.specs.declared.class.Class.TheVariants as class
use Rattle.dk_lexer.specs.declared.place.Place.{Place}
use Rattle.dk_lexer.specs.Classes.{class_of}
use Rattle.dk_lexer.specs.Spelling.{Spelling, blank, token, run_and_dot, wrong, comment_open, unsettled, late, kind_of, spelled, spelled_by}
use Rattle.dk_lexer.specs.Tokens.{Ending, whole, Lexed, Bound, Setting, at_end, begin_of as first_of, behind, bound, by_bound, command_after, command_limit, dot_at, fault_at, gives, input_limit, late_bound, nearer, nothing_at, outcome, token_at, tokens_from, within}
use Rattle.dk_lexer.proofs.Bounds.{nearer_command, nearer_input}
use Rattle.dk_lexer.proofs.Outcomes.{begins}
use Rattle.one_lexer.specs.Places.{place_behind}
use Rattle.one_lexer.specs.Reading.{adds, last_of, setting_at}
use Rattle.one_lexer.proofs.Places.{cut_parts, Parts}
use Rattle.one_lexer.proofs.Reading.{skip_all}
use Rattle.one_lexer.proofs.Shapes.{Kind, Tight, front_kind, passes, stands}
use Rattle.text_law.specs.Cutting.{begin_of, end_of}
use Rattle.text_law.proofs.Dots.{keeps_open, kind_open}
use Rattle.text_law.proofs.Firsts.{EndsAtDot}
use Rattle.text_law.proofs.Gives.{read_from, given_at, command_at, Within, PartWithin, dot_read, run_read}
use Rattle.text_law.proofs.Onward.{Part, passed, spelt, as_spelling, AtMost, blank_most}
use Rattle.text_law.proofs.Runs.{EndsDot, RunDot, run_dot}
use Rattle.text_law.proofs.Stands.{core, InLate, Waits, IsSure, sure, IsToken, no_dot, is_dot, token_kind}

-- ---- no fault of a bound

record IsBelow (t : Bool) (x : Lexed) : Type 0 where
  pub test : t ≡ true
  pub no_fault : x.fault ≡ None

below : (here : Place) (code : Code) (t : Bool) (x : Lexed) → (by_bound here code t x).fault ≡ None → IsBelow t x
below here code true x h = record { test = refl; no_fault = h }
below here code false x h = absurd cc

below_is : (here : Place) (code : Code) (t : Bool) (x : Lexed) → t ≡ true → by_bound here code t x ≡ x
below_is here code t x h = ap (λ (b : Bool). by_bound here code b x) h

le_of : (a b : ℕ) → nat_le a b ≡ true → a ≤ b
le_of a b h = grind (arith, nat_tests, h)

-- a bound of a command is one of the input too
record IsBound (s : Setting) (begin : ℕ) (bd : Bound) : Type 0 where
  pub command : bd.last ≤ begin + command_limit s.limits
  pub input : bd.last ≤ input_limit s.limits

bound_is : (s : Setting) (begin : ℕ) → IsBound s begin (bound s.limits (Some begin))
unfolding bound
bound_is s begin =
    let c : ℕ = begin + command_limit s.limits in
    let i : ℕ = input_limit s.limits in
    record { command = nearer_command c i (nearer c i).last (omega arith); input = nearer_input c i (nearer c i).last (omega arith) }

-- ---- what they give

-- this is spelt within its bound, and gives that
pub data Met (s : Setting) (begin : ℕ) (more : Option ℕ → ℕ → Lexed) (y : Lexed) : Spelling → Type 0 where
  met_blank : (left : ℕ) → s.total ≤ (bound s.limits s.command).last + left → y ≡ more s.command left → Met s begin more y (blank left)
  met_token : (k : TokenKind) (text : List ℕ) (left : ℕ) → Within s.limits s.total begin left
      → y ≡ gives (token_at s.here k text) (more (command_after k begin) left) → Met s begin more y (token k text left)
  met_run : (text : List ℕ) (left : ℕ) → Within s.limits s.total begin left
      → y ≡ gives (token_at s.here (kind_of text) text) (gives (dot_at s.here text) (more None left)) → Met s begin more y (run_and_dot text left)

whole_is : (e : Ending) (x y : Lexed) → e ≡ whole → at_end e x y ≡ x
whole_is e x y h = ap (λ (z : Ending). at_end z x y) h

module _ (s : Setting) (begin : ℕ) (more : Option ℕ → ℕ → Lexed) (ended : s.ending ≡ whole) where
  abbrev MeetsAt : Bound → Spelling → Type 0
  MeetsAt bd x = (outcome s begin bd x more).fault ≡ None → Met s begin more (outcome s begin bd x more) (core x)

  ends_meet : (bd : Bound) (x : Spelling) → MeetsAt bd x → MeetsAt bd (unsettled x)
  ends_meet bd x meets h =
      let same : outcome s begin bd (unsettled x) more ≡ outcome s begin bd x more = whole_is s.ending (outcome s begin bd x more) (within s bd 0 (nothing_at s.here)) ended in
      subst (λ (y : Lexed). Met s begin more y (core x)) (sym same) (meets (sym (ap (λ (y : Lexed). y.fault) same) ∙ h))

  wrong_meets : (bd : Bound) (code : Code) (left : ℕ) → MeetsAt bd (wrong code left)
  wrong_meets bd code left h = let q : Some code ≡ None = (below s.here bd.code (nat_le s.total (bd.last + left)) (fault_at s.here code) h).no_fault in absurd cc

  token_meets : (bd : Bound) (k : TokenKind) (text : List ℕ) (left : ℕ) → (s.total ≤ bd.last + left → Within s.limits s.total begin left) → MeetsAt bd (token k text left)
  token_meets bd k text left fits h =
      let x : Lexed = gives (token_at s.here k text) (more (command_after k begin) left) in
      let b : IsBelow (nat_le s.total (bd.last + left)) x = below s.here bd.code (nat_le s.total (bd.last + left)) x h in
      met_token k text left (fits (le_of s.total (bd.last + left) b.test)) (below_is s.here bd.code (nat_le s.total (bd.last + left)) x b.test)

  run_meets : (bd : Bound) (text : List ℕ) (left : ℕ) → (s.total ≤ bd.last + left → Within s.limits s.total begin left) → MeetsAt bd (run_and_dot text left)
  run_meets bd text left fits h =
      let x : Lexed = gives (token_at s.here (kind_of text) text) (gives (dot_at s.here text) (more None left)) in
      let b : IsBelow (nat_le s.total (bd.last + left)) x = below s.here bd.code (nat_le s.total (bd.last + left)) x h in
      met_run text left (fits (le_of s.total (bd.last + left) b.test)) (below_is s.here bd.code (nat_le s.total (bd.last + left)) x b.test)

  -- the bound behind a brace is one byte farther where that of the command falls on it
  late_by : (t : Bool) (c total left m : ℕ) → (c + m == total) ≡ t → left + 2 ≤ m → total ≤ (if t then c + 1 else c) + left → total ≤ c + left
  late_by true c total left m e lt h = let same : c + m ≡ total = eqb-true (c + m) total e in absurd (omega arith)
  late_by false c total left m e lt h = h

  late_fits : (m left : ℕ) → left + 2 ≤ m → s.total ≤ (late_bound s begin m).last + left → Within s.limits s.total begin left
  late_fits m left lt h =
      let c : ℕ = begin + command_limit s.limits in
      let o : ℕ = (late_bound s begin m).last in
      let command : o ≤ (if c + m == s.total then c + 1 else c) = nearer_command (if c + m == s.total then c + 1 else c) (input_limit s.limits) o (omega arith) in
      let input : o ≤ input_limit s.limits = nearer_input (if c + m == s.total then c + 1 else c) (input_limit s.limits) o (omega arith) in
      (late_by (c + m == s.total) c s.total left m refl lt (omega arith), omega arith)

  late_run : (m left : ℕ) → m ≡ left → s.total ≤ begin + command_limit s.limits + m → s.total ≤ (late_bound s begin m).last + left → Within s.limits s.total begin left
  late_run m left e le h =
      let c : ℕ = begin + command_limit s.limits in
      let o : ℕ = (late_bound s begin m).last in
      let input : o ≤ input_limit s.limits = nearer_input (if c + m == s.total then c + 1 else c) (input_limit s.limits) o (omega arith) in
      (omega arith, omega arith)

  late_meets : (m : ℕ) (x : Spelling) → InLate m x → s.total ≤ begin + command_limit s.limits + m → MeetsAt (late_bound s begin m) x
  late_meets m (token k text left) i le = token_meets (late_bound s begin m) k text left (late_fits m left i.0)
  late_meets m (run_and_dot text left) i le = run_meets (late_bound s begin m) text left (late_run m left i.0 le)
  late_meets m (wrong code left) i le = wrong_meets (late_bound s begin m) code left
  late_meets m (unsettled x) i le = ends_meet (late_bound s begin m) x (late_meets m x i le)
  late_meets m _ i le = absurd i

  brace_meets : (bd : Bound) (m : ℕ) (x : Spelling) → IsBound s begin bd → InLate m x → MeetsAt bd (late m x)
  brace_meets bd m x is i h =
      let y : Lexed = outcome s begin (late_bound s begin m) x more in
      let z : Lexed = by_bound s.here E07 (nat_lt s.total (input_limit s.limits + m)) y in
      let command : bd.last ≤ begin + command_limit s.limits = is.command in
      let b : IsBelow (nat_le s.total (bd.last + m)) z = below s.here bd.code (nat_le s.total (bd.last + m)) z h in
      let le : s.total ≤ bd.last + m = le_of s.total (bd.last + m) b.test in
      let c : IsBelow (nat_lt s.total (input_limit s.limits + m)) y = below s.here E07 (nat_lt s.total (input_limit s.limits + m)) y b.no_fault in
      let same : outcome s begin bd (late m x) more ≡ y = below_is s.here bd.code (nat_le s.total (bd.last + m)) z b.test ∙ below_is s.here E07 (nat_lt s.total (input_limit s.limits + m)) y c.test in
      subst (λ (w : Lexed). Met s begin more w (core x)) (sym same) (late_meets m x i (omega arith) c.no_fault)

  bound_meets : (bd : Bound) (left : ℕ) → IsBound s begin bd → s.total ≤ bd.last + left → Within s.limits s.total begin left
  bound_meets bd left is h = let command : bd.last ≤ begin + command_limit s.limits = is.command in let input : bd.last ≤ input_limit s.limits = is.input in (omega arith, omega arith)

  waits_meet : (bd : Bound) (x : Spelling) → IsBound s begin bd → Waits x → MeetsAt bd x
  waits_meet bd (token k text left) is i = token_meets bd k text left (bound_meets bd left is)
  waits_meet bd (run_and_dot text left) is i = run_meets bd text left (bound_meets bd left is)
  waits_meet bd (wrong code left) is i = wrong_meets bd code left
  waits_meet bd _ is i = absurd i

  blank_meets : (bd : Bound) (left : ℕ) → MeetsAt bd (blank left)
  blank_meets bd left h =
      let d : Bound = bound s.limits s.command in
      let b : IsBelow (nat_le s.total (d.last + left)) (more s.command left) = below s.here d.code (nat_le s.total (d.last + left)) (more s.command left) h in
      met_blank left (le_of s.total (d.last + left) b.test) (below_is s.here d.code (nat_le s.total (d.last + left)) (more s.command left) b.test)

  comment_meets : (bd : Bound) → MeetsAt bd comment_open
  comment_meets bd h =
      let d : Bound = bound s.limits s.command in
      let y : Lexed = at_end s.ending (fault_at s.here E03) (nothing_at s.here) in
      let b : IsBelow (nat_le s.total (d.last + 0)) y = below s.here d.code (nat_le s.total (d.last + 0)) y h in
      let q : Some E03 ≡ None = ap (λ (e : Ending). (at_end e (fault_at s.here E03) (nothing_at s.here)).fault) (sym ended) ∙ b.no_fault in
      absurd cc

  meets : (bd : Bound) (x : Spelling) → IsBound s begin bd → IsSure x → MeetsAt bd x
  meets bd (token k text left) is i = token_meets bd k text left (bound_meets bd left is)
  meets bd (run_and_dot text left) is i = run_meets bd text left (bound_meets bd left is)
  meets bd (wrong code left) is i = wrong_meets bd code left
  meets bd (unsettled x) is i = ends_meet bd x (waits_meet bd x is i)
  meets bd (late m x) is i = brace_meets bd m x is i
  meets bd (blank left) is i = blank_meets bd left
  meets bd comment_open is i = comment_meets bd

-- ---- how much it leaves

tight_most : (n : ℕ) (x : Spelling) → Tight n x → AtMost n (core x)
tight_most n (token k text left) h = h
tight_most n (run_and_dot text left) h = tt
tight_most n (wrong code left) h = tt
tight_most n (unsettled x) h = tight_most n x h
tight_most n (late m x) h = tight_most n x h.1
tight_most n _ h = absurd h

kind_most : (n : ℕ) (x : Spelling) → Kind n x → AtMost n (core x)
kind_most n x (passes h) = blank_most n x h
kind_most n x (stands h) = tight_most n x h

-- ---- what is found at the first byte

abbrev pub IsNoDot : Part → Type 0
IsNoDot passed = Unit {0}
IsNoDot (spelt k text) = keeps_open k ≡ true

-- these bytes give the last tokens of a command, up to its dot, before anything that leaves the dot a sign
pub record Closes (limits : Limits) (total : ℕ) (here : Place) (command : Option ℕ) (b : ℕ) (front rest : List ℕ) (y : Lexed) : Type 0 where
  pub tokens : List Token
  pub dot : EndsAtDot tokens
  pub begins : begin_of tokens ≡ here.offset
  pub ends : end_of tokens ≡ here.offset + suc (length front)
  pub input : total ≤ input_limit limits + length rest
  pub is : y ≡ adds tokens (read_from limits whole total (place_behind here (b ∷ front)) None rest)
  pub onward : (r : List ℕ) (e : Ending) (all : ℕ) → EndsDot r → all ≡ here.offset + suc (length front + length r)
      → read_from limits e all here command (b ∷ (front ++ r)) ≡ adds tokens (read_from limits e all (place_behind here (b ∷ front)) None r)

-- a blank or a token that is no dot; or a dot, or a run with the dot behind it; what is left gives the rest
pub data Found (limits : Limits) (total : ℕ) (here : Place) (command : Option ℕ) (b : ℕ) (bs : List ℕ) (y : Lexed) : Type 0 where
  found_part : (p : Part) (front rest : List ℕ) → bs ≡ front ++ rest → core (spelled limits.name_bytes b bs) ≡ as_spelling p (length rest) → IsNoDot p → PartWithin limits total here command p (length rest)
      → y ≡ adds (given_at here p) (read_from limits whole total (place_behind here (b ∷ front)) (command_at here command p) rest) → Found limits total here command b bs y
  found_end : (front rest : List ℕ) → bs ≡ front ++ rest → Closes limits total here command b front rest y → Found limits total here command b bs y

passed_over : (limits : Limits) (e : Ending) (total : ℕ) (here : Place) (command : Option ℕ) (left b : ℕ) (bs front rest : List ℕ) → bs ≡ front ++ rest → left ≡ length rest
    → tokens_from limits e total (behind here b) command left bs ≡ read_from limits e total (place_behind here (b ∷ front)) command rest
passed_over limits e total here command left b bs front rest split is =
    (λ i. tokens_from limits e total (behind here b) command (is i) (split i)) ∙ skip_all limits e total (behind here b) command (length rest) front rest (omega arith)

module _ (limits : Limits) (total : ℕ) (here : Place) (command : Option ℕ) (b : ℕ) (bs : List ℕ) (size : total ≡ here.offset + suc (length bs)) where
  abbrev there : Setting
  there = setting_at limits whole total here command

  abbrev begin : ℕ
  begin = first_of command here.offset

  abbrev more : Option ℕ → ℕ → Lexed
  more c left = tokens_from limits whole total (behind here b) c left bs

  part_found : (y : Lexed) (p : Part) (left : ℕ) → core (spelled limits.name_bytes b bs) ≡ as_spelling p left → left ≤ length bs → IsNoDot p → PartWithin limits total here command p left → y ≡ adds (given_at here p) (more (command_at here command p) left)
      → Found limits total here command b bs y
  part_found y p left e le kept f h =
      let k : Parts b bs left = cut_parts b bs left (omega arith) in
      let rest : List ℕ = last_of left (b ∷ bs) in
      let n : left ≡ length rest = sym k.left_is in
      found_part p k.front rest k.whole (e ∙ ap (as_spelling p) n) kept (subst (PartWithin limits total here command p) n f)
      (h ∙ ap (adds (given_at here p)) (passed_over limits whole total here (command_at here command p) left b bs k.front rest k.whole n))

  dot_found : (y : Lexed) (k : TokenKind) (text : List ℕ) (left : ℕ) → class_of b ≡ class.Dot → token (kind.Sign sign.Dot) [] (length bs) ≡ token k text left → Within limits total begin left
      → y ≡ adds (token_at here k text ∷ []) (more (command_after k begin) left) → Found limits total here command b bs y
  dot_found y k text left is e f h =
      let n : length bs ≡ left = cc in
      let c : total ≤ begin + command_limit limits + left = f.0 in
      let i : total ≤ input_limit limits + left = f.1 in
      let same : adds (token_at here (kind.Sign sign.Dot) [] ∷ []) (more None (length bs)) ≡ adds (token_at here k text ∷ []) (more (command_after k begin) left) =
      ap (λ (x : Spelling). elim x [ token k text left ↦ adds (token_at here k text ∷ []) (more (command_after k begin) left) | _ ↦ nothing_at here ]) e in
      found_end [] bs refl (record {
        tokens = token_at here (kind.Sign sign.Dot) [] ∷ [];
        dot = record { front = []; last = token_at here (kind.Sign sign.Dot) []; are_open = tt; is_dot = refl; ends_so = refl };
        begins = refl;
        ends = refl;
        input = omega arith;
        is = h ∙ sym same;
        onward = λ r e' all dots all_is. dot_read limits e' all here command b r is (omega arith, omega arith);
      })

  run_found : (y : Lexed) (text : List ℕ) (left : ℕ) → core (spelled limits.name_bytes b bs) ≡ run_and_dot text left → Within limits total begin left
      → y ≡ adds (token_at here (kind_of text) text ∷ dot_at here text ∷ []) (more None left) → Found limits total here command b bs y
  run_found y text left e f h =
      let p : RunDot limits.name_bytes b bs text left = run_dot limits.name_bytes b bs text left e in
      let front : List ℕ = p.run ++ 46 ∷ [] in
      let n : left ≡ length p.more = p.left_is in
      let m : length bs ≡ length front + length p.more = ap length p.bytes_are ∙ length-append front p.more in
      let k : length front ≡ length p.run + 1 = length-append p.run (46 ∷ []) in
      let l : length text ≡ suc (length p.run) = ap length p.text_is in
      let c : total ≤ begin + command_limit limits + left = f.0 in
      let i : total ≤ input_limit limits + left = f.1 in
      found_end front p.more p.bytes_are (record {
        tokens = token_at here (kind_of text) text ∷ dot_at here text ∷ [];
        dot = record { front = token_at here (kind_of text) text ∷ []; last = dot_at here text; are_open = (kind_open text, tt); is_dot = refl; ends_so = refl };
        begins = refl;
        ends = omega arith;
        input = omega arith;
        is = h ∙ ap (adds (token_at here (kind_of text) text ∷ dot_at here text ∷ [])) (passed_over limits whole total here None left b bs front p.more p.bytes_are n);
        onward = λ r e' all dots all_is. run_read limits e' all here command b front r text (p.anew r ∙ dots limits.name_bytes text) (omega arith, omega arith);
      })

  token_found : (y : Lexed) (k : TokenKind) (text : List ℕ) (left : ℕ) → core (spelled limits.name_bytes b bs) ≡ token k text left → left ≤ length bs → IsToken b k → Within limits total begin left
      → y ≡ adds (token_at here k text ∷ []) (more (command_after k begin) left) → Found limits total here command b bs y
  token_found y k text left e le (no_dot keeps) f h = part_found y (spelt k text) left e le keeps f h
  token_found y k text left e le (is_dot is) f h = dot_found y k text left is (sym (ap (λ (c : Class). core (spelled_by limits.name_bytes c b bs)) is) ∙ e) f h

  by_core : (y : Lexed) (x : Spelling) → core (spelled limits.name_bytes b bs) ≡ x → AtMost (length bs) x → Met there begin more y x → Found limits total here command b bs y
  by_core y x e le (met_blank left f h) = part_found y passed left e le tt f h
  by_core y x e le (met_token k text left f h) = token_found y k text left e le (token_kind limits.name_bytes b bs k text left e) f h
  by_core y x e le (met_run text left f h) = run_found y text left e f h

  pub found : (y : Lexed) → y ≡ read_from limits whole total here command (b ∷ bs) → y.fault ≡ None → Found limits total here command b bs y
  found y is h =
      let x : Spelling = spelled limits.name_bytes b bs in
      let same : y ≡ outcome there begin (bound limits (Some begin)) x more = is ∙ begins limits whole total here command b bs in
      let met : Met there begin more (outcome there begin (bound limits (Some begin)) x more) (core x) =
      meets there begin more refl (bound limits (Some begin)) x (bound_is there begin) (sure limits.name_bytes b bs) (sym (ap (λ (z : Lexed). z.fault) same) ∙ h) in
      by_core y (core x) refl (kind_most (length bs) x (front_kind limits.name_bytes b bs)) (subst (λ (z : Lexed). Met there begin more z (core x)) (sym same) met)
