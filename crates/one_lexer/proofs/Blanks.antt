-- Reading goes on behind blanks.
use Rattle.std.proofs.Common.{◌≡◌, ◌≤◌, ◌<◌, ◌+◌, ℕ, Bool, true, suc, List, [], ◌∷◌, length, refl, sym, ap, subst, ◌∙◌, arith}
use Rattle.std.specs.Prelude.{IfSome, Option, Some, None}
use Rattle.dk_lexer.specs.declared.class.Class.{Class}
use Rattle.dk_lexer.specs.declared.class.Class.TheVariants as class
use Rattle.dk_lexer.specs.declared.place.Place.{Place}
use Rattle.dk_lexer.specs.declared.token.Token.{Token}
use Rattle.dk_lexer.specs.Classes.{class_of}
use Rattle.dk_lexer.specs.Spelling.{blank, spelled_by}
use Rattle.dk_lexer.specs.Tokens.{behind, bound}
use Rattle.dk_lexer.proofs.Bounds.{behind_offset}
use Rattle.one_lexer.specs.declared.lexer.Lexer.{Lexer}
use Rattle.one_lexer.specs.declared.lexer.State.TheVariants as state
use Rattle.one_lexer.specs.Blanks.{GoesOver, is_blank_class}
use Rattle.one_lexer.specs.Lexers.{Knows, KnowsBy, moved_to}
use Rattle.one_lexer.specs.Reading.{Reads, last_of}
use Rattle.one_lexer.proofs.Lexers.{knows, reads_between}
use Rattle.one_lexer.proofs.Nexts.{blank_comes}
use Rattle.one_lexer.proofs.Places.{last_all, last_front, last_last}

blank_by : (limit : ℕ) (c : Class) (b : ℕ) (more : List ℕ) → is_blank_class c ≡ true → spelled_by limit c b more ≡ blank (length more)
blank_by limit class.Blank b more is = refl
blank_by limit class.Newline b more is = refl
blank_by limit _ b more is = absurd cc

-- one blank
pub blank_over : (last b : ℕ) (here : Place) (more : List ℕ) → is_blank_class (class_of b) ≡ true → here.offset < last → GoesOver last here (b ∷ more) (behind here b) more
blank_over last b here more is lt = λ over limits before ts command last_is r.
    let size = r.total in
    blank_comes over limits before ts here command b more [] more r (blank_by limits.name_bytes (class_of b) b more is) refl (omega (arith, last_is, lt, size))

-- so far, of all these bytes
pub record Passed (last : ℕ) (here : Place) (bytes : List ℕ) (place : Place) (rest : List ℕ) : Type 0 where
  pub within : length rest ≤ length bytes
  pub onward : here.offset ≤ place.offset
  pub rest_is : rest ≡ last_of (length rest) bytes
  pub goes_over : GoesOver last here bytes place rest

pub passed_none : (last : ℕ) (here : Place) (bytes : List ℕ) → Passed last here bytes here bytes
passed_none last here bytes = record { within = omega arith; onward = omega arith; rest_is = sym (last_all bytes); goes_over = λ over limits before ts command last_is r. r }

-- a first byte goes off the last ones
rest_of : (rest more bytes : List ℕ) (b : ℕ) → rest ≡ b ∷ more → rest ≡ last_of (length rest) bytes → length rest ≤ length bytes → more ≡ last_of (length more) bytes
rest_of rest more bytes b is rest_is le =
    let n : length rest ≡ suc (length more) = ap length is in
    tail_of rest more b is ∙ ap (last_of (length more)) rest_is ∙ last_last (length more) (length rest) bytes (omega (arith, n)) le
  where
    tail_is : (b : ℕ) (more : List ℕ) → more ≡ last_of (length more) (b ∷ more)
    tail_is b more = sym (last_all more) ∙ last_front (b ∷ []) more (length more) (omega arith)

    tail_of : (rest more : List ℕ) (b : ℕ) → rest ≡ b ∷ more → more ≡ last_of (length more) rest
    tail_of rest more b is = tail_is b more ∙ ap (last_of (length more)) (sym is)

pub passed_more : (last b : ℕ) (here place next : Place) (bytes rest more : List ℕ) → rest ≡ b ∷ more → is_blank_class (class_of b) ≡ true → place.offset < last → next ≡ behind place b
    → Passed last here bytes place rest → Passed last here bytes next more
passed_more last b here place next bytes rest more is stands lt next_is p =
    let n : length rest ≡ suc (length more) = ap length is in
    let le = p.within in
    record {
      within = omega (arith, n, le);
      onward = let on = p.onward in let next_offset : next.offset ≡ place.offset + 1 = ap (λ (q : Place). q.offset) next_is ∙ behind_offset place b in omega (arith, on, next_offset);
      rest_is = rest_of rest more bytes b is p.rest_is p.within;
      goes_over = λ over limits before ts command last_is r.
          let here_now = p.goes_over over limits before ts command last_is r in
          let at = subst (λ (x : List ℕ). Reads over limits before ts place command x) is here_now in
          subst (λ (q : Place). Reads over limits before ts q command more) (sym next_is) (blank_over last b place more stands lt over limits before ts command last_is at);
    }

pub passed_so : (last : ℕ) (here place : Place) (bytes rest : List ℕ) → Passed last here bytes place rest → GoesOver last here bytes place (last_of (length rest) bytes)
passed_so last here place bytes rest p = subst (GoesOver last here bytes place) p.rest_is p.goes_over

pub passed_all : (last : ℕ) (here place : Place) (bytes rest : List ℕ) → length rest ≡ 0 → Passed last here bytes place rest → GoesOver last here bytes place (last_of 0 bytes)
passed_all last here place bytes rest none p = subst (λ (n : ℕ). GoesOver last here bytes place (last_of n bytes)) none (passed_so last here place bytes rest p)

-- what is known between tokens is known behind blanks
pub knows_over_blanks : (over : Bool) (before bytes rest : List ℕ) (ts : List Token) (lexer : Lexer) (place : Place) → lexer.state ≡ state.Between → GoesOver (bound lexer.limits lexer.at.command).last lexer.at.here bytes place rest
    → Knows over before ts bytes lexer → Knows over before ts rest (moved_to place lexer)
knows_over_blanks over before bytes rest ts lexer place is goes k =
    knows over before rest ts (moved_to place lexer)
    (subst (KnowsBy over lexer.limits before ts rest (record { here = place; command = lexer.at.command })) (sym is)
    (goes over lexer.limits before ts lexer.at.command (omega arith) (reads_between over before bytes ts lexer k is)))

pub knows_if : (lexer : Lexer) (bytes : List ℕ) → lexer.state ≡ state.Between → (o : Option (Place × ℕ)) → IfSome o (λ passed. GoesOver (bound lexer.limits lexer.at.command).last lexer.at.here bytes passed.0 (last_of passed.1 bytes))
    → IfSome o (λ passed. (over : Bool) (before : List ℕ) (ts : List Token) → Knows over before ts bytes lexer → Knows over before ts (last_of passed.1 bytes) (moved_to passed.0 lexer))
knows_if lexer bytes is None goes = tt
knows_if lexer bytes is (Some passed) goes = λ over before ts k. knows_over_blanks over before bytes (last_of passed.1 bytes) ts lexer passed.0 is goes k
