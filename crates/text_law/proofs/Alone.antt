-- Bytes that are read as one command are, with a newline behind them, its text.
use Rattle.std.proofs.Common.{List, [], ◌∷◌, ◌++◌, length, append-nil, append_assoc, length-append, ℕ, suc, ◌≡◌, ◌<◌, ◌≤◌, ◌+◌, false, None, refl, ap, sym, subst, ◌∙◌, arith}
use Rattle.dk_model.specs.declared.limits.Limits.{Limits}
use Rattle.dk_lexer.specs.declared.place.Place.{Place}
use Rattle.dk_lexer.specs.declared.token.Token.{Token}
use Rattle.dk_lexer.specs.Classes.{class_of}
use Rattle.dk_lexer.specs.Tokens.{Ending, behind, bound, input_limit, tokens, whole}
use Rattle.dk_lexer.proofs.Bounds.{bound_none}
use Rattle.dk_parser.specs.FileReading.{Reading, read}
use Rattle.dk_parser.specs.FileReading as reading
use Rattle.dk_parser.specs.Grammar.{terminals, SpellsForm}
use Rattle.dk_parser.specs.Levels.{IsWithin}
use Rattle.dk_parser.specs.Reading.{TokenReading, reads_nothing, reads_front, reads_fault, reads_command}
use Rattle.dk_parser.specs.Reading as parser
use Rattle.dk_parser.specs.Written.{WrittenForm, WrittenCommand}
use Rattle.dk_parser.proofs.Exact.{exact}
use Rattle.one_lexer.specs.Places.{place_behind}
use Rattle.one_lexer.specs.Reading.{Reads, adds}
use Rattle.one_lexer.proofs.Places.{place_offset}
use Rattle.text_law.specs.Texts.{IsText}
use Rattle.text_law.proofs.Cuts.{IsGood, good_of, place_append, Cut, cut, Tail, tail}
use Rattle.text_law.proofs.Firsts.{spelt_dot}
use Rattle.text_law.proofs.Gives.{read_from, part_read}
use Rattle.text_law.proofs.Onward.{passed, Stays}
use Rattle.text_law.proofs.Whole.{IsWholeFile, whole_file}

-- ---- a reading that is one command

no_commands : {limits : Limits} {ts : List Token} {r : TokenReading} → parser.Reads limits ts r → r.commands ≡ [] → r.begun ≡ None → r.fault ≡ None → ts ≡ []
no_commands reads_nothing c b f = refl
no_commands (reads_front x) c b f = absurd cc
no_commands (reads_fault t rest x y) c b f = absurd cc
no_commands (reads_command s w rest) c b f = absurd cc

record Spelt (limits : Limits) (ts : List Token) (form : WrittenForm) : Type 0 where
  pub spells : SpellsForm (terminals ts) form
  pub within : IsWithin limits.levels (terminals ts)

one_command : {limits : Limits} {ts : List Token} {r : TokenReading} (w : WrittenCommand) → parser.Reads limits ts r → r.commands ≡ w ∷ [] → r.begun ≡ None → r.fault ≡ None → Spelt limits ts w.form
one_command w reads_nothing c b f = absurd cc
one_command w (reads_front x) c b f = absurd cc
one_command w (reads_fault t rest x y) c b f = absurd cc
one_command {limits} w (reads_command {ts} {us} {c = d} {r} s l rest) c b f =
    let none : us ≡ [] = no_commands rest (let q : r.commands ≡ [] = cc in q) b f in
    let same : ts ++ us ≡ ts = ap (λ z. ts ++ z) none ∙ append-nil ts in
    let named : d ≡ w = cc in
    subst (λ z. Spelt limits z w.form) (sym same) (subst (λ (z : WrittenCommand). Spelt limits ts z.form) named (record { spells = s.form; within = l }))

-- ---- a newline behind the text

abbrev pub start : Place
start = record { offset = 0; line = 1 }

pub tokens_are : (limits : Limits) (bytes : List ℕ) (e : Ending) → tokens limits bytes e ≡ read_from limits e (length bytes) start None bytes
unfolding tokens
tokens_are limits bytes e = refl

newline_spelled : (limit : ℕ) (more : List ℕ) → Stays limit 10 more passed (length more)
unfolding class_of
newline_spelled limit more = record { settled = refl; is = refl }

newline_read : (limits : Limits) (e : Ending) (all : ℕ) (here : Place) (more : List ℕ) → all ≡ here.offset + suc (length more) → here.offset < input_limit limits
    → read_from limits e all here None (10 ∷ more) ≡ read_from limits e all (behind here 10) None more
newline_read limits e all here more is lt =
    let le : here.offset + 1 ≤ (bound limits None).last = bound_none limits (here.offset + 1) (omega arith) in
    part_read limits e all here None 10 [] more passed (newline_spelled limits.name_bytes more) (omega arith)

module _ (limits : Limits) {total : ℕ} {bs : List ℕ} {ts us : List Token} (c : Cut limits total start None bs ts us) (rest : List ℕ) (t : Tail limits (place_behind start c.text) rest) (lt : length (c.text ++ rest) < input_limit limits) where
  abbrev line : List ℕ
  line = (c.text ++ rest) ++ 10 ∷ []

  abbrev last_place : Place
  last_place = place_behind (place_behind start c.text) rest

  line_place : behind last_place 10 ≡ place_behind start line
  line_place = ap (λ (p : Place). behind p 10) (sym (place_append start c.text rest)) ∙ sym (place_append start (c.text ++ rest) (10 ∷ []))

  line_reads : Reads false limits line ts (place_behind start line) None []
  line_reads =
      let n : length (c.text ++ rest) ≡ length c.text + length rest = length-append c.text rest in
      let o : (place_behind start line).offset ≡ 0 + length line = place_offset start line in
      let first : (place_behind start c.text).offset ≡ 0 + length c.text = place_offset start c.text in
      let second : last_place.offset ≡ (place_behind start c.text).offset + length rest = place_offset (place_behind start c.text) rest in
      record {
        total = omega arith;
        onward = λ more e may.
            let all : ℕ = length (line ++ more) in
            let bytes : line ++ more ≡ c.text ++ (rest ++ 10 ∷ more) = append_assoc (c.text ++ rest) (10 ∷ []) more ∙ append_assoc c.text rest (10 ∷ more) in
            let size : all ≡ length (c.text ++ (rest ++ 10 ∷ more)) = ap length bytes in
            let both : length (c.text ++ (rest ++ 10 ∷ more)) ≡ length c.text + length (rest ++ 10 ∷ more) = length-append c.text (rest ++ 10 ∷ more) in
            let back : length (rest ++ 10 ∷ more) ≡ length rest + suc (length more) = length-append rest (10 ∷ more) in
            tokens_are limits (line ++ more) e
            ∙ ap (λ (z : List ℕ). read_from limits e all start None z) bytes
            ∙ c.onward (rest ++ 10 ∷ more) e all (t.dots more) (omega arith)
            ∙ ap (adds ts) (t.onward (10 ∷ more) e all (omega arith) ∙ newline_read limits e all last_place more (omega arith) (omega arith)
            ∙ ap (λ (p : Place). read_from limits e all p None more) line_place);
      }

  pub text_line : (form : WrittenForm) → SpellsForm (terminals ts) form → IsWithin limits.levels (terminals ts) → IsText limits line form
  text_line form s w = record { given = ts; behind = place_behind start line; reads = line_reads; spells = s; within = w }

pub alone : (limits : Limits) (text : List ℕ) (w : WrittenCommand) → read limits text whole ≡ (let r : Reading = record { commands = w ∷ []; tail = reading.whole } in r) → length text < input_limit limits → IsText limits (text ++ 10 ∷ []) w.form
alone limits text w e f =
    let file : IsWholeFile limits text = whole_file limits text (ap (λ (x : Reading). x.tail) e) in
    let ts : List Token = (tokens limits text whole).tokens in
    let spelt : Spelt limits ts w.form = one_command w (exact limits ts) (ap (λ (x : Reading). x.commands) e) file.begun file.fault in
    let same : tokens limits text whole ≡ read_from limits whole (length text) start None text = tokens_are limits text whole in
    let good : IsGood (read_from limits whole (length text) start None text) (ts ++ []) = good_of (tokens limits text whole) (read_from limits whole (length text) start None text) (ts ++ []) same (sym (append-nil ts), file.no_fault) in
    let c : Cut limits (length text) start None text ts [] = cut limits (length text) (length text) start None text ts [] (omega arith) (omega arith) good (spelt_dot spelt.spells) in
    let size : length text ≡ length c.text + length c.rest = ap length c.bytes_are ∙ length-append c.text c.rest in
    let o : (place_behind start c.text).offset ≡ 0 + length c.text = place_offset start c.text in
    let n : length (c.text ++ c.rest) ≡ length text = sym (ap length c.bytes_are) in
    let t : Tail limits (place_behind start c.text) c.rest = tail limits (length text) (length text) (place_behind start c.text) c.rest (omega arith) (omega arith) c.later in
    subst (λ z. IsText limits (z ++ 10 ∷ []) w.form) (sym c.bytes_are) (text_line limits c c.rest t (omega arith) w.form spelt.spells spelt.within)
