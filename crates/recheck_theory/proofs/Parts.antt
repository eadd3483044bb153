-- The parts of what is rechecked, and the answer for the text of parts.
use Rattle.std.proofs.Common.{ℕ, ◌+◌, ◌≡◌, false, refl, ap, sym as flip, ◌∙◌, subst, arith, List, [], ◌∷◌, ◌++◌, length, append_assoc}
use Rattle.dk_model.specs.PlainEntries.{PlainSignature}
use Rattle.dk_model.specs.PlainCommands.{PlainCommand}
use Rattle.dk_model.specs.Verdicts.{entry_of}
use Rattle.certificate_lines.specs.declared.line.Line.{Line}
use Rattle.certificate_lines.specs.declared.line.Line.TheVariants.{First, Part, Last}
use Rattle.certificate_lines.specs.Texts.{line_text}
use Rattle.certificate_items.specs.Texts.{AreShort, begins_item, lines_of, lines_text}
use Rattle.checked_steps.specs.Items.{Item}
use Rattle.checked_steps.specs.Certificates.{AreChecked, none_checked, one_checked, type_by_items}
use Rattle.recheck_theory.specs.Answers.{Answer, rechecked, IsPart, AnswersBehind, of_the_end, of_no_end, of_a_part, of_no_part, Answers, of_the_first_line, of_no_first_line}
use Rattle.recheck_theory.specs.Laws.{certificate_lines, lines_behind}

-- ---- what is rechecked has parts

-- so many commands, and parts of them
abbrev pub Parts : PlainSignature → ℕ → List PlainCommand → ℕ → Type 0
Parts S done commands count = (count ≡ done + length commands) × ((parts : List (List Item)) × AreChecked S commands parts)

is_count : (n m : ℕ) → rechecked n ≡ rechecked m → n ≡ m
is_count n m e = cc

pub parts_behind : {S : PlainSignature} {done : ℕ} {commands : List PlainCommand} {bytes : List ℕ} {a : Answer} → AnswersBehind S done commands bytes a → (count : ℕ) → a ≡ rechecked count → Parts S done commands count
parts_behind (of_the_end {S} {done}) count e = let q : done ≡ count = is_count done count e in (omega (arith, q), ([], none_checked))
parts_behind (of_no_end n) count e = absurd cc
parts_behind (of_a_part {S} {done} {command} {commands} {items} p rest) count e =
    let r : Parts (S ++ (entry_of S command (type_by_items S command items) ∷ [])) (done + 1) commands count = parts_behind rest count e in
    (omega (arith, r.0), (items ∷ r.1.0, one_checked p.checked r.1.1))
parts_behind (of_no_part n) count e = absurd cc

pub parts_of : {commands : List PlainCommand} {bytes : List ℕ} {a : Answer} → Answers commands bytes a → (count : ℕ) → a ≡ rechecked count → Parts [] 0 commands count
parts_of (of_the_first_line b rest) count e = parts_behind rest count e
parts_of (of_no_first_line n) count e = absurd cc

-- ---- the text of parts is rechecked

text_append : (xs ys : List Line) → lines_text (xs ++ ys) ≡ lines_text xs ++ lines_text ys
text_append [] ys = refl
text_append (x ∷ xs) ys = ap (λ t. line_text x ++ (10 ∷ t)) (text_append xs ys) ∙ flip (append_assoc (line_text x) (10 ∷ lines_text xs) (lines_text ys))

short_front : (xs ys : List Line) → AreShort (xs ++ ys) → AreShort xs
short_front [] ys s = tt
short_front (x ∷ xs) ys s = (s.0, short_front xs ys s.1)

short_behind : (xs ys : List Line) → AreShort (xs ++ ys) → AreShort ys
short_behind [] ys s = s
short_behind (x ∷ xs) ys s = short_behind xs ys s.1

-- behind the items of a part stands no item
no_item_behind : (done : ℕ) (parts : List (List Item)) → begins_item (lines_text (lines_behind done parts)) ≡ false
no_item_behind done [] = refl
no_item_behind done (items ∷ parts) = refl

pub answered_behind : {S : PlainSignature} {commands : List PlainCommand} {parts : List (List Item)} → AreChecked S commands parts → (done : ℕ) → AreShort (lines_behind done parts)
    → AnswersBehind S done commands (lines_text (lines_behind done parts)) (rechecked (done + length commands))
answered_behind (none_checked {S}) done s = subst (λ n. AnswersBehind S done [] (lines_text (Last ∷ [])) (rechecked n)) (omega arith) of_the_end
answered_behind (one_checked {S} {command} {items} {commands} {parts} e rest) done s =
    let front : List Line = Part (done + 1) ∷ lines_of items in
    let behind : List Line = lines_behind (done + 1) parts in
    let t : AreShort front = short_front front behind s in
    let p : IsPart S (done + 1) command items (lines_text (front ++ behind)) (lines_text behind) = record {
      begun = lines_text (lines_of items ++ behind);
      line = (text_append (Part (done + 1) ∷ []) (lines_of items ++ behind), (t.0, tt));
      front = ((text_append (lines_of items) behind, t.1), no_item_behind (done + 1) parts);
      checked = e;
    } in
    subst (λ n. AnswersBehind S done (command ∷ commands) (lines_text (front ++ behind)) (rechecked n)) (omega arith)
    (of_a_part p (answered_behind rest (done + 1) (short_behind front behind s)))

pub answered : {commands : List PlainCommand} {parts : List (List Item)} → AreChecked [] commands parts → AreShort (certificate_lines parts)
    → Answers commands (lines_text (certificate_lines parts)) (rechecked (length commands))
answered {commands} {parts} e s =
    let rest : AnswersBehind [] 0 commands (lines_text (lines_behind 0 parts)) (rechecked (0 + length commands)) = answered_behind e 0 s.1 in
    let q : 0 + length commands ≡ length commands = omega arith in
    of_the_first_line (text_append (First ∷ []) (lines_behind 0 parts), (s.0, tt)) (subst (λ n. AnswersBehind [] 0 commands (lines_text (lines_behind 0 parts)) (rechecked n)) q rest)
