-- The lines of a certificate, from those of its first parts.
use Rattle.std.proofs.Common.{ℕ, ◌+◌, ◌≡◌, List, [], ◌∷◌, ◌++◌, length, refl, ap, ◌∙◌, sym as flip, arith, append_assoc}
use Rattle.certificate_lines.specs.declared.line.Line.TheVariants.{First, Part, Last}
use Rattle.certificate_items.specs.Texts.{lines_of, lines_text}
use Rattle.certificate_text.proofs.Texts.{text_append}
use Rattle.checked_steps.specs.Items.{Item}
use Rattle.recheck_theory.specs.Laws.{certificate_lines, lines_behind}
use Rattle.certify_theory.specs.Parts.{part_lines, first_lines}

pub append_none : {A : Type 0} (xs : List A) → xs ++ [] ≡ xs
append_none [] = refl
append_none (x ∷ xs) = ap (λ t. x ∷ t) (append_none xs)

-- ---- the last line

lines_whole : (done : ℕ) (parts : List (List Item)) → lines_behind done parts ≡ part_lines done parts ++ (Last ∷ [])
lines_whole done [] = refl
lines_whole done (items ∷ parts) = ap (λ t. Part (done + 1) ∷ (lines_of items ++ t)) (lines_whole (done + 1) parts)
    ∙ ap (λ t. Part (done + 1) ∷ t) (flip (append_assoc (lines_of items) (part_lines (done + 1) parts) (Last ∷ [])))

pub certificate_whole : (parts : List (List Item)) → certificate_lines parts ≡ first_lines parts ++ (Last ∷ [])
certificate_whole parts = ap (λ t. First ∷ t) (lines_whole 0 parts)

pub text_whole : (parts : List (List Item)) → lines_text (certificate_lines parts) ≡ lines_text (first_lines parts) ++ lines_text (Last ∷ [])
text_whole parts = ap lines_text (certificate_whole parts) ∙ text_append (first_lines parts) (Last ∷ [])

-- ---- one part more

parts_more : (done : ℕ) (parts : List (List Item)) (items : List Item) → part_lines done (parts ++ (items ∷ [])) ≡ part_lines done parts ++ (Part (done + length parts + 1) ∷ lines_of items)
parts_more done [] items = let e : done + 1 ≡ done + 0 + 1 = omega arith in
    ap (λ t. Part (done + 1) ∷ t) (append_none (lines_of items)) ∙ ap (λ k. Part k ∷ lines_of items) e
parts_more done (p ∷ parts) items = let e : done + 1 + length parts + 1 ≡ done + length (p ∷ parts) + 1 = omega arith in
    ap (λ t. Part (done + 1) ∷ (lines_of p ++ t)) (parts_more (done + 1) parts items)
    ∙ ap (λ t. Part (done + 1) ∷ t) (flip (append_assoc (lines_of p) (part_lines (done + 1) parts) (Part (done + 1 + length parts + 1) ∷ lines_of items)))
    ∙ ap (λ k. part_lines done (p ∷ parts) ++ (Part k ∷ lines_of items)) e

pub first_more : (parts : List (List Item)) (items : List Item) (number : ℕ) → number ≡ length parts + 1
    → first_lines (parts ++ (items ∷ [])) ≡ first_lines parts ++ (Part number ∷ lines_of items)
first_more parts items number n = let e : 0 + length parts + 1 ≡ number = omega (arith, n) in
    ap (λ t. First ∷ t) (parts_more 0 parts items) ∙ ap (λ k. first_lines parts ++ (Part k ∷ lines_of items)) e

pub text_more : (parts : List (List Item)) (items : List Item) (number : ℕ) → number ≡ length parts + 1
    → lines_text (first_lines (parts ++ (items ∷ []))) ≡ lines_text (first_lines parts) ++ lines_text (Part number ∷ lines_of items)
text_more parts items number n = ap lines_text (first_more parts items number n) ∙ text_append (first_lines parts) (Part number ∷ lines_of items)
