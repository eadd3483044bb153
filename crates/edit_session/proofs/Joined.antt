-- The report of the texts of a session is that of their commands.
use Rattle.std.proofs.Common.{List, [], ◌∷◌, ◌++◌, map, ℕ, ◌≡◌, ◌+◌, ◌-◌, true, None, refl, ap, subst, ◌∙◌}
use Rattle.std.proofs.lemmas.List.Elements.{All-head, All-tail}
use Rattle.dk_model.specs.declared.limits.Limits.{Limits}
use Rattle.dk_parser.specs.FileReading.{Reading}
use Rattle.dk_parser.specs.Modules.{is_directive}
use Rattle.dk_parser.specs.Written.{WrittenForm, WrittenCommand}
use Rattle.theory_walk.specs.BookReadings.{book_tail, due_line}
use Rattle.theory_walk.specs.Libraries.{Library, command_step, need, opened, steps_in}
use Rattle.theory_walk.specs.Libraries as library
use Rattle.theory_walk.specs.Walks.{Need, Walk, goes_on, needs_in, walk_file, walk_of, walk_steps, with_commands}
use Rattle.file_report.specs.Outcomes.{no_theory}
use Rattle.file_report.specs.TheoryReports.{report_from}
use Rattle.file_report.specs.Theories.{checking}
use Rattle.file_report.proofs.Folding.{fold_is_report}
use Rattle.edit_session.specs.Forms.{AreCommandTexts, NeedsNone, ReportsComeFromForms, numbered, placed_in}
use Rattle.edit_session.specs.Texts.{alone, bytes_of, forms_of, is_command_text, library_of}
use Rattle.edit_session.proofs.Lines.{IsCommand, command_text, commands_need_none, forms_more, texts_are_commands}

-- ---- their report

abbrev AllNeedNone : List WrittenForm → Type 0
AllNeedNone [] = Unit {0}
AllNeedNone (form ∷ forms) = NeedsNone form × AllNeedNone forms

all_need_none : (limits : Limits) (texts : List (List ℕ)) → AreCommandTexts limits texts → AllNeedNone (forms_of limits texts)
all_need_none limits [] h = tt
all_need_none limits (text ∷ texts) h =
    let one : is_command_text limits text ≡ true = All-head (λ text. is_command_text limits text ≡ true) text texts h in
    let c : IsCommand limits text = command_text limits text one in
    subst AllNeedNone (forms_more limits text texts c.form c.form_is)
    (commands_need_none limits text c.form one c.form_is, all_need_none limits texts (All-tail (λ text. is_command_text limits text ≡ true) text texts h))

-- the walk of a file of commands that need no module
walk_puts : (needs : Need) (n : ℕ) (forms : List WrittenForm) → AllNeedNone forms
    → walk_steps needs None (steps_in (numbered n forms)) library.whole [] ≡ (let w : Walk = record { commands = placed_in (numbered n forms); reached = goes_on [] } in w)
walk_puts needs n [] h = refl
walk_puts needs n (form ∷ forms) h =
    let c : WrittenCommand = record { line = n; form = form } in
    (λ i. walk_steps needs None ((map (need (is_directive form) n) (h.0.1 i) ++ command_step (h.0.0 i) c) ++ steps_in (numbered (n + 1) forms)) library.whole [])
    ∙ ap (with_commands (record { book = None; command = c } ∷ [])) (walk_puts needs (n + 1) forms h.1)

pub reports_from_forms : ReportsComeFromForms
reports_from_forms limits budget texts h f =
    let bytes : List ℕ = bytes_of texts in
    let lib : Library = library_of limits bytes in
    let forms : List WrittenForm = forms_of limits texts in
    let book : lib None ≡ opened (record { items = numbered 1 forms; tail = library.whole }) =
    ap (λ (r : Reading). opened (record { items = r.commands; tail = book_tail (due_line limits bytes) r.tail })) (texts_are_commands limits texts h f) in
    let walk : walk_of alone None lib ≡ (let w : Walk = record { commands = placed_in (numbered 1 forms); reached = goes_on [] } in w) =
    ap (walk_file alone None lib) book ∙ walk_puts (needs_in alone None lib (alone.files - 1) [] None) 1 forms (all_need_none limits texts h) in
    fold_is_report (checking limits budget None) alone None lib no_theory ∙ ap (λ (w : Walk). report_from (checking limits budget None) no_theory 0 w.commands w.reached) walk
