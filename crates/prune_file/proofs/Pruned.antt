-- What a file is pruned to is accepted by itself.
use Rattle.std.proofs.Common.{List, [], ◌∷◌, ◌++◌, length, ℕ, ◌≡◌, ◌<◌, ◌≤◌, ◌+◌, refl, ap, sym, subst, ◌∙◌, arith}
use Rattle.std.specs.Prelude.{None}
use Rattle.dk_model.specs.declared.limits.Limits.{Limits}
use Rattle.dk_lexer.specs.Pieces.{joined}
use Rattle.dk_lexer.specs.Tokens.{input_limit, whole}
use Rattle.dk_parser.specs.FileReading.{Reading, read}
use Rattle.dk_parser.specs.FileReading as tail
use Rattle.dk_parser.specs.Written.{WrittenForm, WrittenCommand}
use Rattle.scope_terms.specs.Scopes.{Module}
use Rattle.text_law.specs.Cuts.{ChosenTextsAreRead, IsReadAs, lines}
use Rattle.text_law.specs.Texts.{forms_of}
use Rattle.theory_walk.specs.BookReadings.{book_reading, book_tail, due_line}
use Rattle.theory_walk.specs.Libraries.{BookReading, Library, opened}
use Rattle.theory_walk.specs.Libraries as library
use Rattle.theory_walk.specs.Walks.{Placed, Walk, goes_on, walk_file}
use Rattle.theory_walk.specs.declared.needs.ModuleLimits.{ModuleLimits}
use Rattle.verdict_book.specs.Report.{FileReport, concat}
use Rattle.verdict_book.specs.declared.outcome.Outcome.TheVariants.{Accepted}
use Rattle.file_report.specs.Folds.{fold_of}
use Rattle.file_report.specs.Outcomes.{no_theory}
use Rattle.file_report.specs.Theories.{checking}
use Rattle.file_report.specs.TheoryReports.{report_from}
use Rattle.file_report.proofs.Folding.{fold_is_report}
use Rattle.prune_theory.specs.Folds.{AreAccepted, nothing_declared}
use Rattle.prune_theory.specs.Laws.{PrunedAreAccepted}
use Rattle.prune_theory.specs.Renumbering.{picked}
use Rattle.prune_file.specs.Files.{IsAccepted, NeedOwn, commands_in, stated_in}
use Rattle.prune_file.specs.Laws.{IsFileOf, IsReported, no_modules}
use Rattle.prune_file.specs.Pruned.{IsPruned, declares, texts_in}
use Rattle.prune_file.specs.Standing.{StandsAlone}
use Rattle.prune_file.proofs.Picks.{AreCommands, accepted_length, all_commands, chosen, commands_are, commands_own, cut_has, forms_length, picked_commands, picked_fewer, picked_own, picked_stated, number_below}
use Rattle.prune_file.proofs.Reports.{accepted_reported, comes_to_end, placed_in, report_accepts}
use Rattle.prune_file.proofs.Walks.{file_is_alone, file_passes}

module _ (limits : Limits) (own : Module) (budget : ℕ) where
  -- ---- the report of a file

  abbrev report : Walk → FileReport
  report w = report_from (checking limits budget own) no_theory 0 w.commands w.reached

  -- it is that of the file's walk
  folded : (most : ModuleLimits) (lib : Library) (r : BookReading) → lib None ≡ opened r
      → (fold_of (checking limits budget own) most own lib no_theory).outcome ≡ (report (walk_file most own lib (opened r))).outcome
  folded most lib r is =
      ap (λ (x : FileReport). x.outcome) (fold_is_report (checking limits budget own) most own lib no_theory)
      ∙ ap (λ o. (report (walk_file most own lib o)).outcome) is

  abbrev whole_walk : List WrittenCommand → Walk
  whole_walk items = record { commands = placed_in (commands_in items) ++ []; reached = goes_on [] }

  passed : (most : ModuleLimits) (lib : Library) (items : List WrittenCommand) → NeedOwn own (forms_of items) → walk_file most own lib (opened (record { items = items; tail = library.whole })) ≡ whole_walk items
  passed most lib items are = file_passes most own lib _ items library.whole [] are

  no_more : (cs : List Placed) → cs ++ [] ≡ cs
  no_more [] = refl
  no_more (c ∷ cs) = ap (λ (ds : List Placed). c ∷ ds) (no_more cs)

  whole_report : (items : List WrittenCommand) → (report (whole_walk items)).outcome ≡ (report_from (checking limits budget own) no_theory 0 (placed_in (commands_in items)) (goes_on [])).outcome
  whole_report items = ap (λ cs. (report_from (checking limits budget own) no_theory 0 cs (goes_on [])).outcome) (no_more (placed_in (commands_in items)))

  -- ---- accepted files are reported so

  reading_is : (bytes : List ℕ) (items : List WrittenCommand) → IsReadAs limits bytes items → book_reading limits bytes whole ≡ record { items = items; tail = library.whole }
  reading_is bytes items is = ap (λ (r : Reading). let b : BookReading = record { items = r.commands; tail = book_tail (due_line limits bytes) r.tail } in b) is

  pub is_reported : (most : ModuleLimits) (bytes : List ℕ) (lib : Library) (file : IsAccepted limits own budget bytes) → IsFileOf limits bytes lib → IsReported limits most own budget lib (length (commands_in file.items))
  is_reported most bytes lib file is =
      folded most lib (record { items = file.items; tail = library.whole }) (is ∙ ap opened (reading_is bytes file.items file.reads))
      ∙ ap (λ w. (report w).outcome) (passed most lib file.items file.alone)
      ∙ whole_report file.items
      ∙ accepted_reported limits budget own 0 (commands_in file.items) [] file.accepted (let f = file.few in let l : 0 + length (commands_in file.items) ≤ limits.commands = omega (arith, f) in l)
      ∙ ap Accepted (let q : 0 + length (commands_in file.items) ≡ length (commands_in file.items) = omega arith in q)

  -- ---- and a file that is reported so is accepted

  book_whole : (due : ℕ) (t : tail.Tail) → book_tail due t ≡ library.whole → t ≡ tail.whole
  book_whole due tail.whole e = refl
  book_whole due (tail.fault line code) e = absurd cc
  book_whole due tail.unread e = absurd cc

  whole_items : (r : Reading) → r.tail ≡ tail.whole → r ≡ record { commands = r.commands; tail = tail.whole }
  whole_items r e = ap (λ t. let x : Reading = record { commands = r.commands; tail = t } in x) e

  pub is_accepted : (bytes : List ℕ) (lib : Library) (count : ℕ) → IsFileOf limits bytes lib → IsReported limits no_modules own budget lib count → IsAccepted limits own budget bytes
  is_accepted bytes lib count is reported =
      let r = book_reading limits bytes whole in
      let w = walk_file no_modules own lib (opened r) in
      let e : (report w).outcome ≡ Accepted count = sym (folded no_modules lib r is) ∙ reported in
      let end = comes_to_end limits budget own no_theory 0 w.commands w.reached count e in
      let own_needs = file_is_alone own lib r.items r.tail end.0 end.1 in
      let reads : IsReadAs limits bytes r.items = whole_items (read limits bytes whole) (book_whole (due_line limits bytes) (read limits bytes whole).tail own_needs.1) in
      let run = report_accepts limits budget own nothing_declared 0 (commands_in r.items) (goes_on []) count (omega arith)
      (sym (ap (λ (x : BookReading). (report (walk_file no_modules own lib (opened x))).outcome) (reading_is bytes r.items reads) ∙ ap (λ w. (report w).outcome) (passed no_modules lib r.items own_needs.0) ∙ whole_report r.items) ∙ e) in
      record {
        items = r.items;
        reads = reads;
        alone = own_needs.0;
        few = let l : 0 + length (commands_in r.items) ≤ limits.commands = run.within_limit in omega arith;
        commands = run.commands;
        left = run.left;
        after = run.end;
        accepted = run.accepted;
      }

  -- ---- what a file is pruned to

  module _ (name bytes text : List ℕ) (p : IsPruned limits own budget name bytes text) where
    abbrev forms : List WrittenForm
    forms = forms_of (commands_in p.file.items)

    place_below : p.place < length p.file.commands
    place_below =
        let l : p.place < 0 + length (commands_in p.file.items) = number_below (λ c. declares name c.form) 0 (commands_in p.file.items) p.place p.declared in
        let n : length p.file.commands ≡ length forms = accepted_length own forms p.file.accepted in
        let m : length forms ≡ length (commands_in p.file.items) = forms_length (commands_in p.file.items) in
        omega arith

    joins : (xs : List (List ℕ)) → concat xs ≡ joined xs
    joins [] = refl
    joins (x ∷ xs) = ap (λ rest. x ++ rest) (joins xs)

    pub stands_alone : PrunedAreAccepted → ChosenTextsAreRead → length text ≤ input_limit limits → StandsAlone limits own budget name bytes text p
    stands_alone pruned read short =
        let some = picked p.keep 0 (texts_in p.file.items p.texts) in
        let text_is : text ≡ joined (lines some) = p.text_is ∙ joins (lines some) in
        let those = picked p.keep 0 forms in
        let together = read limits bytes p.file.items p.texts some those p.file.reads p.texts_are (chosen p.keep 0 p.texts_are) (subst (λ t. length t ≤ input_limit limits) text_is short) in
        let items = together.commands in
        let forms_are : forms_of items ≡ those = together.forms_are in
        let all_are : commands_in items ≡ items = all_commands items (subst AreCommands (sym forms_are) (picked_commands p.keep 0 forms (commands_are p.file.items))) in
        let fewer : length those ≤ length forms = picked_fewer p.keep 0 forms in
        let same : length forms ≡ length (commands_in p.file.items) = forms_length (commands_in p.file.items) in
        let count : length (commands_in items) ≡ length those = ap length all_are ∙ sym (forms_length items) ∙ ap length forms_are in
        let few = p.file.few in
        let left = pruned budget p.place p.keep p.file.after (stated_in own forms) p.file.commands p.file.left p.file.accepted (cut_has own p.texts_are) place_below (record { rests = p.kept_rests; all = p.rests_kept }) in
        let their_forms : forms_of (commands_in items) ≡ those = ap forms_of all_are ∙ forms_are in
        record {
          file = record {
            items = items;
            reads = subst (λ t. IsReadAs limits t items) (sym text_is) together.reads;
            alone = subst (NeedOwn own) (sym forms_are) (picked_own p.keep 0 own forms (commands_own own p.file.items p.file.alone));
            few = omega (arith, fewer, same, count, few);
            commands = left.commands;
            left = picked p.keep 0 p.file.left;
            after = left.after;
            accepted = subst (λ fs. AreAccepted budget nothing_declared fs left.commands (picked p.keep 0 p.file.left) left.after) (sym (ap (stated_in own) their_forms ∙ picked_stated p.keep 0 own forms)) left.accepted;
          };
          forms_are = their_forms;
          left_is = refl;
        }
