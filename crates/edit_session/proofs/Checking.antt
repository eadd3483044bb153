-- The fold of a session, where the command of a text is scoped and has its shapes.
use Rattle.std.proofs.Common.{ℕ, zero, suc, ◌≡◌, ◌≢◌, ◌<◌, ◌≤◌, ◌+◌, ◌-◌, true, Some, None, List, [], ◌∷◌, ◌++◌, length, map, take, drop, slice_get, slice_set, refl, ap, sym, subst, ◌∙◌, arith, ◌⊎◌, inl, inr}
use Rattle.std.specs.Arc.{arc_value}
use Rattle.std.specs.Option.{ForSome, option_map}
use Rattle.std.proofs.lemmas.List.Elements.{All-set}
use Rattle.dk_model.specs.PlainCommands.{PlainCommand}
use Rattle.dk_model.specs.PlainEntries.{PlainSignature}
use Rattle.dk_model.specs.Typing.{Judged, answer, ended, refused as refused_check}
use Rattle.dk_model.specs.Verdicts.{command_checked, entry_of, inferred_type, verdict_of}
use Rattle.dk_model.specs.Verdicts as verdicts
use Rattle.dk_model.specs.declared.code.Verdict.{Verdict}
use Rattle.dk_model.specs.declared.code.Verdict.TheVariants as verdict
use Rattle.dk_model.specs.declared.limits.Limits.{Limits}
use Rattle.dk_model.specs.declared.signature.Entry.{Entry}
use Rattle.dk_parser.specs.RawViews.{written_form}
use Rattle.dk_parser.specs.Written.{WrittenForm}
use Rattle.dk_parser.specs.declared.raw.Raw.{Raw}
use Rattle.board_core.specs.Places.{in_file}
use Rattle.scope_terms.specs.Names.{reading}
use Rattle.scope_terms.specs.Reading.{Reading, after_command, current}
use Rattle.scope_terms.specs.Scopes.{Scoping, names_after, scope_of, scoped}
use Rattle.shared_term.specs.Finding.{plain_found}
use Rattle.shared_term.specs.declared.stored.Stored.{Stored}
use Rattle.signature_log.specs.Versions.{entries_of, stored_entry}
use Rattle.term_print.specs.Words.{word_of}
use Rattle.theory_walk.specs.Walks.{Placed, goes_on}
use Rattle.verdict_book.specs.Report.{FileReport, name_in}
use Rattle.verdict_book.specs.Titles.{lines_in, shown_in, shown_of}
use Rattle.verdict_book.specs.declared.outcome.Outcome.TheVariants as outcome
use Rattle.verdict_book.specs.declared.shown.Shown.{Shown}
use Rattle.verdict_book.specs.declared.title.Title.{Title}
use Rattle.file_report.specs.Outcomes.{Theory, scoped_entry, shown_name}
use Rattle.file_report.specs.Shown.{scoped_shown}
use Rattle.file_report.specs.Theories.{checking}
use Rattle.file_report.specs.TheoryReports.{by_verdict, report_from, with_lines}
use Rattle.prune_theory.specs.Folds.{AreAccepted, Declared, declared_with, nothing_declared}
use Rattle.prune_theory.specs.Laws.{HaveTypeOrBody, TestsRests}
use Rattle.prune_theory.specs.Mentions.{IsAscending}
use Rattle.prune_theory.specs.Renumbering.{picked}
use Rattle.edit_session.specs.Answering.{AnswersRightly, IsAskedAt, Question, kept_of, list_of}
use Rattle.edit_session.specs.Answers.{Answer, IsCommandBehind, IsMade, answer_on, at_top, is_among}
use Rattle.edit_session.specs.Folding.{IsBehindForms, IsCountedTo, IsFolded, IsQuiet, IsStopped, KeepsSlots, forms_in, report_behind, theory_in}
use Rattle.edit_session.specs.Forms.{numbered, placed_in, report_from_forms}
use Rattle.edit_session.specs.Grounds.{IsGround, texts_at, texts_in}
use Rattle.edit_session.specs.Held.{IsSlot, plain_answer, plain_kept, plain_slot}
use Rattle.edit_session.specs.Resting.{IsResting, RestOn}
use Rattle.edit_session.specs.Sessions.{PlainSlot, Reaches, checks, checks_for, is_shaped, kept_then}
use Rattle.edit_session.specs.Shown.{shown_with, words_in}
use Rattle.edit_session.specs.Texts.{form_of, is_command_text}
use Rattle.edit_session.specs.declared.answering.Answered.{Answered}
use Rattle.edit_session.specs.declared.fold.Fold.{Fold}
use Rattle.edit_session.specs.declared.fold.Lines.{Lines}
use Rattle.edit_session.specs.declared.grounds.Ground.{Ground}
use Rattle.edit_session.specs.declared.slot.Slot.{Slot}
use Rattle.edit_session.proofs.Accepting.{accepts_last, form_has, forms_have, some_forms, take_map, tests, units_left}
use Rattle.edit_session.proofs.Counting.{checks_last, kept_last, set_map, set_same, somes_last, somes_length, got_map}
use Rattle.edit_session.proofs.Picking.{grounds_picked, list_picked, take_one_more}
use Rattle.edit_session.proofs.Rests.{pushed_length, pushed_map}
use Rattle.edit_session.proofs.Showing.{shown_next}
use Rattle.edit_session.proofs.Stepping.{at_most, counted_with, form_here, lines_more, plain_here, reaches_none_behind, report_here, same_scope, scoped_here, slot_is, start_forms, stopped_lines, text_here, titles_more}

-- want of memory is no verdict
never_memory : (S : PlainSignature) (c : PlainCommand) (budget : ℕ) → verdict_of S c budget ≢ verdict.Memory
never_memory S c budget e = by (command_checked S c budget) e
  where
    by : (j : Judged (Unit {0})) → verdicts.verdict j ≡ verdict.Memory → ⊥
    by (answer u n) e = cc
    by (refused_check code n) e = cc
    by ended e = cc

-- what is known of a command that is scoped and has its shapes, and of its answer
pub record IsJudged (budget : ℕ) (commands : List PlainCommand) (at : ℕ) (slots : List Slot) (f : Fold) (slot slot' : Slot) (c : PlainCommand) (a : Answered) : Type 0 where
  pub scopes : scope_of (reading f.names).symbols (current (reading f.names)) (written_form slot.raw.form) ≡ scoped c
  pub shaped : is_shaped (entries_of f.version) c ≡ true
  pub below : at < f.most
  pub places : List ℕ
  pub rest : RestOn commands c places
  pub basis : Ground
  pub is_ground : IsGround (texts_in slots) places at basis
  pub right : AnswersRightly slot slot' basis (let q : Question = record { signature = entries_of f.version; command = c; budget = budget } in q) a
  pub listed : kept_of slot' ≡ Some (list_of slot basis)
  pub counts : a.checks ≡ checks_for (kept_of slot) (Some (list_of slot basis))
  pub text : slot'.text ≡ slot.text
  pub raw : slot'.raw ≡ slot.raw

module _ (limits : Limits) (budget : ℕ) (start : List Slot) (at : ℕ) (slots : List Slot) (f : Fold) (h : IsFolded limits budget start at slots f) (slot : Slot) (here : slice_get slots at ≡ Some slot)
    (slot' : Slot) (c : PlainCommand) (a : Answered) (j : IsJudged budget h.behind.commands at slots f slot slot' c a) where
  abbrev form : WrittenForm
  form = written_form slot.raw.form

  abbrev T : Declared
  T = h.behind.theory

  abbrev slots' : List Slot
  slots' = slice_set slots at slot'

  abbrev list : List (List ℕ)
  list = list_of slot j.basis

  abbrev before : List ℕ
  before = j.is_ground.before

  scopes : scope_of T.names None form ≡ scoped c
  scopes = same_scope limits budget start at slots f h slot here (scoped c) j.scopes

  within : at < limits.commands
  within = subst (λ n. at < n) h.most j.below

  fits : at ≤ length (texts_in start)
  fits = let l : at < length (texts_in start) = at_most limits budget start at slots f h slot here in omega (arith, l)

  ascending : IsAscending (before ++ at ∷ [])
  ascending = subst IsAscending j.is_ground.places_are j.rest.ascending

  rests : TestsRests (h.behind.commands ++ c ∷ []) (length h.behind.commands) (is_among j.places)
  rests = tests h.behind.commands c j.places j.rest

  -- ---- what it is asked for

  texts_picked : map arc_value j.basis.texts.items ≡ picked (is_among j.basis.places) 0 (take at (texts_in start))
  texts_picked = j.is_ground.texts_are ∙ ap (λ ts. texts_at ts before) h.slots_kept.texts ∙ sym (grounds_picked (texts_in start) at before fits ascending)
      ∙ ap (λ ps. picked (is_among ps) 0 (take at (texts_in start))) (sym (j.is_ground.kept ∙ j.is_ground.places_are))

  before_forms : map (form_of limits) (take at (texts_in start)) ≡ map Some (take at (forms_in start))
  before_forms = sym (take_map (form_of limits) at (texts_in start)) ∙ ap (take at) (ap (map (form_of limits)) (sym h.slots_kept.texts) ∙ some_forms limits budget slots h.slots_kept.right ∙ ap (map Some) h.slots_kept.forms)
      ∙ take_map Some at (forms_in start)

  is_behind : IsCommandBehind limits budget (take at (texts_in start)) (arc_value slot.text) j.basis.places T c
  is_behind = record {
    forms = take at (forms_in start);
    forms_are = before_forms;
    form = form;
    form_is = (slot_is limits budget start at slots f h slot here).form;
    behind = record {
      commands = h.behind.commands;
      left = h.behind.left;
      accepted = h.behind.accepted;
      written = subst (λ fs. HaveTypeOrBody (map at_top (take at fs))) h.slots_kept.forms (forms_have limits budget at slots h.slots_kept.right);
      last_written = form_has limits (arc_value slot.text) form (slot_is limits budget start at slots f h slot here).form;
      scopes = scopes;
      rests = subst (λ ps. TestsRests (h.behind.commands ++ c ∷ []) (length h.behind.commands) (is_among ps)) (sym j.is_ground.kept) rests;
    };
    ascending = subst IsAscending (sym j.is_ground.kept) j.rest.ascending;
  }

  asked_at : IsAskedAt limits slot j.basis (let q : Question = record { signature = entries_of f.version; command = c; budget = budget } in q)
  asked_at = record {
    before = take at (texts_in start);
    theory = T;
    is_behind = is_behind;
    signature = sym h.behind.signature;
    texts = texts_picked;
    kept = (slot_is limits budget start at slots f h slot here).kept;
  }

  pub answer_now : plain_answer a.findings ≡ answer_on (entries_of f.version) c budget
  answer_now = j.right.answers limits asked_at

  answer_is : plain_answer a.findings ≡ answer_on T.signature c budget
  answer_is = answer_now ∙ ap (λ S. answer_on S c budget) h.behind.signature

  verdict_is : a.findings.verdict ≡ verdict_of T.signature c budget
  verdict_is = ap (λ (x : Answer). x.verdict) answer_is

  -- ---- the slots then

  slot_then : IsSlot limits budget slot'
  slot_then = let is : IsSlot limits budget slot = slot_is limits budget start at slots f h slot here in record {
    is_text = ap (λ t. is_command_text limits (arc_value t)) j.text ∙ is.is_text;
    form = ap (λ t. form_of limits (arc_value t)) j.text ∙ is.form ∙ ap (λ (r : Raw). Some (written_form r.form)) (sym j.raw);
    kept = subst (λ t. ForSome slot'.kept (λ k. IsMade limits budget (arc_value t) (plain_kept k))) (sym j.text) (j.right.made limits asked_at);
  }

  pub slots_then : KeepsSlots limits budget start slots'
  slots_then = record {
    texts = set_map (λ (s : Slot). arc_value s.text) slots at slot' ∙ ap (λ t. slice_set (texts_in slots) at (arc_value t)) j.text
        ∙ set_same (texts_in slots) at (arc_value slot.text) (got_map (λ (s : Slot). arc_value s.text) slots at slot here) ∙ h.slots_kept.texts;
    forms = set_map (λ (s : Slot). written_form s.raw.form) slots at slot' ∙ ap (λ (r : Raw). slice_set (forms_in slots) at (written_form r.form)) j.raw
        ∙ set_same (forms_in slots) at form (got_map (λ (s : Slot). written_form s.raw.form) slots at slot here) ∙ h.slots_kept.forms;
    right = All-set (IsSlot limits budget) slots at slot' slot_then h.slots_kept.right;
  }

  -- ---- what is counted

  tested : TestsRests (h.behind.commands ++ c ∷ []) at (is_among j.places)
  tested = subst (λ n. TestsRests (h.behind.commands ++ c ∷ []) n (is_among j.places)) h.behind.count rests

  reaches : Reaches limits budget (texts_in start) at list
  reaches = record {
    within = within;
    theory = T;
    commands = h.behind.commands;
    left = h.behind.left;
    accepted = subst (λ fs. AreAccepted budget nothing_declared (map at_top (take at fs)) h.behind.commands h.behind.left T) (sym (start_forms limits budget start at slots f h slot here)) h.behind.accepted;
    form = form;
    form_is = ap (λ fs. slice_get fs at) (start_forms limits budget start at slots f h slot here) ∙ form_here limits budget start at slots f h slot here;
    command = c;
    scopes = scopes;
    shaped = ap (λ S. is_shaped S c) (sym h.behind.signature) ∙ j.shaped;
    keep = is_among j.places;
    keeps = tested.rests;
    keeps_all = tested.all;
    list_is = ap (λ (z : List (List ℕ)). z ++ arc_value slot.text ∷ []) (j.is_ground.texts_are ∙ ap (λ ts. texts_at ts before) h.slots_kept.texts)
        ∙ list_picked (texts_in start) at (arc_value slot.text) before (text_here limits budget start at slots f h slot here) fits ascending
        ∙ ap (λ ps. picked (is_among ps) 0 (take (at + 1) (texts_in start))) (sym j.is_ground.places_are);
  }

  abbrev lists : List (List (List ℕ))
  lists = h.counted.lists ++ list ∷ []

  lists_count : length lists ≡ at + 1
  lists_count = let p : length lists ≡ suc (length h.counted.lists) = pushed_length h.counted.lists list in let q : length h.counted.lists ≡ at = h.counted.count in omega (arith, p, q)

  somes : length (map Some h.counted.lists) ≡ at
  somes = somes_length h.counted.lists ∙ h.counted.count

  all_reached : (k : ℕ) (l : List (List ℕ)) → slice_get lists k ≡ Some l → Reaches limits budget (texts_in start) k l
  all_reached k l e = by h.counted.lists k (at_last h.counted.lists k l e)
    where
      at_last : (ls : List (List (List ℕ))) (k : ℕ) (l : List (List ℕ)) → slice_get (ls ++ list ∷ []) k ≡ Some l → (slice_get ls k ≡ Some l) ⊎ ((k ≡ length ls) × (l ≡ list))
      at_last [] zero l e = inr (refl, (let q : l ≡ list = cc in q))
      at_last [] (suc k) l e = absurd cc
      at_last (x ∷ ls) zero l e = inl e
      at_last (x ∷ ls) (suc k) l e = up (at_last ls k l e)
        where
          up : (slice_get ls k ≡ Some l) ⊎ ((k ≡ length ls) × (l ≡ list)) → (slice_get ls k ≡ Some l) ⊎ ((suc k ≡ suc (length ls)) × (l ≡ list))
          up (inl q) = inl q
          up (inr q) = inr (ap suc q.0, q.1)

      by : (ls : List (List (List ℕ))) (k : ℕ) → (slice_get h.counted.lists k ≡ Some l) ⊎ ((k ≡ length h.counted.lists) × (l ≡ list)) → Reaches limits budget (texts_in start) k l
      by ls k (inl q) = h.counted.reached k l q
      by ls k (inr q) = subst (λ z. Reaches limits budget (texts_in start) z l) (sym (q.0 ∙ h.counted.count)) (subst (Reaches limits budget (texts_in start) at) (sym q.1) reaches)

  checks_then : f.checked + a.checks ≡ checks (map plain_slot start) (map Some lists)
  checks_then = (λ i. h.counted.checks_are i + j.counts i)
      ∙ sym (ap (checks (map plain_slot start)) (somes_last h.counted.lists list) ∙ checks_last (map plain_slot start) (map Some h.counted.lists) at (plain_slot slot) (Some list) somes (plain_here limits budget start at slots f h slot here))

  kept_now : map plain_slot slots' ≡ kept_then (map plain_slot start) (map Some lists)
  kept_now = set_map plain_slot slots at slot' ∙ (λ i. slice_set (h.counted.kept i) at (let p : PlainSlot = record { text = arc_value (j.text i); kept = j.listed i } in p))
      ∙ sym (ap (kept_then (map plain_slot start)) (somes_last h.counted.lists list) ∙ kept_last (map plain_slot start) (map Some h.counted.lists) at (plain_slot slot) list somes (plain_here limits budget start at slots f h slot here))

  pub counted_then : (checked : ℕ) → checked ≡ f.checked + a.checks → IsCountedTo limits budget start (at + 1) slots' checked
  counted_then checked e = record { lists = lists; count = lists_count; reached = all_reached; checks_are = e ∙ checks_then; kept = kept_now }

  -- ---- the end of the report

  pub stops_checked : (f' : Fold) (v : Verdict) → f'.lines ≡ f.lines → f'.checked ≡ f.checked + a.checks → a.findings.verdict ≡ v → v ≢ verdict.Accepted → IsStopped limits budget start at v slots' f'
  stops_checked f' v l e is n = record {
    lines = stopped_lines limits budget start at slots f h slot here v (scoped_here limits budget start at slots f h slot here j.below (scoped c) scopes ∙ due) n
        ∙ ap (λ ts. let r : FileReport = record { lines = lines_in ts; outcome = outcome.Stopped (at + 1) (in_file (at + 1)) v } in r) (sym (ap (λ (x : Lines). x.titles) l));
    titles = ap (λ (x : Lines). length x.titles) l ∙ h.titles;
    quiet = subst (λ (x : Lines). IsQuiet x.book at) (sym l) h.quiet;
    counted = counted_with limits budget start at slots f h slot here lists (length (texts_in start) - (at + 1)) slots' f'.checked
        (let p : length lists ≡ at + 1 = lists_count in let q : at < length (texts_in start) = at_most limits budget start at slots f h slot here in omega (arith, p, q)) all_reached
        (λ k l m. reaches_none_behind limits budget start at slots f h slot here (inr (λ d g q. n (sym due ∙ ap (λ x. verdict_of T.signature x budget) (same d g) ∙ q))) k l (let p : length lists ≡ at + 1 = lists_count in omega (arith, p, m)))
        (e ∙ checks_then) kept_now;
    slots_kept = slots_then;
    fault = n;
    told = λ q. never_memory T.signature c budget (due ∙ q);
  }
    where
      due : verdict_of T.signature c budget ≡ v
      due = sym verdict_is ∙ is

      same : (d : PlainCommand) → scope_of T.names None form ≡ scoped d → c ≡ d
      same d g = let z : scoped c ≡ scoped d = sym scopes ∙ g in cc

  -- ---- the next text

  abbrev D : Declared
  D = declared_with budget T (at_top form) c

  pub record IsAdded (f' : Fold) (e : Entry Stored) (shown : Shown) : Type 0 where
    pub most : f'.most ≡ f.most
    pub names : reading f'.names ≡ after_command (reading f.names) form
    pub entry : stored_entry e ≡ entry_of (entries_of f.version) c (inferred_type (entries_of f.version) c budget)
    pub version : entries_of f'.version ≡ entries_of f.version ++ stored_entry e ∷ []
    pub resting : IsResting (h.behind.commands ++ c ∷ []) f'.resting
    pub shown_is : shown ≡ shown_with (words_in (reading f'.names)) form (option_map plain_found a.findings.found)
    pub titles : f'.lines.titles ≡ f.lines.titles ++ record { shown = shown; place = in_file (at + 1) } ∷ []
    pub quiet : IsQuiet f'.lines.book (at + 1)
    pub checked : f'.checked ≡ f.checked + a.checks

  module _ (accepted : a.findings.verdict ≡ verdict.Accepted) (f' : Fold) (e : Entry Stored) (shown : Shown) (n : IsAdded f' e shown) where
    due : verdict_of T.signature c budget ≡ verdict.Accepted
    due = sym verdict_is ∙ accepted

    abbrev title : Title
    title = record { shown = shown; place = in_file (at + 1) }

    abbrev placed : Placed
    placed = record { book = None; command = record { line = at + 1; form = form } }

    shown_due : (checking limits budget None).shown_on (theory_in T) placed ≡ shown_of title
    shown_due = sym (ap (shown_in []) (n.shown_is ∙ ap (λ z. shown_with (words_in z) form (option_map plain_found a.findings.found)) n.names)
        ∙ shown_next (reading f.names) [] (entries_of f.version) budget form c (option_map plain_found a.findings.found) j.scopes (record {
          is = ap (λ (x : Answer). x.found) answer_now;
          accepted = ap (λ S. verdict_of S c budget) h.behind.signature ∙ due;
        })
        ∙ (λ i. scoped_shown (word_of (h.behind.names i) (h.behind.current_is i)) (name_in [] (shown_name form)) (h.behind.signature i) budget (scope_of (h.behind.names i) (h.behind.current_is i) form)))

    theory_due : (checking limits budget None).after (theory_in T) placed ≡ theory_in D
    theory_due = ap (λ (s : Scoping PlainCommand). let t : Theory = record { names = names_after T.names None form; signature = T.signature ++ scoped_entry T.signature budget s } in t) scopes

    lines : report_from_forms limits budget (forms_in start) ≡ with_lines (lines_in f'.lines.titles) (report_behind limits budget (forms_in start) (at + 1) D)
    lines = h.lines ∙ ap (with_lines (lines_in f.lines.titles)) (report_here limits budget start at slots f h slot here
        ∙ (λ i. by_verdict ((scoped_here limits budget start at slots f h slot here j.below (scoped c) scopes ∙ due) i) at placed (shown_due i)
        (report_from (checking limits budget None) (theory_due i) (at + 1) (placed_in (numbered (at + 1 + 1) (drop (at + 1) (forms_in start)))) (goes_on []))))
        ∙ lines_more (lines_in f.lines.titles) (shown_of title) (report_behind limits budget (forms_in start) (at + 1) D)
        ∙ ap (λ ls. with_lines ls (report_behind limits budget (forms_in start) (at + 1) D)) (sym (ap lines_in n.titles ∙ titles_more f.lines.titles title))

    forms_more : map at_top (take (at + 1) (forms_in start)) ≡ map at_top (take at (forms_in start)) ++ at_top form ∷ []
    forms_more = ap (map at_top) (take_one_more at (forms_in start) form (form_here limits budget start at slots f h slot here)) ∙ pushed_map at_top (take at (forms_in start)) form

    units : (m : ℕ) × (command_checked T.signature c budget ≡ answer tt m)
    units = units_left T.signature c budget due

    behind_more : IsBehindForms budget (forms_in start) (at + 1) f'
    behind_more = record {
      commands = h.behind.commands ++ c ∷ [];
      left = h.behind.left ++ units.0 ∷ [];
      theory = D;
      accepted = subst (λ fs. AreAccepted budget nothing_declared fs (h.behind.commands ++ c ∷ []) (h.behind.left ++ units.0 ∷ []) D) (sym forms_more) (accepts_last (at_top form) c units.0 h.behind.accepted scopes units.1);
      names = ap (λ (x : Reading). x.symbols) n.names ∙ (λ i. names_after (h.behind.names i) (h.behind.current_is i) form);
      current_is = ap current n.names ∙ h.behind.current_is;
      signature = n.version ∙ ap (λ x. entries_of f.version ++ x ∷ []) n.entry ∙ ap (λ S. S ++ entry_of S c (inferred_type S c budget) ∷ []) h.behind.signature;
      resting = n.resting;
      count = (let p : length (h.behind.commands ++ c ∷ []) ≡ suc (length h.behind.commands) = pushed_length h.behind.commands c in let q : length h.behind.commands ≡ at = h.behind.count in omega (arith, p, q));
    }

    pub goes_further : IsFolded limits budget start (at + 1) slots' f'
    unfolding behind_more
    goes_further = record {
      most = n.most ∙ h.most;
      behind = behind_more;
      lines = lines;
      titles = ap (λ (ts : List Title). length ts) n.titles ∙ (let p : length (f.lines.titles ++ title ∷ []) ≡ suc (length f.lines.titles) = pushed_length f.lines.titles title in let q : length f.lines.titles ≡ at = h.titles in omega (arith, p, q));
      quiet = n.quiet;
      counted = counted_then f'.checked n.checked;
      slots_kept = slots_then;
    }
