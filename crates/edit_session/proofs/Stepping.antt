-- The fold of a session, from one text to the next.
use Rattle.std.proofs.Common.{ℕ, zero, suc, ◌≡◌, ◌≢◌, ◌<◌, ◌≤◌, ◌+◌, ◌-◌, true, false, nat_le, Option, Some, None, List, [], ◌∷◌, ◌++◌, length, map, replicate, take, drop, slice_get, refl, ap, sym, subst, ◌∙◌, arith, ◌⊎◌, inl, inr, if◌then◌else◌, append_assoc, true≢false}
use Rattle.std.specs.Arc.{arc_value}
use Rattle.std.proofs.lemmas.Bool.Decides.{nat_tests}
use Rattle.std.proofs.lemmas.List.Elements.{All-get_or}
use Rattle.std.proofs.lemmas.Option.{get_or_from_slice_get, slice_get_within}
use Rattle.dk_model.specs.PlainCommands.{PlainCommand}
use Rattle.dk_model.specs.Verdicts.{verdict_of}
use Rattle.dk_model.specs.declared.code.Code.{Code}
use Rattle.dk_model.specs.declared.code.Code.TheVariants.{E08}
use Rattle.dk_model.specs.declared.code.Verdict.{Verdict}
use Rattle.dk_model.specs.declared.code.Verdict.TheVariants as verdict
use Rattle.dk_model.specs.declared.limits.Limits.{Limits}
use Rattle.dk_parser.specs.RawViews.{written_form}
use Rattle.dk_parser.specs.Written.{WrittenForm}
use Rattle.board_core.specs.Places.{in_file}
use Rattle.board_core.specs.declared.event.Place.{Place}
use Rattle.scope_terms.specs.Names.{reading}
use Rattle.scope_terms.specs.Reading.{current}
use Rattle.scope_terms.specs.Scopes.{Scoping, refused, scope_of, scoped}
use Rattle.signature_log.specs.Versions.{entries_of}
use Rattle.theory_walk.specs.Walks.{Placed, goes_on}
use Rattle.verdict_book.specs.Report.{FileReport, PlainShown}
use Rattle.verdict_book.specs.Titles.{lines_in, shown_of}
use Rattle.verdict_book.specs.declared.outcome.Outcome.TheVariants as outcome
use Rattle.verdict_book.specs.declared.title.Title.{Title}
use Rattle.file_report.specs.Reports.{module_shown}
use Rattle.file_report.specs.Outcomes.{scoped_verdict}
use Rattle.file_report.specs.Theories.{checking}
use Rattle.file_report.specs.TheoryReports.{by_verdict, report_from, with_lines}
use Rattle.prune_theory.specs.Folds.{AreAccepted, Declared, nothing_declared}
use Rattle.edit_session.specs.Answers.{at_top}
use Rattle.edit_session.specs.Folding.{IsCounted, IsFolded, IsStopped, forms_in, report_behind, theory_in}
use Rattle.edit_session.specs.Forms.{numbered, placed_in, report_from_forms}
use Rattle.edit_session.specs.Grounds.{texts_in}
use Rattle.edit_session.specs.Held.{IsSlot, plain_slot}
use Rattle.edit_session.specs.Sessions.{Reaches, checks, is_shaped, kept_then}
use Rattle.edit_session.specs.Shaping.{RefusesShape}
use Rattle.edit_session.specs.Texts.{forms_of}
use Rattle.edit_session.specs.declared.fold.Fold.{Fold}
use Rattle.edit_session.specs.declared.slot.Slot.{Slot}
use Rattle.edit_session.proofs.Accepting.{forms_are, passed, reached_here}
use Rattle.edit_session.proofs.Counting.{Where, all_length, among, beyond, checks_all, got_map, kept_all, kept_past, past, somes_length, where_is}
use Rattle.edit_session.proofs.Rests.{pushed_map}

-- ---- lists

pub drop_at : {A : Type 0} (k : ℕ) (xs : List A) (x : A) → slice_get xs k ≡ Some x → drop k xs ≡ x ∷ drop (k + 1) xs
drop_at zero [] x e = absurd cc
drop_at zero (y ∷ xs) x e = let q : y ≡ x = cc in ap (λ (z : _). z ∷ xs) q
drop_at (suc k) [] x e = absurd cc
drop_at (suc k) (y ∷ xs) x e = drop_at k xs x e ∙ ap (λ n. x ∷ drop n (y ∷ xs)) (let q : suc (k + 1) ≡ suc k + 1 = omega arith in q)

pub map_length : {A B : Type 0} (f : A → B) (xs : List A) → length (map f xs) ≡ length xs
map_length f [] = refl
map_length f (x ∷ xs) = ap suc (map_length f xs)

pub lines_more : (ls : List PlainShown) (l : PlainShown) (r : FileReport) → with_lines ls (with_lines (l ∷ []) r) ≡ with_lines (ls ++ l ∷ []) r
lines_more ls l r = ap (λ (z : List PlainShown). let q : FileReport = record { lines = z; outcome = r.outcome } in q) (sym (append_assoc ls (l ∷ []) r.lines))

pub no_more : (ls : List PlainShown) → ls ++ [] ≡ ls
no_more [] = refl
no_more (l ∷ ls) = ap (λ (z : List PlainShown). l ∷ z) (no_more ls)

pub titles_more : (ts : List Title) (t : Title) → lines_in (ts ++ t ∷ []) ≡ lines_in ts ++ shown_of t ∷ []
titles_more ts t = pushed_map shown_of ts t

-- a verdict that isn't that a command is accepted ends the report
stops_by : (v : Verdict) (count : ℕ) (c : Placed) (shown : PlainShown) (rest : FileReport) → v ≢ verdict.Accepted → c.book ≡ None → by_verdict v count c shown rest ≡ (let r : FileReport = record { lines = []; outcome = outcome.Stopped (count + 1) (in_file c.command.line) v } in r)
stops_by verdict.Accepted count c shown rest n b = absurd (n refl)
stops_by (verdict.Refused code) count c shown rest n b = ap (λ book. let r : FileReport = record { lines = []; outcome = outcome.Stopped (count + 1) (let p : Place = record { line = c.command.line; «module» = module_shown book } in p) (verdict.Refused code) } in r) b
stops_by verdict.Ended count c shown rest n b = ap (λ book. let r : FileReport = record { lines = []; outcome = outcome.Stopped (count + 1) (let p : Place = record { line = c.command.line; «module» = module_shown book } in p) verdict.Ended } in r) b
stops_by verdict.Memory count c shown rest n b = ap (λ book. let r : FileReport = record { lines = []; outcome = outcome.Stopped (count + 1) (let p : Place = record { line = c.command.line; «module» = module_shown book } in p) verdict.Memory } in r) b

-- ---- one text

module _ (limits : Limits) (budget : ℕ) (start : List Slot) (at : ℕ) (slots : List Slot) (f : Fold) (h : IsFolded limits budget start at slots f) (slot : Slot) (here : slice_get slots at ≡ Some slot) where
  abbrev pub form : WrittenForm
  form = written_form slot.raw.form

  abbrev pub T : Declared
  T = h.behind.theory

  abbrev pub text : List ℕ
  text = arc_value slot.text

  pub slot_is : IsSlot limits budget slot
  slot_is = subst (IsSlot limits budget) (get_or_from_slice_get slots at slot slot here) (All-get_or (IsSlot limits budget) slots at slot (slice_get_within slots at slot here) h.slots_kept.right)

  pub form_here : slice_get (forms_in start) at ≡ Some form
  form_here = ap (λ fs. slice_get fs at) (sym h.slots_kept.forms) ∙ got_map (λ (s : Slot). written_form s.raw.form) slots at slot here

  pub text_here : slice_get (texts_in start) at ≡ Some text
  text_here = ap (λ ts. slice_get ts at) (sym h.slots_kept.texts) ∙ got_map (λ (s : Slot). arc_value s.text) slots at slot here

  pub start_forms : forms_of limits (texts_in start) ≡ forms_in start
  start_forms = ap (forms_of limits) (sym h.slots_kept.texts) ∙ forms_are limits budget slots h.slots_kept.right ∙ h.slots_kept.forms

  pub at_most : at < length (texts_in start)
  at_most = slice_get_within (texts_in start) at text text_here

  -- what is kept of it is as at the start
  pub plain_here : slice_get (map plain_slot start) at ≡ Some (plain_slot slot)
  plain_here = sym (kept_past (map plain_slot start) (map Some h.counted.lists) at (somes_length h.counted.lists ∙ h.counted.count)) ∙ ap (λ ss. slice_get ss at) (sym h.counted.kept) ∙ got_map plain_slot slots at slot here

  abbrev pub placed : Placed
  placed = record { book = None; command = record { line = at + 1; form = form } }

  -- the report of what is behind begins with this command
  pub report_here : report_behind limits budget (forms_in start) at T
      ≡ by_verdict ((checking limits budget None).verdict_on (theory_in T) at placed) at placed ((checking limits budget None).shown_on (theory_in T) placed)
      (report_from (checking limits budget None) ((checking limits budget None).after (theory_in T) placed) (at + 1) (placed_in (numbered (at + 1 + 1) (drop (at + 1) (forms_in start)))) (goes_on []))
  report_here = ap (λ fs. report_from (checking limits budget None) (theory_in T) at (placed_in (numbered (at + 1) fs)) (goes_on [])) (drop_at at (forms_in start) form form_here)

  -- ---- the end of the report

  pub stopped_lines : (v : Verdict) → (checking limits budget None).verdict_on (theory_in T) at placed ≡ v → v ≢ verdict.Accepted
      → report_from_forms limits budget (forms_in start) ≡ (let r : FileReport = record { lines = lines_in f.lines.titles; outcome = outcome.Stopped (at + 1) (in_file (at + 1)) v } in r)
  stopped_lines v e n = let rest : FileReport = report_from (checking limits budget None) ((checking limits budget None).after (theory_in T) placed) (at + 1) (placed_in (numbered (at + 1 + 1) (drop (at + 1) (forms_in start)))) (goes_on []) in
      h.lines ∙ ap (with_lines (lines_in f.lines.titles)) (report_here ∙ ap (λ z. by_verdict z at placed ((checking limits budget None).shown_on (theory_in T) placed) rest) e
      ∙ stops_by v at placed ((checking limits budget None).shown_on (theory_in T) placed) rest n refl)
      ∙ ap (λ (z : List PlainShown). let r : FileReport = record { lines = z; outcome = outcome.Stopped (at + 1) (in_file (at + 1)) v } in r) (no_more (lines_in f.lines.titles))

  -- why the report gets to no text behind this one
  abbrev pub Ends : Type 0
  Ends = (limits.commands ≤ at) ⊎ ((c : PlainCommand) → scope_of T.names None form ≡ scoped c → verdict_of T.signature c budget ≢ verdict.Accepted)

  pub reaches_none_behind : Ends → (k : ℕ) (list : List (List ℕ)) → at < k → ¬ Reaches limits budget (texts_in start) k list
  reaches_none_behind (inl e) k list l r = absurd (let w : k < limits.commands = r.within in omega (arith, e, l, w))
  reaches_none_behind (inr e) k list l r =
      let a : AreAccepted budget nothing_declared (map at_top (take k (forms_in start))) r.commands r.left r.theory = subst (λ fs. AreAccepted budget nothing_declared (map at_top (take k fs)) r.commands r.left r.theory) start_forms r.accepted in
      let p : (c : PlainCommand) × (scope_of T.names None form ≡ scoped c) × (verdict_of T.signature c budget ≡ verdict.Accepted) = passed budget (forms_in start) at form T h.behind.commands h.behind.left form_here h.behind.accepted k l a in
      e p.0 p.1 p.2

  -- why it doesn't get to this one
  abbrev pub Unreached : Type 0
  Unreached = (limits.commands ≤ at) ⊎ ((c : PlainCommand) → scope_of T.names None form ≡ scoped c → is_shaped T.signature c ≡ false)

  reaches_not_here : Unreached → (list : List (List ℕ)) → ¬ Reaches limits budget (texts_in start) at list
  reaches_not_here (inl e) list r = absurd (let w : at < limits.commands = r.within in omega (arith, e, w))
  reaches_not_here (inr e) list r =
      let a : AreAccepted budget nothing_declared (map at_top (take at (forms_in start))) r.commands r.left r.theory = subst (λ fs. AreAccepted budget nothing_declared (map at_top (take at fs)) r.commands r.left r.theory) start_forms r.accepted in
      let p : (scope_of T.names None form ≡ scoped r.command) × (is_shaped T.signature r.command ≡ true) =
      reached_here budget (forms_in start) at form T h.behind.commands h.behind.left form_here h.behind.accepted r.form r.command a (ap (λ fs. slice_get fs at) (sym start_forms) ∙ r.form_is) r.scopes r.shaped in
      absurd (true≢false (sym p.1 ∙ e r.command p.0))

  -- the lists so far, and none behind them
  pub counted_with : (ls : List (List (List ℕ))) (left : ℕ) (slots' : List Slot) (checked : ℕ) → length ls + left ≡ length (texts_in start)
      → ((k : ℕ) (list : List (List ℕ)) → slice_get ls k ≡ Some list → Reaches limits budget (texts_in start) k list)
      → ((k : ℕ) (list : List (List ℕ)) → length ls ≤ k → ¬ Reaches limits budget (texts_in start) k list)
      → checked ≡ checks (map plain_slot start) (map Some ls) → map plain_slot slots' ≡ kept_then (map plain_slot start) (map Some ls) → IsCounted limits budget start slots' checked
  counted_with ls left slots' checked l reached others c k = record {
    lists = map Some ls ++ replicate left None;
    reached = record {
      count = all_length ls left ∙ l;
      reached = λ i list e. there i list (where_is ls left i) e;
      others = λ i list e. not_there i list (where_is ls left i) e;
    };
    checks_are = c ∙ sym (checks_all (map plain_slot start) (map Some ls) left);
    kept = k ∙ sym (kept_all (map plain_slot start) (map Some ls) left);
  }
    where
      there : (i : ℕ) (list : List (List ℕ)) {o : Option (Option (List (List ℕ)))} → Where ls left i o → o ≡ Some (Some list) → Reaches limits budget (texts_in start) i list
      there i list (among m g) e = let q : m ≡ list = cc in reached i list (g ∙ ap Some q)
      there i list (past g) e = absurd cc
      there i list beyond e = absurd cc

      not_there : (i : ℕ) (list : List (List ℕ)) {o : Option (Option (List (List ℕ)))} → Where ls left i o → o ≡ Some None → ¬ Reaches limits budget (texts_in start) i list
      not_there i list (among m g) e = absurd cc
      not_there i list (past g) e = others i list g
      not_there i list beyond e = absurd cc

  counted_here : Ends → Unreached → IsCounted limits budget start slots f.checked
  counted_here ends un = counted_with h.counted.lists (length (texts_in start) - at) slots f.checked (let q : length h.counted.lists ≡ at = h.counted.count in omega (arith, q, at_most)) h.counted.reached behind h.counted.checks_are h.counted.kept
    where
      behind : (k : ℕ) (list : List (List ℕ)) → length h.counted.lists ≤ k → ¬ Reaches limits budget (texts_in start) k list
      behind k list l r = by (split at k (let q : length h.counted.lists ≡ at = h.counted.count in omega (arith, q, l)))
        where
          split : (n m : ℕ) → n ≤ m → (m ≡ n) ⊎ (n < m)
          split n m l = eq-or-lt n m l
            where
              eq-or-lt : (n m : ℕ) → n ≤ m → (m ≡ n) ⊎ (n < m)
              eq-or-lt zero zero l = inl refl
              eq-or-lt zero (suc m) l = inr (omega arith)
              eq-or-lt (suc n) zero l = absurd (omega (arith, l))
              eq-or-lt (suc n) (suc m) l = up (eq-or-lt n m (omega (arith, l)))
                where
                  up : (m ≡ n) ⊎ (n < m) → (suc m ≡ suc n) ⊎ (suc n < suc m)
                  up (inl q) = inl (ap suc q)
                  up (inr q) = inr (omega (arith, q))

          by : (k ≡ at) ⊎ (at < k) → ⊥
          by (inl q) = reaches_not_here un list (subst (λ z. Reaches limits budget (texts_in start) z list) q r)
          by (inr q) = reaches_none_behind ends k list q r

  -- a command that isn't checked
  pub stops_unchecked : (v : Verdict) → (checking limits budget None).verdict_on (theory_in T) at placed ≡ v → v ≢ verdict.Accepted → v ≢ verdict.Memory → Ends → Unreached → IsStopped limits budget start at v slots f
  stops_unchecked v e n m ends un = record {
    lines = stopped_lines v e n;
    titles = h.titles;
    quiet = h.quiet;
    counted = counted_here ends un;
    slots_kept = h.slots_kept;
    fault = n;
    told = m;
  }

  -- one command too many
  pub stops_full : f.most ≤ at → IsStopped limits budget start at (verdict.Refused E08) slots f
  stops_full l = let full : limits.commands ≤ at = subst (λ n. n ≤ at) h.most l in
      stops_unchecked (verdict.Refused E08) (ap (λ b. if b then verdict.Refused E08 else scoped_verdict T.signature budget (scope_of T.names None form)) (let q : nat_le limits.commands at ≡ true = grind (arith, nat_tests, full) in q))
      (λ q. let z : verdict.Refused E08 ≡ verdict.Accepted = q in cc) (λ q. let z : verdict.Refused E08 ≡ verdict.Memory = q in cc) (inl full) (inl full)

  pub scoped_here : (at < f.most) → (s : Scoping PlainCommand) → scope_of T.names None form ≡ s → (checking limits budget None).verdict_on (theory_in T) at placed ≡ scoped_verdict T.signature budget s
  scoped_here l s e = let below : at < limits.commands = subst (λ n. at < n) h.most l in
      ap (λ b. if b then verdict.Refused E08 else scoped_verdict T.signature budget (scope_of T.names None form)) (let q : nat_le limits.commands at ≡ false = grind (arith, nat_tests, below) in q) ∙ ap (scoped_verdict T.signature budget) e

  pub same_scope : (s : Scoping PlainCommand) → scope_of (reading f.names).symbols (current (reading f.names)) form ≡ s → scope_of T.names None form ≡ s
  same_scope s e = (λ i. scope_of (sym h.behind.names i) (sym h.behind.current_is i) form) ∙ e

  -- a command that isn't scoped, or has no shape
  pub stops_unscoped : at < f.most → (code : Code) → scope_of (reading f.names).symbols (current (reading f.names)) form ≡ refused code → IsStopped limits budget start at (verdict.Refused code) slots f
  stops_unscoped l code e = let s : scope_of T.names None form ≡ refused code = same_scope (refused code) e in
      stops_unchecked (verdict.Refused code) (scoped_here l (refused code) s) (λ q. let z : verdict.Refused code ≡ verdict.Accepted = q in cc) (λ q. let z : verdict.Refused code ≡ verdict.Memory = q in cc)
      (inr (λ c g. absurd (let z : scoped c ≡ refused code = sym g ∙ s in cc))) (inr (λ c g. absurd (let z : scoped c ≡ refused code = sym g ∙ s in cc)))

  pub stops_unshaped : at < f.most → (code : Code) (c : PlainCommand) → scope_of (reading f.names).symbols (current (reading f.names)) form ≡ scoped c → RefusesShape (entries_of f.version) c (verdict.Refused code)
      → IsStopped limits budget start at (verdict.Refused code) slots f
  stops_unshaped l code c e r = let s : scope_of T.names None form ≡ scoped c = same_scope (scoped c) e in
      let refuses : RefusesShape T.signature c (verdict.Refused code) = subst (λ S. RefusesShape S c (verdict.Refused code)) h.behind.signature r in
      let same : (d : PlainCommand) → scope_of T.names None form ≡ scoped d → c ≡ d = λ d g. let z : scoped c ≡ scoped d = sym s ∙ g in cc in
      stops_unchecked (verdict.Refused code) (scoped_here l (scoped c) s ∙ refuses.verdict_is budget) (λ q. let z : verdict.Refused code ≡ verdict.Accepted = q in cc) (λ q. let z : verdict.Refused code ≡ verdict.Memory = q in cc)
      (inr (λ d g q. let z : verdict.Refused code ≡ verdict.Accepted = sym (refuses.verdict_is budget) ∙ ap (λ x. verdict_of T.signature x budget) (same d g) ∙ q in cc))
      (inr (λ d g. ap (is_shaped T.signature) (sym (same d g)) ∙ refuses.unshaped))
