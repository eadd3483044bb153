-- The commands of a file, found one after the other.
use Rattle.std.proofs.Common.{List, [], ◌∷◌, ◌++◌, length, ℕ, suc, ◌≡◌, ◌+◌, Bool, true, false, refl, ap, sym, subst, ◌∙◌, arith, if◌then◌else◌}
use Rattle.std.specs.Prelude.{Option, Some, None, Result, Ok, Err, IfOk}
use Rattle.dk_model.specs.declared.memory.NoMemory.{NoMemory}
use Rattle.dk_model.specs.Scoping.{PlainCommand}
use Rattle.dk_model.specs.declared.limits.Limits.{Limits}
use Rattle.dk_lexer.specs.Tokens.{whole}
use Rattle.dk_parser.specs.FileReading.{Reading as FileReading, read}
use Rattle.dk_parser.specs.FileReading as tail
use Rattle.dk_parser.specs.Modules.{is_directive}
use Rattle.dk_parser.specs.Written.{WrittenCommand, WrittenForm}
use Rattle.dk_parser.specs.RawViews.{written_form}
use Rattle.scope_terms.specs.Reading.{Reading, after_entering, current, no_reading}
use Rattle.scope_terms.specs.Scopes.{Module, Symbols, names_after, no_symbols, number_from, scope_of, scoped}
use Rattle.text_law.specs.Cuts.{IsReadAs}
use Rattle.text_law.specs.Texts.{forms_of}
use Rattle.file_reader.specs.Progress.{Answers, IsBehind, reading}
use Rattle.file_reader.specs.declared.reader.ReadEnd.{ReadEnd}
use Rattle.file_reader.specs.declared.reader.ReadEnd.TheVariants as end
use Rattle.file_reader.specs.Nexts.{IsWhich, raw_of}
use Rattle.file_reader.specs.declared.reader.Next.{Next}
use Rattle.file_reader.specs.declared.reader.Next.TheVariants as next
use Rattle.file_reader.specs.declared.reader.Reader.{Reader}
use Rattle.command_texts.specs.declared.span.Span.{Span}
use Rattle.prune_theory.specs.Folds.{AreAccepted, Declared, accepts_none, accepts_more}
use Rattle.prune_file.specs.Files.{commands_in, stated_in}
use Rattle.prune_file.specs.Pruned.{declared_at, declares}
use Rattle.prune_file.specs.declared.commands.Commands.{Commands}
use Rattle.prune_file.specs.Commands.{Adds, AreScoped, Found, HasAll, HasTaken, Stands, Takes, TakesBy, TakesNext, nothing_found, place_with, spans_in, symbols_behind}

-- ---- one more at the end of a list

abbrev last_of : Bool → WrittenCommand → List WrittenCommand
last_of d w = if d then [] else w ∷ []

commands_more : (w : WrittenCommand) (done : List WrittenCommand) → commands_in (done ++ w ∷ []) ≡ commands_in done ++ last_of (is_directive w.form) w
commands_more w [] = refl
commands_more w (c ∷ cs) = by (is_directive c.form) (commands_more w cs)
  where
    by : (d : Bool) → commands_in (cs ++ w ∷ []) ≡ commands_in cs ++ last_of (is_directive w.form) w → (if d then commands_in (cs ++ w ∷ []) else c ∷ commands_in (cs ++ w ∷ [])) ≡ (if d then commands_in cs else c ∷ commands_in cs) ++ last_of (is_directive w.form) w
    by true rest = rest
    by false rest = ap (λ (xs : List WrittenCommand). c ∷ xs) rest

forms_more : (w : WrittenCommand) (cs : List WrittenCommand) → forms_of (cs ++ w ∷ []) ≡ forms_of cs ++ w.form ∷ []
forms_more w [] = refl
forms_more w (c ∷ cs) = ap (λ (fs : List WrittenForm). c.form ∷ fs) (forms_more w cs)

abbrev last_span : Bool → Span → List Span
last_span d span = if d then [] else span ∷ []

spans_more : (w : WrittenCommand) (span : Span) (done : List WrittenCommand) (spans : List Span) → length spans ≡ length done
    → spans_in (done ++ w ∷ []) (spans ++ span ∷ []) ≡ spans_in done spans ++ last_span (is_directive w.form) span
spans_more w span [] [] even = by (is_directive w.form)
  where
    by : (d : Bool) → (if d then [] else span ∷ []) ≡ [] ++ last_span d span
    by true = refl
    by false = refl
spans_more w span [] (s ∷ spans) even = absurd (omega (arith, even))
spans_more w span (c ∷ cs) [] even = absurd (omega (arith, even))
spans_more w span (c ∷ cs) (s ∷ spans) even = by (is_directive c.form) (spans_more w span cs spans (let e : suc (length spans) ≡ suc (length cs) = even in omega (arith, e)))
  where
    by : (d : Bool) → spans_in (cs ++ w ∷ []) (spans ++ span ∷ []) ≡ spans_in cs spans ++ last_span (is_directive w.form) span
        → (if d then spans_in (cs ++ w ∷ []) (spans ++ span ∷ []) else s ∷ spans_in (cs ++ w ∷ []) (spans ++ span ∷ [])) ≡ (if d then spans_in cs spans else s ∷ spans_in cs spans) ++ last_span (is_directive w.form) span
    by true rest = rest
    by false rest = ap (λ (xs : List Span). s ∷ xs) rest

symbols_more : (own : Module) (A : Symbols) (f : WrittenForm) (fs : List WrittenForm) → symbols_behind own A (fs ++ f ∷ []) ≡ names_after (symbols_behind own A fs) own f
symbols_more own A f [] = refl
symbols_more own A f (g ∷ fs) = symbols_more own (names_after A own g) f fs

scoped_more : (own : Module) (A : Symbols) (f : WrittenForm) (c : PlainCommand) (fs : List WrittenForm) (cs : List PlainCommand) → AreScoped own A fs cs → scope_of (symbols_behind own A fs) own f ≡ scoped c
    → AreScoped own A (fs ++ f ∷ []) (cs ++ c ∷ [])
scoped_more own A f c [] [] are e = (e, tt)
scoped_more own A f c [] (d ∷ cs) are e = absurd are
scoped_more own A f c (g ∷ fs) [] are e = absurd are
scoped_more own A f c (g ∷ fs) (d ∷ cs) are e = (are.0, scoped_more own (names_after A own g) f c fs cs are.1 e)

pub scoped_length : (own : Module) (A : Symbols) (ws : List WrittenCommand) (cs : List PlainCommand) → AreScoped own A (forms_of ws) cs → length cs ≡ length ws
scoped_length own A [] [] are = refl
scoped_length own A [] (d ∷ cs) are = absurd are
scoped_length own A (w ∷ ws) [] are = absurd are
scoped_length own A (w ∷ ws) (d ∷ cs) are = ap suc (scoped_length own (names_after A own w.form) ws cs are.1)

number_more : (name : List ℕ) (n : ℕ) (w : WrittenCommand) (cs : List WrittenCommand) → number_from n (λ c. declares name c.form) (cs ++ w ∷ []) ≡ place_with name w.form (n + length cs) (number_from n (λ c. declares name c.form) cs)
number_more name n w [] = ap (λ k. if declares name w.form then Some k else None) (let q : n ≡ n + 0 = omega arith in q)
number_more name n w (c ∷ cs) = by (declares name c.form) (number_more name (n + 1) w cs)
  where
    by : (b : Bool) → number_from (n + 1) (λ c. declares name c.form) (cs ++ w ∷ []) ≡ place_with name w.form (n + 1 + length cs) (number_from (n + 1) (λ c. declares name c.form) cs) → (if b then Some n else number_from (n + 1) (λ c. declares name c.form) (cs ++ w ∷ [])) ≡ place_with name w.form (n + length (c ∷ cs)) (if b then Some n else number_from (n + 1) (λ c. declares name c.form) cs)
    by true rest = refl
    by false rest = rest ∙ ap (λ k. place_with name w.form k (number_from (n + 1) (λ c. declares name c.form) cs)) (let q : n + 1 + length cs ≡ n + length (c ∷ cs) = omega arith in q)

longer : {A : Type 0} (xs : List A) (x : A) → length (xs ++ x ∷ []) ≡ suc (length xs)
longer [] x = refl
longer (y ∷ xs) x = ap suc (longer xs x)

-- ---- one more command or directive

module _ (own : Module) (name : List ℕ) (done : List WrittenCommand) (before : List Span) (w : WrittenCommand) (span : Span) where
  abbrev more : List WrittenCommand
  more = done ++ w ∷ []

  abbrev Then : Found → Type 0
  Then t = HasTaken own name more (before ++ span ∷ []) t

  even_more : length before ≡ length done → length (before ++ span ∷ []) ≡ length more
  even_more e = longer before span ∙ ap suc e ∙ sym (longer done w)

  directive_taken : (s : Found) → HasTaken own name done before s → is_directive w.form ≡ true → Then s
  directive_taken s h e =
      let same : commands_in more ≡ commands_in done = commands_more w done ∙ ap (λ d. commands_in done ++ last_of d w) e ∙ no_more (commands_in done) in record {
        even = even_more h.even;
        own_is = h.own_is;
        symbols = h.symbols ∙ ap (λ cs. symbols_behind own no_symbols (forms_of cs)) (sym same);
        scoped = subst (λ cs. AreScoped own no_symbols (forms_of cs) s.commands) (sym same) h.scoped;
        spans_are = h.spans_are ∙ sym (spans_more w span done before h.even ∙ ap (λ d. spans_in done before ++ last_span d span) e ∙ no_more (spans_in done before));
        place = h.place ∙ ap (declared_at name) (sym same);
      }
    where
      no_more : {A : Type 0} (xs : List A) → xs ++ [] ≡ xs
      no_more [] = refl
      no_more (x ∷ xs) = ap (λ (ys : List _). x ∷ ys) (no_more xs)

  command_taken : (s t : Found) → HasTaken own name done before s → is_directive w.form ≡ false → Adds name w.form span s t → Then t
  command_taken s t h e a =
      let same : commands_in more ≡ commands_in done ++ w ∷ [] = commands_more w done ∙ ap (λ d. commands_in done ++ last_of d w) e in
      let forms : forms_of (commands_in more) ≡ forms_of (commands_in done) ++ w.form ∷ [] = ap forms_of same ∙ forms_more w (commands_in done) in
      let fs = forms_of (commands_in done) in record {
        even = even_more h.even;
        own_is = ap current a.names ∙ h.own_is;
        symbols = ap (λ (r : Reading). r.symbols) a.names
            ∙ ap (λ m. names_after s.names.symbols m w.form) h.own_is
            ∙ ap (λ A. names_after A own w.form) h.symbols
            ∙ sym (symbols_more own no_symbols w.form fs)
            ∙ ap (symbols_behind own no_symbols) (sym forms);
        scoped = subst (λ cs. AreScoped own no_symbols (forms_of (commands_in more)) cs) (sym a.commands)
            (subst (λ gs. AreScoped own no_symbols gs (s.commands ++ a.command ∷ [])) (sym forms)
            (scoped_more own no_symbols w.form a.command fs s.commands h.scoped (ap (λ A. scope_of A own w.form) (sym h.symbols) ∙ ap (λ m. scope_of s.names.symbols m w.form) (sym h.own_is) ∙ a.scopes)));
        spans_are = a.spans ∙ ap (λ (xs : List Span). xs ++ span ∷ []) h.spans_are ∙ sym (spans_more w span done before h.even ∙ ap (λ d. spans_in done before ++ last_span d span) e);
        place = a.place
            ∙ ap (λ n. place_with name w.form n s.place) (scoped_length own no_symbols (commands_in done) s.commands h.scoped)
            ∙ ap (place_with name w.form (length (commands_in done))) h.place
            ∙ ap (λ n. place_with name w.form n (declared_at name (commands_in done))) (let q : length (commands_in done) ≡ 0 + length (commands_in done) = omega arith in q)
            ∙ sym (number_more name 0 w (commands_in done))
            ∙ ap (declared_at name) (sym same);
      }

  pub one_taken : (s t : Found) → HasTaken own name done before s → Takes name w.form span s t → Then t
  one_taken s t h takes = by (is_directive w.form) refl takes
    where
      by : (d : Bool) → is_directive w.form ≡ d → TakesBy d name w.form span s t → Then t
      by true e same = subst Then (sym same) (directive_taken s h e)
      by false e a = command_taken s t h e a

-- as the reader tells it
pub takes_next : (name : List ℕ) (n : Next) (span : Span) (s t : Found) → IsWhich n → TakesNext name n span s t → Takes name (written_form (raw_of n).form) span s t
takes_next name (next.Command raw) span s t which takes = subst (λ d. TakesBy d name (written_form raw.form) span s t) (sym which) takes
takes_next name (next.Directive raw) span s t which takes = subst (λ d. TakesBy d name (written_form raw.form) span s t) (sym which) takes

-- ---- a whole file

module _ (limits : Limits) (own : Module) (name bytes : List ℕ) (all : List Span) where
  append_assoc : (xs ys zs : List Span) → (xs ++ ys) ++ zs ≡ xs ++ (ys ++ zs)
  append_assoc [] ys zs = refl
  append_assoc (x ∷ xs) ys zs = ap (λ (rest : List Span). x ∷ rest) (append_assoc xs ys zs)

  pub stands_first : (reader : Reader) (s : Found) (r : Reading) → IsBehind limits bytes [] (Some bytes) reader → s ≡ nothing_found r → r ≡ after_entering no_reading own
      → Stands limits own name bytes all [] reader bytes all s
  stands_first reader s r behind none entered = subst (Stands limits own name bytes all [] reader bytes all) (sym (none ∙ ap nothing_found entered)) (record {
    behind = behind;
    before = [];
    split = refl;
    taken = record { even = refl; own_is = refl; symbols = refl; scoped = tt; spans_are = refl; place = refl };
  })

  pub stands_next : (done : List WrittenCommand) (w : WrittenCommand) (span : Span) (reader after : Reader) (left later : List ℕ) (rest behind : List Span) (s t : Found) → Stands limits own name bytes all done reader left rest s
      → IsBehind limits bytes (done ++ w ∷ []) (Some later) after → rest ≡ span ∷ behind → Takes name w.form span s t
      → Stands limits own name bytes all (done ++ w ∷ []) after later behind t
  stands_next done w span reader after left later rest behind s t h goes is takes = record {
    behind = goes;
    before = h.before ++ span ∷ [];
    split = h.split ∙ ap (λ xs. h.before ++ xs) is ∙ sym (append_assoc h.before (span ∷ []) behind);
    taken = one_taken own name done h.before w span s t h.taken takes;
  }

  same_items : (a b : List WrittenCommand) → IsReadAs limits bytes b → read limits bytes whole ≡ reading a tail.whole → a ≡ b
  same_items a b are is = ap (λ (r : FileReading). r.commands) (sym is ∙ are)

  spans_front : (done : List WrittenCommand) (before rest : List Span) → length before ≡ length done → spans_in done (before ++ rest) ≡ spans_in done before
  spans_front [] [] [] even = refl
  spans_front [] [] (s ∷ rest) even = refl
  spans_front [] (s ∷ before) rest even = absurd (omega (arith, even))
  spans_front (c ∷ cs) [] rest even = absurd (omega (arith, even))
  spans_front (c ∷ cs) (s ∷ before) rest even = ap (λ xs. if is_directive c.form then xs else s ∷ xs) (spans_front cs before rest (let e : suc (length before) ≡ suc (length cs) = even in omega (arith, e)))

  pub whole_read : (done : List WrittenCommand) (left : Option (List ℕ)) (reader : Reader) (e : ReadEnd) → e ≡ end.Whole → Answers limits bytes done left reader (Err e) → read limits bytes whole ≡ reading done tail.whole
  whole_read done left reader e is answers = subst (λ x. Answers limits bytes done left reader (Err x)) is answers

  pub stands_last : (done : List WrittenCommand) (reader : Reader) (left : List ℕ) (rest : List Span) (s : Found) → Stands limits own name bytes all done reader left rest s → read limits bytes whole ≡ reading done tail.whole
      → (items : List WrittenCommand) → IsReadAs limits bytes items → HasAll own name items all s
  stands_last done reader left rest s h is items are = subst (λ cs. HasAll own name cs all s) (same_items done items are is) (record {
    scoped = h.taken.scoped;
    spans_are = h.taken.spans_are ∙ sym (ap (spans_in done) h.split ∙ spans_front done h.before rest h.taken.even);
    place = h.taken.place;
  })

-- ---- commands are scoped in one way

pub same_commands : (own : Module) {budget : ℕ} {U : Declared} (fs : List WrittenForm) (cs : List PlainCommand) {D : Declared} {ds : List PlainCommand} {ns : List ℕ} → AreAccepted budget D (stated_in own fs) ds ns U → AreScoped own D.names fs cs → cs ≡ ds
same_commands own [] [] accepts_none are = refl
same_commands own [] (c ∷ cs) accepts_none are = absurd are
same_commands own (f ∷ fs) [] (accepts_more e a rest) are = absurd are
same_commands own (f ∷ fs) (c ∷ cs) (accepts_more {c = d} e a rest) are =
    ap (λ (x : PlainCommand). x ∷ cs) (same_scoped c d (sym are.0 ∙ e)) ∙ ap (λ (xs : List PlainCommand). d ∷ xs) (same_commands own fs cs rest are.1)
  where
    same_scoped : (c d : PlainCommand) → scoped c ≡ scoped d → c ≡ d
    same_scoped c d e = cc

-- what is told of all that was found tells more
pub tells : (o : Result Commands NoMemory) (P Q : Commands → Type 0) → IfOk o P → ((all : Commands) → P all → Q all) → IfOk o Q
tells (Ok all) P Q is more = more all is
tells (Err n) P Q is more = tt

-- of all that was found, where reading ended with the file
pub whole_found : (o : Result Commands NoMemory) (e : ReadEnd) (found : Commands) (Q : Commands → Type 0)
    → IfOk o (λ all. (e ≡ end.Whole) × (all ≡ found)) → (e ≡ end.Whole → Q found) → IfOk o Q
whole_found o e found Q is holds = tells o _ Q is (λ all whole. subst Q (sym whole.1) (holds whole.0))
