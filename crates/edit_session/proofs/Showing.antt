-- What a report shows of an accepted command is what is due, where this was found of it.
use Rattle.std.proofs.Common.{◌≡◌, ℕ, Bool, true, false, List, [], refl, sym, ap, subst, ◌∙◌}
use Rattle.std.specs.Prelude.{is_some, if◌then◌else◌}
use Rattle.std.specs.Prelude.{Option, Some}
use Rattle.dk_model.specs.Answering.{is_answered}
use Rattle.dk_model.specs.Typing.{Judged, answer, ended, next, refused as refused_check}
use Rattle.dk_model.specs.Verdicts.{answer_of, found_of, query_found, verdict, verdict_of}
use Rattle.dk_model.specs.declared.code.Verdict.TheVariants.{Accepted}
use Rattle.dk_model.specs.PlainCommands.{PlainAsked, PlainCommand, PlainFound, declare, no, of_type, query, rule_command, value, yes}
use Rattle.dk_model.specs.PlainEntries.{PlainSignature}
use Rattle.dk_model.specs.declared.code.Code.TheVariants.{E06, E11}
use Rattle.dk_parser.specs.Written.{WrittenForm, written_declare, written_module, written_query, written_require, written_rules}
use Rattle.scope_terms.specs.Reading.{Reading, after_command, current}
use Rattle.scope_terms.specs.Scopes.{Declaration, Module, Scoping, Symbols, asked_of, declaration_of, number_of, one, own_of, refused, rules_of, scope_of, scoped}
use Rattle.term_print.specs.Named.{Word}
use Rattle.term_print.specs.Printing.{printed}
use Rattle.term_print.proofs.Worded.{word_of-with_number}
use Rattle.verdict_book.specs.Report.{name_in, says_type, says_value}
use Rattle.verdict_book.specs.Titles.{shown_in}
use Rattle.file_report.specs.Outcomes.{shown_name}
use Rattle.file_report.specs.Shown.{answer_shown, command_shown, found_shown, scoped_shown}
use Rattle.edit_session.specs.Answers.{asked_found}
use Rattle.edit_session.specs.Shown.{shown_by_form, shown_found, shown_with, words_in}

-- what is scoped comes of what it is made of
one_is : {A B : Type 0} (f : A → B) (s : Scoping A) (b : B) → one f s ≡ scoped b → (a : A) × (f a ≡ b)
one_is f (refused code) b is = absurd (let e : refused code ≡ scoped b = is in cc)
one_is f (scoped a) b is = (a, (let e : scoped (f a) ≡ scoped b = is in cc))

-- the words of a query's terms, when they are printed, are those that are due
abbrev AreSame : (ℕ → Word) → (ℕ → Word) → WrittenForm → Type 0
AreSame now words (written_query demand asked) = now ≡ words
AreSame now words form = Unit {0}

-- what was found of an accepted command: of a query that only asks its answer
pub record IsFoundOf (S : PlainSignature) (budget : ℕ) (c : PlainCommand) (o : Option PlainFound) : Type 0 where
  pub is : o ≡ asked_found (is_answered c) (found_of S c budget)
  pub accepted : verdict_of S c budget ≡ Accepted

module _ (now words : ℕ → Word) (home : List ℕ) (S : PlainSignature) (budget : ℕ) where
  found_is : now ≡ words → (p : PlainFound) → shown_in home (shown_found now p) ≡ found_shown words p
  found_is same yes = refl
  found_is same no = refl
  found_is same (of_type T) = ap (λ w. says_type (printed w T)) same
  found_is same (value t) = ap (λ w. says_value (printed w t)) same

  abbrev Shows : WrittenForm → Option PlainFound → PlainCommand → Type 0
  Shows form o c = IsFoundOf S budget c o → shown_in home (shown_with now form o) ≡ command_shown words (name_in home (shown_name form)) S budget c

  answer_there : (x : Judged PlainFound) → verdict (next x (λ f m. answer (let u : Unit {0} = tt in u) m)) ≡ Accepted → (f : PlainFound) × (answer_of x ≡ Some f)
  answer_there (answer f m) e = (f, refl)
  answer_there (refused_check c m) e = absurd cc
  answer_there ended e = absurd cc

  answered : (form : WrittenForm) (a : PlainAsked) (o : Option PlainFound) → now ≡ words → Shows form o (query false a)
  answered form a o same finds =
      let x : (f : PlainFound) × (found_of S (query false a) budget ≡ Some f) = answer_there (query_found S false a budget) finds.accepted in
      ap (λ z. shown_in home (shown_with now form z)) (finds.is ∙ x.1) ∙ found_is same x.0 ∙ ap (answer_shown words) (sym x.1)

  unanswered : (form : WrittenForm) (c : PlainCommand) (o : Option PlainFound) → is_answered c ≡ false → IsFoundOf S budget c o → shown_in home (shown_with now form o) ≡ shown_in home (shown_by_form form)
  unanswered form c o not finds = ap (λ z. shown_in home (shown_with now form z)) (finds.is ∙ ap (λ b. asked_found b (found_of S c budget)) not)

  by_form : (symbols : Symbols) (m : Module) (form : WrittenForm) (c : PlainCommand) (o : Option PlainFound) → AreSame now words form → scope_of symbols m form ≡ scoped c → Shows form o c
  by_form symbols m (written_query false asked) c o same is =
      let a = one_is (query false) (asked_of symbols (own_of symbols m) asked) c is in
      subst (Shows (written_query false asked) o) a.1 (answered (written_query false asked) a.0 o same)
  by_form symbols m (written_query true asked) c o same is =
      let a = one_is (query true) (asked_of symbols (own_of symbols m) asked) c is in
      subst (Shows (written_query true asked) o) a.1 (unanswered (written_query true asked) (query true a.0) o refl)
  by_form symbols m (written_rules rs) c o same is =
      let a = one_is rule_command (rules_of symbols (own_of symbols m) rs) c is in
      subst (Shows (written_rules rs) o) a.1 (unanswered (written_rules rs) (rule_command a.0) o refl)
  by_form symbols m (written_declare sort x params typ body) c o same is = by_new (is_some (number_of (own_of symbols m) x)) is
    where
      made : Declaration → PlainCommand
      made d = declare sort d.typ d.body

      by_new : (b : Bool) → (if b then refused E11 else one made (declaration_of symbols (own_of symbols m) [] params typ body)) ≡ scoped c → Shows (written_declare sort x params typ body) o c
      by_new true e = absurd (let bad : refused E11 ≡ scoped c = e in cc)
      by_new false e =
          let a = one_is made (declaration_of symbols (own_of symbols m) [] params typ body) c e in
          subst (Shows (written_declare sort x params typ body) o) a.1 (unanswered (written_declare sort x params typ body) (made a.0) o refl)
  by_form symbols m (written_module n) c o same is = absurd (let bad : refused E06 ≡ scoped c = is in cc)
  by_form symbols m (written_require n) c o same is = absurd (let bad : refused E06 ≡ scoped c = is in cc)

  shown_due : (symbols : Symbols) (m : Module) (form : WrittenForm) (c : PlainCommand) (o : Option PlainFound) → AreSame now words form → scope_of symbols m form ≡ scoped c → IsFoundOf S budget c o
      → shown_in home (shown_with now form o) ≡ scoped_shown words (name_in home (shown_name form)) S budget (scope_of symbols m form)
  shown_due symbols m form c o same is finds = by_form symbols m form c o same is finds ∙ ap (scoped_shown words (name_in home (shown_name form)) S budget) (sym is)

-- a query declares nothing, so its terms are printed as before it
words_same : (r : Reading) (form : WrittenForm) → AreSame (words_in (after_command r form)) (words_in r) form
words_same r (written_query demand asked) = word_of-with_number r.symbols (current r)
words_same r (written_declare sort x params typ body) = tt
words_same r (written_rules rs) = tt
words_same r (written_module n) = tt
words_same r (written_require n) = tt

-- what is shown of the next command, printed once it has its number
pub shown_next : (r : Reading) (home : List ℕ) (S : PlainSignature) (budget : ℕ) (form : WrittenForm) (c : PlainCommand) (o : Option PlainFound)
    → scope_of r.symbols (current r) form ≡ scoped c → IsFoundOf S budget c o
    → shown_in home (shown_with (words_in (after_command r form)) form o)
    ≡ scoped_shown (words_in r) (name_in home (shown_name form)) S budget (scope_of r.symbols (current r) form)
shown_next r home S budget form c o is finds =
    shown_due (words_in (after_command r form)) (words_in r) home S budget r.symbols (current r) form c o (words_same r form) is finds
