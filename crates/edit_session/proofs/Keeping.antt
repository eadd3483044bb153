-- An answer that was made once is the present one wherever the command rests on the same texts.
use Rattle.std.proofs.Common.{List, [], ◌∷◌, map, ℕ, suc, ◌≡◌, Bool, true, false, not, Option, Some, None, refl, ap, sym, subst, ◌∙◌, option_map, if◌then◌else◌}
use Rattle.dk_model.specs.PlainCommands.{PlainAsked, PlainCommand, PlainFound, rule_command, query}
use Rattle.dk_model.specs.Answering.{is_answered}
use Rattle.dk_model.specs.Verdicts.{verdict, command_checked, found_of, inferred_type}
use Rattle.dk_model.specs.declared.code.Code.TheVariants.{E11}
use Rattle.dk_parser.specs.Written.{WrittenForm, written_declare, written_rules, written_query, written_module, written_require}
use Rattle.scope_terms.specs.Scopes.{Module, Numbered, Scoping, Symbols, asked_of, command_of, declaration_of, own_of, rules_of, scope_of, scoped, refused}
use Rattle.prune_theory.specs.Alike.{Maybe, neither, both}
use Rattle.prune_theory.specs.Laws.{IsBehind, SameAnswer}
use Rattle.prune_theory.specs.Renamed.{found_with_symbols, with_symbols}
use Rattle.prune_theory.specs.Renumbering.{picked, rank}
use Rattle.prune_theory.proofs.Replays.{same_answer}
use Rattle.prune_theory.proofs.Whole.{Holds, not_held, held, if_holds, one_holds, held_at}
use Rattle.edit_session.specs.Answers.{Answer, IsCommandBehind, answer_with, asked_found, at_top, is_among, renumbered}
use Rattle.edit_session.specs.Laws.{KeptAnswersServe}
use Rattle.edit_session.specs.Texts.{form_of}
use Rattle.edit_session.proofs.Numbers.{renumbers}

-- ---- lists

picked_if : {A B : Type 0} (f : A → B) (b : Bool) (x : A) (xs : List A) → map f (if b then x ∷ xs else xs) ≡ (if b then f x ∷ map f xs else map f xs)
picked_if f true x xs = refl
picked_if f false x xs = refl

pub picked_map : {A B : Type 0} (f : A → B) (keep : ℕ → Bool) (n : ℕ) (xs : List A) → map f (picked keep n xs) ≡ picked keep n (map f xs)
picked_map f keep n [] = refl
picked_map f keep n (x ∷ xs) = picked_if f (keep n) x (picked keep (suc n) xs) ∙ ap (λ z. if keep n then f x ∷ z else z) (picked_map f keep (suc n) xs)

pub somes_same : {A : Type 0} (xs ys : List A) → map Some xs ≡ map Some ys → xs ≡ ys
somes_same [] [] e = refl
somes_same [] (y ∷ ys) e = absurd cc
somes_same (x ∷ xs) [] e = absurd cc
somes_same (x ∷ xs) (y ∷ ys) e = let h : x ≡ y = cc in let t : map Some xs ≡ map Some ys = cc in λ i. h i ∷ somes_same xs ys t i

pub some_same : {A : Type 0} {o : Option A} {a b : A} → o ≡ Some a → o ≡ Some b → a ≡ b
some_same {a} {b} p q = let e : Some a ≡ Some b = sym p ∙ q in cc

-- ---- queries that only ask

abbrev asks : WrittenForm → Bool
asks (written_query demand a) = not demand
asks form = false

query_asks : (demand : Bool) (a : PlainAsked) → is_answered (query demand a) ≡ not demand
query_asks true a = refl
query_asks false a = refl

anything : {A : Type 0} (x : Scoping A) → Holds (λ a. Unit {0}) x
anything (refused c) = not_held
anything (scoped a) = held tt

form_asks : (A : Symbols) (N : Numbered) (f : WrittenForm) → Holds (λ c. is_answered c ≡ asks f) (command_of A N f)
form_asks A N (written_declare s x ps typ body) = if_holds _ _ E11 (one_holds (λ d. Unit {0}) (λ c. is_answered c ≡ false) _ (anything (declaration_of A N [] ps typ body)) (λ d u. refl))
form_asks A N (written_rules rs) = one_holds (λ a. Unit {0}) (λ c. is_answered c ≡ false) rule_command (anything (rules_of A N rs)) (λ a u. refl)
form_asks A N (written_query d q) = one_holds (λ a. Unit {0}) (λ c. is_answered c ≡ not d) (query d) (anything (asked_of A N q)) (λ a u. query_asks d a)
form_asks A N (written_module m) = not_held
form_asks A N (written_require m) = not_held

-- the command of a form only asks where the form does
pub command_asks : (A : Symbols) (m : Module) (f : WrittenForm) (c : PlainCommand) → scope_of A m f ≡ scoped c → is_answered c ≡ asks f
command_asks A m f c e = held_at (λ d. is_answered d ≡ asks f) c (form_asks A (own_of A m) f) e

-- ---- answers

option_used : {A B : Type 0} (f : A → B) {o : Option A} {p : Option B} → Maybe (λ t u. u ≡ f t) o p → p ≡ option_map f o
option_used f neither = refl
option_used f (both e) = ap (λ z. Some z) e

asked_with : (f : PlainFound → PlainFound) (b : Bool) (o p : Option PlainFound) → p ≡ option_map f o → asked_found b p ≡ option_map f (asked_found b o)
asked_with f true o p e = e
asked_with f false o p e = refl

pub kept_serve : KeptAnswersServe
kept_serve limits budget text kept before places T c made now q = let was : IsCommandBehind limits budget made.before text kept.places made.theory made.command = made.is_command in
    let old : ℕ → Bool = is_among kept.places in
    let new : ℕ → Bool = is_among places in
    let form : was.form ≡ now.form = some_same was.form_is now.form_is in
    let texts : picked old 0 made.before ≡ picked new 0 before = sym made.texts_are ∙ q in
    let forms : picked old 0 was.forms ≡ picked new 0 now.forms = somes_same _ _ (picked_map Some old 0 was.forms ∙ ap (picked old 0) (sym was.forms_are) ∙ sym (picked_map (form_of limits) old 0 made.before)
    ∙ ap (map (form_of limits)) texts ∙ picked_map (form_of limits) new 0 before ∙ ap (picked new 0) now.forms_are ∙ sym (picked_map Some new 0 now.forms)) in
    let stated : picked old 0 (map at_top was.forms) ≡ picked new 0 (map at_top now.forms) = sym (picked_map at_top old 0 was.forms) ∙ ap (map at_top) forms ∙ picked_map at_top new 0 now.forms in
    let then_behind : IsBehind budget old made.theory (map at_top was.forms) (at_top now.form) made.command = subst (λ f. IsBehind budget old made.theory (map at_top was.forms) (at_top f) made.command) form was.behind in
    let m : ℕ → ℕ = renumbered kept.places places in
    let answers : SameAnswer budget made.theory T old new made.command c = same_answer budget old new made.theory T (map at_top was.forms) (map at_top now.forms) (at_top now.form) made.command c then_behind now.behind stated in
    let numbers : (a b : ℕ) → old a ≡ true → new b ≡ true → rank old a ≡ rank new b → m a ≡ b = renumbers kept.places places was.ascending now.ascending in
    let asked : is_answered c ≡ is_answered made.command = command_asks T.names None now.form c now.behind.scopes ∙ sym (command_asks made.theory.names None now.form made.command then_behind.scopes) in
    let verdicts : verdict (command_checked made.theory.signature made.command budget) ≡ verdict (command_checked T.signature c budget) = ap verdict answers.checks in
    let types : inferred_type T.signature c budget ≡ option_map (with_symbols m) (inferred_type made.theory.signature made.command budget) = option_used (with_symbols m) (answers.types m numbers) in
    let findings : asked_found (is_answered c) (found_of T.signature c budget) ≡ option_map (found_with_symbols m) (asked_found (is_answered made.command) (found_of made.theory.signature made.command budget))
    = asked_with (found_with_symbols m) (is_answered c) (found_of made.theory.signature made.command budget) (found_of T.signature c budget) (option_used (found_with_symbols m) (answers.findings m numbers)) ∙ ap (λ b. option_map (found_with_symbols m) (asked_found b (found_of made.theory.signature made.command budget))) asked in
    (λ i. let a : Answer = record { verdict = sym verdicts i; typ = types i; found = findings i } in a) ∙ ap (answer_with m) (sym made.answer_is)
