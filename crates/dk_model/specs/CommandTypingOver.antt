-- Trusted: the check of a command over any evaluation (docs/typing.md).
use Rattle.std.specs.Prelude.{Bool, true, false, Option, Some, None, Result, Ok, Err, List, []}
use Rattle.dk_model.specs.PlainTerms.{Tree}
use Rattle.dk_model.specs.Erasure.{erased}
use Rattle.dk_model.specs.PlainEntries.{PlainRule, PlainSignature}
use Rattle.dk_model.specs.Shapes.{shapes_of}
use Rattle.dk_model.specs.PlainCommands.{PlainAsked, typed, alike, type_of, value_of, PlainFound, yes, no, of_type, value, PlainCommand, declare, rule_command, query}
use Rattle.dk_model.specs.TypingOver.{Evaluator, JudgedIn, answer, refused, ended, after, next, not_kind, as_convertible, inferred, checked, sort_of}
use Rattle.dk_model.specs.RuleTypingOver.{rules_typed}
use Rattle.dk_model.specs.declared.code.Code.{Code}
use Rattle.dk_model.specs.declared.code.Code.TheVariants.{E21}

-- the answer no in place of a refusal
abbrev pub or_no : {X : Type 0} → JudgedIn X PlainFound → JudgedIn X PlainFound
or_no (answer f n) = answer f n
or_no (refused c n) = answer no n
or_no ended = ended

-- what a query finds by its check: where it asks for yes or no and doesn't demand, a refusal is the answer no
abbrev pub found_by : {X : Type 0} → Bool → PlainAsked → JudgedIn X PlainFound → JudgedIn X PlainFound
found_by true a x = x
found_by false (typed t A) x = or_no x
found_by false (alike t u) x = or_no x
found_by false (type_of t) x = x
found_by false (value_of t) x = x

module _ {X : Type 0} (E : Evaluator X) (S : PlainSignature) where
  -- a body against its declared type, where there is a body
  abbrev pub body_checked : Tree → Option Tree → X → JudgedIn X (Unit {0})
  body_checked A None n = answer tt n
  body_checked A (Some b) n = checked E S [] [] b (erased A) n

  -- the type of a body without a declared type, which isn't `Kind`
  abbrev pub body_type : Tree → X → JudgedIn X Tree
  body_type b n = next (inferred E S [] [] b n) not_kind

  -- the declared type has a sort, then the body fits it; without a declared type the body has a type
  abbrev pub declaration_checked : Option Tree → Option Tree → X → JudgedIn X (Unit {0})
  declaration_checked (Some A) b n = next (sort_of E S [] [] A n) (λ s m. body_checked A b m)
  declaration_checked None (Some b) n = next (body_type b n) (λ T m. answer tt m)
  declaration_checked None None n = answer tt n

  -- the rules of a command have their shapes, which takes no unit; then each is typed, in file order
  abbrev pub rules_checked : Result (List PlainRule) Code → X → JudgedIn X (Unit {0})
  rules_checked (Ok rs) n = rules_typed E S rs n
  rules_checked (Err c) n = refused c n

  -- two terms that have types are convertible without their annotations
  abbrev pub compared : Tree → Tree → X → JudgedIn X (Unit {0})
  compared t u n = next (inferred E S [] [] t n) (λ T m. next (inferred E S [] [] u m) (λ U i. as_convertible E E21 (erased t) (erased u) i))

  -- the normal form of a term that has a type, without its annotations
  abbrev pub evaluated : Tree → X → JudgedIn X Tree
  evaluated t n = next (inferred E S [] [] t n) (λ T m. after (E.normal m (erased t)) answer)

  -- the check of a query; that a term has a type is checked as a theorem's body against its declared type
  abbrev pub asked_found : PlainAsked → X → JudgedIn X PlainFound
  asked_found (typed t A) n = next (declaration_checked (Some A) (Some t) n) (λ v m. answer yes m)
  asked_found (alike t u) n = next (compared t u n) (λ v m. answer yes m)
  asked_found (type_of t) n = next (inferred E S [] [] t n) (λ T m. answer (of_type T) m)
  asked_found (value_of t) n = next (evaluated t n) (λ v m. answer (value v) m)

  -- what a query finds
  abbrev pub query_found : Bool → PlainAsked → X → JudgedIn X PlainFound
  query_found demand a n = found_by demand a (asked_found a n)

  -- the check of a command over a signature, with the units that are left of the budget
  abbrev pub command_checked : PlainCommand → X → JudgedIn X (Unit {0})
  command_checked (declare s A b) n = declaration_checked A b n
  command_checked (rule_command rs) n = rules_checked (shapes_of S rs) n
  command_checked (query demand a) n = next (query_found demand a n) (λ f m. answer tt m)
