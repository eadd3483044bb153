-- For callers: two things that are the same but for the numbers of their symbols, which a relation between numbers ties.
use Rattle.std.specs.Prelude.{ℕ, ◌≡◌, Bool, Option, Some, None, Result, Ok, Err, List, [], ◌∷◌, eqb}
use Rattle.dk_model.specs.PlainTerms.{Tree, star, kind, symbol, variable, rule_variable, apply, bare, annotated, product}
use Rattle.dk_model.specs.PlainEntries.{Pattern, Patterns, no_patterns, more_patterns, rule_variable_pattern, wildcard_pattern, guard_pattern, symbol_pattern, variable_pattern, abstraction_pattern, PlainRule, PlainEntry, symbol_entry, rules_entry, PlainSignature}
use Rattle.dk_model.specs.PlainCommands.{PlainLeft, left_symbol, left_rule_variable, left_variable, left_wildcard, left_guard, left_abstraction, left_apply, PlainScopedRule, PlainAsked, typed, alike, type_of, value_of, PlainFound, yes, no, of_type, value, PlainCommand, declare, rule_command, query}
use Rattle.dk_model.specs.Units.{Units}
use Rattle.dk_model.specs.SymbolRules.{rules_of}
use Rattle.dk_model.specs.Shapes.{is_definable}
use Rattle.dk_model.specs.Typing.{Judged, answer, refused, ended, symbol_type}
use Rattle.dk_model.specs.declared.signature.SymSort.{SymSort}
use Rattle.dk_model.specs.declared.code.Code.{Code}

-- ---- lists, options and answers

-- as long, and R holds at each place
pub data Each {A B : Type 0} (R : A → B → Type 0) : List A → List B → Type 0 where
  none_left : Each R [] []
  one_more : {a : A} {b : B} {as' : List A} {bs : List B} → R a b → Each R as' bs → Each R (a ∷ as') (b ∷ bs)

pub data Maybe {A B : Type 0} (R : A → B → Type 0) : Option A → Option B → Type 0 where
  neither : Maybe R None None
  both : {a : A} {b : B} → R a b → Maybe R (Some a) (Some b)

-- the same units are left, or the units suffice for neither
pub data InUnits {A B : Type 0} (R : A → B → Type 0) : Units A → Units B → Type 0 where
  both_end : InUnits R None None
  both_give : {a : A} {b : B} {n : ℕ} → R a b → InUnits R (Some (a, n)) (Some (b, n))

-- the same for what typing gives, with the same code where it refuses
pub data InJudged {A B : Type 0} (R : A → B → Type 0) : Judged A → Judged B → Type 0 where
  both_answer : {a : A} {b : B} {n : ℕ} → R a b → InJudged R (answer a n) (answer b n)
  both_refused : {c : Code} {n : ℕ} → InJudged R (refused c n) (refused c n)
  both_ended : InJudged R ended ended

pub data InResult {A B C : Type 0} (R : A → B → Type 0) : Result A C → Result B C → Type 0 where
  both_ok : {a : A} {b : B} → R a b → InResult R (Ok a) (Ok b)
  both_err : {c : C} → InResult R (Err c) (Err c)

-- ---- terms

pub data Alike (Q : ℕ → ℕ → Type 0) : Tree → Tree → Type 0 where
  alike_star : Alike Q star star
  alike_kind : Alike Q kind kind
  alike_symbol : {j k : ℕ} → Q j k → Alike Q (symbol j) (symbol k)
  alike_variable : {k : ℕ} → Alike Q (variable k) (variable k)
  alike_rule_variable : {k : ℕ} → Alike Q (rule_variable k) (rule_variable k)
  alike_apply : {f g a b : Tree} → Alike Q f g → Alike Q a b → Alike Q (apply f a) (apply g b)
  alike_bare : {b c : Tree} → Alike Q b c → Alike Q (bare b) (bare c)
  alike_annotated : {n m b c : Tree} → Alike Q n m → Alike Q b c → Alike Q (annotated n b) (annotated m c)
  alike_product : {a b c d : Tree} → Alike Q a c → Alike Q b d → Alike Q (product a b) (product c d)

-- ---- patterns, rules and entries

mutual
  pub data AlikePattern (Q : ℕ → ℕ → Type 0) : Pattern → Pattern → Type 0 where
    alike_rule_variable_pattern : {k : ℕ} {xs : List ℕ} → AlikePattern Q (rule_variable_pattern k xs) (rule_variable_pattern k xs)
    alike_wildcard_pattern : AlikePattern Q wildcard_pattern wildcard_pattern
    alike_guard_pattern : {t u : Tree} → Alike Q t u → AlikePattern Q (guard_pattern t) (guard_pattern u)
    alike_symbol_pattern : {j k : ℕ} {ps qs : Patterns} → Q j k → AlikePatterns Q ps qs → AlikePattern Q (symbol_pattern j ps) (symbol_pattern k qs)
    alike_variable_pattern : {k : ℕ} {ps qs : Patterns} → AlikePatterns Q ps qs → AlikePattern Q (variable_pattern k ps) (variable_pattern k qs)
    alike_abstraction_pattern : {p q : Pattern} → AlikePattern Q p q → AlikePattern Q (abstraction_pattern p) (abstraction_pattern q)

  pub data AlikePatterns (Q : ℕ → ℕ → Type 0) : Patterns → Patterns → Type 0 where
    alike_no_patterns : AlikePatterns Q no_patterns no_patterns
    alike_more_patterns : {p q : Pattern} {ps qs : Patterns} → AlikePattern Q p q → AlikePatterns Q ps qs → AlikePatterns Q (more_patterns p ps) (more_patterns q qs)

pub data AlikeRule (Q : ℕ → ℕ → Type 0) : PlainRule → PlainRule → Type 0 where
  alike_rule : {j k vars : ℕ} {ps qs : List Pattern} {ns ms : List (Option Tree)} {t u : Tree}
      → Q j k → Each (AlikePattern Q) ps qs → Each (Maybe (Alike Q)) ns ms → Alike Q t u
      → AlikeRule Q (record { head = j; vars = vars; pats = ps; notes = ns; right = t }) (record { head = k; vars = vars; pats = qs; notes = ms; right = u })

pub data AlikeEntry (Q : ℕ → ℕ → Type 0) : PlainEntry → PlainEntry → Type 0 where
  alike_symbol_entry : {s : SymSort} {t u : Tree} {b c : Option Tree} → Alike Q t u → Maybe (Alike Q) b c → AlikeEntry Q (symbol_entry s t b) (symbol_entry s u c)
  alike_rules_entry : {rs qs : List PlainRule} → Each (AlikeRule Q) rs qs → AlikeEntry Q (rules_entry rs) (rules_entry qs)

-- ---- scoped commands

pub data AlikeLeft (Q : ℕ → ℕ → Type 0) : PlainLeft → PlainLeft → Type 0 where
  alike_left_symbol : {j k : ℕ} → Q j k → AlikeLeft Q (left_symbol j) (left_symbol k)
  alike_left_rule_variable : {k : ℕ} → AlikeLeft Q (left_rule_variable k) (left_rule_variable k)
  alike_left_variable : {k : ℕ} → AlikeLeft Q (left_variable k) (left_variable k)
  alike_left_wildcard : AlikeLeft Q left_wildcard left_wildcard
  alike_left_guard : {t u : Tree} → Alike Q t u → AlikeLeft Q (left_guard t) (left_guard u)
  alike_left_abstraction : {l m : PlainLeft} → AlikeLeft Q l m → AlikeLeft Q (left_abstraction l) (left_abstraction m)
  alike_left_apply : {f g a b : PlainLeft} → AlikeLeft Q f g → AlikeLeft Q a b → AlikeLeft Q (left_apply f a) (left_apply g b)

pub data AlikeScopedRule (Q : ℕ → ℕ → Type 0) : PlainScopedRule → PlainScopedRule → Type 0 where
  alike_scoped_rule : {vars : ℕ} {ns ms : List (Option Tree)} {l m : PlainLeft} {t u : Tree}
      → Each (Maybe (Alike Q)) ns ms → AlikeLeft Q l m → Alike Q t u
      → AlikeScopedRule Q (record { vars = vars; notes = ns; left = l; right = t }) (record { vars = vars; notes = ms; left = m; right = u })

pub data AlikeAsked (Q : ℕ → ℕ → Type 0) : PlainAsked → PlainAsked → Type 0 where
  alike_typed : {t u A B : Tree} → Alike Q t u → Alike Q A B → AlikeAsked Q (typed t A) (typed u B)
  alike_alike : {t u v w : Tree} → Alike Q t u → Alike Q v w → AlikeAsked Q (alike t v) (alike u w)
  alike_type_of : {t u : Tree} → Alike Q t u → AlikeAsked Q (type_of t) (type_of u)
  alike_value_of : {t u : Tree} → Alike Q t u → AlikeAsked Q (value_of t) (value_of u)

-- what queries find
pub data AlikeFinding (Q : ℕ → ℕ → Type 0) : PlainFound → PlainFound → Type 0 where
  alike_yes : AlikeFinding Q yes yes
  alike_no : AlikeFinding Q no no
  alike_of_type : {t u : Tree} → Alike Q t u → AlikeFinding Q (of_type t) (of_type u)
  alike_value : {t u : Tree} → Alike Q t u → AlikeFinding Q (value t) (value u)

pub data AlikeCommand (Q : ℕ → ℕ → Type 0) : PlainCommand → PlainCommand → Type 0 where
  alike_declare : {s : SymSort} {A A' b b' : Option Tree} → Maybe (Alike Q) A A' → Maybe (Alike Q) b b' → AlikeCommand Q (declare s A b) (declare s A' b')
  alike_rule_command : {rs qs : List PlainScopedRule} → Each (AlikeScopedRule Q) rs qs → AlikeCommand Q (rule_command rs) (rule_command qs)
  alike_query : {demand : Bool} {a b : PlainAsked} → AlikeAsked Q a b → AlikeCommand Q (query demand a) (query demand b)

-- the relation ties a number to at most one on each side
abbrev pub IsMatching : (ℕ → ℕ → Type 0) → Type 0
IsMatching Q = (j k a b : ℕ) → Q j a → Q k b → eqb j k ≡ eqb a b

-- the two signatures give the same, but for the numbers of symbols, of symbols that are tied: so a check that begins at
-- tied symbols cannot tell the two apart
pub record AreSimilar (Q : ℕ → ℕ → Type 0) (S S' : PlainSignature) : Type 0 where
  pub matching : IsMatching Q
  pub rules : (j a : ℕ) → Q j a → Each (AlikeRule Q) (rules_of S j) (rules_of S' a)
  pub types : (j a : ℕ) → Q j a → Alike Q (symbol_type S j) (symbol_type S' a)
  pub definable : (j a : ℕ) → Q j a → is_definable S j ≡ is_definable S' a
