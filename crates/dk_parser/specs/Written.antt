-- Trusted: commands and directives as written, as plain data: the values of `Raw` and its parts without pointers.
use Rattle.std.specs.Prelude.{ℕ, Bool, Option, List}
use Rattle.dk_model.specs.declared.signature.SymSort.{SymSort}
pub use Rattle.dk_terms.specs.Written.{Written, written_name, written_qualified, written_star, written_wild, written_apply, written_arrow, written_product, written_bare, written_annotated, WrittenPattern, pattern_name, pattern_qualified, pattern_wild, pattern_guard, pattern_apply, pattern_bare}

pub record WrittenParam : Type 0 where
  pub binder : Option (List ℕ)
  pub typ : Written

pub record WrittenNote : Type 0 where
  pub name : List ℕ
  pub note : Option Written

pub record WrittenRule : Type 0 where
  pub context : List WrittenNote
  pub left : WrittenPattern
  pub right : Written

-- what a query asks: whether a term has a type, whether two terms are convertible, the type of a term, its value
pub data WrittenAsked : Type 0 where
  asked_typed : Written → Written → WrittenAsked
  asked_alike : Written → Written → WrittenAsked
  asked_type : Written → WrittenAsked
  asked_value : Written → WrittenAsked

-- a command as written, or a directive with its module; a query is `#ASSERT` where the first is true
pub data WrittenForm : Type 0 where
  written_declare : SymSort → List ℕ → List WrittenParam → Option Written → Option Written → WrittenForm
  written_rules : List WrittenRule → WrittenForm
  written_query : Bool → WrittenAsked → WrittenForm
  written_module : List ℕ → WrittenForm
  written_require : List ℕ → WrittenForm

-- a command or a directive, with the line of its first token
pub record WrittenCommand : Type 0 where
  pub line : ℕ
  pub form : WrittenForm
