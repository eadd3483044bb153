-- The first fault of a declaration: its name stands before its type and its body.
use Rattle.std.proofs.Common.{◌≡◌, sym, subst, Bool, List, [], is_some, if◌then◌else◌}
use Rattle.std.specs.Prelude.{ℕ, Option}
use Rattle.dk_model.specs.Scoping.{PlainCommand, declare}
use Rattle.dk_model.specs.declared.code.Code.TheVariants.{E11}
use Rattle.dk_model.specs.declared.code.Fault.{Fault}
use Rattle.dk_model.specs.declared.code.Fault.TheVariants.{Refused}
use Rattle.dk_model.specs.declared.signature.SymSort.{SymSort}
use Rattle.dk_parser.specs.Written.{Written, WrittenParam, written_declare}
use Rattle.scope_terms.specs.Scopes.{Numbered, Scoping, Declaration, refused, one, Symbols, number_of, declaration_of, command_of}
use Rattle.scope_terms.specs.Answers.{IsFaultOf}
use Rattle.scope_terms.proofs.Stages.{one_fault, first_of}

pub declared_fault : (symbols : Symbols) (names : Numbered) (sort : SymSort) (x : List ℕ) (ps : List WrittenParam) (t b : Option Written) (fault first : Fault) → IsFaultOf (declaration_of symbols names [] ps t b) fault → first ≡ (if is_some (number_of names x) then Refused E11 else fault) → IsFaultOf (command_of symbols names (written_declare sort x ps t b)) first
declared_fault symbols names sort x ps t b fault first is which =
    let whole : Declaration → PlainCommand = λ d. declare sort d.typ d.body in
    let scoping : Scoping PlainCommand = one whole (declaration_of symbols names [] ps t b) in
    let there : Bool = is_some (number_of names x) in
    subst (λ (f : Fault). IsFaultOf (if there then refused E11 else scoping) f) (sym which) (first_of there E11 scoping fault (one_fault whole (declaration_of symbols names [] ps t b) fault is))
