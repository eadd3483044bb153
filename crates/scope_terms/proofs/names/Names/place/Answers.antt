use Rattle.std.proofs.Common.{List, [], map, sym, subst}
use Rattle.dk_parser.specs.RawViews.{maybe_written, written_form, written_param}
use Rattle.dk_parser.specs.declared.raw.RawForm.{RawForm}
use Rattle.dk_parser.specs.declared.raw.RawParam.{RawParam}
use Rattle.scope_terms.specs.Scopes.{declaration_of, command_of}
use Rattle.scope_terms.specs.Names.{reading}
use Rattle.scope_terms.specs.Reading.{own_names}
use Rattle.scope_terms.specs.Answers.{IsFaultOf}
use Rattle.scope_terms.proofs.Declarations.{declared_fault}
use Rattle.scope_terms.proofs.names.Names.place.Goals as goal

pub returns-in-Err-clause-refused : goal.returns-in-Err-clause-refused
returns-in-Err-clause-refused c =
    let is = subst (λ (ps : List RawParam). IsFaultOf (declaration_of (reading c.args.self.now).symbols (own_names (reading c.args.self.now)) [] (map written_param ps) (maybe_written c.in-Declare.typ) (maybe_written c.in-Declare.body)) c.in-Err.fault) c.as_slice-params.ensures c.in-Err.ensures.refused in
    subst (λ (f : RawForm). IsFaultOf (command_of (reading c.args.self.now).symbols (own_names (reading c.args.self.now)) (written_form f)) c.first_fault.result) (sym c.in-Declare.is)
    (declared_fault (reading c.args.self.now).symbols (own_names (reading c.args.self.now)) c.in-Declare.sort c.in-Declare.name (map written_param c.in-Declare.params) (maybe_written c.in-Declare.typ) (maybe_written c.in-Declare.body) c.in-Err.fault c.first_fault.result is c.first_fault.ensures)
