-- The rules of a command in turn.
use Rattle.std.specs.Prelude.{Result, Ok, Err, List, ◌++◌}
use Rattle.dk_model.specs.PlainEntries.{PlainRule}
use Rattle.dk_model.specs.declared.code.Code.{Code}

-- rules behind those that are done
abbrev pub behind : List PlainRule → Result (List PlainRule) Code → Result (List PlainRule) Code
behind done (Err c) = Err c
behind done (Ok rs) = Ok (done ++ rs)
