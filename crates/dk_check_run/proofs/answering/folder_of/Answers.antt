use Rattle.std.proofs.Common.{◌∙◌, arith}
use Rattle.std.specs.Prelude.{None, Some}
use Rattle.std.proofs.lemmas.Str.Pattern.{rfind_char}
use Rattle.dk_check_run.proofs.Folders.{folder_at, no_folder}
use Rattle.dk_check_run.proofs.answering.folder_of.Goals as goal

pub returns-in-Some : goal.returns-in-Some
returns-in-Some c =
    let at = rfind_char 47 c.args.file.now (Some c.in-Some.slash) (c.in-Some.ensures {u = tt}).cases (omega arith) in
    c.range.ensures.value ∙ folder_at c.args.file.now c.in-Some.slash at.0 at.1 at.2

pub returns-in-None : goal.returns-in-None
returns-in-None c = no_folder c.args.file.now (rfind_char 47 c.args.file.now None (c.in-None.ensures {u = tt}).cases (omega arith))
