use Rattle.std.proofs.Common.{◌∙◌, ap, codes, false}
use Rattle.std.specs.Option.{option_map_or}
use Rattle.clap.proofs.WalkLemmas.{one_text-rows}
use Rattle.clap.specs.Words.{found_of, one_text}
use Rattle.command_line.specs.Requests.{is_true}
use Rattle.command_line.proofs.ReadValues.{flag_read}
use Rattle.command_line.proofs.request.quiet_in.Goals as goal

pub returns : goal.returns
returns c =
    let found = found_of c.args.check.now in
    let read = flag_read _ (one_text found (codes "quiet")) c.get_one.result c.get_one.ensures.none c.get_one.ensures.value in
    c.unwrap_or.ensures ∙ (read ∙ ap (λ o. option_map_or is_true o false) (one_text-rows found (codes "quiet")))
