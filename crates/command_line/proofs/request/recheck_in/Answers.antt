use Rattle.std.proofs.Common.{◌≡◌, ◌∙◌, ap, codes, Some, None, sym}
use Rattle.std.specs.Option.{option_map}
use Rattle.clap.proofs.WalkLemmas.{first_value-rows}
use Rattle.clap.specs.Words.{found_of, rows_of}
use Rattle.command_line.specs.Requests.{certificate_in, file_in}
use Rattle.command_line.specs.Views.{plain_recheck}
use Rattle.command_line.proofs.RequestParts.{recheck_all, recheck_no_certificate, recheck_no_file}
use Rattle.command_line.proofs.request.recheck_in.Goals as goal

pub returns-in_err-file : goal.returns-in_err-file
returns-in_err-file c =
    let found = found_of c.args.recheck.now in
    let file : file_in (rows_of found) ≡ None = sym (first_value-rows found (codes "file")) ∙ (sym c.get_str.ensures ∙ ap (option_map (λ s. s.now)) c.in_err-file.was) in
    ap (option_map plain_recheck) c.from_residual.ensures ∙ sym (recheck_no_file (rows_of found) file)

pub returns-in_err-certificate : goal.returns-in_err-certificate
returns-in_err-certificate c =
    let found = found_of c.args.recheck.now in
    let certificate : certificate_in (rows_of found) ≡ None = sym (first_value-rows found (codes "certificate")) ∙ (sym c.get_str-2.ensures ∙ ap (option_map (λ s. s.now)) c.in_err-certificate.was) in
    ap (option_map plain_recheck) c.from_residual-in_err-certificate.ensures ∙ sym (recheck_no_certificate (rows_of found) certificate)

pub returns : goal.returns
returns c =
    let found = found_of c.args.recheck.now in
    let rows = rows_of found in
    let file : file_in rows ≡ Some c.in_ok-file.file.now = sym (first_value-rows found (codes "file")) ∙ (sym c.get_str.ensures ∙ ap (option_map (λ s. s.now)) c.in_ok-file.was) in
    let certificate : certificate_in rows ≡ Some c.in_ok-certificate.certificate.now = sym (first_value-rows found (codes "certificate")) ∙ (sym c.get_str-2.ensures ∙ ap (option_map (λ s. s.now)) c.in_ok-certificate.was) in
    sym (recheck_all rows c.in_ok-file.file.now c.in_ok-certificate.certificate.now file certificate)
