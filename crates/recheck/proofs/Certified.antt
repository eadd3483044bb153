-- Commands whose parts are right have a certificate.
use Rattle.std.proofs.Common.{List, [], ◌∷◌, ◌++◌, ℕ, Option, subst as along}
use Rattle.dk_model.specs.PlainTerms.{Tree}
use Rattle.dk_model.specs.PlainEntries.{PlainSignature}
use Rattle.dk_model.specs.PlainCommands.{PlainCommand}
use Rattle.dk_model.specs.Verdicts.{entry_of}
use Rattle.checked_steps.specs.Items.{Item}
use Rattle.checked_steps.specs.Certificates.{AreChecked, none_checked, one_checked}
use Rattle.checked_steps.specs.Laws.{CertifiedHaveDerivations}
use Rattle.checked_steps.specs.Theories.{HaveDerivations}
use Rattle.recheck.specs.Parts.{HaveParts, no_parts, more_parts}

are_checked : {S : PlainSignature} {commands : List PlainCommand} {parts : List (List ℕ)} → HaveParts S commands parts → (items : List (List Item)) × AreChecked S commands items
are_checked no_parts = ([], none_checked)
are_checked (more_parts {S} {command} {bytes} {commands} {parts} typ p rest) =
    let h : (items : List (List Item)) × AreChecked (S ++ (entry_of S command typ ∷ [])) commands items = are_checked rest in
    (p.items ∷ h.0, one_checked p.checked (along (λ (T : Option Tree). AreChecked (S ++ (entry_of S command T ∷ [])) commands h.0) p.given h.1))

pub parts_derive : (commands : List PlainCommand) (parts : List (List ℕ)) → HaveParts [] commands parts → CertifiedHaveDerivations → HaveDerivations [] commands
parts_derive commands parts h law = let c : (items : List (List Item)) × AreChecked [] commands items = are_checked h in law commands c.0 c.1
