use Rattle.signature_log.proofs.table.with_entry.Given as goal

abbrev pub ghosts-counted : goal.ghosts-counted
ghosts-counted a = record { name = a.blank.name; parts = a.blank.parts }
