use Rattle.signature_log.proofs.version.Version.append.Given as goal

abbrev pub ghosts-append_from : goal.ghosts-append_from
ghosts-append_from a = record { name = a.blank.name; parts = a.blank.parts }
