-- For proofs: what a hash takes in of a name.
use Rattle.std.specs.Prelude.{List, ℕ, length, nat_eq, if◌then◌else◌}
use Rattle.std.specs.Hash.FoldHasher.{write}
use Rattle.scope_terms.specs.declared.hashing.NameHasher.{NameHasher}

-- eight bytes at once are the length, which isn't taken in
abbrev pub taken_in : NameHasher → List ℕ → NameHasher
taken_in h bytes = if nat_eq (length bytes) 8 then h else (record { so_far = write h.so_far bytes })
