-- How far a left side can be gone into.
use Rattle.std.proofs.Common.{ℕ, ◌+◌}
use Rattle.dk_parser.specs.Written.{WrittenPattern, pattern_apply, pattern_bare}

abbrev pub pattern_size : WrittenPattern → ℕ
pattern_size (pattern_apply f a) = pattern_size f + pattern_size a + 1
pattern_size (pattern_bare v b) = pattern_size b + 1
pattern_size p = 1
