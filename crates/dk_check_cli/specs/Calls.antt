-- Trusted: what a call answers that couldn't have its words (docs/command-line.md).
use Rattle.std.specs.Prelude.{ℕ}
use Rattle.std.specs.declared.io.ErrorKind.{ErrorKind}
use Rattle.std.specs.declared.io.ErrorKind.TheVariants.{OutOfMemory}

-- want of memory, or a word that isn't UTF-8
abbrev pub status_without_words : ErrorKind → ℕ
status_without_words OutOfMemory = 4
status_without_words _ = 2
