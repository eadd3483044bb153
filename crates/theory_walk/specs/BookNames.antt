-- Trusted: the names that the books of a theory have on the shelf, and the module of the file (docs/modules.md).
use Rattle.std.specs.Prelude.{ℕ, ◌-◌, ◌==◌, List, ◌++◌, length, drop, take, reverse, position, unwrap_or, codes, if◌then◌else◌, Option, Some, None}
use Rattle.std.specs.Str.{bytes_eq}
use Rattle.dk_lexer.specs.Spelling.{is_plain_name}
use Rattle.theory_walk.specs.Libraries.{Key}

-- how many bytes stand behind the last slash
abbrev pub length_behind_slash : List ℕ → ℕ
length_behind_slash name = unwrap_or (position (λ b. b == 47) (reverse name)) (length name)

-- the name up to and with its last slash, or nothing
abbrev pub folder_of : List ℕ → List ℕ
folder_of name = take (length name - length_behind_slash name) name

-- the book of a module lies beside the file
abbrev pub book_named : List ℕ → Key → List ℕ
book_named file None = file
book_named file (Some m) = folder_of file ++ (m ++ codes ".dk")

-- the part of the name behind that
abbrev pub behind_folder : List ℕ → List ℕ
behind_folder name = drop (length name - length_behind_slash name) name

-- what stands before the ending `.dk`, where the name has it
abbrev pub before_ending : List ℕ → Option (List ℕ)
before_ending name = if bytes_eq (drop (length name - 3) name) (codes ".dk") then Some (take (length name - 3) name) else None

abbrev pub plain_name : Option (List ℕ) → Option (List ℕ)
plain_name None = None
plain_name (Some m) = if is_plain_name m then Some m else None

-- the file's own module, if it has one
abbrev pub own_module : List ℕ → Option (List ℕ)
own_module file = plain_name (before_ending (behind_folder file))
