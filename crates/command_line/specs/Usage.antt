-- Trusted: the text that answers words which the program doesn't take (docs/command-line.md).
use Rattle.std.specs.Prelude.{ℕ, List, [], ◌∷◌, ◌++◌, codes}

-- a line for each command
abbrev pub check_usage : List ℕ
check_usage = codes "usage: dk_check check [--workers N] [--split S] [--budget B] [--quiet] FILE" ++ 10 ∷ []

abbrev pub make_usage : List ℕ
make_usage = codes "usage: dk_check make [--workers N] [--budget B] N" ++ 10 ∷ []

abbrev pub certify_usage : List ℕ
certify_usage = codes "usage: dk_check certify [--budget B] FILE" ++ 10 ∷ []

abbrev pub recheck_usage : List ℕ
recheck_usage = codes "usage: dk_check recheck FILE CERT" ++ 10 ∷ []

abbrev pub prune_usage : List ℕ
prune_usage = codes "usage: dk_check prune [--budget B] NAME FILE" ++ 10 ∷ []

abbrev pub replay_usage : List ℕ
replay_usage = codes "usage: dk_check replay [--budget B] SCRIPT" ++ 10 ∷ []

unfoldable pub usage_text : List ℕ
usage_text = check_usage ++ (make_usage ++ (certify_usage ++ (recheck_usage ++ (prune_usage ++ replay_usage))))
