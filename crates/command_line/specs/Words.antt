-- Trusted: the program's command as clap knows it (docs/command-line.md).
use Rattle.std.specs.Prelude.{[], ◌∷◌, Some, true, codes}
use Rattle.clap.specs.Words.{App, Rule, new_app, new_rule, with_rule, with_subcommand}
use Rattle.clap.specs.declared.builder.ArgAction.TheVariants.{SetTrue}
use Rattle.clap.specs.declared.builder.value_parser.ValueParser.{ValueParser}
use Rattle.clap.specs.declared.builder.value_parser.ValueParser.TheVariants as vp

-- the numbers that may be a budget
abbrev pub budgets : ValueParser
budgets = vp.Unsigned 1 4611686018427387904

-- how many workers there may be
abbrev pub worker_counts : ValueParser
worker_counts = vp.Unsigned 1 64

-- from how many nodes on an application may be split
abbrev pub split_sizes : ValueParser
split_sizes = vp.Unsigned 1 4294967295

-- how many theorems may be made
abbrev pub theorem_counts : ValueParser
theorem_counts = vp.Unsigned 1 100000

-- `--workers N`
abbrev pub workers : Rule
workers = record (new_rule (codes "workers")) {
  long = Some (codes "workers");
  parser = Some worker_counts;
  defaults = codes "4" ∷ [];
}

-- `--split S`
abbrev pub split : Rule
split = record (new_rule (codes "split")) {
  long = Some (codes "split");
  parser = Some split_sizes;
}

-- `--budget B`
abbrev pub budget : Rule
budget = record (new_rule (codes "budget")) {
  long = Some (codes "budget");
  parser = Some budgets;
  defaults = codes "1000000000" ∷ [];
}

-- `--quiet`
abbrev pub quiet : Rule
quiet = record (new_rule (codes "quiet")) {
  long = Some (codes "quiet");
  action = Some SetTrue;
}

-- FILE
abbrev pub file : Rule
file = record (new_rule (codes "file")) { required = true }

-- `check [--workers N] [--split S] [--budget B] [--quiet] FILE`
abbrev pub check : App
check = with_rule (with_rule (with_rule (with_rule (with_rule (new_app (codes "check")) workers) split) budget) quiet) file

-- N
abbrev pub count : Rule
count = record (new_rule (codes "count")) {
  required = true;
  parser = Some theorem_counts;
}

-- `make [--workers N] [--budget B] N`
abbrev pub make : App
make = with_rule (with_rule (with_rule (new_app (codes "make")) workers) budget) count

-- `certify [--budget B] FILE`
abbrev pub certify : App
certify = with_rule (with_rule (new_app (codes "certify")) budget) file

-- CERT
abbrev pub certificate : Rule
certificate = record (new_rule (codes "certificate")) { required = true }

-- `recheck FILE CERT`
abbrev pub recheck : App
recheck = with_rule (with_rule (new_app (codes "recheck")) file) certificate

-- NAME
abbrev pub name : Rule
name = record (new_rule (codes "name")) { required = true }

-- `prune [--budget B] NAME FILE`
abbrev pub prune : App
prune = with_rule (with_rule (with_rule (new_app (codes "prune")) budget) name) file

-- SCRIPT
abbrev pub script : Rule
script = record (new_rule (codes "script")) { required = true }

-- `replay [--budget B] SCRIPT`
abbrev pub replay : App
replay = with_rule (with_rule (new_app (codes "replay")) budget) script

-- the program, which needs a subcommand; `help` isn't one
abbrev pub needing : App → App
needing a = record a {
  top = record a.top { subcommand_required = true; disable_help_subcommand = true };
}

-- its subcommands, a few at a time
abbrev pub checking : App
checking = with_subcommand (with_subcommand (needing (new_app (codes "dk_check"))) check.top) make.top

abbrev pub rechecking : App
rechecking = with_subcommand (with_subcommand checking certify.top) recheck.top

unfoldable pub program : App
program = with_subcommand (with_subcommand rechecking prune.top) replay.top
