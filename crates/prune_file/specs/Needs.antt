-- For callers: a file that may need no other module, up to the first need of one (docs/pruning.md).
use Rattle.std.specs.Prelude.{◌≡◌, ℕ, Bool, true, false, List, [], ◌∷◌, if◌then◌else◌, None}
use Rattle.dk_model.specs.declared.code.Code.TheVariants.{E17}
use Rattle.dk_parser.specs.Modules.{is_directive, modules_of}
use Rattle.dk_parser.specs.Written.{WrittenCommand, WrittenForm, written_require}
use Rattle.scope_terms.specs.Scopes.{Module}
use Rattle.theory_walk.specs.Libraries.{BookTail, Library, opened}
use Rattle.theory_walk.specs.Walks.{Reached, Walk, ends, is_module, refused_at, stopped, walk_of, walk_tail, with_commands}
use Rattle.prune_file.specs.Laws.{no_modules}
use Rattle.prune_file.specs.Told.{told_code}

-- one of these modules is another than the file's own
abbrev pub any_other : Module → List (List ℕ) → Bool
any_other own [] = false
any_other own (m ∷ ms) = if is_module m own then any_other own ms else true

-- a directive `#REQUIRE`, or a command with a qualified name of another module
abbrev pub needs_other : Module → WrittenForm → Bool
needs_other own (written_require m) = true
needs_other own form = any_other own (modules_of form)

-- the commands up to the first such directive or command, which is refused with E17 at its line; or up to the end of the file
abbrev pub walk_alone : Module → List WrittenCommand → BookTail → Walk
walk_alone own [] tail = walk_tail None tail []
walk_alone own (c ∷ cs) tail =
    if needs_other own c.form then stopped (refused_at (record { book = None; line = c.line }) E17)
    else (if is_directive c.form then walk_alone own cs tail else with_commands (record { book = None; command = c } ∷ []) (walk_alone own cs tail))

-- a walk as a report tells it
abbrev pub told_reached : Reached → Reached
told_reached (ends (refused_at spot code)) = ends (refused_at spot (told_code code))
told_reached r = r

abbrev pub told_walk : Walk → Walk
told_walk w = record { commands = w.commands; reached = told_reached w.reached }

-- where no other file may be opened, the walk of a file is told as this
abbrev pub NeedsAreTold : Type 0
NeedsAreTold = (own : Module) (lib : Library) (items : List WrittenCommand) (tail : BookTail) → lib None ≡ opened (record { items = items; tail = tail })
    → told_walk (walk_of no_modules own lib) ≡ told_walk (walk_alone own items tail)
