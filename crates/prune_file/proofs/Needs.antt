-- How the walk of a file that is read alone is told.
use Rattle.std.proofs.Common.{List, [], ◌∷◌, ◌++◌, map, ℕ, ◌≡◌, Bool, true, false, refl, ap, ◌∙◌, if◌then◌else◌}
use Rattle.std.specs.Prelude.{None}
use Rattle.dk_model.specs.declared.code.Code.TheVariants.{E15, E17}
use Rattle.dk_parser.specs.Modules.{is_directive, modules_of}
use Rattle.dk_parser.specs.Written.{WrittenCommand, WrittenForm, written_declare, written_rules, written_query, written_module, written_require}
use Rattle.scope_terms.specs.Scopes.{Module}
use Rattle.theory_walk.specs.declared.needs.Standing.TheVariants.{Current, New}
use Rattle.theory_walk.specs.Libraries.{BookStep, BookTail, Library, Opened, command_step, need, opened, steps_in}
use Rattle.theory_walk.specs.Walks.{Walk, by_standing, is_module, needs_in, refused_at, stopped, then_walk, walk_file, walk_steps, with_commands}
use Rattle.prune_file.specs.Laws.{no_modules}
use Rattle.prune_file.specs.Needs.{any_other, needs_other, told_walk, walk_alone}
use Rattle.prune_file.proofs.Walks.{append_steps}

module _ (own : Module) (lib : Library) (tail : BookTail) where
  abbrev steps : List BookStep → Walk
  steps ss = walk_steps (needs_in no_modules own lib 0 [] None) None ss tail []

  abbrev refused : ℕ → Walk
  refused line = stopped (refused_at (record { book = None; line = line }) E17)

  command_told : (line : ℕ) (ms : List (List ℕ)) (ss : List BookStep) → told_walk (steps (map (need false line) ms ++ ss)) ≡ told_walk (if any_other own ms then refused line else steps ss)
  command_told line [] ss = refl
  command_told line (m ∷ ms) ss = by (is_module m own) (command_told line ms ss)
    where
      by : (b : Bool) → told_walk (steps (map (need false line) ms ++ ss)) ≡ told_walk (if any_other own ms then refused line else steps ss) → told_walk (then_walk (by_standing (if b then Current else New) false (record { book = None; line = line }) [] (stopped (refused_at (record { book = None; line = line }) E15))) (λ more. walk_steps (needs_in no_modules own lib 0 [] None) None (map (need false line) ms ++ ss) tail more))
          ≡ told_walk (if (if b then any_other own ms else true) then refused line else steps ss)
      by true rest = rest
      by false rest = refl

  require_told : (line : ℕ) (m : List ℕ) (ss : List BookStep) → told_walk (steps (need true line m ∷ ss)) ≡ told_walk (refused line)
  require_told line m ss = by (is_module m own)
    where
      by : (b : Bool) → told_walk (then_walk (by_standing (if b then Current else New) true (record { book = None; line = line }) [] (stopped (refused_at (record { book = None; line = line }) E15))) (λ more. walk_steps (needs_in no_modules own lib 0 [] None) None ss tail more)) ≡ told_walk (refused line)
      by true = refl
      by false = refl

  abbrev Steps : WrittenForm → WrittenCommand → List BookStep → List BookStep
  Steps form c ss = map (need (is_directive form) c.line) (modules_of form) ++ (command_step (is_directive form) c ++ ss)

  -- one command or directive
  form_told : (form : WrittenForm) (c : WrittenCommand) (ss : List BookStep)
      → told_walk (steps (Steps form c ss)) ≡ told_walk (if needs_other own form then refused c.line else (if is_directive form then steps ss else with_commands (record { book = None; command = c } ∷ []) (steps ss)))
  form_told (written_declare s x ps typ body) c ss = command_told c.line (modules_of (written_declare s x ps typ body)) (command_step false c ++ ss)
  form_told (written_rules rs) c ss = command_told c.line (modules_of (written_rules rs)) (command_step false c ++ ss)
  form_told (written_query d a) c ss = command_told c.line (modules_of (written_query d a)) (command_step false c ++ ss)
  form_told (written_module m) c ss = refl
  form_told (written_require m) c ss = require_told c.line m ss

  items_told : (items : List WrittenCommand) → told_walk (steps (steps_in items)) ≡ told_walk (walk_alone own items tail)
  items_told [] = refl
  items_told (c ∷ cs) =
      ap (λ ss. told_walk (steps ss)) (append_steps no_modules own lib 0 (map (need (is_directive c.form) c.line) (modules_of c.form)) (command_step (is_directive c.form) c) (steps_in cs))
      ∙ form_told c.form c (steps_in cs)
      ∙ by (needs_other own c.form) (is_directive c.form) (items_told cs)
    where
      by : (n d : Bool) → told_walk (steps (steps_in cs)) ≡ told_walk (walk_alone own cs tail) → told_walk (if n then refused c.line else (if d then steps (steps_in cs) else with_commands (record { book = None; command = c } ∷ []) (steps (steps_in cs))))
          ≡ told_walk (if n then refused c.line else (if d then walk_alone own cs tail else with_commands (record { book = None; command = c } ∷ []) (walk_alone own cs tail)))
      by true d rest = refl
      by false true rest = rest
      by false false rest = ap (with_commands (record { book = None; command = c } ∷ [])) rest

pub needs_told : (own : Module) (lib : Library) (items : List WrittenCommand) (tail : BookTail) → lib None ≡ opened (record { items = items; tail = tail })
    → told_walk (walk_file no_modules own lib (lib None)) ≡ told_walk (walk_alone own items tail)
needs_told own lib items tail is = ap (λ (o : Opened). told_walk (walk_file no_modules own lib o)) is ∙ items_told own lib tail items
