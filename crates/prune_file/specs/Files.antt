-- Trusted: a file that stands by itself, and that its commands are accepted (docs/pruning.md).
use Rattle.std.specs.Prelude.{◌≡◌, ◌≤◌, ℕ, Bool, true, false, List, [], ◌∷◌, length, map, if◌then◌else◌}
use Rattle.dk_model.specs.PlainCommands.{PlainCommand}
use Rattle.dk_model.specs.declared.limits.Limits.{Limits}
use Rattle.dk_parser.specs.Modules.{is_directive, modules_of}
use Rattle.dk_parser.specs.Written.{WrittenCommand, WrittenForm}
use Rattle.scope_terms.specs.Scopes.{Module}
use Rattle.text_law.specs.Cuts.{IsReadAs}
use Rattle.text_law.specs.Texts.{forms_of}
use Rattle.theory_walk.specs.Walks.{is_module}
use Rattle.prune_theory.specs.Folds.{AreAccepted, Declared, Stated, nothing_declared}

-- the commands among these commands and directives
abbrev pub commands_in : List WrittenCommand → List WrittenCommand
commands_in [] = []
commands_in (c ∷ cs) = if is_directive c.form then commands_in cs else c ∷ commands_in cs

-- commands of one module
abbrev pub stated_in : Module → List WrittenForm → List Stated
stated_in own forms = map (λ f. record { place = own; form = f }) forms

-- where the file has this module, no other is needed: what a directive needs, or a command
abbrev pub AreOwn : Module → Bool → List (List ℕ) → Type 0
AreOwn own directive [] = Unit {0}
AreOwn own directive (m ∷ ms) = (directive ≡ false) × (is_module m own ≡ true) × AreOwn own directive ms

abbrev pub NeedsOwn : Module → WrittenForm → Type 0
NeedsOwn own form = AreOwn own (is_directive form) (modules_of form)

abbrev pub NeedOwn : Module → List WrittenForm → Type 0
NeedOwn own [] = Unit {0}
NeedOwn own (form ∷ forms) = NeedsOwn own form × NeedOwn own forms

-- The bytes are read whole, as these commands and directives, which need no other module. Where the file has this module its
-- commands are scoped so and accepted, one after the other, each with so many units left of the budget.
pub record IsAccepted (limits : Limits) (own : Module) (budget : ℕ) (bytes : List ℕ) : Type 0 where
  pub items : List WrittenCommand
  pub reads : IsReadAs limits bytes items
  pub alone : NeedOwn own (forms_of items)
  pub few : length (commands_in items) ≤ limits.commands
  pub commands : List PlainCommand
  pub left : List ℕ
  pub after : Declared
  pub accepted : AreAccepted budget nothing_declared (stated_in own (forms_of (commands_in items))) commands left after
