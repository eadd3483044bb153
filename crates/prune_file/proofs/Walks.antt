-- A file that needs no other module: its walk, and that one that comes to its end alone is so.
use Rattle.std.proofs.Common.{List, [], ◌∷◌, ◌++◌, map, ℕ, ◌≡◌, Bool, true, false, refl, ap, sym, ◌∙◌, if◌then◌else◌}
use Rattle.std.specs.Prelude.{None}
use Rattle.dk_model.specs.declared.code.Code.TheVariants.{E15}
use Rattle.dk_parser.specs.Modules.{is_directive, modules_of}
use Rattle.dk_parser.specs.Written.{WrittenCommand}
use Rattle.scope_terms.specs.Scopes.{Module}
use Rattle.text_law.specs.Texts.{forms_of}
use Rattle.theory_walk.specs.declared.needs.ModuleLimits.{ModuleLimits}
use Rattle.theory_walk.specs.declared.needs.Standing.TheVariants.{Current, New}
use Rattle.theory_walk.specs.Libraries.{BookStep, BookTail, Library, command_step, fault, need, steps_in, unread, whole}
use Rattle.theory_walk.specs.Walks.{Placed, Reached, Spot, Walk, by_standing, ends, goes_on, is_module, needs_in, refused_at, standing_of, stopped, then_walk, walk_new, walk_steps, walk_tail, with_commands}
use Rattle.prune_file.specs.Files.{AreOwn, NeedOwn, commands_in}
use Rattle.prune_file.specs.Laws.{no_modules}
use Rattle.prune_file.proofs.Reports.{placed_in}

-- ---- forward

module _ (most : ModuleLimits) (own : Module) (lib : Library) (room : ℕ) where
  abbrev steps : List BookStep → BookTail → List (List ℕ) → Walk
  steps ss tail known = walk_steps (needs_in most own lib room [] None) None ss tail known

  -- needs of the file's own module are passed over
  needs_pass : (d : Bool) (line : ℕ) (ms : List (List ℕ)) (ss : List BookStep) (tail : BookTail) (known : List (List ℕ)) → AreOwn own d ms → steps (map (need d line) ms ++ ss) tail known ≡ steps ss tail known
  needs_pass d line [] ss tail known are = refl
  needs_pass d line (m ∷ ms) ss tail known are =
      ap (λ (x : Bool). then_walk (by_standing (standing_of own None [] known m) x (record { book = None; line = line }) known (walk_new most own lib room None [] line m known)) (λ more. steps (map (need d line) ms ++ ss) tail more)) are.0
      ∙ ap (λ (b : Bool). then_walk (by_standing (if b then Current else standing_of None None [] known m) false (record { book = None; line = line }) known (walk_new most own lib room None [] line m known)) (λ more. steps (map (need d line) ms ++ ss) tail more)) are.1
      ∙ needs_pass d line ms ss tail known are.2

  pub append_steps : (xs ys zs : List BookStep) → (xs ++ ys) ++ zs ≡ xs ++ (ys ++ zs)
  append_steps [] ys zs = refl
  append_steps (x ∷ xs) ys zs = ap (λ (rest : List BookStep). x ∷ rest) (append_steps xs ys zs)

  pub file_passes : (items : List WrittenCommand) (tail : BookTail) (known : List (List ℕ)) → NeedOwn own (forms_of items)
      → steps (steps_in items) tail known ≡ with_commands (placed_in (commands_in items)) (walk_tail None tail known)
  file_passes [] tail known are = refl
  file_passes (c ∷ cs) tail known are =
      ap (λ ss. steps ss tail known) (append_steps (map (need (is_directive c.form) c.line) (modules_of c.form)) (command_step (is_directive c.form) c) (steps_in cs))
      ∙ needs_pass (is_directive c.form) c.line (modules_of c.form) (command_step (is_directive c.form) c ++ steps_in cs) tail known are.0
      ∙ by (is_directive c.form) (file_passes cs tail known are.1)
    where
      by : (d : Bool) → steps (steps_in cs) tail known ≡ with_commands (placed_in (commands_in cs)) (walk_tail None tail known)
          → steps (command_step d c ++ steps_in cs) tail known ≡ with_commands (placed_in (if d then commands_in cs else c ∷ commands_in cs)) (walk_tail None tail known)
      by true rest = rest
      by false rest = ap (with_commands (record { book = None; command = c } ∷ [])) rest

-- ---- backward

-- what comes of a walk that is followed
then_goes_on : (w : Walk) (next : List (List ℕ) → Walk) (known : List (List ℕ)) → (then_walk w next).reached ≡ goes_on known → (more : List (List ℕ)) × (w.reached ≡ goes_on more)
then_goes_on w next known e = by w.commands w.reached e
  where
    by : (cs : List Placed) (r : Reached) → (then_walk (record { commands = cs; reached = r }) next).reached ≡ goes_on known → (more : List (List ℕ)) × (r ≡ goes_on more)
    by cs (goes_on more) e = (more, refl)
    by cs (ends x) e = absurd cc

module _ (own : Module) (lib : Library) where
  abbrev alone : List BookStep → BookTail → Walk
  alone ss tail = steps no_modules own lib 0 ss tail []

  abbrev need_walk : Bool → Spot → Bool → Walk
  need_walk is spot d = by_standing (if is then Current else New) d spot [] (stopped (refused_at spot E15))

  needs_are : (d : Bool) (line : ℕ) (ms : List (List ℕ)) (ss : List BookStep) (tail : BookTail) (known : List (List ℕ)) → (alone (map (need d line) ms ++ ss) tail).reached ≡ goes_on known → AreOwn own d ms × ((alone ss tail).reached ≡ goes_on known)
  needs_are d line [] ss tail known e = (tt, e)
  needs_are d line (m ∷ ms) ss tail known e = by d (is_module m own) refl refl e (λ f. needs_are d line ms ss tail known f)
    where
      by : (x is : Bool) → d ≡ x → is_module m own ≡ is → (then_walk (need_walk is (record { book = None; line = line }) x) (λ more. steps no_modules own lib 0 (map (need d line) ms ++ ss) tail more)).reached ≡ goes_on known
          → ((alone (map (need d line) ms ++ ss) tail).reached ≡ goes_on known → AreOwn own d ms × ((alone ss tail).reached ≡ goes_on known)) → AreOwn own d (m ∷ ms) × ((alone ss tail).reached ≡ goes_on known)
      by true true p q e again = absurd cc
      by false true p q e again = let r = again e in ((p, q, r.0), r.1)
      by true false p q e again = absurd cc
      by false false p q e again = absurd cc

  tail_is : (tail : BookTail) (known : List (List ℕ)) → (walk_tail None tail []).reached ≡ goes_on known → tail ≡ whole
  tail_is whole known e = refl
  tail_is (fault line code) known e = absurd cc
  tail_is (unread line) known e = absurd cc

  pub file_is_alone : (items : List WrittenCommand) (tail : BookTail) (known : List (List ℕ)) → (alone (steps_in items) tail).reached ≡ goes_on known → NeedOwn own (forms_of items) × (tail ≡ whole)
  file_is_alone [] tail known e = (tt, tail_is tail known e)
  file_is_alone (c ∷ cs) tail known e =
      let first = needs_are (is_directive c.form) c.line (modules_of c.form) (command_step (is_directive c.form) c ++ steps_in cs) tail known
      (sym (ap (λ ss. (alone ss tail).reached) (append_steps no_modules own lib 0 (map (need (is_directive c.form) c.line) (modules_of c.form)) (command_step (is_directive c.form) c) (steps_in cs))) ∙ e) in
      let rest = file_is_alone cs tail known (by (is_directive c.form) first.1) in
      ((first.0, rest.0), rest.1)
    where
      by : (d : Bool) → (alone (command_step d c ++ steps_in cs) tail).reached ≡ goes_on known → (alone (steps_in cs) tail).reached ≡ goes_on known
      by true e = e
      by false e = e
