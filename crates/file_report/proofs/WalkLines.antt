-- The lines of a theory's commands, and of its end, count from 1.
use Rattle.std.proofs.Common.{ℕ, zero, suc, ◌-◌, ◌<◌, Bool, true, false, nat_le, List, [], ◌∷◌, ◌++◌, length, map, Option, Some, None}
use Rattle.std.specs.Prelude.{if◌then◌else◌}
use Rattle.dk_model.specs.declared.code.Code.TheVariants.{E16}
use Rattle.dk_parser.specs.Modules.{is_directive, modules_of}
use Rattle.dk_parser.specs.Written.{WrittenCommand}
use Rattle.theory_walk.specs.declared.needs.ModuleLimits.{ModuleLimits}
use Rattle.theory_walk.specs.declared.needs.Standing.{Standing}
use Rattle.theory_walk.specs.declared.needs.Standing.TheVariants.{Current, Below, WasRead, New}
use Rattle.theory_walk.specs.Libraries.{BookReading, BookStep, BookTail, Key, Library, Opened, command_step, fault, need, opened, put, steps_in, steps_of, unopened, unread, whole}
use Rattle.theory_walk.specs.Walks.{End, Need, Placed, Reached, Spot, Walk, by_standing, ends, follow, goes_on, needs_in, no_file, not_opened, refused_at, standing_of, stopped, unread_at, walk_file, walk_new, walk_of, walk_opened, walk_steps, walk_tail}
use Rattle.file_report.proofs.Positive.{CommandsHaveLines}

abbrev pub BookTailHasLine : BookTail → Type 0
BookTailHasLine whole = Unit {0}
BookTailHasLine (fault line code) = 0 < line
BookTailHasLine (unread line) = 0 < line

pub record BookHasLines (r : BookReading) : Type 0 where
  pub items : CommandsHaveLines r.items
  pub tail : BookTailHasLine r.tail

abbrev pub OpenedHasLines : Opened → Type 0
OpenedHasLines unopened = Unit {0}
OpenedHasLines (opened r) = BookHasLines r

abbrev pub EndHasLine : End → Type 0
EndHasLine (refused_at spot code) = 0 < spot.line
EndHasLine (unread_at spot) = 0 < spot.line
EndHasLine (not_opened spot m) = 0 < spot.line
EndHasLine no_file = Unit {0}

abbrev pub ReachedHasLine : Reached → Type 0
ReachedHasLine (goes_on known) = Unit {0}
ReachedHasLine (ends e) = EndHasLine e

abbrev pub PlacedHaveLines : List Placed → Type 0
PlacedHaveLines [] = Unit {0}
PlacedHaveLines (c ∷ cs) = (0 < c.command.line) × PlacedHaveLines cs

pub record WalkHasLines (w : Walk) : Type 0 where
  pub commands : PlacedHaveLines w.commands
  pub reached : ReachedHasLine w.reached

pub placed_later : (before after : List Placed) (c : Placed) → PlacedHaveLines (before ++ c ∷ after) → 0 < c.command.line
placed_later [] after c h = h.0
placed_later (b ∷ before) after c h = placed_later before after c h.1

placed_both : (xs ys : List Placed) → PlacedHaveLines xs → PlacedHaveLines ys → PlacedHaveLines (xs ++ ys)
placed_both [] ys h k = k
placed_both (x ∷ xs) ys h k = (h.0, placed_both xs ys h.1 k)

follow_lines : (cs : List Placed) (r : Reached) (next : List (List ℕ) → Walk) → PlacedHaveLines cs → ReachedHasLine r → ((known : List (List ℕ)) → WalkHasLines (next known)) → WalkHasLines (follow cs r next)
follow_lines cs (goes_on known) next h k later = record { commands = placed_both cs (next known).commands h (later known).commands; reached = (later known).reached }
follow_lines cs (ends e) next h k later = record { commands = h; reached = k }

-- ---- steps

abbrev StepHasLine : BookStep → Type 0
StepHasLine (need d line m) = 0 < line
StepHasLine (put c) = 0 < c.line

abbrev StepsHaveLines : List BookStep → Type 0
StepsHaveLines [] = Unit {0}
StepsHaveLines (s ∷ ss) = StepHasLine s × StepsHaveLines ss

steps_both : (xs ys : List BookStep) → StepsHaveLines xs → StepsHaveLines ys → StepsHaveLines (xs ++ ys)
steps_both [] ys h k = k
steps_both (x ∷ xs) ys h k = (h.0, steps_both xs ys h.1 k)

needs_lines : (d : Bool) (line : ℕ) (ms : List (List ℕ)) → 0 < line → StepsHaveLines (map (need d line) ms)
needs_lines d line [] some = tt
needs_lines d line (m ∷ ms) some = (some, needs_lines d line ms some)

command_lines : (b : Bool) (c : WrittenCommand) → 0 < c.line → StepsHaveLines (command_step b c)
command_lines true c some = tt
command_lines false c some = (some, tt)

steps_lines : (items : List WrittenCommand) → CommandsHaveLines items → StepsHaveLines (steps_in items)
steps_lines [] h = tt
steps_lines (c ∷ cs) h =
    steps_both (steps_of c) (steps_in cs)
    (steps_both (map (need (is_directive c.form) c.line) (modules_of c.form)) (command_step (is_directive c.form) c)
    (needs_lines (is_directive c.form) c.line (modules_of c.form) h.0) (command_lines (is_directive c.form) c h.0))
    (steps_lines cs h.1)

-- ---- walks

abbrev NeedHasLines : Need → Type 0
NeedHasLines needs = (d : Bool) (line : ℕ) (m : List ℕ) (known : List (List ℕ)) → 0 < line → WalkHasLines (needs d line m known)

tail_lines : (book : Key) (tail : BookTail) (known : List (List ℕ)) → BookTailHasLine tail → WalkHasLines (walk_tail book tail known)
tail_lines book whole known h = record { commands = tt; reached = tt }
tail_lines book (fault line code) known h = record { commands = tt; reached = h }
tail_lines book (unread line) known h = record { commands = tt; reached = h }

walk_steps_lines : (needs : Need) (book : Key) (ss : List BookStep) (tail : BookTail) → NeedHasLines needs → StepsHaveLines ss → BookTailHasLine tail
    → (known : List (List ℕ)) → WalkHasLines (walk_steps needs book ss tail known)
walk_steps_lines needs book [] tail has h k known = tail_lines book tail known k
walk_steps_lines needs book (put c ∷ ss) tail has h k known =
    let later = walk_steps_lines needs book ss tail has h.1 k known in
    record { commands = (h.0, later.commands); reached = later.reached }
walk_steps_lines needs book (need d line m ∷ ss) tail has h k known =
    let first = has d line m known h.0 in
    follow_lines (needs d line m known).commands (needs d line m known).reached (λ more. walk_steps needs book ss tail more) first.commands first.reached
    (walk_steps_lines needs book ss tail has h.1 k)

standing_lines : (how : Standing) (d : Bool) (spot : Spot) (known : List (List ℕ)) (new : Walk) → 0 < spot.line → WalkHasLines new → WalkHasLines (by_standing how d spot known new)
standing_lines Current true spot known new some h = record { commands = tt; reached = some }
standing_lines Current false spot known new some h = record { commands = tt; reached = tt }
standing_lines Below d spot known new some h = record { commands = tt; reached = some }
standing_lines WasRead d spot known new some h = record { commands = tt; reached = tt }
standing_lines New d spot known new some h = h

opened_lines : (needs : Key → Need) (spot : Spot) (m : List ℕ) (o : Opened) (known : List (List ℕ)) → NeedHasLines (needs (Some m)) → 0 < spot.line → OpenedHasLines o → WalkHasLines (walk_opened needs spot m o known)
opened_lines needs spot m unopened known has some h = record { commands = tt; reached = some }
opened_lines needs spot m (opened r) known has some h = walk_steps_lines (needs (Some m)) (Some m) (steps_in r.items) r.tail has (steps_lines r.items h.items) h.tail (known ++ m ∷ [])

module _ (limits : ModuleLimits) (own : Option (List ℕ)) (lib : Library) (has : (k : Key) → OpenedHasLines (lib k)) where
  new_lines : (room : ℕ) (book : Key) (below : List Key) (line : ℕ) (m : List ℕ) (known : List (List ℕ)) → 0 < line → WalkHasLines (walk_new limits own lib room book below line m known)
  new_lines zero book below line m known some = record { commands = tt; reached = some }
  new_lines (suc room) book below line m known some = by_limit (λ l n more h. new_lines room (Some m) (book ∷ below) l n more h) (nat_le limits.modules (length known))
    where
      needs : Key → Need
      needs b d l n more = by_standing (standing_of own b (book ∷ below) more n) d (record { book = b; line = l }) more (walk_new limits own lib room b (book ∷ below) l n more)

      spot : Spot
      spot = record { book = book; line = line }

      by_limit : ((l : ℕ) (n : List ℕ) (more : List (List ℕ)) → 0 < l → WalkHasLines (walk_new limits own lib room (Some m) (book ∷ below) l n more))
          → (b : Bool) → WalkHasLines (if b then stopped (refused_at spot E16) else walk_opened needs spot m (lib (Some m)) known)
      by_limit later true = record { commands = tt; reached = some }
      by_limit later false =
          opened_lines needs spot m (lib (Some m)) known
          (λ d l n more h. standing_lines (standing_of own (Some m) (book ∷ below) more n) d (record { book = Some m; line = l }) more (walk_new limits own lib room (Some m) (book ∷ below) l n more) h (later l n more h))
          some (has (Some m))

  file_lines : (o : Opened) → OpenedHasLines o → WalkHasLines (walk_file limits own lib o)
  file_lines unopened h = record { commands = tt; reached = tt }
  file_lines (opened r) h =
      walk_steps_lines (needs_in limits own lib (limits.files - 1) [] None) None (steps_in r.items) r.tail
      (λ d line m known some. standing_lines (standing_of own None [] known m) d (record { book = None; line = line }) known (walk_new limits own lib (limits.files - 1) None [] line m known) some
      (new_lines (limits.files - 1) None [] line m known some))
      (steps_lines r.items h.items) h.tail []

  pub walk_lines : WalkHasLines (walk_of limits own lib)
  walk_lines = file_lines (lib None) (has None)
