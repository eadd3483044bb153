-- Trusted: the commands of a file and of the modules that it needs, in the order of first need, and how they end (docs/modules.md).
use Rattle.std.specs.Prelude.{ℕ, zero, suc, ◌-◌, Bool, true, false, nat_le, List, [], ◌∷◌, ◌++◌, length, if◌then◌else◌, Option, Some, None}
use Rattle.std.specs.List.{list_any}
use Rattle.std.specs.Str.{bytes_eq}
use Rattle.dk_model.specs.declared.code.Code.{Code}
use Rattle.dk_model.specs.declared.code.Code.TheVariants.{E14, E15, E16}
use Rattle.theory_walk.specs.declared.needs.ModuleLimits.{ModuleLimits}
use Rattle.theory_walk.specs.declared.needs.Standing.{Standing}
use Rattle.theory_walk.specs.declared.needs.Standing.TheVariants.{Current, Below, WasRead, New}
use Rattle.dk_parser.specs.Written.{WrittenCommand}
use Rattle.theory_walk.specs.Libraries.{BookReading, BookStep, BookTail, Key, Library, Opened, fault, need, opened, put, steps_in, unopened, unread, whole}

-- a line of a book
pub record Spot : Type 0 where
  pub book : Key
  pub line : ℕ

-- a command and the book in which it stands
pub record Placed : Type 0 where
  pub book : Key
  pub command : WrittenCommand

-- how a theory ends before its end: at a code; at a failed read; where the book of a module that is needed couldn't be opened; or
-- where the file's own couldn't
pub data End : Type 0 where
  refused_at : Spot → Code → End
  unread_at : Spot → End
  not_opened : Spot → List ℕ → End
  no_file : End

-- where a command stands
abbrev pub spot_of : Placed → Spot
spot_of c = record { book = c.book; line = c.command.line }

-- where a theory ends, if it is in a book
abbrev pub spot_of_end : End → Option Spot
spot_of_end (refused_at spot code) = Some spot
spot_of_end (unread_at spot) = Some spot
spot_of_end (not_opened spot m) = Some spot
spot_of_end no_file = None

-- where a part of the books comes to: to its end, with these modules opened so far, or to the end of all
pub data Reached : Type 0 where
  goes_on : List (List ℕ) → Reached
  ends : End → Reached

-- the commands of a part of the books, and where it comes to
pub record Walk : Type 0 where
  pub commands : List Placed
  pub reached : Reached

abbrev pub with_commands : List Placed → Walk → Walk
with_commands cs w = record { commands = cs ++ w.commands; reached = w.reached }

abbrev pub stopped : End → Walk
stopped e = record { commands = []; reached = ends e }

abbrev pub passes : List (List ℕ) → Walk
passes known = record { commands = []; reached = goes_on known }

-- a walk and, where it came to its end, what follows
abbrev pub follow : List Placed → Reached → (List (List ℕ) → Walk) → Walk
follow cs (goes_on known) next = with_commands cs (next known)
follow cs (ends e) next = record { commands = cs; reached = ends e }

abbrev pub then_walk : Walk → (List (List ℕ) → Walk) → Walk
then_walk w next = follow w.commands w.reached next

-- ---- one book

abbrev pub walk_tail : Key → BookTail → List (List ℕ) → Walk
walk_tail book whole known = passes known
walk_tail book (fault line code) known = stopped (refused_at (record { book = book; line = line }) code)
walk_tail book (unread line) known = stopped (unread_at (record { book = book; line = line }))

-- what a need comes to: whether a directive has it, its line, the module, and the modules opened so far
abbrev pub Need : Type 0
Need = Bool → ℕ → List ℕ → List (List ℕ) → Walk

-- the steps of a book and its tail, where this is what its needs come to
abbrev pub walk_steps : Need → Key → List BookStep → BookTail → List (List ℕ) → Walk
walk_steps needs book [] tail known = walk_tail book tail known
walk_steps needs book (put c ∷ ss) tail known = with_commands (record { book = book; command = c } ∷ []) (walk_steps needs book ss tail known)
walk_steps needs book (need d line m ∷ ss) tail known = then_walk (needs d line m known) (λ more. walk_steps needs book ss tail more)

abbrev pub walk_book : Need → Key → BookReading → List (List ℕ) → Walk
walk_book needs book r known = walk_steps needs book (steps_in r.items) r.tail known

-- ---- needs

-- whether the module is this one, where there is one
abbrev pub is_module : List ℕ → Option (List ℕ) → Bool
is_module m None = false
is_module m (Some n) = bytes_eq n m

-- the module of a book, where the file's own has this one
abbrev pub module_in : Option (List ℕ) → Key → Option (List ℕ)
module_in own None = own
module_in own (Some m) = Some m

-- how a needed module stands: it is the one being read; it is open below that; it was read to its end; or it is new
abbrev pub standing_of : Option (List ℕ) → Key → List Key → List (List ℕ) → List ℕ → Standing
standing_of own book below known m =
    if is_module m (module_in own book) then Current
    else (if list_any (λ b. is_module m (module_in own b)) below then Below else (if list_any (bytes_eq m) known then WasRead else New))

-- a module that is open isn't needed again; but a name of the one being read needs nothing
abbrev pub by_standing : Standing → Bool → Spot → List (List ℕ) → Walk → Walk
by_standing Current true spot known new = stopped (refused_at spot E14)
by_standing Current false spot known new = passes known
by_standing Below directive spot known new = stopped (refused_at spot E14)
by_standing WasRead directive spot known new = passes known
by_standing New directive spot known new = new

abbrev pub walk_opened : (Key → Need) → Spot → List ℕ → Opened → List (List ℕ) → Walk
walk_opened needs spot m unopened known = stopped (not_opened spot m)
walk_opened needs spot m (opened r) known = walk_book (needs (Some m)) (Some m) r (known ++ m ∷ [])

module _ (limits : ModuleLimits) (own : Option (List ℕ)) (lib : Library) where
  -- a need of a module that is new, where so many more files may be open; those that are open are the one being read and those below
  abbrev pub walk_new : ℕ → Key → List Key → ℕ → List ℕ → List (List ℕ) → Walk
  walk_new zero book below line m known = stopped (refused_at (record { book = book; line = line }) E15)
  walk_new (suc room) book below line m known =
      if nat_le limits.modules (length known) then stopped (refused_at (record { book = book; line = line }) E16)
      else (walk_opened
      (λ b d l n more. by_standing (standing_of own b (book ∷ below) more n) d (record { book = b; line = l }) more (walk_new room b (book ∷ below) l n more))
      (record { book = book; line = line }) m (lib (Some m)) known)

  -- what the needs of a book come to
  abbrev pub needs_in : ℕ → List Key → Key → Need
  needs_in room below book d line m known =
      by_standing (standing_of own book below known m) d (record { book = book; line = line }) known (walk_new room book below line m known)

  abbrev pub walk_file : Opened → Walk
  walk_file unopened = stopped no_file
  walk_file (opened r) = walk_book (needs_in (limits.files - 1) [] None) None r []

  -- the file and all that it needs, where this is the file's module
  abbrev pub walk_of : Walk
  walk_of = walk_file (lib None)
