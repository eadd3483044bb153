-- What one step does to what is left of several open books.
use Rattle.std.proofs.Common.{◌≡◌, ℕ, suc, Bool, false, List, [], ◌∷◌, ◌++◌, length, refl, sym, ap, ◌∙◌, append_assoc, append-nil, nat_le, Option, Some}
use Rattle.std.specs.Prelude.{if◌then◌else◌}
use Rattle.dk_model.specs.declared.code.Code.TheVariants.{E16}
use Rattle.dk_parser.specs.Written.{WrittenCommand}
use Rattle.theory_walk.specs.declared.needs.ModuleLimits.{ModuleLimits}
use Rattle.theory_walk.specs.declared.needs.Standing.TheVariants.{New}
use Rattle.theory_walk.specs.Libraries.{BookReading, BookStep, BookTail, Key, Library, need, opened, put, steps_in}
use Rattle.theory_walk.specs.Walks.{End, Placed, Reached, Spot, Walk, by_standing, ends, follow, goes_on, needs_in, passes, refused_at, standing_of, stopped, then_walk, walk_new, walk_opened, walk_steps, with_commands}
use Rattle.book_reader.specs.Stacks.{Rest, books_of, walk_stack}

-- commands before a walk stay before what follows it
with_follow : (cs ds : List Placed) (r : Reached) (next : List (List ℕ) → Walk) → follow (cs ++ ds) r next ≡ with_commands cs (follow ds r next)
with_follow cs ds (goes_on known) next = ap (λ l. record { commands = l; reached = (next known).reached }) (append_assoc cs ds (next known).commands)
with_follow cs ds (ends e) next = refl

pub then_with : (cs : List Placed) (w : Walk) (next : List (List ℕ) → Walk) → then_walk (with_commands cs w) next ≡ with_commands cs (then_walk w next)
then_with cs w next = with_follow cs w.commands w.reached next

follow_assoc : (cs : List Placed) (r : Reached) (f g : List (List ℕ) → Walk) → then_walk (follow cs r f) g ≡ follow cs r (λ known. then_walk (f known) g)
follow_assoc cs (goes_on known) f g = then_with cs (f known) g
follow_assoc cs (ends e) f g = refl

pub then_assoc : (w : Walk) (f g : List (List ℕ) → Walk) → then_walk (then_walk w f) g ≡ then_walk w (λ known. then_walk (f known) g)
then_assoc w f g = follow_assoc w.commands w.reached f g

follow_passes : (cs : List Placed) (r : Reached) → follow cs r passes ≡ (let w : Walk = record { commands = cs; reached = r } in w)
follow_passes cs (goes_on known) = ap (λ l. record { commands = l; reached = goes_on known }) (append-nil cs)
follow_passes cs (ends e) = refl

pub then_passes : (w : Walk) → then_walk w passes ≡ w
then_passes w = follow_passes w.commands w.reached

pub with_with : (cs ds : List Placed) (w : Walk) → with_commands cs (with_commands ds w) ≡ with_commands (cs ++ ds) w
with_with cs ds w = ap (λ l. record { commands = l; reached = w.reached }) (sym (append_assoc cs ds w.commands))

module _ (most : ModuleLimits) (own : Option (List ℕ)) (lib : Library) where
  pub stack_put : (room : ℕ) (book : Key) (c : WrittenCommand) (ss : List BookStep) (tail : BookTail) (rs : List Rest) (known : List (List ℕ))
      → walk_stack most own lib room (record { book = book; steps = put c ∷ ss; tail = tail } ∷ rs) known
      ≡ with_commands (record { book = book; command = c } ∷ []) (walk_stack most own lib room (record { book = book; steps = ss; tail = tail } ∷ rs) known)
  stack_put room book c ss tail rs known =
      then_with (record { book = book; command = c } ∷ []) (walk_steps (needs_in most own lib room (books_of rs) book) book ss tail known) (walk_stack most own lib (suc room) rs)

  -- a need that changes nothing
  pub stack_pass : (room : ℕ) (book : Key) (line : ℕ) (m : List ℕ) (d : Bool) (ss : List BookStep) (tail : BookTail) (rs : List Rest) (known : List (List ℕ))
      → needs_in most own lib room (books_of rs) book d line m known ≡ passes known
      → walk_stack most own lib room (record { book = book; steps = need d line m ∷ ss; tail = tail } ∷ rs) known
      ≡ walk_stack most own lib room (record { book = book; steps = ss; tail = tail } ∷ rs) known
  stack_pass room book line m d ss tail rs known e =
      ap (λ w. then_walk (then_walk w (λ more. walk_steps (needs_in most own lib room (books_of rs) book) book ss tail more)) (walk_stack most own lib (suc room) rs)) e

  -- a need that ends all
  pub stack_stop : (room : ℕ) (book : Key) (line : ℕ) (m : List ℕ) (d : Bool) (ss : List BookStep) (tail : BookTail) (rs : List Rest) (known : List (List ℕ)) (e : End)
      → needs_in most own lib room (books_of rs) book d line m known ≡ stopped e
      → walk_stack most own lib room (record { book = book; steps = need d line m ∷ ss; tail = tail } ∷ rs) known ≡ stopped e
  stack_stop room book line m d ss tail rs known e is =
      ap (λ w. then_walk (then_walk w (λ more. walk_steps (needs_in most own lib room (books_of rs) book) book ss tail more)) (walk_stack most own lib (suc room) rs)) is

  -- a need that opens a book
  pub stack_open : (room : ℕ) (book : Key) (line : ℕ) (m : List ℕ) (d : Bool) (ss : List BookStep) (tail : BookTail) (rs : List Rest) (known : List (List ℕ)) (r : BookReading)
      → standing_of own book (books_of rs) known m ≡ New → nat_le most.modules (length known) ≡ false → lib (Some m) ≡ opened r
      → walk_stack most own lib (suc room) (record { book = book; steps = need d line m ∷ ss; tail = tail } ∷ rs) known
      ≡ walk_stack most own lib room (record { book = Some m; steps = steps_in r.items; tail = r.tail } ∷ record { book = book; steps = ss; tail = tail } ∷ rs) (known ++ m ∷ [])
  stack_open room book line m d ss tail rs known r new few is =
      let spot : Spot = record { book = book; line = line } in
      let goes : Walk → Walk = λ w. then_walk (then_walk w (λ more. walk_steps (needs_in most own lib (suc room) (books_of rs) book) book ss tail more)) (walk_stack most own lib (suc (suc room)) rs) in
      ap (λ s. goes (by_standing s d spot known (walk_new most own lib (suc room) book (books_of rs) line m known))) new
      ∙ ap (λ b. goes (if b then stopped (refused_at spot E16) else (walk_opened (needs_in most own lib room (book ∷ books_of rs)) spot m (lib (Some m)) known))) few
      ∙ ap (λ o. goes (walk_opened (needs_in most own lib room (book ∷ books_of rs)) spot m o known)) is
      ∙ then_assoc (walk_steps (needs_in most own lib room (book ∷ books_of rs) (Some m)) (Some m) (steps_in r.items) r.tail (known ++ m ∷ []))
      (λ more. walk_steps (needs_in most own lib (suc room) (books_of rs) book) book ss tail more) (walk_stack most own lib (suc (suc room)) rs)
