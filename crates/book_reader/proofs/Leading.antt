-- What the walk comes to when the book being read goes on.
use Rattle.std.proofs.Common.{◌≡◌, ℕ, ◌-◌, List, [], ◌∷◌, ◌++◌, length, refl, sym, ap, ◌∙◌, append_assoc, append-nil, Some}
use Rattle.dk_parser.specs.Written.{WrittenCommand}
use Rattle.theory_walk.specs.Libraries.{BookStep, BookTail, Library, steps_in, steps_of}
use Rattle.theory_walk.specs.Walks.{Placed, with_commands}
use Rattle.book_reader.specs.Shelved.{Setting}
use Rattle.book_reader.specs.Stacks.{Rest, books_of, walk_stack}
use Rattle.book_reader.specs.Walkers.{AreRests, IsRest, LeadsTo, Open, books_in, has_key, rest_behind}
use Rattle.book_reader.proofs.Stacks.{with_with}

pub rests_books : (lib : Library) (os : List Open) (ds : List (List WrittenCommand)) (rs : List Rest) → AreRests lib os ds rs → books_of rs ≡ books_in os
rests_books lib [] [] [] are = refl
rests_books lib (o ∷ os) (d ∷ ds) (r ∷ rs) are = ap (λ (x : Rest). x.book ∷ books_of rs) are.0.rest_is ∙ ap (λ bs. o.book ∷ bs) (rests_books lib os ds rs are.1)
rests_books lib os ds rs are = absurd are

module _ (s : Setting) where
  -- the book goes on, and these commands come of it
  pub lead_step : (o p : Open) (os : List Open) (known : List (List ℕ)) (d e : List WrittenCommand) (ds : List (List WrittenCommand)) (done later cs : List Placed) → later ≡ done ++ cs → p.book ≡ o.book
      → ((lib : Library) (r : Rest) → IsRest lib p e r → (q : Rest) × IsRest lib o d q
      × ((room : ℕ) (rs : List Rest) → books_of rs ≡ books_in os → walk_stack s.most s.own lib room (q ∷ rs) known ≡ with_commands cs (walk_stack s.most s.own lib room (r ∷ rs) known)))
      → LeadsTo s (o ∷ os) known (d ∷ ds) done
      → LeadsTo s (p ∷ os) known (e ∷ ds) later
  lead_step o p os known d e ds done later cs later_is same back leads lib [] agrees = absurd agrees.rests_are
  lead_step o p os known d e ds done later cs later_is same back leads lib (r ∷ rs) agrees =
      let b = back lib r agrees.rests_are.0 in
      let room = s.most.files - length (o ∷ os) in
      leads lib (b.0 ∷ rs) (record {
        closed = λ m is_known not_open. agrees.closed m is_known (ap (λ k. has_key (k ∷ books_in os) (Some m)) same ∙ not_open);
        rests_are = (b.1, agrees.rests_are.1);
      })
      ∙ ap (with_commands done) (b.2 room rs (rests_books lib os ds rs agrees.rests_are.1))
      ∙ with_with done cs (walk_stack s.most s.own lib room (r ∷ rs) known)
      ∙ ap (λ d. with_commands d (walk_stack s.most s.own lib room (r ∷ rs) known)) (sym later_is)

  -- an item was read on
  pub lead_found : (o p : Open) (os : List Open) (known : List (List ℕ)) (d : List WrittenCommand) (c : WrittenCommand) (ds : List (List WrittenCommand)) (done : List Placed)
      → p.book ≡ o.book → o.pending ≡ [] → p.pending ≡ steps_of c
      → LeadsTo s (o ∷ os) known (d ∷ ds) done
      → LeadsTo s (p ∷ os) known ((d ++ c ∷ []) ∷ ds) done
  lead_found o p os known d c ds done same none new =
      lead_step o p os known d (d ++ c ∷ []) ds done done [] (sym (append-nil done)) same (λ lib r is. (
        r,
        record {
          reading = is.reading;
          book_is = ap lib (sym same) ∙ is.book_is;
          later = c ∷ is.later;
          begins = is.begins ∙ append_assoc d (c ∷ []) is.later;
          rest_is = is.rest_is
              ∙ ap (λ b. let x : Rest = record { book = b; steps = p.pending ++ steps_in is.later; tail = is.reading.tail } in x) same
              ∙ ap (λ l. let x : Rest = record { book = o.book; steps = l ++ steps_in is.later; tail = is.reading.tail } in x) new
              ∙ ap (λ l. let x : Rest = record { book = o.book; steps = l ++ steps_in (c ∷ is.later); tail = is.reading.tail } in x) (sym none);
        },
        λ room rs below. refl,
      ))

  -- the steps of an open book
  pub stepped : (o : Open) (ss : List BookStep) (later : List WrittenCommand) (tail : BookTail) → o.pending ≡ ss
      → rest_behind o later tail ≡ (let r : Rest = record { book = o.book; steps = ss ++ steps_in later; tail = tail } in r)
  stepped o ss later tail is = ap (λ l. let r : Rest = record { book = o.book; steps = l ++ steps_in later; tail = tail } in r) is

  -- a step is taken from those that are pending
  pub lead_pending : (o p : Open) (os : List Open) (known : List (List ℕ)) (d : List WrittenCommand) (ds : List (List WrittenCommand)) (done later cs : List Placed) (x : BookStep)
      → later ≡ done ++ cs → p.book ≡ o.book → o.pending ≡ x ∷ p.pending
      → ((lib : Library) (room : ℕ) (ss : List BookStep) (tail : BookTail) (rs : List Rest) → books_of rs ≡ books_in os
      → walk_stack s.most s.own lib room (record { book = o.book; steps = x ∷ ss; tail = tail } ∷ rs) known ≡ with_commands cs (walk_stack s.most s.own lib room (record { book = o.book; steps = ss; tail = tail } ∷ rs) known))
      → LeadsTo s (o ∷ os) known (d ∷ ds) done
      → LeadsTo s (p ∷ os) known (d ∷ ds) later
  lead_pending o p os known d ds done later cs x later_is same pending takes =
      lead_step o p os known d d ds done later cs later_is same (λ lib r is. (
        rest_behind o is.later is.reading.tail,
        record { reading = is.reading; book_is = ap lib (sym same) ∙ is.book_is; later = is.later; begins = is.begins; rest_is = refl },
        λ room rs below.
            ap (λ q. walk_stack s.most s.own lib room (q ∷ rs) known) (stepped o (x ∷ p.pending) is.later is.reading.tail pending)
            ∙ takes lib room (p.pending ++ steps_in is.later) is.reading.tail rs below
            ∙ ap (λ q. with_commands cs (walk_stack s.most s.own lib room (q ∷ rs) known))
            (ap (λ b. let x : Rest = record { book = b; steps = p.pending ++ steps_in is.later; tail = is.reading.tail } in x) (sym same) ∙ sym is.rest_is),
      ))
