use Rattle.std.proofs.Common.{◌∷◌, sym, ap, subst, ◌∙◌, refl}
use Rattle.theory_walk.specs.declared.needs.Standing.TheVariants.{Current, Below, WasRead}
use Rattle.theory_walk.specs.Walks.{standing_of}
use Rattle.book_reader.specs.Turns.{with_need}
use Rattle.book_reader.specs.Walkers.{books_in, open_of, opens_below, setting_of}
use Rattle.book_reader.proofs.Turning.{is_looped, is_passed, passed}
use Rattle.book_reader.proofs.Ending.{begins_so, need_looped}
use Rattle.book_reader.proofs.walker.Walker.need.Goals as goal

pub returns-then-need-clause-walks : goal.returns-then-need-clause-walks
returns-then-need-clause-walks g c = λ books done told st.
    let w = c.args.self.now in
    let n = c.args.need in (
      need_looped (setting_of w.root books) (with_need n.directive n.line n.name (open_of w.top)) (opens_below w) w.opened _ done n.directive n.line n.name (open_of w.top).pending Current refl
          (ap (λ m. standing_of w.root.own w.top.module (books_in (opens_below w)) w.opened m) (sym c.as_slice.ensures) ∙ sym c.in-Current.ensures) (subst (λ b. is_looped Current b) (sym c.if-need.true) tt) st,
      begins_so (setting_of w.root books) (with_need n.directive n.line n.name (open_of w.top) ∷ opens_below w) w.opened _ done st,
    )

pub returns-else-need-clause-walks : goal.returns-else-need-clause-walks
returns-else-need-clause-walks g c = λ books done told st.
    let w = c.args.self.now in
    let n = c.args.need in
    passed (setting_of w.root books) (with_need n.directive n.line n.name (open_of w.top)) (open_of w.top) (opens_below w) w.opened _ done n.directive n.line n.name Current
    (ap (λ m. standing_of w.root.own w.top.module (books_in (opens_below w)) w.opened m) (sym c.as_slice.ensures) ∙ sym c.in-Current.ensures) (subst (λ b. is_passed Current b) (sym c.if-need.false) tt) refl refl refl st

pub returns-in-Below-clause-walks : goal.returns-in-Below-clause-walks
returns-in-Below-clause-walks g c = λ books done told st.
    let w = c.args.self.now in
    let n = c.args.need in (
      need_looped (setting_of w.root books) (with_need n.directive n.line n.name (open_of w.top)) (opens_below w) w.opened _ done n.directive n.line n.name (open_of w.top).pending Below refl
          (ap (λ m. standing_of w.root.own w.top.module (books_in (opens_below w)) w.opened m) (sym c.as_slice.ensures) ∙ sym c.in-Below.ensures) tt st,
      begins_so (setting_of w.root books) (with_need n.directive n.line n.name (open_of w.top) ∷ opens_below w) w.opened _ done st,
    )

pub returns-in-WasRead-clause-walks : goal.returns-in-WasRead-clause-walks
returns-in-WasRead-clause-walks g c = λ books done told st.
    let w = c.args.self.now in
    let n = c.args.need in
    passed (setting_of w.root books) (with_need n.directive n.line n.name (open_of w.top)) (open_of w.top) (opens_below w) w.opened _ done n.directive n.line n.name WasRead
    (ap (λ m. standing_of w.root.own w.top.module (books_in (opens_below w)) w.opened m) (sym c.as_slice.ensures) ∙ sym c.in-WasRead.ensures) tt refl refl refl st

pub returns-in-New-clause-walks : goal.returns-in-New-clause-walks
returns-in-New-clause-walks g c = λ books done told st. c.open.ensures.walks books done c.args.need.directive told st

pub returns-in-New-clause-moves : goal.returns-in-New-clause-moves
returns-in-New-clause-moves g c = c.open.ensures.moves

pub returns-in-New-clause-room : goal.returns-in-New-clause-room
returns-in-New-clause-room g c = c.open.ensures.room
