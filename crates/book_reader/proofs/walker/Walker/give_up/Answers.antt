use Rattle.std.proofs.Common.{List, ◌∷◌, map, ap, sym, subst, ◌∙◌, refl, arith, length}
use Rattle.std.proofs.lemmas.List.{append-nil}
use Rattle.std.specs.Prelude.{reverse, take, ◌-◌}
use Rattle.book_reader.specs.declared.walker.Frame.{Frame}
use Rattle.file_reader.specs.Progress.{HasBegun}
use Rattle.book_reader.specs.Rooms.{room_of_book}
use Rattle.book_reader.specs.Walkers.{open_of}
use Rattle.book_reader.proofs.Openings.{begun_less, below_more}
use Rattle.book_reader.proofs.Rooms.{room_pushed}
use Rattle.book_reader.proofs.walker.Walker.give_up.Goals as goal

pub returns-in-None-clause-gone : goal.returns-in-None-clause-gone
returns-in-None-clause-gone g c = (
  ap (λ (l : List Frame). map open_of (reverse l))
      (c.in-None.ensures.items ∙ append-nil c.pop.new.self.items ∙ c.in-None.ensures.rest ∙ ap (λ n. take (n - 1) c.args.self.now.below.items) c.in-None.ensures.cases.0),
  refl,
  refl,
)

pub returns-in-Some-clause-gone : goal.returns-in-Some-clause-gone
returns-in-Some-clause-gone g c = (
  refl,
  below_more _ _ _ c.in-Some.ensures.items ∙ ap (λ f. open_of f ∷ map open_of (reverse c.pop.new.self.items)) (sym c.replace.ensures.after),
  refl,
  c.back.ensures.taken,
)

pub returns-in-Some-clause-ready : goal.returns-in-Some-clause-ready
returns-in-Some-clause-ready g c =
    let r = c.requires in
    let begun = begun_less _ _ c.in-Some.frame c.in-Some.ensures.items r.below in
    let aside = ap length c.back.ensures.taken in
    let less = c.in-Some.ensures.cases in
    record {
      room = record {
        files_fit = r.room.files_fit;
        few = omega (arith, less, r.room.few);
        is_open = c.back.ensures.is_open;
        all_aside = omega (arith, less, aside, r.room.all_aside);
        room = omega (arith, less, aside, r.room.room);
      };
      top = subst (λ (f : Frame). HasBegun f.reader) (sym c.replace.ensures.after) begun.0;
      below = begun.1;
    }

pub returns-in-Some-clause-room : goal.returns-in-Some-clause-room
returns-in-Some-clause-room g c =
    let below = room_pushed _ _ c.in-Some.frame c.in-Some.ensures.items in
    let top = ap room_of_book c.replace.ensures.after in
    omega (arith, below, top)

pub returns-in-None-clause-leaves : goal.returns-in-None-clause-leaves
returns-in-None-clause-leaves g c = let none = c.in-None.ensures.cases.0 in omega (arith, none)

pub returns-in-Some-clause-leaves : goal.returns-in-Some-clause-leaves
returns-in-Some-clause-leaves g c =
    let aside = ap length c.back.ensures.taken in
    let less = c.in-Some.ensures.cases in
    omega (arith, less, aside, c.requires.room.all_aside)
