use Rattle.std.proofs.Common.{◌≡◌, ◌-◌, ◌<◌, arith, length, sym, ap, ◌∙◌, List, ℕ}
use Rattle.board_core.specs.declared.event.Place.{Place}
use Rattle.verdict_book.specs.Books.{place_at}
use Rattle.verdict_book.proofs.Naming.{known_at, read_own, titled_length, titled_place}
use Rattle.verdict_book.proofs.title.Titles.place.Goals as goal

pub index-spot-requires : goal.index-spot-requires
index-spot-requires c =
    let t = c.self.inside in
    let count : length c.args.self.now ≡ length t.spots.items = ap length (sym c.self.view_is) ∙ titled_length t.modules.items t.texts.items t.spots.items in
    omega (arith, c.requires.0, c.requires.1, count)

pub index-requires : goal.index-requires
index-requires c =
    let t = c.self.inside in
    let count : length c.args.self.now ≡ length t.spots.items = ap length (sym c.self.view_is) ∙ titled_length t.modules.items t.texts.items t.spots.items in
    let within : c.args.number - 1 < length t.spots.items = omega (arith, c.requires.0, c.requires.1, count) in
    let known = known_at t.modules.items t.spots.items (c.args.number - 1) c.index-spot.result.now c.self.invariant.1 within c.index-spot.ensures in omega (arith, known)

pub returns : goal.returns
returns c =
    let t = c.self.inside in
    let count : length c.args.self.now ≡ length t.spots.items = ap length (sym c.self.view_is) ∙ titled_length t.modules.items t.texts.items t.spots.items in
    let within : c.args.number - 1 < length t.spots.items = omega (arith, c.requires.0, c.requires.1, count) in
    let known = known_at t.modules.items t.spots.items (c.args.number - 1) c.index-spot.result.now c.self.invariant.1 within c.index-spot.ensures in
    c.at.ensures
    ∙ ap (λ (m : List ℕ). let p : Place = record { line = c.index-spot.result.now.line; «module» = m } in p) (read_own t.modules.items c.index-spot.result.now.module_at c.index.result.now known c.index.ensures)
    ∙ sym (titled_place t.modules.items t.texts.items t.spots.items (c.args.number - 1) c.index-spot.result.now within c.index-spot.ensures)
    ∙ ap (λ titles. place_at titles c.args.number) c.self.view_is
