use Rattle.std.proofs.Common.{◌≡◌, ◌-◌, ◌++◌, arith, length, take, sym, subst, ap, ◌∙◌}
use Rattle.std.proofs.lemmas.List.{length-take-le}
use Rattle.std.specs.Option.{option_to_list}
use Rattle.std.specs.Vec.{vec_len}
use Rattle.verdict_book.specs.Places.{AreIn, titled, total}
use Rattle.verdict_book.proofs.Naming.{cut_length, known_front, titled_length, titled_cut, titled_take}
use Rattle.verdict_book.proofs.title.Titles.pop.Goals as goal

pub overflow_sub-kept : goal.overflow_sub-kept
overflow_sub-kept c =
    let whole = c.pop.ensures.items ∙ ap (λ r. c.pop.new.self.items ++ option_to_list r) c.in-Some.is in
    omega (arith, cut_length _ _ _ _ whole c.self.invariant.0, c.len.ensures)

pub invariant_of-self : goal.invariant_of-self
invariant_of-self c =
    let modules = c.self.inside.modules.items in
    let names = c.self.inside.texts.items in
    let whole = c.pop.ensures.items ∙ ap (λ r. c.pop.new.self.items ++ option_to_list r) c.in-Some.is in
    let parts = cut_length _ _ _ _ whole c.self.invariant.0 in
    let same : c.len.result ≡ length names = omega (arith, c.len.ensures) in
    let kept : total c.pop.new.self.items ≡ c.len.result - c.in-Some.spot.length = omega (arith, parts, same) in (
      kept ∙ sym (ap length c.truncate.ensures.items ∙ length-take-le (c.len.result - c.in-Some.spot.length) names (omega (arith, same))),
      known_front modules c.pop.new.self.items _ (subst (AreIn modules) whole c.self.invariant.1),
    )

pub returns-in-Some : goal.returns-in-Some
returns-in-Some c =
    let modules = c.self.inside.modules.items in
    let names = c.self.inside.texts.items in
    let places = c.self.inside.spots.items in
    let front = c.pop.new.self.items in
    let count : length places ≡ length c.args.self.now = sym (titled_length modules names places) ∙ ap length c.self.view_is in
    let as_many : vec_len c.self.inside.spots ≡ length c.args.self.now = omega (arith, count) in
    let whole = c.pop.ensures.items ∙ ap (λ r. front ++ option_to_list r) c.in-Some.is in
    let parts = cut_length _ _ _ _ whole c.self.invariant.0 in
    let kept = c.len.result - c.in-Some.spot.length in
    let same : c.len.result ≡ length names = omega (arith, c.len.ensures) in
    ap (λ text. titled modules text front) c.truncate.ensures.items
    ∙ titled_cut modules names front kept (omega (arith, parts, same)) (omega (arith, same))
    ∙ ap (titled modules names) c.pop.ensures.rest
    ∙ titled_take modules names places (vec_len c.self.inside.spots - 1)
    ∙ ap (λ titles. take (vec_len c.self.inside.spots - 1) titles) c.self.view_is
    ∙ ap (λ n. take (n - 1) c.args.self.now) as_many
