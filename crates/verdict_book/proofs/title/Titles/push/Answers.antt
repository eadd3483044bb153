use Rattle.std.proofs.Common.{rules, ◌≡◌, ◌+◌, ◌++◌, ◌∷◌, ℕ, List, [], arith, get_or, length, sym, subst, ap, ◌∙◌}
use Rattle.std.proofs.lemmas.List.{length-append}
use Rattle.std.proofs.lemmas.Grind.{common_steps}
use Rattle.verdict_book.specs.declared.title.Title.{Title}
use Rattle.verdict_book.specs.declared.title.Spot.{Spot}
use Rattle.verdict_book.specs.Places.{AreIn, titled, total}
use Rattle.verdict_book.specs.Titles.{kind_of, shown_by}
use Rattle.verdict_book.proofs.Naming.{known_more, known_snoc, read_there, shown_again, titled_more, titled_push, total_push}
use Rattle.verdict_book.proofs.title.Titles.push.Goals as goal

pub invariant_of-self-in_err-module_at : goal.invariant_of-self-in_err-module_at
invariant_of-self-in_err-module_at c =
    let t = c.self.inside in
    let kept = c.module_number.ensures.kept in (
      ap total c.reserve.ensures.items ∙ c.self.invariant.0,
      subst (λ m. AreIn m c.reserve.new.self.items) (sym kept.1)
          (known_more t.modules.items kept.0 c.reserve.new.self.items (subst (AreIn t.modules.items) (sym c.reserve.ensures.items) c.self.invariant.1)),
    )

pub returns-in_err-module_at-clause-err : goal.returns-in_err-module_at-clause-err
returns-in_err-module_at-clause-err c =
    let t = c.self.inside in
    let kept = c.module_number.ensures.kept in
    let same =
    ap (λ m. titled m t.texts.items c.reserve.new.self.items) kept.1
    ∙ ap (titled (t.modules.items ++ kept.0) t.texts.items) c.reserve.ensures.items
    ∙ titled_more t.modules.items kept.0 t.texts.items t.spots.items c.self.invariant.1
    ∙ c.self.view_is in
    search (rules, same)

pub invariant_of-self-in_err-extend_from_slice : goal.invariant_of-self-in_err-extend_from_slice
invariant_of-self-in_err-extend_from_slice c =
    let t = c.self.inside in
    let kept = c.module_number.ensures.kept in (
      ap total c.reserve.ensures.items ∙ c.self.invariant.0 ∙ sym (ap length c.in_err-extend_from_slice.ensures.items),
      subst (λ m. AreIn m c.reserve.new.self.items) (sym kept.1)
          (known_more t.modules.items kept.0 c.reserve.new.self.items (subst (AreIn t.modules.items) (sym c.reserve.ensures.items) c.self.invariant.1)),
    )

pub returns-in_err-extend_from_slice-clause-err : goal.returns-in_err-extend_from_slice-clause-err
returns-in_err-extend_from_slice-clause-err c =
    let t = c.self.inside in
    let kept = c.module_number.ensures.kept in
    let same =
    ap (λ texts. titled c.module_number.new.modules.items texts c.reserve.new.self.items) c.in_err-extend_from_slice.ensures.items
    ∙ ap (λ m. titled m t.texts.items c.reserve.new.self.items) kept.1
    ∙ ap (titled (t.modules.items ++ kept.0) t.texts.items) c.reserve.ensures.items
    ∙ titled_more t.modules.items kept.0 t.texts.items t.spots.items c.self.invariant.1
    ∙ c.self.view_is in
    search (rules, same)

pub invariant_of-self-2 : goal.invariant_of-self-2
invariant_of-self-2 c =
    let t = c.self.inside in
    let texts = t.texts.items in
    let spots = t.spots.items in
    let text = c.text-text.result.now in
    let new = c.module_number.new.modules.items in
    let kept = c.module_number.ensures.kept in
    let spot : Spot = record { kind = c.kind.result; length = c.in-Ok.length; line = c.args.title.now.place.line; module_at = c.in_ok-module_at.module_at } in
    let is : c.in-Ok.length ≡ length text = grind (arith, common_steps, c.try_from.ensures, c.in-Ok.is) in
    let all = c.push_reserved.ensures.items ∙ ap (λ ss. ss ++ spot ∷ []) c.reserve.ensures.items in
    let there = read_there new c.in_ok-module_at.module_at c.args.title.now.place.«module» c.in_ok-module_at.ensures.ok in (
      ap total all
          ∙ total_push spots spot
          ∙ ap (λ n. n + c.in-Ok.length) c.self.invariant.0
          ∙ ap (λ n. length texts + n) is
          ∙ sym (ap length c.in_ok-extend_from_slice.ensures.items ∙ length-append texts text),
      subst (AreIn new) (sym all)
          (known_snoc new spots spot (subst (λ m. AreIn m spots) (sym kept.1) (known_more t.modules.items kept.0 spots c.self.invariant.1)) there.1),
    )

pub returns-clause-ok : goal.returns-clause-ok
returns-clause-ok c =
    let t = c.self.inside in
    let texts = t.texts.items in
    let spots = t.spots.items in
    let title = c.args.title.now in
    let text = c.text-text.result.now in
    let new = c.module_number.new.modules.items in
    let kept = c.module_number.ensures.kept in
    let spot : Spot = record { kind = c.kind.result; length = c.in-Ok.length; line = title.place.line; module_at = c.in_ok-module_at.module_at } in
    let is : c.in-Ok.length ≡ length text = grind (arith, common_steps, c.try_from.ensures, c.in-Ok.is) in
    let there = read_there new c.in_ok-module_at.module_at title.place.«module» c.in_ok-module_at.ensures.ok in
    let shown_is : shown_by c.kind.result text ≡ title.shown = ap (λ k. shown_by k text) c.kind.ensures ∙ ap (shown_by (kind_of title.shown)) c.text-text.ensures ∙ shown_again title.shown in
    ap (λ l. titled new l c.push_reserved.new.self.items) c.in_ok-extend_from_slice.ensures.items
    ∙ ap (titled new (texts ++ text)) (c.push_reserved.ensures.items ∙ ap (λ ss. ss ++ spot ∷ []) c.reserve.ensures.items)
    ∙ titled_push new texts text spots spot c.self.invariant.0 is
    ∙ ap (λ s. titled new texts spots ++ (let t : Title = record { shown = s; place = record { line = title.place.line; «module» = get_or new c.in_ok-module_at.module_at [] } } in t) ∷ []) shown_is
    ∙ ap (λ (m : List ℕ). titled new texts spots ++ (let t : Title = record { shown = title.shown; place = record { line = title.place.line; «module» = m } } in t) ∷ []) there.0
    ∙ ap (λ titles. titles ++ title ∷ []) (ap (λ m. titled m texts spots) kept.1 ∙ titled_more t.modules.items kept.0 texts spots c.self.invariant.1 ∙ c.self.view_is)
