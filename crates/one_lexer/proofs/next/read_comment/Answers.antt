use Rattle.std.proofs.Common.{◌≡◌, ◌++◌, ℕ, List, [], ◌∷◌, length, take, drop, ap, arith, subst, sym, ◌∙◌}
use Rattle.std.proofs.lemmas.List.{take-append-drop}
use Rattle.dk_lexer.specs.declared.class.Class.TheVariants as class
use Rattle.dk_lexer.specs.declared.place.Place.{Place}
use Rattle.one_lexer.specs.Places.{place_behind}
use Rattle.one_lexer.specs.Reading.{Reads, ReadsComment}
use Rattle.one_lexer.specs.Steps.{Comes}
use Rattle.one_lexer.proofs.Founds.{comes_last, fewer_last}
use Rattle.one_lexer.proofs.InComments.{comment_begins, start_fails}
use Rattle.one_lexer.proofs.Shapes.{comment_opens}
use Rattle.one_lexer.proofs.next.read_comment.Goals as goal

pub returns-then-from-last-clause-comes : goal.returns-then-from-last-clause-comes
returns-then-from-last-clause-comes c over before ts r =
    let k = comment_opens c.args.limits.name_bytes c.args.bytes.now c.requires in
    let there : Reads over c.args.limits before ts c.args.at.here c.args.at.command (k.first ∷ k.second ∷ k.rest) =
    subst (λ (x : List ℕ). Reads over c.args.limits before ts c.args.at.here c.args.at.command x) k.bytes_are r in
    rw c.bound_of-last.ensures.code (start_fails over c.args.limits before ts c.args.at.here c.args.at.command k.first k.second k.rest there k.starts
    (omega (arith, c.bound_of-last.ensures.last, c.if-from-last.true, c.from.ensures)))

pub returns-clause-comes : goal.returns-clause-comes
returns-clause-comes c over before ts r =
    let k = comment_opens c.args.limits.name_bytes c.args.bytes.now c.requires in
    let there : Reads over c.args.limits before ts c.args.at.here c.args.at.command (k.first ∷ k.second ∷ k.rest) =
    subst (λ (x : List ℕ). Reads over c.args.limits before ts c.args.at.here c.args.at.command x) k.bytes_are r in
    let sign : c.split_at.result.0.now ≡ k.first ∷ k.second ∷ [] = c.split_at.ensures.front ∙ ap (take 2) k.bytes_are in
    let rest : c.split_at.result.1.now ≡ k.rest = c.split_at.ensures.back ∙ ap (drop 2) k.bytes_are in
    let next : c.advance.result ≡ place_behind c.args.at.here (k.first ∷ k.second ∷ []) = c.advance.ensures ∙ ap (place_behind c.args.at.here) sign in
    let begun = comment_begins over c.args.limits before ts c.args.at.here c.args.at.command k.first k.second k.rest there k.starts
    (omega (arith, c.bound_of-last.ensures.last, c.if-from-last.false, c.from.ensures)) in
    let begun_here : ReadsComment over c.args.limits before ts c.args.at.here c.args.at.command c.advance.result 1 class.Other c.split_at.result.1.now =
    subst (λ (p : Place). ReadsComment over c.args.limits before ts c.args.at.here c.args.at.command p 1 class.Other c.split_at.result.1.now) (sym next)
    (subst (λ (x : List ℕ). ReadsComment over c.args.limits before ts c.args.at.here c.args.at.command (place_behind c.args.at.here (k.first ∷ k.second ∷ [])) 1 class.Other x) (sym rest) begun) in
    let whole : c.split_at.result.0.now ++ c.split_at.result.1.now ≡ c.args.bytes.now =
    ap (λ (x : List ℕ). x ++ c.split_at.result.1.now) c.split_at.ensures.front ∙ ap (λ (x : List ℕ). take 2 c.args.bytes.now ++ x) c.split_at.ensures.back ∙ take-append-drop 2 c.args.bytes.now in
    subst (λ (x : List ℕ). Comes over c.args.limits before ts c.args.at x c.read_inside.result) whole
    (comes_last over c.args.limits before ts c.args.at c.split_at.result.0.now c.split_at.result.1.now c.read_inside.result (c.read_inside.ensures.fewer over) (c.read_inside.ensures.comes over before ts begun_here))

pub returns-clause-fewer : goal.returns-clause-fewer
returns-clause-fewer c over =
    fewer_last over (length c.split_at.result.1.now) (length c.args.bytes.now) c.read_inside.result (omega (arith, c.split_at.ensures.back_len)) (c.read_inside.ensures.fewer over)
