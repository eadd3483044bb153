use Rattle.std.proofs.Common.{List, Option, ◌≡◌, ◌∙◌, ap, map, refl, length}
use Rattle.std.proofs.lemmas.Option.{slice_get_read}
use Rattle.dk_model.specs.Signatures.{maybe_tree}
use Rattle.dk_model.specs.Captures.{filled}
use Rattle.tree_evaluation.specs.Views.{Term, rule, captures_of, tree}
use Rattle.tree_evaluation.proofs.Rewriting.{rewrites}
use Rattle.tree_evaluation.proofs.evaluation.taken.Goals as goal

pub returns : goal.returns
returns c =
    let l = c.in-Some.ensures.lookup in
    let right : tree c.in_ok-right-2.right ≡ filled (captures_of c.args.selected.captures) 0 (rule c.args.selected.rule).right =
    c.in_ok-right-2.ensures ∙ ap (λ (cs : List (Option Term)). filled (map maybe_tree cs) 0 (tree c.in_ok-right.right)) c.as_slice.ensures.value
    ∙ ap (filled (captures_of c.args.selected.captures) 0) (c.in_ok-right.ensures ∙ c.right.ensures) in
    rewrites (tree c.args.term.now) c.args.rows.now c.args.selected c.in_ok-told.told c.in-Some.row.now
    (record { number = c.in-Some.row.now.from; patterns = c.pattern_count.result; joins = c.args.selected.joins; right = c.in_ok-right-2.right })
    (slice_get_read c.args.rows.now (length c.args.rows.now) c.args.selected.place c.in-Some.row.now refl l.3.0 l.1)
    refl c.pattern_count.ensures refl right c.in_ok-told.ensures.fires
