use Rattle.std.proofs.Common.{◌≡◌, ◌∙◌, List, Option, Some, length, refl, ap, subst as along, sym as flip}
use Rattle.std.proofs.lemmas.Option.{slice_get_read}
use Rattle.dk_model.specs.Matrix.{is_rigid, cell_at}
use Rattle.tree_evaluation.specs.Views.{Cell, Selected, plain_cells, row}
use Rattle.tree_evaluation.specs.Tellings.{Folded}
use Rattle.tree_evaluation.proofs.Selecting.{folds}
use Rattle.tree_evaluation.proofs.select.folded.Goals as goal

pub returns-clause-told : goal.returns-clause-told
returns-clause-told c =
    let rigid : c.is_rigid-rigid.result ≡ is_rigid (cell_at (row c.in-Some-get-2.before.now).cells c.args.at) =
    c.is_rigid-rigid.ensures ∙ ap is_rigid c.cell_at.ensures ∙ ap (λ (cells : List Cell). is_rigid (cell_at (plain_cells cells) c.args.at)) c.as_slice.ensures.value in
    let l = c.in-Some-get.ensures.lookup in
    let m = c.in-Some-get-2.ensures.lookup in
    let deeper = c.in-Some.deeper in
    let it : Selected = record { captures = deeper.captures; rule = deeper.rule; place = c.in-Some-get.own.now.from; ends = c.in_ok-ends.ends; joins = deeper.joins } in
    along (λ (o : Option Selected). Folded c.args.at c.args.depth c.args.told c.args.rows.now c.args.kept.now o (Some it)) (flip c.in-Some.is)
    (folds c.args.at c.args.depth c.args.told c.is_rigid-rigid.result c.args.rows.now c.args.kept.now deeper it c.in-Some-get.own.now c.in-Some-get-2.before.now
    (slice_get_read c.args.kept.now (length c.args.kept.now) deeper.place c.in-Some-get.own.now refl l.3.0 l.1)
    (slice_get_read c.args.rows.now (length c.args.rows.now) c.in-Some-get.own.now.from c.in-Some-get-2.before.now refl m.3.0 m.1) rigid c.in_ok-ends.ensures.folds refl refl refl refl)
