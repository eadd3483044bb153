use Rattle.std.proofs.Common.{◌≡◌, ◌∙◌, ◌<◌, List, ap, subst, sym as flip, map, drop, length, arith}
use Rattle.std.proofs.lemmas.List.{drop-map}
use Rattle.dk_model.specs.Matrix.{Row as PlainRow}
use Rattle.rule_match.specs.Keys.{rows_by}
use Rattle.rule_match.specs.Rows.{row}
use Rattle.rule_match.specs.Branches.{AddsRows}
use Rattle.rule_match.specs.Groups.{AreGroups}
use Rattle.rule_match.proofs.Compiling.{branching_goes_on, node_pushed}
use Rattle.rule_match.proofs.Grouping.{group_at}
use Rattle.rule_match.proofs.nodes.+compiled.Goals as goal

pub loop-group-preserved : goal.loop-group-preserved
loop-group-preserved t c = record {
  spent = omega (arith, c.compiled.ensures.spent, c.loop-group.invariant.spent);
  branching = λ rules t0.
      let column = c.test_of-tried.result.1 in
      let left : List PlainRow = drop c.test_of-tried.result.0 (map (row rules) c.args.rows.now) in
      let b = c.loop-group.invariant.branching rules t0 in
      let lt : c.loop-group.group-index < length c.deref-group-items.result.now = omega (arith, c.loop-group-test.true) in
      let rest : map (row rules) c.untried.result.now ≡ left = ap (map (row rules)) c.untried.ensures ∙ flip (drop-map (row rules) c.test_of-tried.result.0 c.args.rows.now) in
      let kept : map (row rules) c.as_slice.result.now ≡ rows_by c.group-item.result.key column left =
      ap (map (row rules)) c.as_slice.ensures.value
      ∙ group_at rules column (map (row rules) c.untried.result.now) c.deref-group-items.result.now c.loop-group.group-index c.group-item.result
      (subst (AreGroups rules column (map (row rules) c.untried.result.now)) (flip c.deref-group-items.ensures.value) (c.in_ok-groups.ensures rules)) lt c.group-item.is
      ∙ ap (rows_by c.group-item.result.key column) rest in
      let adds : AddsRows rules c.loop-group.nodes.items c.compiled.new.nodes.items (rows_by c.group-item.result.key column left) c.in-Some.node =
      subst (λ (l : List PlainRow). AddsRows rules c.loop-group.nodes.items c.compiled.new.nodes.items l c.in-Some.node) kept ((rw c.in-Some.is at c.in_ok-compiled.ensures.adds) rules b.tests) in
      branching_goes_on rules c.args.nodes.now.items c.loop-group.nodes.items c.compiled.new.nodes.items column left c.loop-group.branches.items c.put_branch.new.branches.items c.group-item.result.key
      c.in-Some.node b adds (c.in_ok-put_branch-in-Some.ensures rules c.compiled.new.nodes.items column left);
}

pub returns-clause-adds : goal.returns-clause-adds
returns-clause-adds t c = λ rules t0.
    let b = c.loop-group.invariant.branching rules t0 in
    node_pushed rules c.args.nodes.now.items c.loop-group.nodes.items c.push.new.self.items
    (record { rows = c.in_ok-kept_rows.field-0; tried = c.test_of-tried.result.0; column = c.test_of-tried.result.1; branches = c.loop-group.branches })
    (map (row rules) c.args.rows.now) c.len-place.result b.keeps b.tests c.in_ok-push.ensures.items (omega (arith, c.len-place.ensures, c.loop-group.nodes.ok.0)) (c.in_ok-kept_rows.ensures rules) b.branches
