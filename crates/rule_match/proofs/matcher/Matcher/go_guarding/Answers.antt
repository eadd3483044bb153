use Rattle.std.proofs.Common.{◌+◌, refl, ◌∙◌, Vec, Global, Option, Some, None, ap, sym as flip, subst, drop, length}
use Rattle.dk_model.specs.Evaluation.{comparison_of}
use Rattle.shared_term.specs.declared.id.TermId.{TermId}
use Rattle.shared_term.specs.Changes.{AreCaptures, captured_terms}
use Rattle.rule_match.specs.Rows.{row, rule_at}
use Rattle.rule_match.specs.Columns.{plain}
use Rattle.rule_match.specs.Remaining.{rows_left}
use Rattle.rule_match.proofs.Growing.{columns_within, captures_within}
use Rattle.rule_match.proofs.Matching.{guards_asked, guard_asked}
use Rattle.rule_match.proofs.Placing.{place_there}
use Rattle.rule_match.proofs.matcher.Matcher.go_guarding.Goals as goal
use Rattle.shared_term.specs.Pools.{term}

pub returns-in-None-clause-asks : goal.returns-in-None-clause-asks
returns-in-None-clause-asks c = λ rules s. record {
  stands = record { source = s.source; left = s.left };
  asks = λ S. (
    place_there rules c.args.self.now.source s.source c.args.self.now.row.at c.requires.tried.there,
    λ n.
        guards_asked S (row rules c.args.self.now.row) (drop (c.args.self.now.tried + 1) (rows_left rules c.args.self.now.left)) c.args.self.now.row.cells.items c.args.self.now.columns.items
        c.args.self.now.captures.items c.args.pool.now c.next_guard.new.pool c.args.from n None refl c.next_guard.ensures.keeps c.requires.within.columns c.requires.within.captures
        (rw (c.as_slice.ensures.value, c.as_slice-2.ensures.value, c.as_slice-3.ensures.value, c.in-None.is) at c.in_ok-next_guard.ensures.guards)
        ∙ ap (λ (v : Vec (Option TermId) Global). Some (Some (record { captures = captured_terms c.next_guard.new.pool v.items; rule = rule_at rules c.args.self.now.row.at }), n)) (flip c.replace-captures.ensures.value),
  );
}

pub returns-in-None-clause-asked : goal.returns-in-None-clause-asked
returns-in-None-clause-asked c =
    subst (λ (v : Vec (Option TermId) Global). AreCaptures (length c.next_guard.new.pool) v.items) (flip c.replace-captures.ensures.value)
    (captures_within c.args.pool.now c.next_guard.new.pool c.args.self.now.captures.items c.next_guard.ensures.keeps c.requires.within.captures)

pub returns-in-None-clause-within : goal.returns-in-None-clause-within
returns-in-None-clause-within c = record {
  columns = columns_within c.args.pool.now c.next_guard.new.pool c.args.self.now.columns.items c.next_guard.ensures.keeps c.requires.within.columns;
  captures = subst (λ (v : Vec (Option TermId) Global). AreCaptures (length c.next_guard.new.pool) v.items) (flip c.replace-captures.ensures.after)
      (subst (λ l. AreCaptures (length c.next_guard.new.pool) l) (flip c.new.ensures.items) tt);
  stage = tt;
  tried = tt;
  placed = c.requires.within.placed;
}

pub returns-in-Some-clause-asks : goal.returns-in-Some-clause-asks
returns-in-Some-clause-asks c = λ rules s. record {
  stands = record { source = s.source; left = s.left };
  asks = λ S n.
      guards_asked S (row rules c.args.self.now.row) (drop (c.args.self.now.tried + 1) (rows_left rules c.args.self.now.left)) c.args.self.now.row.cells.items c.args.self.now.columns.items
      c.args.self.now.captures.items c.args.pool.now c.next_guard.new.pool c.args.from n (Some c.in-Some.next) refl c.next_guard.ensures.keeps c.requires.within.columns c.requires.within.captures
      (rw (c.as_slice.ensures.value, c.as_slice-2.ensures.value, c.as_slice-3.ensures.value, c.in-Some.is) at c.in_ok-next_guard.ensures.guards)
      ∙ guard_asked S (row rules c.args.self.now.row) (drop (c.args.self.now.tried + 1) (rows_left rules c.args.self.now.left)) (plain c.next_guard.new.pool c.args.self.now.columns.items) c.in-Some.next.at
      (captured_terms c.next_guard.new.pool c.args.self.now.captures.items)
      (comparison_of S n (term c.next_guard.new.pool c.in-Some.next.part) (term c.next_guard.new.pool c.in-Some.next.guard));
}

pub returns-in-Some-clause-within : goal.returns-in-Some-clause-within
returns-in-Some-clause-within c = record {
  columns = columns_within c.args.pool.now c.next_guard.new.pool c.args.self.now.columns.items c.next_guard.ensures.keeps c.requires.within.columns;
  captures = captures_within c.args.pool.now c.next_guard.new.pool c.args.self.now.captures.items c.next_guard.ensures.keeps c.requires.within.captures;
  stage = (rw (c.as_slice-2.ensures.value, c.in-Some.is) at c.in_ok-next_guard.ensures.guards).within.0;
  tried = c.requires.tried;
  placed = c.requires.within.placed;
}
