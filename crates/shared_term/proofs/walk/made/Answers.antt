-- What was remembered holds in the larger pool, and so does the new result.
use Rattle.std.proofs.Common.{◌∙◌, sym}
use Rattle.shared_term.proofs.Remembering.{lasting_grown, passing_grown, lasting_put, passing_put, asked_grown, wanted_grown}
use Rattle.shared_term.proofs.walk.made.Goals as goal

pub returns-in_err-result-clause-lasting : goal.returns-in_err-result-clause-lasting
returns-in_err-result-clause-lasting c = lasting_grown _ _ _ c.intern.ensures.keeps c.requires.lasting

pub returns-in_err-result-clause-passing : goal.returns-in_err-result-clause-passing
returns-in_err-result-clause-passing c = passing_grown _ _ c.args.given.now _ c.intern.ensures.keeps c.requires.passing

pub returns-clause-lasting : goal.returns-clause-lasting
returns-clause-lasting c =
    let e = c.intern.ensures.keeps in
    let g = c.args.given.now in
    lasting_put _ g c.args.memos.now.lasting _ _ (lasting_grown _ _ _ e c.requires.lasting)
    (record {
      asked = asked_grown _ _ g c.args.goal e c.requires.asked;
      gives = c.in_ok-result.ensures.within;
      is = c.in_ok-result.ensures.denotes ∙ c.requires.makes ∙ sym (wanted_grown _ _ g c.args.goal e c.requires.asked);
    })
    c.put.ensures.lasting

pub returns-clause-passing : goal.returns-clause-passing
returns-clause-passing c =
    let e = c.intern.ensures.keeps in
    let g = c.args.given.now in
    passing_put _ g c.args.memos.now.passing _ _ (passing_grown _ _ g _ e c.requires.passing)
    (record {
      asked = asked_grown _ _ g c.args.goal e c.requires.asked;
      gives = c.in_ok-result.ensures.within;
      is = c.in_ok-result.ensures.denotes ∙ c.requires.makes ∙ sym (wanted_grown _ _ g c.args.goal e c.requires.asked);
    })
    c.put.ensures.passing
