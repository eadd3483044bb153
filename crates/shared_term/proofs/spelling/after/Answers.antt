-- A turn by what waits last.
use Rattle.std.specs.Borrow.{Bor}
use Rattle.std.proofs.Common.{◌++◌, ◌∷◌, [], length, ap, subst, arith, ◌∙◌}
use Rattle.dk_model.specs.declared.term.Term.{Term}
use Rattle.shared_term.specs.declared.id.TermId.{TermId}
use Rattle.shared_term.specs.declared.building.Waiting.{Waiting}
use Rattle.shared_term.specs.declared.building.Waiting.TheVariants.{Second, Body}
use Rattle.shared_term.specs.Spelling.{AreThere}
use Rattle.shared_term.specs.Pools.{terms, denoted}
use Rattle.shared_term.proofs.Parts.{joined_within, joined_denotes}
use Rattle.shared_term.proofs.Spelt.{there_pop, second_turn, made_turn}
use Rattle.shared_term.proofs.spelling.after.Goals as goal

pub returns-in_ok-push-in-First : goal.returns-in_ok-push-in-First
returns-in_ok-push-in-First c =
    let ns = c.args.nodes.now.items in
    let ws = c.args.waiting.now.items in
    let P : Waiting (Bor Term) TermId → Type 0 = λ w. AreThere (length ns) (ws ++ w ∷ []) in record {
      turns = λ z. rw (c.in_ok-push-in-First.ensures.items, c.in-First.is)
          (second_turn z ns c.requires.spelt ws c.in-First.pair c.in-First.second c.args.id (subst P c.in-First.is c.requires.there) c.requires.id);
    }

pub shared-requires-clause-within : goal.shared-requires-clause-within
shared-requires-clause-within c =
    let ns = c.args.nodes.now.items in
    let ws = c.args.waiting.now.items in
    let P : Waiting (Bor Term) TermId → Type 0 = λ w. AreThere (length ns) (ws ++ w ∷ []) in
    let there = (there_pop (length ns) ws (Second c.in-Second.pair c.in-Second.first) (subst P c.in-Second.is c.requires.there)).0 in
    rw c.joined.ensures (joined_within ns c.in-Second.pair c.in-Second.first c.args.id there c.requires.id)

pub returns-in_ok-shared-in-Second : goal.returns-in_ok-shared-in-Second
returns-in_ok-shared-in-Second c =
    let ns = c.args.nodes.now.items in
    let ws = c.args.waiting.now.items in
    let r = c.in_ok-shared-in-Second in
    let P : Waiting (Bor Term) TermId → Type 0 = λ w. AreThere (length ns) (ws ++ w ∷ []) in record {
      turns = λ z. rw c.in-Second.is
          (made_turn z ns c.shared.new.nodes.items r.ensures.keeps r.ensures.spelt ws (Second c.in-Second.pair c.in-Second.first) c.args.id r.field-0 (subst P c.in-Second.is c.requires.there) (omega arith)
          r.ensures.there (r.ensures.is ∙ ap (denoted (terms ns)) c.joined.ensures ∙ joined_denotes ns c.in-Second.pair c.in-Second.first c.args.id));
    }

pub returns-in_ok-shared-in-Body : goal.returns-in_ok-shared-in-Body
returns-in_ok-shared-in-Body c =
    let ns = c.args.nodes.now.items in
    let ws = c.args.waiting.now.items in
    let r = c.in_ok-shared-in-Body in
    let P : Waiting (Bor Term) TermId → Type 0 = λ w. AreThere (length ns) (ws ++ w ∷ []) in record {
      turns = λ z. rw c.in-Body.is
          (made_turn z ns c.shared-in-Body.new.nodes.items r.ensures.keeps r.ensures.spelt ws Body c.args.id r.field-0 (subst P c.in-Body.is c.requires.there) (omega arith) r.ensures.there r.ensures.is);
    }
