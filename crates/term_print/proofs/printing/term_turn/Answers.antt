use Rattle.std.proofs.Common.{◌∙◌, ap}
use Rattle.term_print.specs.Nodes.{node_tree}
use Rattle.term_print.proofs.Turned.{arrow_turn, named_arrow, named_product, product_turn}
use Rattle.term_print.proofs.printing.term_turn.Goals as goal

pub returns-in_ok-push_tasks-in-Prod-clause-text : goal.returns-in_ok-push_tasks-in-Prod-clause-text
returns-in_ok-push_tasks-in-Prod-clause-text g c =
    product_turn (g.S.Source.denotes c.args.source.now) (g.W.Words.word c.args.words.now) c.args.used.now c.args.page.now.text c.args.subterm c.in-Prod.a c.in-Prod.b c.in_ok-under-in-Prod.under _ _ c.args.page.now.tasks.items c.push_tasks-then-take_last.new.tasks.items
    c.args.page.now.named.items _ (c.node.ensures ∙ ap (node_tree (g.S.Source.denotes c.args.source.now)) c.in-Prod.is) c.in_ok-under-in-Prod.ensures c.requires.named c.take_last.ensures.last c.if-take_last.true c.is_wide-then-take_last.ensures
    c.bound_parts-parts-then-take_last.ensures (c.in_ok-push_tasks-in-Prod.ensures.left (g.S.Source.denotes c.args.source.now) (g.W.Words.word c.args.words.now) c.args.used.now)

pub returns-in_ok-push_tasks-in-Prod-clause-named : goal.returns-in_ok-push_tasks-in-Prod-clause-named
returns-in_ok-push_tasks-in-Prod-clause-named g c =
    named_product (g.S.Source.denotes c.args.source.now) c.args.subterm c.in-Prod.a c.in-Prod.b c.in_ok-under-in-Prod.under _ c.args.page.now.tasks.items c.push_tasks-then-take_last.new.tasks.items c.args.page.now.named.items c.take_last.new.flags.items
    c.requires.named (c.node.ensures ∙ ap (node_tree (g.S.Source.denotes c.args.source.now)) c.in-Prod.is) c.take_last.ensures.front c.bound_parts-parts-then-take_last.ensures (c.in_ok-push_tasks-in-Prod.ensures.named (g.S.Source.denotes c.args.source.now))

pub returns-in_ok-push_tasks-in-Prod-2-clause-text : goal.returns-in_ok-push_tasks-in-Prod-2-clause-text
returns-in_ok-push_tasks-in-Prod-2-clause-text g c =
    arrow_turn (g.S.Source.denotes c.args.source.now) (g.W.Words.word c.args.words.now) c.args.used.now c.args.page.now.text c.args.subterm c.in-Prod.a c.in-Prod.b c.in_ok-under-in-Prod.under _ _ c.args.page.now.tasks.items c.push_tasks-else-take_last.new.tasks.items
    c.args.page.now.named.items _ (c.node.ensures ∙ ap (node_tree (g.S.Source.denotes c.args.source.now)) c.in-Prod.is) c.in_ok-under-in-Prod.ensures c.requires.named c.take_last.ensures.last c.if-take_last.false c.is_wide-else-take_last.ensures
    c.arrow_parts-parts.ensures (c.in_ok-push_tasks-in-Prod-2.ensures.left (g.S.Source.denotes c.args.source.now) (g.W.Words.word c.args.words.now) c.args.used.now)

pub returns-in_ok-push_tasks-in-Prod-2-clause-named : goal.returns-in_ok-push_tasks-in-Prod-2-clause-named
returns-in_ok-push_tasks-in-Prod-2-clause-named g c =
    named_arrow (g.S.Source.denotes c.args.source.now) c.args.subterm c.in-Prod.a c.in-Prod.b c.in_ok-under-in-Prod.under _ c.args.page.now.tasks.items c.push_tasks-else-take_last.new.tasks.items c.args.page.now.named.items c.take_last.new.flags.items
    c.requires.named (c.node.ensures ∙ ap (node_tree (g.S.Source.denotes c.args.source.now)) c.in-Prod.is) c.take_last.ensures.front c.arrow_parts-parts.ensures (c.in_ok-push_tasks-in-Prod-2.ensures.named (g.S.Source.denotes c.args.source.now))
