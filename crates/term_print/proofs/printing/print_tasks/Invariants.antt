use Rattle.std.proofs.Common.{◌≡◌}
use Rattle.term_print.specs.Tasks.{left_of, named_left, text_with, weights}
use Rattle.term_print.proofs.printing.print_tasks.Given as goal

abbrev pub invariant-tasks : goal.invariant-tasks
invariant-tasks g l = record {
  text : text_with l.initial.page.text (left_of (g.S.Source.denotes l.source) (g.W.Words.word l.words) l.used l.initial.page.tasks.items)
      ≡ text_with l.page.text (left_of (g.S.Source.denotes l.source) (g.W.Words.word l.words) l.used l.page.tasks.items);
  named : l.page.named.items ≡ named_left (g.S.Source.denotes l.source) l.page.tasks.items;
}

abbrev pub decreases-tasks : goal.decreases-tasks
decreases-tasks g l = weights (g.S.Source.denotes l.source) l.page.tasks.items
