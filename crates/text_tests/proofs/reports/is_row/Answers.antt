use Rattle.text_tests.proofs.reports.is_row.Goals as goal

pub answer_all-requires-clause-idle : goal.answer_all-requires-clause-idle
answer_all-requires-clause-idle g c = λ w. c.seal.ensures.idle w (c.put_jobs-book.ensures.idle w)
