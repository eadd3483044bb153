use Rattle.std.proofs.Common.{◌∙◌, sym, ap, subst}
use Rattle.board_core.specs.Events.{end_of}
use Rattle.file_check.specs.Lecterns.{ReadsBooks}
use Rattle.board_core.specs.Machine.{marks_of}
use Rattle.book_reader.specs.Shelves.{shelf_of}
use Rattle.scope_terms.specs.Reading.{after_entering, no_reading}
use Rattle.book_reader.specs.declared.walker.Root.{Root}
use Rattle.file_check.specs.Jobs.{modules_of}
use Rattle.file_check.proofs.Steps.{begun_so}
use Rattle.file_check.proofs.Reporting.{as_many_titles, counts, ends, from_opening, leaves}
use Rattle.file_check.proofs.checking.check_books.Goals as goal

pub returns-clause-titled : goal.returns-clause-titled
returns-clause-titled g c = as_many_titles _ _ _ _ _ _ _ c.checked_book.ensures.read

pub returns-clause-checks : goal.returns-clause-checks
returns-clause-checks g c =
    let book = c.checked_book.result.book in
    let titles = c.checked_book.result.titles in
    let closed = c.checked_book.ensures in
    let old = shelf_of g.H.Shelf c.args.shelf.now in
    let mid = shelf_of g.H.Shelf c.begin.new.shelf in
    let new = shelf_of g.H.Shelf c.checked_book.new.shelf in
    let read = from_opening c.args.asked.root c.args.asked.budget old mid new book.jobs (end_of book.events) titles c.in-Ok-begin.ensures.books (c.in-Ok-begin.ensures.faults.stands, c.in-Ok-begin.ensures.cause.stands)
    (subst (λ b. ReadsBooks c.args.asked.root b mid new book.jobs (end_of book.events) titles) c.in-Ok-open_table.ensures.budget
    (subst (λ (r : Root). ReadsBooks r c.in-Ok-open_table.table.desk.budget mid new book.jobs (end_of book.events) titles) c.in-Ok-begin.ensures.root closed.read)) in
    let told = c.history_has_report.ensures (marks_of book.jobs) titles book.events closed.legal.lawful in
    record {
      report = told.0;
      report_is = told.1;
      ends = λ all is. ends c.args.asked.root c.args.asked.budget old new book.jobs book.events titles told.0 closed.legal closed.finished read told.1 all is;
      books = read.books_are;
      leaves = leaves old mid new titles book.events told.0 told.1 c.in-Ok-begin.ensures.leaves closed.leaves;
      counts = counts c.args.asked.root c.args.asked.budget old new book.jobs book.events titles told.0 closed.legal closed.finished read told.1;
    }

pub checked_book-requires-clause-begun : goal.checked_book-requires-clause-begun
checked_book-requires-clause-begun g c κs within =
    let began = c.in-Ok-begin.ensures in
    let table = c.in-Ok-open_table.ensures in
    begun_so c.in-Ok-begin.walker c.in-Ok-open_table.table.desk (shelf_of g.H.Shelf c.begin.new.shelf) began.ready table.fresh
    (table.limits ∙ sym (ap (λ (r : Root). r.limits) began.root)) began.opens
    (ap modules_of table.theory ∙ c.in-Ok.ensures.entered ∙ sym (ap (λ (r : Root). after_entering no_reading r.own) began.root))
    (λ all told. began.walks all (sym began.books ∙ told))
