use Rattle.std.proofs.Common.{◌≤◌, ◌∙◌, Bool, List, length, refl, ap, subst, sym, Some}
use Rattle.std.specs.Prelude.{IfSome}
use Rattle.dk_io.specs.Bytes.{Books}
use Rattle.dk_model.specs.declared.limits.Limits.{Limits}
use Rattle.board_core.specs.Machine.{MayEnd}
use Rattle.file_report.specs.Jobs.{job_titles}
use Rattle.book_reader.specs.declared.walker.Root.{Root}
use Rattle.book_reader.specs.Shelves.{shelf_of}
use Rattle.book_reader.specs.Walkers.{setting_of}
use Rattle.file_check.specs.declared.job.Job.{Job}
use Rattle.file_check.specs.Desks.{known_at, seen_at}
use Rattle.file_check.specs.Halts.{end_at}
use Rattle.file_check.specs.Jobs.{job_of}
use Rattle.file_check.specs.Lecterns.{EndLeaves, EndsBooks}
use Rattle.file_check.proofs.book_reading.BookReadingReading.read.Goals as goal

pub seal-sealed-requires-clause-may_end : goal.seal-sealed-requires-clause-may_end
seal-sealed-requires-clause-may_end g c =
    let new = c.read-halt.new.self in
    subst (MayEnd (seen_at new.desk)) (sym (c.end_at-end.ensures ∙ ap (λ m. end_at m c.read-halt.result) c.into_module.ensures)) c.read-halt.ensures.may_end

pub returns : goal.returns
returns g c =
    let old = c.args.self.lectern in
    let new = c.read-halt.new.self in
    let read = c.read-halt.ensures in
    let why = c.read-halt.result in
    let shelf = shelf_of g.H.Shelf c.read-halt.new.shelf in
    let book = new.walker.top.«module» in
    let sealed = c.seal-sealed.ensures in (
      refl,
      sealed.own,
      sealed.made ∙ read.keeps.made,
      record {
        book = book;
        why = why;
        few = subst (λ (js : List (Job × Bool)). length js ≤ old.walker.root.limits.commands) (sym sealed.jobs)
            (subst (λ (l : Limits). length (known_at new.desk) ≤ l.commands) (read.keeps.limits ∙ c.requires.0.ready.limits) read.sound.few);
        ends = λ (all : Books) told.
            subst (λ (js : List (Job × Bool)). EndsBooks (setting_of old.walker.root all) old.desk.budget shelf js book why) (sym sealed.jobs)
            (subst (λ b. EndsBooks (setting_of old.walker.root all) b shelf (known_at new.desk) book why) read.keeps.budget
            (subst (λ (r : Root). EndsBooks (setting_of r all) new.desk.budget shelf (known_at new.desk) book why) read.keeps.root (read.ends all told)));
        books_are = read.books;
        counts = read.counts;
        sealed_by = sealed.end ∙ ap Some (c.end_at-end.ensures ∙ ap (λ m. end_at m why) c.into_module.ensures);
        titled = sealed.titles ∙ ap (job_titles job_of) (sym sealed.jobs);
      },
      subst (λ e. IfSome e (EndLeaves (length (g.H.Shelf.aside c.args.self.shelf.now)) shelf)) (sym (sealed.end ∙ ap Some (c.end_at-end.ensures ∙ ap (λ m. end_at m why) c.into_module.ensures))) read.leaves,
    )
