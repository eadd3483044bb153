-- How a theory's reading begins, and what is told of how it ended.
use Rattle.std.proofs.Common.{◌≡◌, ◌≤◌, ℕ, List, [], ◌∷◌, length, map, sym, ap, subst, ◌∙◌, arith}
use Rattle.std.specs.Prelude.{IfErr, None, OnOk, Ok, Err, Result}
use Rattle.dk_io.specs.Bytes.{Books}
use Rattle.dk_model.specs.Scoping.{plain_command}
use Rattle.dk_model.specs.declared.scoped.Scoped.{Scoped}
use Rattle.scope_terms.specs.Names.{reading as modules_in}
use Rattle.scope_terms.specs.Reading.{after_entering, no_reading}
use Rattle.scope_terms.specs.Scopes.{Symbols}
use Rattle.theory_walk.specs.BookNames.{book_named}
use Rattle.theory_walk.specs.Libraries.{Key}
use Rattle.book_reader.specs.declared.walker.Root.{Root}
use Rattle.book_reader.specs.declared.walker.WalkEnd.{WalkEnd}
use Rattle.book_reader.specs.declared.walker.WalkEnd.TheVariants as end
use Rattle.book_reader.specs.Ends.{CausesEnd, LeavesFormer, LeavesRoom, books_open}
use Rattle.book_reader.specs.Ends as books
use Rattle.book_reader.specs.Shelved.{Setting}
use Rattle.book_reader.specs.Shelves.{ShelfState}
use Rattle.book_reader.specs.Walkers.{HasGiven, setting_of}
use Rattle.book_reader.proofs.Openings.{former_kept}
use Rattle.theory_reading.specs.declared.reader.TheoryReader.{TheoryReader}
use Rattle.theory_reading.specs.declared.reading.ReadingEnd.{ReadingEnd}
use Rattle.theory_reading.specs.Readers.{EndsReading, IsReady, Stands}
use Rattle.theory_reading.specs.Reads.{CountsReading, KeepsUnopened, ReadsBooks}
use Rattle.theory_reading.specs.Shaped.{ScopedTheory}
use Rattle.theory_reading.specs.Told.{told_of}
use Rattle.theory_reading.proofs.Modules.{tied_first}
use Rattle.theory_reading.proofs.Passing.{passed_none}
use Rattle.theory_reading.proofs.Steps.{entered_symbols}

-- ---- the file is open

module _ (r : TheoryReader) (s : ShelfState) (entered : modules_in r.names ≡ after_entering no_reading r.walker.root.own) (none : r.commands ≡ []) where
  symbols : (modules_in r.names).symbols ≡ no_reading.symbols
  symbols = entered_symbols no_reading (modules_in r.names) r.walker.root.own entered

  pub begun_ready : books.IsReady r.walker s → (books_open r.walker ≡ None ∷ []) × (r.walker.opened ≡ []) → r.most ≡ r.walker.root.limits.commands → IsReady r s
  begun_ready walker opens most = record {
    walker = walker;
    tied = tied_first r.walker (modules_in r.names) opens.0 opens.1 entered;
    most_is = most;
    few = subst (λ (cs : List Scoped). length cs ≤ r.most) (sym none) (omega arith);
    counted = ap (λ (x : Symbols). x.count) symbols ∙ sym (ap length none);
  }

  pub begun_stands : (all : Books) → HasGiven all [] s r.walker → Stands all [] r s
  begun_stands all given = record {
    given = given;
    behind = record {
      theory =
          ap (λ (x : Symbols). let T : ScopedTheory = record { names = x; commands = map plain_command r.commands } in T) symbols
          ∙ ap (λ (cs : List Scoped). let T : ScopedTheory = record { names = no_reading.symbols; commands = map plain_command cs } in T) none;
      count = ap length none;
      passed = passed_none r.walker.root.limits r.walker.root.own;
    };
  }

-- ---- the end

told_so : (s : Setting) (shelf : ShelfState) (book : Key) (cs : List Scoped) (e : WalkEnd) → EndsReading s shelf book cs e → ReadsBooks s shelf (told_of book cs e)
told_so s shelf book cs end.Whole ends = ends
told_so s shelf book cs (end.Refused line code) ends = ends
told_so s shelf book cs end.Unread ends = ends
told_so s shelf book cs (end.Unopened m line) ends = ends
told_so s shelf book cs (end.NoMemory line) ends = tt

-- where the file is this, which no turn changes
pub read_so : (root same : Root) (all : Books) (shelf : ShelfState) (book : Key) (cs : List Scoped) (e : WalkEnd) (result : Result (List Scoped) ReadingEnd) → same ≡ root → result ≡ told_of book cs e
    → EndsReading (setting_of same all) shelf book cs e → ReadsBooks (setting_of root all) shelf result
read_so root same all shelf book cs e result is told ends =
    subst (λ x. ReadsBooks (setting_of root all) shelf x) (sym told)
    (subst (λ (x : Root). ReadsBooks (setting_of x all) shelf (told_of book cs e)) is (told_so (setting_of same all) shelf book cs e ends))

pub told_counts : (file : List ℕ) (old new : ShelfState) (book : Key) (cs : List Scoped) (e : WalkEnd) → CausesEnd file old new e → CountsReading (book_named file) old new (told_of book cs e)
told_counts file old new book cs end.Whole is = record { faults = is.0; missed = is.1 }
told_counts file old new book cs (end.Refused line code) is = record { faults = is.0; missed = is.1 }
told_counts file old new book cs end.Unread is = is
told_counts file old new book cs (end.Unopened m line) is = is
told_counts file old new book cs (end.NoMemory line) is = record { faults = is.0; missed = is.1 }

-- what is left where reading ended
pub told_leaves : (old mid new : ShelfState) (book : Key) (cs : List Scoped) (e : WalkEnd) (result : Result (List Scoped) ReadingEnd) → result ≡ told_of book cs e → LeavesFormer old mid
    → LeavesRoom (length mid.aside) new e → OnOk result (LeavesFormer old new)
told_leaves old mid new book cs e result told former leaves = subst (λ (x : Result (List Scoped) ReadingEnd). OnOk x (LeavesFormer old new)) (sym told) (go e leaves)
  where
    go : (e : WalkEnd) → LeavesRoom (length mid.aside) new e → OnOk (told_of book cs e) (LeavesFormer old new)
    go end.Whole leaves = former_kept old mid new former leaves
    go (end.Refused line code) leaves = tt
    go end.Unread leaves = tt
    go (end.Unopened m line) leaves = tt
    go (end.NoMemory line) leaves = tt

pub told_opened : (old new : ShelfState) (book : Key) (cs : List Scoped) (e : WalkEnd) (result : Result (List Scoped) ReadingEnd) → result ≡ told_of book cs e
    → IfErr result (KeepsUnopened old new)
told_opened old new book cs e result told = subst (λ (x : Result (List Scoped) ReadingEnd). IfErr x (KeepsUnopened old new)) (sym told) (go e)
  where
    go : (e : WalkEnd) → IfErr (told_of book cs e) (KeepsUnopened old new)
    go end.Whole = tt
    go (end.Refused line code) = tt
    go end.Unread = tt
    go (end.Unopened m line) = tt
    go (end.NoMemory line) = tt
