-- For callers: what the laws say: commands that are left where others are taken out, and verdicts that are kept.
use Rattle.std.specs.Prelude.{ℕ, ◌≡◌, ◌<◌, Bool, true, is_some, ◌||◌, List, [], ◌∷◌, ◌++◌, length, All}
use Rattle.dk_model.specs.declared.limits.Limits.{Limits}
use Rattle.dk_lexer.specs.Tokens.{Ending}
use Rattle.dk_model.specs.PlainCommands.{PlainCommand}
use Rattle.dk_model.specs.Verdicts.{command_checked, found_of, inferred_type}
use Rattle.dk_parser.specs.FileReading.{read}
use Rattle.dk_parser.specs.Written.{WrittenForm, WrittenCommand, written_declare, written_rules, written_query, written_module, written_require}
use Rattle.scope_terms.specs.Scopes.{scoped, scope_of}
use Rattle.prune_theory.specs.Alike.{Each, Maybe, AlikeCommand}
use Rattle.prune_theory.specs.Renumbering.{rank, Renumbers, picked}
use Rattle.prune_theory.specs.Mentions.{MentionBefore, Rests}
use Rattle.prune_theory.specs.Folds.{AreAccepted, Declared, Stated, nothing_declared}
use Rattle.prune_theory.specs.Renamed.{found_with_symbols, with_symbols}

-- a declaration has a type or a body, as each has that the grammar spells
abbrev pub HasTypeOrBody : WrittenForm → Type 0
HasTypeOrBody (written_declare s x ps typ body) = (is_some typ || is_some body) ≡ true
HasTypeOrBody (written_rules rs) = Unit {0}
HasTypeOrBody (written_query demand a) = Unit {0}
HasTypeOrBody (written_module m) = Unit {0}
HasTypeOrBody (written_require m) = Unit {0}

abbrev pub HaveTypeOrBody : List Stated → Type 0
HaveTypeOrBody [] = Unit {0}
HaveTypeOrBody (f ∷ fs) = HasTypeOrBody f.form × HaveTypeOrBody fs

-- each command and directive that bytes are read as has it
abbrev pub ReadHaveTypeOrBody : Type 0
ReadHaveTypeOrBody = (limits : Limits) (bytes : List ℕ) (ending : Ending) → All (λ (c : WrittenCommand). HasTypeOrBody c.form) (read limits bytes ending).commands

-- each accepted command mentions only what stands before it
abbrev pub AcceptedMentionBefore : Type 0
AcceptedMentionBefore = (budget : ℕ) (U : Declared) (fs : List Stated) (cs : List PlainCommand) (ns : List ℕ) → AreAccepted budget nothing_declared fs cs ns U → MentionBefore cs

-- a test for what command `k` rests on
pub record TestsRests (commands : List PlainCommand) (k : ℕ) (keep : ℕ → Bool) : Type 0 where
  pub rests : (i : ℕ) → keep i ≡ true → Rests commands k i
  pub all : (i : ℕ) → Rests commands k i → keep i ≡ true

-- ---- pruned theories

-- what is left of accepted commands where those that aren't kept are taken out: accepted, with the same units left of
-- each budget
pub record Left (budget : ℕ) (keep : ℕ → Bool) (fs : List Stated) (cs : List PlainCommand) (ns : List ℕ) : Type 0 where
  pub commands : List PlainCommand
  pub after : Declared
  pub accepted : AreAccepted budget nothing_declared (picked keep 0 fs) commands (picked keep 0 ns) after
  pub alike : Each (AlikeCommand (Renumbers keep)) (picked keep 0 cs) commands

-- of accepted commands those on which one rests are accepted by themselves
abbrev pub PrunedAreAccepted : Type 0
PrunedAreAccepted = (budget k : ℕ) (keep : ℕ → Bool) (U : Declared) (fs : List Stated) (cs : List PlainCommand) (ns : List ℕ)
    → AreAccepted budget nothing_declared fs cs ns U → HaveTypeOrBody fs → k < length cs → TestsRests cs k keep → Left budget keep fs cs ns

-- ---- kept verdicts

-- a command behind accepted ones, and what it rests on
pub record IsBehind (budget : ℕ) (keep : ℕ → Bool) (T : Declared) (fs : List Stated) (f : Stated) (c : PlainCommand) : Type 0 where
  pub commands : List PlainCommand
  pub left : List ℕ
  pub accepted : AreAccepted budget nothing_declared fs commands left T
  pub written : HaveTypeOrBody fs
  pub last_written : HasTypeOrBody f.form
  pub scopes : scope_of T.names f.place f.form ≡ scoped c
  pub rests : TestsRests (commands ++ c ∷ []) (length commands) keep

-- the same check, and the same type or finding but for the numbers of symbols: those of the places that are kept
pub record SameAnswer (budget : ℕ) (T U : Declared) (keep other : ℕ → Bool) (c d : PlainCommand) : Type 0 where
  pub checks : command_checked T.signature c budget ≡ command_checked U.signature d budget
  pub types : (m : ℕ → ℕ) → ((a b : ℕ) → keep a ≡ true → other b ≡ true → rank keep a ≡ rank other b → m a ≡ b)
      → Maybe (λ t u. u ≡ with_symbols m t) (inferred_type T.signature c budget) (inferred_type U.signature d budget)
  pub findings : (m : ℕ → ℕ) → ((a b : ℕ) → keep a ≡ true → other b ≡ true → rank keep a ≡ rank other b → m a ≡ b)
      → Maybe (λ x y. y ≡ found_with_symbols m x) (found_of T.signature c budget) (found_of U.signature d budget)

-- a command has the same answer wherever it rests on the same commands
abbrev pub AnswersAreKept : Type 0
AnswersAreKept = (budget : ℕ) (keep other : ℕ → Bool) (T U : Declared) (fs gs : List Stated) (f : Stated) (c d : PlainCommand)
    → IsBehind budget keep T fs f c → IsBehind budget other U gs f d → picked keep 0 fs ≡ picked other 0 gs → SameAnswer budget T U keep other c d
