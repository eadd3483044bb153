-- Commands that are accepted are accepted too where those that are not kept are left out, with the same units.
use Rattle.std.proofs.Common.{List, [], ◌∷◌, ◌++◌, length, ℕ, suc, ◌≡◌, ◌+◌, Bool, true, false, refl, ap, sym, subst, ◌∙◌, arith, if◌then◌else◌}
use Rattle.dk_model.specs.PlainEntries.{PlainEntry, PlainSignature}
use Rattle.dk_model.specs.PlainCommands.{PlainCommand}
use Rattle.dk_model.specs.Typing.{answer}
use Rattle.dk_model.specs.Verdicts.{command_checked, entry_of, found_of, inferred_type}
use Rattle.scope_terms.specs.Scopes.{Scoping, scoped, scope_of}
use Rattle.prune_theory.specs.Alike.{Each, none_left, one_more, Maybe, Alike, AlikeFinding, AlikeCommand}
use Rattle.prune_theory.specs.Renumbering.{rank, Renumbers, picked}
use Rattle.prune_theory.proofs.Cuts.{Cut, cut_end, cut_similar}
use Rattle.prune_theory.proofs.Verdicts.{same_check, command_alike, inferred_type_alike, found_of_alike, entry_alike}
use Rattle.prune_theory.specs.Mentions.{heads_of}
use Rattle.prune_theory.specs.Folds.{Stated, Declared, nothing_declared, declared_with, AreAccepted, accepts_none, accepts_more}
use Rattle.prune_theory.proofs.Scoping.{known_to_none, SymbolsCut, Scopes, KeptCommand, form_scopes}
use Rattle.prune_theory.proofs.Names.{names_kept, names_left, count_after, rank_kept, rank_left}
use Rattle.prune_theory.proofs.Entries.{AreLeft, more_kept, more_left, entry_left}

-- what the second declares is that of the first, of `n` commands, cut down to those that are kept
pub record DeclaredCut (keep : ℕ → Bool) (n : ℕ) (T U : Declared) : Type 0 where
  pub names : SymbolsCut keep T.names U.names
  pub count : T.names.count ≡ n
  pub left_count : U.names.count ≡ rank keep n
  pub size : length T.signature ≡ n
  pub signature : Cut keep 0 T.signature U.signature

-- each command that is kept mentions only what is kept, and each other has no head that is kept
abbrev pub IsClosedFrom : (ℕ → Bool) → ℕ → List PlainCommand → Type 0
IsClosedFrom keep n [] = Unit {0}
IsClosedFrom keep n (c ∷ cs) = (keep n ≡ true → KeptCommand keep c) × (keep n ≡ false → AreLeft keep (heads_of c)) × IsClosedFrom keep (suc n) cs

module _ (keep : ℕ → Bool) (budget : ℕ) where
  -- a command that is kept, whatever its check comes to
  pub record SameCheck (T U : Declared) (f : Stated) (c : PlainCommand) : Type 0 where
    pub command : PlainCommand
    pub scopes : scope_of U.names f.place f.form ≡ scoped command
    pub alike : AlikeCommand (Renumbers keep) c command
    pub checks : command_checked T.signature c budget ≡ command_checked U.signature command budget
    pub types : Maybe (Alike (Renumbers keep)) (inferred_type T.signature c budget) (inferred_type U.signature command budget)
    pub findings : Maybe (AlikeFinding (Renumbers keep)) (found_of T.signature c budget) (found_of U.signature command budget)

  pub kept_checks : {T U : Declared} {n : ℕ} (f : Stated) (c : PlainCommand) → DeclaredCut keep n T U → scope_of T.names f.place f.form ≡ scoped c → KeptCommand keep c → SameCheck T U f c
  kept_checks {T} {U} f c cut e k = let h : (d : PlainCommand) × (scope_of U.names f.place f.form ≡ scoped d) × AlikeCommand (Renumbers keep) c d = told (scope_of T.names f.place f.form) e (form_scopes keep T.names U.names f.place f.form cut.names) in record {
    command = h.0;
    scopes = h.1;
    alike = h.2;
    checks = same_check (command_alike (cut_similar keep cut.signature) budget h.2);
    types = inferred_type_alike (cut_similar keep cut.signature) budget h.2;
    findings = found_of_alike (cut_similar keep cut.signature) budget h.2;
  }
    where
      told : (x : Scoping PlainCommand) → x ≡ scoped c → Scopes (KeptCommand keep) (AlikeCommand (Renumbers keep)) x (scope_of U.names f.place f.form) → (d : PlainCommand) × (scope_of U.names f.place f.form ≡ scoped d) × AlikeCommand (Renumbers keep) c d
      told x e s = subst (λ z. Scopes (KeptCommand keep) (AlikeCommand (Renumbers keep)) z (scope_of U.names f.place f.form)) e s k

  longer : (S : PlainSignature) (e : PlainEntry) → length (S ++ e ∷ []) ≡ suc (length S)
  longer [] e = refl
  longer (x ∷ S) e = ap suc (longer S e)

  pub cut_kept_after : {T U : Declared} {n : ℕ} (f : Stated) (c : PlainCommand) → DeclaredCut keep n T U → scope_of T.names f.place f.form ≡ scoped c → keep n ≡ true → (s : SameCheck T U f c)
      → DeclaredCut keep (suc n) (declared_with budget T f c) (declared_with budget U f s.command)
  cut_kept_after {T} {U} {n} f c cut e k s = record {
    names = names_kept keep T.names U.names f.place f.form c cut.names e (ap keep cut.count ∙ k) (cut.left_count ∙ ap (rank keep) (sym cut.count));
    count = count_after T.names f.place f.form ∙ ap suc cut.count;
    left_count = count_after U.names f.place f.form ∙ ap suc cut.left_count ∙ sym (rank_kept keep n k);
    size = longer T.signature _ ∙ ap suc cut.size;
    signature = more_kept keep cut.signature (ap keep (let q : 0 + length T.signature ≡ length T.signature = omega arith in q ∙ cut.size) ∙ k) (entry_alike (cut_similar keep cut.signature) s.alike s.types);
  }

  pub cut_left_after : {T U : Declared} {n : ℕ} (f : Stated) (c : PlainCommand) → DeclaredCut keep n T U → scope_of T.names f.place f.form ≡ scoped c → keep n ≡ false → AreLeft keep (heads_of c)
      → DeclaredCut keep (suc n) (declared_with budget T f c) U
  cut_left_after {T} {U} {n} f c cut e k h = record {
    names = names_left keep T.names U.names f.place f.form c cut.names e (ap keep cut.count ∙ k);
    count = count_after T.names f.place f.form ∙ ap suc cut.count;
    left_count = cut.left_count ∙ sym (rank_left keep n k);
    size = longer T.signature _ ∙ ap suc cut.size;
    signature = more_left keep _ cut.signature (ap keep (let q : 0 + length T.signature ≡ length T.signature = omega arith in q ∙ cut.size) ∙ k) (entry_left keep T.signature c _ h);
  }

  -- what becomes of accepted commands
  pub record Pruned (n : ℕ) (U V : Declared) (fs : List Stated) (cs : List PlainCommand) (ns : List ℕ) : Type 0 where
    pub commands : List PlainCommand
    pub after : Declared
    pub accepted : AreAccepted budget U (picked keep n fs) commands (picked keep n ns) after
    pub alike : Each (AlikeCommand (Renumbers keep)) (picked keep n cs) commands
    pub count : ℕ
    pub cut : DeclaredCut keep count V after

  pruned_kept : (n : ℕ) {T U V : Declared} {f : Stated} {fs : List Stated} {c : PlainCommand} {cs : List PlainCommand} {m : ℕ} {ns : List ℕ} → keep n ≡ true
      → command_checked T.signature c budget ≡ answer tt m → (s : SameCheck T U f c) → Pruned (suc n) (declared_with budget U f s.command) V fs cs ns → Pruned n U V (f ∷ fs) (c ∷ cs) (m ∷ ns)
  pruned_kept n {T} {U} {f} {fs} {c} {cs} {m} {ns} k e s p = record {
    commands = s.command ∷ p.commands;
    after = p.after;
    accepted = subst (λ b. AreAccepted budget U (if b then f ∷ picked keep (suc n) fs else picked keep (suc n) fs) (s.command ∷ p.commands) (if b then m ∷ picked keep (suc n) ns else picked keep (suc n) ns) p.after) (sym k)
        (accepts_more s.scopes (sym s.checks ∙ e) p.accepted);
    alike = subst (λ b. Each (AlikeCommand (Renumbers keep)) (if b then c ∷ picked keep (suc n) cs else picked keep (suc n) cs) (s.command ∷ p.commands)) (sym k) (one_more s.alike p.alike);
    count = p.count;
    cut = p.cut;
  }

  pruned_left : (n : ℕ) {U V : Declared} {fs : List Stated} {cs : List PlainCommand} {ns : List ℕ} (f : Stated) (c : PlainCommand) (m : ℕ) → keep n ≡ false
      → Pruned (suc n) U V fs cs ns → Pruned n U V (f ∷ fs) (c ∷ cs) (m ∷ ns)
  pruned_left n {U} {fs} {cs} {ns} f c m k p = record {
    commands = p.commands;
    after = p.after;
    accepted = subst (λ b. AreAccepted budget U (if b then f ∷ picked keep (suc n) fs else picked keep (suc n) fs) p.commands (if b then m ∷ picked keep (suc n) ns else picked keep (suc n) ns) p.after) (sym k) p.accepted;
    alike = subst (λ b. Each (AlikeCommand (Renumbers keep)) (if b then c ∷ picked keep (suc n) cs else picked keep (suc n) cs) p.commands) (sym k) p.alike;
    count = p.count;
    cut = p.cut;
  }

  pruned_by : (b : Bool) (n : ℕ) {T U V : Declared} {fs : List Stated} {cs : List PlainCommand} {ns : List ℕ} (f : Stated) (c : PlainCommand) (m : ℕ) → keep n ≡ b
      → scope_of T.names f.place f.form ≡ scoped c → command_checked T.signature c budget ≡ answer tt m → DeclaredCut keep n T U → IsClosedFrom keep n (c ∷ cs)
      → ((W : Declared) → DeclaredCut keep (suc n) (declared_with budget T f c) W → Pruned (suc n) W V fs cs ns) → Pruned n U V (f ∷ fs) (c ∷ cs) (m ∷ ns)
  pruned_by true n {T} {U} f c m k e a cut h go = let s : SameCheck T U f c = kept_checks f c cut e (h.0 k) in pruned_kept n k a s (go (declared_with budget U f s.command) (cut_kept_after f c cut e k s))
  pruned_by false n {U} f c m k e a cut h go = pruned_left n f c m k (go U (cut_left_after f c cut e k (h.1 k)))

  pub pruned_accepted : (n : ℕ) {T V : Declared} {fs : List Stated} {cs : List PlainCommand} {ns : List ℕ} → AreAccepted budget T fs cs ns V → (U : Declared) → DeclaredCut keep n T U → IsClosedFrom keep n cs → Pruned n U V fs cs ns
  pruned_accepted n accepts_none U cut h = record { commands = []; after = U; accepted = accepts_none; alike = none_left; count = n; cut = cut }
  pruned_accepted n (accepts_more {f} {c} {n = m} e a rest) U cut h = pruned_by (keep n) n f c m refl e a cut h (λ W d. pruned_accepted (suc n) rest W d h.2)

pub nothing_cut : (keep : ℕ → Bool) → DeclaredCut keep 0 nothing_declared nothing_declared
nothing_cut keep = record { names = λ m x. known_to_none; count = refl; left_count = refl; size = refl; signature = cut_end }
