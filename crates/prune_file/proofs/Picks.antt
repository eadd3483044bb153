-- Some of the commands of a file: their forms, their texts, and that each has a type or a body.
use Rattle.std.proofs.Common.{List, [], ◌∷◌, length, ℕ, suc, ◌≡◌, ◌<◌, ◌≤◌, ◌+◌, Bool, true, false, refl, ap, ◌∙◌, arith, if◌then◌else◌}
use Rattle.std.specs.Prelude.{Some}
use Rattle.dk_model.specs.PlainCommands.{PlainCommand}
use Rattle.dk_lexer.specs.declared.token.Token.{Token}
use Rattle.dk_parser.specs.Modules.{is_directive}
use Rattle.dk_parser.specs.Written.{WrittenForm, WrittenCommand}
use Rattle.scope_terms.specs.Scopes.{Module, number_from}
use Rattle.text_law.specs.Cuts.{AreCut, cut_none, cut_command, Chosen, chosen_none, chosen_more, left_out}
use Rattle.text_law.specs.Texts.{forms_of}
use Rattle.prune_theory.specs.Folds.{AreAccepted, Declared, Stated, accepts_none, accepts_more}
use Rattle.prune_theory.specs.Laws.{HaveTypeOrBody}
use Rattle.prune_theory.specs.Renumbering.{picked}
use Rattle.prune_theory.proofs.Whole.{spelt_has}
use Rattle.prune_file.specs.Files.{NeedOwn, commands_in, stated_in}
use Rattle.prune_file.specs.Pruned.{texts_in}

-- ---- what is picked

pub picked_stated : (keep : ℕ → Bool) (n : ℕ) (own : Module) (fs : List WrittenForm) → stated_in own (picked keep n fs) ≡ picked keep n (stated_in own fs)
picked_stated keep n own [] = refl
picked_stated keep n own (f ∷ fs) = by (keep n) (picked_stated keep (suc n) own fs)
  where
    by : (b : Bool) → stated_in own (picked keep (suc n) fs) ≡ picked keep (suc n) (stated_in own fs) → stated_in own (if b then f ∷ picked keep (suc n) fs else picked keep (suc n) fs)
        ≡ (if b then record { place = own; form = f } ∷ picked keep (suc n) (stated_in own fs) else picked keep (suc n) (stated_in own fs))
    by true rest = ap (λ (ss : List Stated). record { place = own; form = f } ∷ ss) rest
    by false rest = rest

pub picked_fewer : {A : Type 0} (keep : ℕ → Bool) (n : ℕ) (xs : List A) → length (picked keep n xs) ≤ length xs
picked_fewer keep n [] = omega arith
picked_fewer keep n (x ∷ xs) = let rest : length (picked keep (suc n) xs) ≤ length xs = picked_fewer keep (suc n) xs in by (keep n) rest
  where
    by : (b : Bool) → length (picked keep (suc n) xs) ≤ length xs → length (if b then x ∷ picked keep (suc n) xs else picked keep (suc n) xs) ≤ length (x ∷ xs)
    by true rest = omega arith
    by false rest = omega arith

pub picked_own : (keep : ℕ → Bool) (n : ℕ) (own : Module) (fs : List WrittenForm) → NeedOwn own fs → NeedOwn own (picked keep n fs)
picked_own keep n own [] are = tt
picked_own keep n own (f ∷ fs) are = by (keep n) (picked_own keep (suc n) own fs are.1)
  where
    by : (b : Bool) → NeedOwn own (picked keep (suc n) fs) → NeedOwn own (if b then f ∷ picked keep (suc n) fs else picked keep (suc n) fs)
    by true rest = (are.0, rest)
    by false rest = rest

-- ---- commands, no directives

abbrev pub AreCommands : List WrittenForm → Type 0
AreCommands [] = Unit {0}
AreCommands (f ∷ fs) = (is_directive f ≡ false) × AreCommands fs

pub commands_are : (cs : List WrittenCommand) → AreCommands (forms_of (commands_in cs))
commands_are [] = tt
commands_are (c ∷ cs) = by (is_directive c.form) refl (commands_are cs)
  where
    by : (d : Bool) → is_directive c.form ≡ d → AreCommands (forms_of (commands_in cs)) → AreCommands (forms_of (if d then commands_in cs else c ∷ commands_in cs))
    by true e rest = rest
    by false e rest = (e, rest)

pub picked_commands : (keep : ℕ → Bool) (n : ℕ) (fs : List WrittenForm) → AreCommands fs → AreCommands (picked keep n fs)
picked_commands keep n [] are = tt
picked_commands keep n (f ∷ fs) are = by (keep n) (picked_commands keep (suc n) fs are.1)
  where
    by : (b : Bool) → AreCommands (picked keep (suc n) fs) → AreCommands (if b then f ∷ picked keep (suc n) fs else picked keep (suc n) fs)
    by true rest = (are.0, rest)
    by false rest = rest

pub all_commands : (cs : List WrittenCommand) → AreCommands (forms_of cs) → commands_in cs ≡ cs
all_commands [] are = refl
all_commands (c ∷ cs) are = ap (λ b. if b then commands_in cs else c ∷ commands_in cs) are.0 ∙ ap (λ (ds : List WrittenCommand). c ∷ ds) (all_commands cs are.1)

pub commands_own : (own : Module) (cs : List WrittenCommand) → NeedOwn own (forms_of cs) → NeedOwn own (forms_of (commands_in cs))
commands_own own [] are = tt
commands_own own (c ∷ cs) are = by (is_directive c.form) (commands_own own cs are.1)
  where
    by : (d : Bool) → NeedOwn own (forms_of (commands_in cs)) → NeedOwn own (forms_of (if d then commands_in cs else c ∷ commands_in cs))
    by true rest = rest
    by false rest = (are.0, rest)

pub forms_length : (cs : List WrittenCommand) → length (forms_of cs) ≡ length cs
forms_length [] = refl
forms_length (c ∷ cs) = ap suc (forms_length cs)

-- ---- texts

-- the text and the form of one command or directive, chosen or not
one_chosen : (keep : ℕ → Bool) (n : ℕ) (c : WrittenCommand) (cs : List WrittenCommand) (text : List ℕ) (texts : List (List ℕ)) (d : Bool)
    → Chosen texts (forms_of cs) (picked keep n (texts_in cs texts)) (picked keep n (forms_of (commands_in cs)))
    → Chosen texts (forms_of cs) (picked keep (suc n) (texts_in cs texts)) (picked keep (suc n) (forms_of (commands_in cs)))
    → Chosen (text ∷ texts) (c.form ∷ forms_of cs) (picked keep n (if d then texts_in cs texts else text ∷ texts_in cs texts)) (picked keep n (forms_of (if d then commands_in cs else c ∷ commands_in cs)))
one_chosen keep n c cs text texts true rest later = left_out rest
one_chosen keep n c cs text texts false rest later = by (keep n)
  where
    by : (b : Bool) → Chosen (text ∷ texts) (c.form ∷ forms_of cs) (if b then text ∷ picked keep (suc n) (texts_in cs texts) else picked keep (suc n) (texts_in cs texts))
        (if b then c.form ∷ picked keep (suc n) (forms_of (commands_in cs)) else picked keep (suc n) (forms_of (commands_in cs)))
    by true = chosen_more later
    by false = left_out later

pub chosen : (keep : ℕ → Bool) {bytes : List ℕ} (n : ℕ) {ts : List Token} {cs : List WrittenCommand} {texts : List (List ℕ)} → AreCut bytes ts cs texts
    → Chosen texts (forms_of cs) (picked keep n (texts_in cs texts)) (picked keep n (forms_of (commands_in cs)))
chosen keep n cut_none = chosen_none
chosen keep n (cut_command {c = c} {cs = cs} {texts = texts} spells rest) = one_chosen keep n c cs _ texts (is_directive c.form) (chosen keep n rest) (chosen keep (suc n) rest)

pub cut_has : (own : Module) {bytes : List ℕ} {ts : List Token} {cs : List WrittenCommand} {texts : List (List ℕ)} → AreCut bytes ts cs texts → HaveTypeOrBody (stated_in own (forms_of (commands_in cs)))
cut_has own cut_none = tt
cut_has own (cut_command {c = c} {cs = cs} spells rest) = by (is_directive c.form) (cut_has own rest)
  where
    by : (d : Bool) → HaveTypeOrBody (stated_in own (forms_of (commands_in cs))) → HaveTypeOrBody (stated_in own (forms_of (if d then commands_in cs else c ∷ commands_in cs)))
    by true more = more
    by false more = (spelt_has spells.form, more)

-- ---- places

pub number_below : {A : Type 0} (p : A → Bool) (n : ℕ) (xs : List A) (k : ℕ) → number_from n p xs ≡ Some k → k < n + length xs
number_below p n [] k e = absurd cc
number_below p n (x ∷ xs) k e = by (p x) e (λ r. number_below p (n + 1) xs k r)
  where
    same : (a b : ℕ) → Some a ≡ Some b → a ≡ b
    same a b e = cc

    by : (b : Bool) → (if b then Some n else number_from (n + 1) p xs) ≡ Some k → (number_from (n + 1) p xs ≡ Some k → k < n + 1 + length xs) → k < n + length (x ∷ xs)
    by true e again = let q : n ≡ k = same n k e in omega (arith, q)
    by false e again = let l : k < n + 1 + length xs = again e in omega (arith, l)

pub accepted_length : (own : Module) {budget : ℕ} {U : Declared} (fs : List WrittenForm) {T : Declared} {cs : List PlainCommand} {ns : List ℕ} → AreAccepted budget T (stated_in own fs) cs ns U → length cs ≡ length fs
accepted_length own [] accepts_none = refl
accepted_length own (f ∷ fs) (accepts_more e a rest) = ap suc (accepted_length own fs rest)
