-- Words in which clap finds no fault ask something.
use Rattle.std.proofs.Common.{◌≡◌, ◌∙◌, ◌||◌, Bool, true, false, [], ◌∷◌, List, Option, Some, None, drop, refl, sym, cond, codes, is_some}
use Rattle.std.specs.Option.{option_and_then, option_map, option_map_or}
use Rattle.std.specs.Str.{bytes_eq}
use Rattle.clap.specs.Kinds.{Kinds}
use Rattle.clap.specs.Faults.{built_fault, defaults_fault, entered_fault, fault_of, level_fault, settle_fault, walk_fault}
use Rattle.clap.specs.Simple.{App, Shape, built, entered, filled, help_rule, names_of, new_shape, rows_at, subcommand_of}
use Rattle.clap.specs.Walk.{Text, nothing_held, settled, walk, walk_from}
use Rattle.clap.specs.declared.error.kind.ErrorKind.TheVariants.{MissingSubcommand}
use Rattle.command_line.specs.Words.{program}
use Rattle.command_line.specs.Requests.{CertifyRequest, CheckRequest, MakeRequest, PruneRequest, RecheckRequest, ReplayRequest, certify_in, check_in, make_in, prune_in, recheck_in, replay_in, request_in, to_certify, to_check, to_make, to_prune, to_recheck, to_replay}
use Rattle.command_line.proofs.CertifyRows.{built_certify, certify_asks}
use Rattle.command_line.proofs.CheckRows.{built_check, check_asks}
use Rattle.command_line.proofs.MakeRows.{built_make, make_asks}
use Rattle.command_line.proofs.PruneRows.{built_prune, prune_asks}
use Rattle.command_line.proofs.RecheckRows.{built_recheck, recheck_asks}
use Rattle.command_line.proofs.ReplayRows.{built_replay, replay_asks}
use Rattle.command_line.proofs.FaultlessWalk.{no_first, no_second, some_kind}

-- the program as clap builds it
abbrev built_top : Shape
built_top = record (new_shape (codes "dk_check")) {
  rules = filled help_rule ∷ [];
  is_leaf = false;
  subcommand_required = true;
  disable_help_subcommand = true;
  is_built = true;
}

abbrev built_program : App
built_program = record { top = built_top; subs = built_check ∷ built_make ∷ built_certify ∷ built_recheck ∷ built_prune ∷ built_replay ∷ [] }

program_is : built program ≡ built_program
unfolding program
program_is = refl

-- the fault of the words after the program's name
fault_is : (words : List Text) → fault_of program words ≡ built_fault built_program nothing_held (drop 1 words)
unfolding program
fault_is words = refl

-- the faults of a level whose subcommand ends with these
abbrev level : List Text → Bool → Kinds → Kinds
level words has below = level_fault built_top (names_of built_program) nothing_held words has below

needs_one : (words : List Text) (below : Kinds) → level words false below ≡ [] → ⊥
needs_one words below e =
    let end = (walk built_top.rules (names_of built_program) nothing_held words).held in
    let after = no_second (walk_fault built_top (names_of built_program) (walk_from nothing_held) words) _ e in
    let settling = no_second below _ after in
    let last = no_second (settle_fault built_top.rules false end) _ settling in
    let checked = no_second (defaults_fault (settled built_top.rules end).rows built_top.rules) _ last in
    some_kind MissingSubcommand [] checked

asks_check : (o : Option CheckRequest) → is_some o ≡ true → is_some (option_map to_check o) ≡ true
asks_check None e = e
asks_check (Some q) e = refl

asks_make : (o : Option MakeRequest) → is_some o ≡ true → is_some (option_map to_make o) ≡ true
asks_make None e = e
asks_make (Some q) e = refl

asks_certify : (o : Option CertifyRequest) → is_some o ≡ true → is_some (option_map to_certify o) ≡ true
asks_certify None e = e
asks_certify (Some q) e = refl

asks_recheck : (o : Option RecheckRequest) → is_some o ≡ true → is_some (option_map to_recheck o) ≡ true
asks_recheck None e = e
asks_recheck (Some q) e = refl

asks_prune : (o : Option PruneRequest) → is_some o ≡ true → is_some (option_map to_prune o) ≡ true
asks_prune None e = e
asks_prune (Some q) e = refl

asks_replay : (o : Option ReplayRequest) → is_some o ≡ true → is_some (option_map to_replay o) ≡ true
asks_replay None e = e
asks_replay (Some q) e = refl

-- the subcommand that was met, where it is one of these
abbrev met : Bool → Bool → Bool → Bool → Bool → Bool → Option Shape
met c m t h q r =
    cond c (Some built_check) (cond m (Some built_make) (cond t (Some built_certify) (cond h (Some built_recheck) (cond q (Some built_prune) (cond r (Some built_replay) None)))))

-- the word is this one
abbrev is : Text → Text → Bool
is name word = bytes_eq name word || false

-- what the subcommand at which the walk stopped asks
entered_asks : (words : List Text) (stop : Option (Text × List Text)) → level words (is_some (entered built_program stop)) (entered_fault built_program stop) ≡ []
    → is_some (option_and_then request_in (entered built_program stop)) ≡ true
entered_asks words None e = absurd (needs_one words [] e)
entered_asks words (Some p) e =
    go (is (codes "check") p.0) (is (codes "make") p.0) (is (codes "certify") p.0) (is (codes "recheck") p.0) (is (codes "prune") p.0) (is (codes "replay") p.0) e
  where
    after_walk : (below : Kinds) → level words true below ≡ [] → below ≡ []
    after_walk below e = no_first below _ (no_second (walk_fault built_top (names_of built_program) (walk_from nothing_held) words) _ e)

    go : (c m t h q r : Bool) → level words (is_some (option_map (λ s. rows_at s p.1) (met c m t h q r))) (option_map_or (λ s. level_fault s [] nothing_held p.1 false []) (met c m t h q r) []) ≡ []
        → is_some (option_and_then request_in (option_map (λ s. rows_at s p.1) (met c m t h q r))) ≡ true
    go false false false false false false e = absurd (needs_one words [] e)
    go false false false false false true e = asks_replay (replay_in (rows_at built_replay p.1).1) (replay_asks p.1 (after_walk (level_fault built_replay [] nothing_held p.1 false []) e))
    go false false false false true r e = asks_prune (prune_in (rows_at built_prune p.1).1) (prune_asks p.1 (after_walk (level_fault built_prune [] nothing_held p.1 false []) e))
    go false false false true q r e = asks_recheck (recheck_in (rows_at built_recheck p.1).1) (recheck_asks p.1 (after_walk (level_fault built_recheck [] nothing_held p.1 false []) e))
    go false false true h q r e = asks_certify (certify_in (rows_at built_certify p.1).1) (certify_asks p.1 (after_walk (level_fault built_certify [] nothing_held p.1 false []) e))
    go false true t h q r e = asks_make (make_in (rows_at built_make p.1).1) (make_asks p.1 (after_walk (level_fault built_make [] nothing_held p.1 false []) e))
    go true m t h q r e = asks_check (check_in (rows_at built_check p.1).1) (check_asks p.1 (after_walk (level_fault built_check [] nothing_held p.1 false []) e))

pub taken_asks : (words : List Text) → fault_of program words ≡ [] → is_some (option_and_then request_in (subcommand_of program words)) ≡ true
unfolding program
taken_asks words e =
    let stop = (walk built_top.rules (names_of built_program) nothing_held (drop 1 words)).stopped in
    entered_asks (drop 1 words) stop (sym (fault_is words) ∙ e)
