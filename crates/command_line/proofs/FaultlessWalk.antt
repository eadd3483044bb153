-- What each use of an argument keeps, a walk over the words keeps, where clap finds no fault.
use Rattle.std.proofs.Common.{◌≡◌, ◌&&◌, ℕ, zero, suc, Bool, true, false, [], ◌∷◌, List, Option, Some, None, length, drop, refl, cond, is_some}
use Rattle.std.specs.Prelude.{⊤, encode_utf8, slice_get}
use Rattle.std.specs.List.{find, fold}
use Rattle.std.specs.Option.{option_map_or}
use Rattle.std.specs.Str.{bytes_eq, chars}
use Rattle.clap.specs.Lexer.{long_of, short_of}
use Rattle.clap.specs.Kinds.{Kinds, or_else}
use Rattle.clap.specs.declared.error.kind.ErrorKind.{ErrorKind}
use Rattle.clap.specs.Simple.{Shape}
use Rattle.clap.specs.Faults.{bundle_step_fault, flag_word_fault, flags_fault, long_fault, option_fault, other_fault, positional_fault, react_fault, settle_fault, short_fault, step_fault, stray_fault, turn_fault, use_fault, walk_fault, word_fault}
use Rattle.clap.specs.Walk.{Held, Names, Outcome, Row, Rule, Step, Text, Waiting, Walk, after_flag, after_step, arg_by_id, arg_by_index, arg_by_long, arg_by_short, attached_value, bundle, bundle_met, bundle_step, done, flag_met, idle, is_pending, long_met, long_or_other, next, option, option_met, option_word, plain, plain_word, positional, reacted, refused, settled, settled_rows, short_met, short_or_plain, subcommand, subcommand_met, subcommand_or_other, takes_several, takes_values, to_positional, trailing, used, used_by_id, value, waits, walked, walked_from, word_met}

pub some_kind : (k : ErrorKind) (ks : Kinds) → ◌≡◌ {A = Kinds} (k ∷ ks) [] → ⊥
some_kind k ks e = cc

-- no fault in two steps is none in each
pub no_first : (a b : Kinds) → or_else a b ≡ [] → a ≡ []
no_first [] b e = refl
no_first (k ∷ ks) b e = e

pub no_second : (a b : Kinds) → or_else a b ≡ [] → b ≡ []
no_second [] b e = e
no_second (k ∷ ks) b e = absurd (some_kind k ks e)

-- a use of the argument, if there is one, keeps G
abbrev pub UseKeeps : (List Row → Type 0) → Bool → Option Rule → Type 0
UseKeeps G again None = ⊤
UseKeeps G again (Some a) = (values : List Text) (rows : List Row) → G rows → use_fault again a values rows ≡ [] → G (used a values rows)

module _ (G : List Row → Type 0) (c : List Rule) (again : Bool) (keeps : (p : Rule → Bool) → UseKeeps G again (find p c)) where
  pub settled_keeps : (h : Held) → G h.rows → settle_fault c again h ≡ [] → G (settled c h).rows
  settled_keeps h g e = go h.pending h.rows g e
    where
      by_id : (o : Option Rule) → UseKeeps G again o → (values : List Text) (rows : List Row) → G rows
          → option_map_or (λ a. use_fault again a values rows) o [] ≡ [] → G (used_by_id o values rows)
      by_id None k values rows g e = g
      by_id (Some a) k values rows g e = k values rows g e

      go : (pending : Option (Text × List Text)) (rows : List Row) → G rows
          → option_map_or (λ p. option_map_or (λ a. use_fault again a p.1 rows) (arg_by_id c p.0) []) pending [] ≡ []
          → G (settled_rows c pending rows)
      go None rows g e = g
      go (Some p) rows g e = by_id (arg_by_id c p.0) (keeps (λ a. bytes_eq a.id p.0)) p.1 rows g e

  reacted_keeps : (a : Rule) → UseKeeps G again (Some a) → (values : List Text) (h : Held) → G h.rows → react_fault c again a values h ≡ []
      → G (reacted c a values h).rows
  reacted_keeps a k values h g e =
      let first = no_first (settle_fault c again h) _ e in
      k values (settled c h).rows (settled_keeps h g first) (no_second (settle_fault c again h) _ e)

  option_keeps : (a : Rule) → UseKeeps G again (Some a) → (v : Option Text) (h : Held) → G h.rows → option_fault c again a v h ≡ []
      → G (option_met c a v h).0.rows
  option_keeps a k (Some v) h g e = reacted_keeps a k (v ∷ []) h g e
  option_keeps a k None h g e = settled_keeps h g e

  long_keeps : (o : Option Rule) → UseKeeps G again o → (v : Option Text) (h : Held) → G h.rows → long_fault c again o v h ≡ []
      → G (long_met c o v h).0.rows
  long_keeps None k v h g e = g
  long_keeps (Some a) k v h g e = go (takes_values a) v e
    where
      go : (takes : Bool) (v : Option Text)
          → cond takes (option_fault c again a v h) (cond (is_some v) (Rattle.clap.specs.declared.error.kind.ErrorKind.TheVariants.TooManyValues ∷ []) (react_fault c again a [] h)) ≡ []
          → G (cond takes (option_met c a v h) (flag_met c a v h)).0.rows
      go true v e = option_keeps a k v h g e
      go false (Some v) e = g
      go false None e = reacted_keeps a k [] h g e

  short_keeps : (o : Option Rule) → UseKeeps G again o → (rest : Text) (h : Held) (met : Held → Held × Outcome) (fault : Held → Kinds)
      → ((h : Held) → G h.rows → fault h ≡ [] → G (met h).0.rows)
      → G h.rows → short_fault c again o rest h fault ≡ [] → G (short_met c o rest h met).0.rows
  short_keeps None k rest h met fault more g e = g
  short_keeps (Some a) k rest h met fault more g e = go (takes_values a) e
    where
      go : (takes : Bool)
          → cond takes (option_fault c again a (attached_value rest) h) (or_else (react_fault c again a [] h) (fault (reacted c a [] h))) ≡ []
          → G (cond takes (option_met c a (attached_value rest) h) (met (reacted c a [] h))).0.rows
      go true e = option_keeps a k (attached_value rest) h g e
      go false e = more (reacted c a [] h) (reacted_keeps a k [] h g (no_first (react_fault c again a [] h) _ e)) (no_second (react_fault c again a [] h) _ e)

  flags_keep : (n : ℕ) (flags : Text) (skip : ℕ) (so_far : Outcome) (h : Held) → G h.rows → flags_fault c again n flags skip h ≡ []
      → G (bundle_met c n flags skip so_far h).0.rows
  unfolding flags_fault bundle_met
  flags_keep zero flags skip so_far h g e = g
  flags_keep (suc n) flags skip so_far h g e = go (λ rest skip so_far k gk ek. flags_keep n rest skip so_far k gk ek) (slice_get (chars flags) 0) skip e
    where
      go : ((rest : Text) (skip : ℕ) (so_far : Outcome) (k : Held) → G k.rows → flags_fault c again n rest skip k ≡ [] → G (bundle_met c n rest skip so_far k).0.rows)
          → (x : Option ℕ) (skip : ℕ) → bundle_step_fault c again x flags skip h (flags_fault c again n) ≡ []
          → G (bundle_step c x flags skip so_far h (bundle_met c n)).0.rows
      go more None skip e = g
      go more (Some x) zero e =
          let rest = drop (length (encode_utf8 x)) flags in
          short_keeps (arg_by_short c x) (keeps _) rest h (bundle_met c n rest 0 done) (flags_fault c again n rest 0)
          (λ k gk ek. more rest 0 done k gk ek) g e
      go more (Some x) (suc skip) e = more (drop (length (encode_utf8 x)) flags) skip so_far h g e

  -- a word that is no flag leaves the rows
  plain_keeps : (waiting : Waiting) (word : Text) (h : Held) → G h.rows → G (plain_word c waiting word h).0.rows
  plain_keeps idle word h g = g
  plain_keeps positional word h g = g
  plain_keeps (option id) word h g = go (arg_by_id c id)
    where
      go : (o : Option Rule) → G (option_word o id word h).0.rows
      go None = g
      go (Some a) = g

  after_keeps : (waiting : Waiting) (word : Text) (h : Held) (o : Outcome) → G h.rows → G (after_flag c waiting word h o).0.rows
  after_keeps waiting word h done g = g
  after_keeps waiting word h (waits id) g = g
  after_keeps waiting word h plain g = plain_keeps waiting word h g
  after_keeps waiting word h refused g = plain_keeps waiting word h g

  other_keeps : (waiting : Waiting) (word : Text) (h : Held) → G h.rows → flag_word_fault c again (long_of word) word h ≡ []
      → G (long_or_other c waiting word (long_of word) h).0.rows
  other_keeps waiting word h g e = go (long_of word) e
    where
      short : (o : Option Text) → option_map_or (λ flags. flags_fault c again (length flags) flags h.skip (record h { skip = 0 })) o [] ≡ []
          → G (short_or_plain c waiting word o h).0.rows
      short None e = plain_keeps waiting word h g
      short (Some flags) e =
          after_keeps waiting word (bundle c flags h).0 (bundle c flags h).1 (flags_keep (length flags) flags h.skip plain (record h { skip = 0 }) g e)

      go : (o : Option (Text × Option Text)) → flag_word_fault c again o word h ≡ [] → G (long_or_other c waiting word o h).0.rows
      go None e = short (short_of word) e
      go (Some p) e =
          after_keeps waiting word (long_met c (arg_by_long c p.0) p.1 h).0 (long_met c (arg_by_long c p.0) p.1 h).1
          (long_keeps (arg_by_long c p.0) (keeps _) p.1 h g e)

module _ (G : List Row → Type 0) (s : Shape) (keeps : (p : Rule → Bool) → UseKeeps G s.args_override_self (find p s.rules)) where
  word_keeps : (names : Names) (w : Walk) (word : Text) → G w.held.rows → word_fault s names w.is_trailing w.waiting word w.held ≡ []
      → G (word_met s.rules names w.is_trailing w.waiting w.position word w.held).0.rows
  word_keeps names w word g e = go w.is_trailing (subcommand_met names w.waiting word) e
    where
      dashes : (b : Bool) → cond b [] (flag_word_fault s.rules s.args_override_self (long_of word) word w.held) ≡ []
          → G (cond b (w.held, trailing w.position) (long_or_other s.rules w.waiting word (long_of word) w.held)).0.rows
      dashes true e = g
      dashes false e = other_keeps G s.rules s.args_override_self keeps w.waiting word w.held g e

      go : (is_trailing : Bool) (met : Option Text) → cond is_trailing [] (other_fault s met word w.held) ≡ []
          → G (cond is_trailing (w.held, value) (subcommand_or_other s.rules met w.waiting w.position word w.held)).0.rows
      go true met e = g
      go false (Some name) e = g
      go false None e = dashes (bytes_eq word (45 ∷ 45 ∷ [])) e

  step_keeps : (w : Walk) (word : Text) (h : Held) (step : Step) → G h.rows → step_fault s w.position h step ≡ []
      → G (after_step s.rules word w h step).held.rows
  step_keeps w word h (next waiting) g e = g
  step_keeps w word h (trailing position) g e = g
  step_keeps w word h (subcommand name) g e = g
  step_keeps w word h value g e = go (arg_by_index s.rules w.position) e
    where
      held : (a : Rule) (b : Bool) → cond b [] (settle_fault s.rules s.args_override_self h) ≡ [] → G (cond b h (settled s.rules h)).rows
      held a true e = g
      held a false e = settled_keeps G s.rules s.args_override_self keeps h g e

      go : (o : Option Rule) → option_map_or (λ a. positional_fault s.rules s.args_override_self a h) o (stray_fault s) ≡ []
          → G (to_positional s.rules o word w h).held.rows
      go None e = g
      go (Some a) e = held a (is_pending a h.pending && takes_several a) e

  turn_keeps : (names : Names) (w : Walk) (word : Text) → G w.held.rows → turn_fault s names w word ≡ [] → G (walked s.rules names w word).held.rows
  unfolding walked
  turn_keeps names w word g e = go w.stopped e
    where
      go : (stopped : Option (Text × List Text))
          → cond (is_some stopped) [] (or_else (word_fault s names w.is_trailing w.waiting word w.held)
          (step_fault s w.position (word_met s.rules names w.is_trailing w.waiting w.position word w.held).0 (word_met s.rules names w.is_trailing w.waiting w.position word w.held).1)) ≡ []
          → G (walked_from s.rules names stopped w word).held.rows
      go (Some p) e = g
      go None e =
          let met = word_met s.rules names w.is_trailing w.waiting w.position word w.held in
          let first = word_fault s names w.is_trailing w.waiting word w.held in
          step_keeps w word met.0 met.1 (word_keeps names w word g (no_first first _ e)) (no_second first _ e)

  pub walk_keeps : (names : Names) (words : List Text) (w : Walk) → G w.held.rows → walk_fault s names w words ≡ []
      → G (fold (walked s.rules names) w words).held.rows
  unfolding walk_fault
  walk_keeps names [] w g e = g
  walk_keeps names (word ∷ rest) w g e =
      walk_keeps names rest (walked s.rules names w word)
      (turn_keeps names w word g (no_first (turn_fault s names w word) _ e))
      (no_second (turn_fault s names w word) _ e)
