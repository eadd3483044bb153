-- A script that is read from a shelf, piece by piece.
use Rattle.std.proofs.Common.{◌≡◌, ◌≤◌, ℕ, List, [], ◌∷◌, ◌++◌, drop, length, map, take, ap, refl, subst, sym, ◌∙◌}
use Rattle.std.specs.Prelude.{Option, Some, None, Result, Ok, Err}
use Rattle.std.proofs.lemmas.List.{append_assoc, take-append-drop}
use Rattle.dk_io.specs.Bytes.{TakesFront}
use Rattle.dk_lexer.specs.Tokens.{input_limit}
use Rattle.dk_model.specs.declared.limits.Limits.{Limits}
use Rattle.edit_session.specs.Sessions.{PlainSession}
use Rattle.script_lines.specs.Scripts.{Line, cut, ended_lines, line_of, unended}
use Rattle.replay_script.specs.Replays.{Replays, script_lines}
use Rattle.replay_script.specs.Standing.{AreAll, AreFirst, AreFirstOf, Ends, EndsAt, IsAfter, IsGiven, IsOfLeft, Output, StopsAt, TakesLine, TakesRest, Wrote}
use Rattle.replay_script.specs.declared.line.Stop.{Stop}
use Rattle.replay_script.specs.declared.line.Stop.TheVariants.{Unread, SinkFailed, NoMemory}
use Rattle.replay_script.specs.declared.piece.Replay.{Replay}
use Rattle.replay_script.specs.declared.script.Ending.TheVariants as ending
use Rattle.replay_script.proofs.Fronts.{whole_lines}
use Rattle.replay_script.proofs.Sending.{sends_same}
use Rattle.replay_script.proofs.Taking.{taken}

no_more : (xs : List ℕ) → xs ++ [] ≡ xs
no_more [] = refl
no_more (x ∷ xs) = ap (λ ys. x ∷ ys) (no_more xs)

no_lines : (ls : List Line) → ls ++ [] ≡ ls
no_lines [] = refl
no_lines (l ∷ ls) = ap (λ (xs : List Line). l ∷ xs) (no_lines ls)

-- ---- the last line

module _ (limits : Limits) (budget : ℕ) (given text : List ℕ) (old : Replay) (a : IsAfter limits budget given old text) (within : length given ≤ input_limit limits) where
  -- nothing stands behind the last newline
  pub no_rest : (before after : Output) → old.line.items ≡ [] → after ≡ before → Wrote (λ lines. script_lines limits given ≡ lines) limits budget text before after
  no_rest before after empty same = record {
    lines = ended_lines given;
    slots = old.session.slots;
    more = [];
    are =
        whole_lines limits given within ∙ ap (λ (bytes : List ℕ). ended_lines given ++ map line_of (unended bytes)) (sym a.line_is ∙ empty) ∙ no_lines (ended_lines given);
    replays = subst (Replays limits budget (ended_lines given) old.session.slots) (sym (no_more text)) a.replays;
    sends = sends_same before after same;
  }

  -- something does
  one_rest : (b : ℕ) (bs : List ℕ) → (cut given).behind ≡ b ∷ bs → script_lines limits given ≡ ended_lines given ++ line_of (cut given).behind ∷ []
  one_rest b bs is =
      whole_lines limits given within
      ∙ ap (λ (bytes : List ℕ). ended_lines given ++ map line_of (unended bytes)) is
      ∙ ap (λ (bytes : List ℕ). ended_lines given ++ line_of bytes ∷ []) (sym is)

  not_empty : (bytes : List ℕ) → ¬ (bytes ≡ []) → (b : ℕ) × (bs : List ℕ) × (bytes ≡ b ∷ bs)
  not_empty [] some = absurd (some refl)
  not_empty (b ∷ bs) some = (b, bs, refl)

  rest_is : ¬ (old.line.items ≡ []) → script_lines limits given ≡ ended_lines given ++ line_of (cut given).behind ∷ []
  rest_is some = let p = not_empty (cut given).behind (λ e. some (a.line_is ∙ e)) in one_rest p.0 p.1 p.2

  pub rest_taken : (middle : PlainSession) (new : Replay) (before after : Output) (result : Result (Unit {0}) Stop) → ¬ (old.line.items ≡ []) → new.number ≡ old.number
      → TakesLine old.session middle old.number (line_of old.line.items) before after result → TakesRest limits budget given new text before after result
  rest_taken middle new before after (Ok u) some same takes = record {
    lines = ended_lines given ++ line_of (cut given).behind ∷ [];
    slots = middle.slots;
    more = takes.0;
    are = rest_is some;
    replays = taken limits budget given text old a middle.slots takes.0 takes.1;
    sends = takes.2;
  }
  rest_taken middle new before after (Err SinkFailed) some same (kept, more, takes, cuts) = record {
    lines = ended_lines given ++ line_of (cut given).behind ∷ [];
    slots = kept;
    more = more;
    are = ([], rest_is some ∙ sym (no_lines (ended_lines given ++ line_of (cut given).behind ∷ [])));
    replays = taken limits budget given text old a kept more takes;
    cuts = cuts;
  }
  rest_taken middle new before after (Err NoMemory) some same sends = record {
    lines = ended_lines given;
    slots = old.session.slots;
    more = [];
    are = ((line_of (cut given).behind ∷ [], rest_is some), same ∙ a.number_is);
    replays = subst (Replays limits budget (ended_lines given) old.session.slots) (sym (no_more text)) a.replays;
    sends = sends;
  }
  rest_taken middle new before after (Err Unread) some same never = absurd never

-- ---- what was given

pub nothing_given : (left : Option (List ℕ)) → IsOfLeft left (IsGiven [] left)
nothing_given None = tt
nothing_given (Some bytes) = (bytes, refl, refl)

some_same : (a b : List ℕ) → Some a ≡ Some b → a ≡ b
some_same a b e = cc

-- a read gives the front of what was left
pub more_given : (first left after : Option (List ℕ)) (given buf : List ℕ) (n : ℕ) → IsOfLeft first (IsGiven given left) → TakesFront left after n buf → IsOfLeft first (IsGiven (given ++ take n buf) after)
more_given None left after given buf n of front = tt
more_given (Some bytes) left after given buf n (rest, is, parts) front =
    let f : TakesFront (Some rest) after n buf = subst (λ o. TakesFront o after n buf) is front in
    (drop n rest, f.2, parts ∙ ap (λ xs. given ++ xs) (sym (take-append-drop n rest) ∙ ap (λ xs. xs ++ drop n rest) (sym f.1)) ∙ sym (append_assoc given (take n buf) (drop n rest)))

-- the end: nothing was left
pub all_given : (first left after : Option (List ℕ)) (given buf : List ℕ) → IsOfLeft first (IsGiven given left) → TakesFront left after 0 buf → IsOfLeft first (λ bytes. bytes ≡ given)
all_given None left after given buf of front = tt
all_given (Some bytes) left after given buf (rest, is, parts) front =
    let f : TakesFront (Some rest) after 0 buf = subst (λ o. TakesFront o after 0 buf) is front in
    parts ∙ ap (λ xs. given ++ xs) (f.3 refl) ∙ no_more given

pub same_given : (first left after : Option (List ℕ)) (given : List ℕ) → after ≡ left → IsOfLeft first (IsGiven given left) → IsOfLeft first (IsGiven given after)
same_given first left after given same of = subst (λ o. IsOfLeft first (IsGiven given o)) (sym same) of

of_weaker : (first : Option (List ℕ)) (P Q : List ℕ → Type 0) → ((bytes : List ℕ) → P bytes → Q bytes) → IsOfLeft first P → IsOfLeft first Q
of_weaker None P Q by of = tt
of_weaker (Some bytes) P Q by of = by bytes of

-- ---- how it ends

module _ (limits : Limits) (budget : ℕ) (first left : Option (List ℕ)) (before after : Output) (number : ℕ) where
  -- all lines were taken
  pub ends_whole : (P : List Line → Type 0) → Wrote P limits budget [] before after → ((lines : List Line) → P lines → IsOfLeft first (λ bytes. script_lines limits bytes ≡ lines))
      → Ends limits budget first left before after ending.Whole
  ends_whole P w by = (w.lines, w.more, (w.slots, w.replays), w.sends, by w.lines w.are)

  -- some were
  pub ends_early : (P : List Line → Type 0) (stop : Stop) → StopsAt P limits budget [] number before after stop → ((lines : List Line) → P lines → IsOfLeft first (λ bytes. AreFirstOf limits bytes lines))
      → EndsAt limits budget first left number before after (Err stop)
  ends_early P SinkFailed s by = (s.lines, s.more, (s.slots, s.replays), s.cuts, by s.lines s.are)
  ends_early P NoMemory s by = (s.lines, s.more, (s.slots, s.replays), s.sends, s.are.1, by s.lines s.are.0)
  ends_early P Unread never by = absurd never

module _ (limits : Limits) (first left : Option (List ℕ)) (given : List ℕ) where
  -- by what was given so far
  pub all_by : (lines : List Line) → AreAll limits given lines → IsOfLeft first (IsGiven given left) → IsOfLeft first (λ bytes. script_lines limits bytes ≡ lines)
  all_by lines all of = of_weaker first (IsGiven given left) (λ bytes. script_lines limits bytes ≡ lines) (λ bytes g. ap (script_lines limits) g.2 ∙ all g.0) of

  pub first_by : (lines : List Line) → AreFirst limits given lines → IsOfLeft first (IsGiven given left) → IsOfLeft first (λ bytes. AreFirstOf limits bytes lines)
  first_by lines are of =
      of_weaker first (IsGiven given left) (λ bytes. AreFirstOf limits bytes lines) (λ bytes g. let f = are g.0 in (f.0, ap (script_lines limits) g.2 ∙ f.1)) of

  -- by all that was given
  pub whole_by : (lines : List Line) → script_lines limits given ≡ lines → IsOfLeft first (λ bytes. bytes ≡ given) → IsOfLeft first (λ bytes. script_lines limits bytes ≡ lines)
  whole_by lines is of = of_weaker first (λ bytes. bytes ≡ given) (λ bytes. script_lines limits bytes ≡ lines) (λ bytes e. ap (script_lines limits) e ∙ is) of

  pub whole_first_by : (lines : List Line) → AreFirstOf limits given lines → IsOfLeft first (λ bytes. bytes ≡ given) → IsOfLeft first (λ bytes. AreFirstOf limits bytes lines)
  whole_first_by lines are of =
      of_weaker first (λ bytes. bytes ≡ given) (λ bytes. AreFirstOf limits bytes lines) (λ bytes e. (are.0, ap (script_lines limits) e ∙ are.1)) of

-- no line was taken
pub none_first : (limits : Limits) (first : Option (List ℕ)) → IsOfLeft first (λ bytes. AreFirstOf limits bytes [])
none_first limits None = tt
none_first limits (Some bytes) = (script_lines limits bytes, refl)
