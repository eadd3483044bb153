-- How the taking of a script begins, goes on and ends, by the pieces that are read.
use Rattle.std.proofs.Common.{◌≡◌, ◌≤◌, ℕ, List, [], ◌++◌, length, arith}
use Rattle.std.specs.Prelude.{Option, Result, Ok, Err}
use Rattle.dk_lexer.specs.Tokens.{input_limit}
use Rattle.dk_model.specs.declared.limits.Limits.{Limits}
use Rattle.replay_script.specs.Replays.{script_lines}
use Rattle.replay_script.specs.Standing.{AreAll, AreFirst, AreFirstOf, Ends, EndsAt, Goes, HasRead, IsAfter, IsGiven, IsOfLeft, IsWithin, Output, StopsAt, TakesRest, Wrote}
use Rattle.replay_script.specs.declared.line.Stop.{Stop}
use Rattle.replay_script.specs.declared.piece.Replay.{Replay}
use Rattle.replay_script.specs.declared.script.Ending.TheVariants as ending
use Rattle.replay_script.proofs.Reading.{all_by, ends_early, ends_whole, first_by, nothing_given, whole_by, whole_first_by}
use Rattle.replay_script.proofs.Sending.{sends_none}
use Rattle.replay_script.proofs.Taking.{goes_then, stops_then, wrote_then}

pub begun : (most : ℕ) (r : Replay) (o : Output) (left : Option (List ℕ)) → IsWithin r → r.count ≤ most → HasRead most r r o o left left
begun most r o left within below = record {
  given = [];
  is_given = nothing_given left;
  within = within;
  below = below;
  goes = λ limits budget a is. record { more = []; is_after = a; sends = sends_none o };
}

-- so much was read, and this was left then
module _ (most : ℕ) (old middle : Replay) (before between : Output) (first left : Option (List ℕ)) (h : HasRead most old middle before between first left) where
  pub piece_read : (new : Replay) (after : Output) (last : Option (List ℕ)) (piece : List ℕ) → IsOfLeft first (IsGiven (h.given ++ piece) last) → IsWithin new → new.count ≤ most
      → ((limits : Limits) (budget : ℕ) (given text : List ℕ) → IsAfter limits budget given middle text → most ≡ input_limit limits → Goes limits budget (given ++ piece) new text between after)
      → HasRead most old new before after first last
  piece_read new after last piece of within below takes = record {
    given = h.given ++ piece;
    is_given = of;
    within = within;
    below = below;
    goes = λ limits budget a is. goes_then (h.goes limits budget a is) (λ t at. takes limits budget h.given t at is);
  }

  module _ (limits : Limits) (budget : ℕ) (a : IsAfter limits budget [] old []) (is : most ≡ input_limit limits) where
    bound : (t : List ℕ) → IsAfter limits budget h.given middle t → length h.given ≤ input_limit limits
    bound t at = let below = h.below in let count = at.count_is in omega (arith, below, count, is)

    -- nothing more was given
    pub rest_ends : (new : Replay) (after : Output) (last : Option (List ℕ)) (result : Result (Unit {0}) Stop) → IsOfLeft first (λ bytes. bytes ≡ h.given)
        → ((t : List ℕ) → IsAfter limits budget h.given middle t → length h.given ≤ input_limit limits → TakesRest limits budget h.given new t between after result)
        → EndsAt limits budget first last new.number before after result
    rest_ends new after last (Ok u) all takes =
        ends_whole limits budget first last before after new.number (λ lines. script_lines limits h.given ≡ lines) (wrote_then (h.goes limits budget a is) (λ t at. takes t at (bound t at)))
        (λ lines e. whole_by limits first left h.given lines e all)
    rest_ends new after last (Err stop) all takes =
        ends_early limits budget first last before after new.number (AreFirstOf limits h.given) stop
        (stops_then (AreFirstOf limits h.given) new.number after stop (h.goes limits budget a is) (λ t at. takes t at (bound t at)))
        (λ lines f. whole_first_by limits first left h.given lines f all)

    -- a piece went past the limit
    pub past_ends : (number : ℕ) (after : Output) (last : Option (List ℕ)) (piece : List ℕ) → IsOfLeft first (IsGiven (h.given ++ piece) last)
        → ((t : List ℕ) → IsAfter limits budget h.given middle t → Wrote (AreAll limits (h.given ++ piece)) limits budget t between after)
        → Ends limits budget first last before after ending.Whole
    past_ends number after last piece of takes =
        ends_whole limits budget first last before after number (AreAll limits (h.given ++ piece)) (wrote_then (h.goes limits budget a is) takes)
        (λ lines all. all_by limits first last (h.given ++ piece) lines all of)

    -- it stopped in a piece
    pub piece_ends : (number : ℕ) (after : Output) (last : Option (List ℕ)) (piece : List ℕ) (stop : Stop) → IsOfLeft first (IsGiven (h.given ++ piece) last)
        → ((t : List ℕ) → IsAfter limits budget h.given middle t → StopsAt (AreFirst limits (h.given ++ piece)) limits budget t number between after stop)
        → EndsAt limits budget first last number before after (Err stop)
    piece_ends number after last piece stop of takes =
        ends_early limits budget first last before after number (AreFirst limits (h.given ++ piece)) stop
        (stops_then (AreFirst limits (h.given ++ piece)) number after stop (h.goes limits budget a is) takes)
        (λ lines f. first_by limits first last (h.given ++ piece) lines f of)
