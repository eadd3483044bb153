-- A piece of a script, of which a front was taken.
use Rattle.std.proofs.Common.{◌≡◌, ◌≤◌, ◌<◌, ◌+◌, ℕ, List, [], ◌∷◌, ◌++◌, ap, length, length-append, subst, sym, ◌∙◌, arith}
use Rattle.std.specs.Prelude.{Err}
use Rattle.std.proofs.lemmas.List.{append_assoc}
use Rattle.dk_lexer.specs.Tokens.{input_limit}
use Rattle.dk_model.specs.declared.limits.Limits.{Limits}
use Rattle.replay_script.specs.Replays.{bad_line}
use Rattle.replay_script.specs.Standing.{AreAll, AreFirst, Goes, HasTaken, IsAfter, IsWithin, Output, Puts, Sends, StopsAt, TakesByte, Wrote}
use Rattle.replay_script.specs.declared.line.Stop.{Stop}
use Rattle.replay_script.specs.declared.piece.Replay.{Replay}
use Rattle.replay_script.proofs.Fronts.{first_longer}
use Rattle.replay_script.proofs.Taking.{goes_then, past_stops, past_whole, stops_as, stops_then, wrote_then}

-- a front was taken, and this is the next byte
module _ (most : ℕ) (old middle : Replay) (piece rest others : List ℕ) (byte : ℕ) (before between : Output) (h : HasTaken most old middle piece rest before between) (next : rest ≡ byte ∷ others) where
  piece_is : (given : List ℕ) → given ++ piece ≡ (given ++ h.front) ++ byte ∷ others
  piece_is given = ap (λ xs. given ++ xs) (h.parts ∙ ap (λ xs. h.front ++ xs) next) ∙ sym (append_assoc given h.front (byte ∷ others))

  module _ (limits : Limits) (budget : ℕ) (given text : List ℕ) (a : IsAfter limits budget given old text) (is : most ≡ input_limit limits) where
    full : most ≤ middle.count → (t : List ℕ) → IsAfter limits budget (given ++ h.front) middle t → length (given ++ h.front) ≡ input_limit limits
    full reached t at = let below = h.below in let count = at.count_is in omega (arith, reached, below, count, is)

    short : middle.count < most → (t : List ℕ) → IsAfter limits budget (given ++ h.front) middle t → length (given ++ h.front) < input_limit limits
    short less t at = let count = at.count_is in omega (arith, less, count, is)

    -- it is past the limit
    pub past_end : (after : Output) → most ≤ middle.count → Sends between after (bad_line middle.number) → Wrote (AreAll limits (given ++ piece)) limits budget text before after
    past_end after reached sends =
        subst (λ (bytes : List ℕ). Wrote (AreAll limits bytes) limits budget text before after) (sym (piece_is given))
        (wrote_then (h.goes limits budget given text a is) (λ t at. past_whole limits budget (given ++ h.front) t middle at byte others between after (full reached t at) sends))

    pub past_stop : (after : Output) (number : ℕ) (stop : Stop) → most ≤ middle.count → Puts between after (bad_line middle.number) (Err stop)
        → StopsAt (AreFirst limits (given ++ piece)) limits budget text number before after stop
    past_stop after number stop reached puts =
        subst (λ (bytes : List ℕ). StopsAt (AreFirst limits bytes) limits budget text number before after stop) (sym (piece_is given))
        (stops_then (AreFirst limits ((given ++ h.front) ++ byte ∷ others)) number after stop (h.goes limits budget given text a is)
        (λ t at. past_stops limits budget (given ++ h.front) t middle at byte number others between after stop (full reached t at) puts))

    -- it stops the script
    pub byte_stop : (new : Replay) (after : Output) (stop : Stop) → middle.count < most
        → ((t : List ℕ) → IsAfter limits budget (given ++ h.front) middle t → length (given ++ h.front) < input_limit limits
        → TakesByte limits budget ((given ++ h.front) ++ byte ∷ []) new t between after (Err stop))
        → StopsAt (AreFirst limits (given ++ piece)) limits budget text new.number before after stop
    byte_stop new after stop less takes =
        stops_then (AreFirst limits (given ++ piece)) new.number after stop (h.goes limits budget given text a is)
        (λ t at. stops_as (AreFirst limits ((given ++ h.front) ++ byte ∷ [])) (AreFirst limits (given ++ piece)) limits budget t new.number between after stop
        (λ lines first. subst (λ (bytes : List ℕ). AreFirst limits bytes lines) (append_assoc (given ++ h.front) (byte ∷ []) others ∙ sym (piece_is given))
        (first_longer limits ((given ++ h.front) ++ byte ∷ []) others lines first))
        (takes t at (short less t at)))

    byte_goes_on : (new : Replay) (after : Output) → middle.count < most
        → ((t : List ℕ) → IsAfter limits budget (given ++ h.front) middle t → length (given ++ h.front) < input_limit limits → Goes limits budget ((given ++ h.front) ++ byte ∷ []) new t between after)
        → Goes limits budget (given ++ (h.front ++ byte ∷ [])) new text before after
    byte_goes_on new after less takes =
        subst (λ (bytes : List ℕ). Goes limits budget bytes new text before after) (append_assoc given h.front (byte ∷ []))
        (goes_then (h.goes limits budget given text a is) (λ t at. takes t at (short less t at)))

  -- it was taken
  pub byte_taken : (new : Replay) (after : Output) → middle.count < most → IsWithin new → new.count ≡ middle.count + 1
      → ((limits : Limits) (budget : ℕ) (given text : List ℕ) → IsAfter limits budget given middle text → length given < input_limit limits → Goes limits budget (given ++ byte ∷ []) new text between after)
      → HasTaken most old new piece others before after
  byte_taken new after less within count takes = record {
    front = h.front ++ byte ∷ [];
    parts = h.parts ∙ ap (λ xs. h.front ++ xs) next ∙ sym (append_assoc h.front (byte ∷ []) others);
    within = within;
    count = let c = h.count in omega (arith, count, c, length-append h.front (byte ∷ []));
    below = omega (arith, count, less);
    goes = λ limits budget given text a is. byte_goes_on limits budget given text a is new after less (λ t at s. takes limits budget (given ++ h.front) t at s);
  }
