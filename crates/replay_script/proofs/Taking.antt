-- A script that is taken byte by byte.
use Rattle.std.proofs.Common.{◌≡◌, ◌==◌, ◌<◌, ◌+◌, ℕ, false, List, [], ◌∷◌, ◌++◌, length, ap, refl, subst, sym, ◌∙◌, arith, length-append}
use Rattle.std.proofs.lemmas.List.{append_assoc}
use Rattle.dk_lexer.specs.Tokens.{input_limit}
use Rattle.dk_model.specs.declared.limits.Limits.{Limits}
use Rattle.edit_session.specs.Sessions.{PlainSession, PlainSlot}
use Rattle.script_lines.specs.Scripts.{Line, cut, ended_lines, line_of, unreadable}
use Rattle.replay_script.specs.Replays.{Replays, Takes, bad_line, of_no_line, of_none, of_one_more}
use Rattle.replay_script.specs.Standing.{AreAll, AreFirst, Goes, IsAfter, Output, Puts, Sends, StopsAt, TakesLine, Wrote}
use Rattle.replay_script.specs.declared.line.Stop.{Stop}
use Rattle.replay_script.specs.declared.line.Stop.TheVariants.{Unread, SinkFailed, NoMemory}
use Rattle.replay_script.specs.declared.piece.Replay.{Replay}
use Rattle.replay_script.proofs.Fronts.{byte_ends, byte_leaves, first_ended, first_longer, newline_ends, newline_leaves, past_all, past_first}
use Rattle.replay_script.proofs.Sending.{cuts_then, sends_same, sends_then}
use Rattle.std.specs.Prelude.{Ok, Err}

nothing_more : (xs : List ℕ) → xs ++ [] ≡ xs
nothing_more [] = refl
nothing_more (x ∷ xs) = ap (λ ys. x ∷ ys) (nothing_more xs)

one_more : (given : List ℕ) (b : ℕ) → length (given ++ b ∷ []) ≡ length given + 1
one_more given b = length-append given (b ∷ [])

one_line_more : (lines : List Line) (line : Line) → length (lines ++ line ∷ []) ≡ length lines + 1
one_line_more lines line = length-append lines (line ∷ [])

-- before the first line
pub before_first : (limits : Limits) (budget : ℕ) (r : Replay) → r.session ≡ record { limits = limits; budget = budget; slots = [] } → r.line.items ≡ [] → r.number ≡ 1 → r.count ≡ 0
    → IsAfter limits budget [] r []
before_first limits budget r session line number count = record {
  limits_are = ap (λ (s : PlainSession). s.limits) session;
  budget_is = ap (λ (s : PlainSession). s.budget) session;
  line_is = line;
  number_is = number;
  count_is = count;
  replays = subst (λ (slots : List PlainSlot). Replays limits budget [] slots []) (sym (ap (λ (s : PlainSession). s.slots) session)) of_none;
}

-- ---- one byte, after these bytes and this text

module _ (limits : Limits) (budget : ℕ) (given text : List ℕ) (old : Replay) (a : IsAfter limits budget given old text) where
  -- the line that is due
  pub taken : (new : List PlainSlot) (more : List ℕ) → Takes old.session.limits old.session.budget old.number old.session.slots (line_of old.line.items) new more
      → Replays limits budget (ended_lines given ++ line_of (cut given).behind ∷ []) new (text ++ more)
  taken new more takes =
      let by_line = subst (λ (bytes : List ℕ). Takes old.session.limits old.session.budget old.number old.session.slots (line_of bytes) new more) a.line_is takes in
      let by_number = subst (λ (n : ℕ). Takes old.session.limits old.session.budget n old.session.slots (line_of (cut given).behind) new more) a.number_is by_line in
      let by_budget = subst (λ (b : ℕ). Takes old.session.limits b (length (ended_lines given) + 1) old.session.slots (line_of (cut given).behind) new more) a.budget_is by_number in
      let by_limits = subst (λ (l : Limits). Takes l budget (length (ended_lines given) + 1) old.session.slots (line_of (cut given).behind) new more) a.limits_are by_budget in
      of_one_more (ended_lines given) old.session.slots text (line_of (cut given).behind) new more a.replays by_limits

  -- nothing was written since
  stays : Replays limits budget (ended_lines given) old.session.slots (text ++ [])
  stays = subst (Replays limits budget (ended_lines given) old.session.slots) (sym (nothing_more text)) a.replays

  pub newline_goes : (middle : PlainSession) (new : Replay) (before after : Output) → middle.limits ≡ old.session.limits → middle.budget ≡ old.session.budget
      → TakesLine old.session middle old.number (line_of old.line.items) before after (Ok tt)
      → new.session ≡ middle → new.line.items ≡ [] → new.number ≡ old.number + 1 → new.count ≡ old.count + 1 → Goes limits budget (given ++ 10 ∷ []) new text before after
  newline_goes middle new before after same_limits same_budget takes session line number count = record {
    more = takes.0;
    is_after = record {
      limits_are = ap (λ (s : PlainSession). s.limits) session ∙ same_limits ∙ a.limits_are;
      budget_is = ap (λ (s : PlainSession). s.budget) session ∙ same_budget ∙ a.budget_is;
      line_is = line ∙ newline_leaves given;
      number_is =
          number ∙ ap (λ n. n + 1) (a.number_is ∙ sym (ap (λ (ls : List Line). length ls) (newline_ends given) ∙ one_line_more (ended_lines given) (line_of (cut given).behind)));
      count_is = count ∙ ap (λ n. n + 1) a.count_is ∙ sym (one_more given 10);
      replays =
          subst (λ (ls : List Line). Replays limits budget ls new.session.slots (text ++ takes.0)) (sym (newline_ends given))
          (subst (λ (s : PlainSession). Replays limits budget (ended_lines given ++ line_of (cut given).behind ∷ []) s.slots (text ++ takes.0)) (sym session) (taken middle.slots takes.0 takes.1));
    };
    sends = takes.2;
  }

  pub newline_stops : (middle : PlainSession) (number : ℕ) (before after : Output) (stop : Stop) → length given < input_limit limits → number ≡ old.number
      → TakesLine old.session middle old.number (line_of old.line.items) before after (Err stop) → StopsAt (AreFirst limits (given ++ 10 ∷ [])) limits budget text number before after stop
  newline_stops middle number before after SinkFailed short same (kept, more, takes, cuts) = record {
    lines = ended_lines (given ++ 10 ∷ []);
    slots = kept;
    more = more;
    are = first_ended limits (given ++ 10 ∷ []) (omega (arith, short, one_more given 10));
    replays = subst (λ (ls : List Line). Replays limits budget ls kept (text ++ more)) (sym (newline_ends given)) (taken kept more takes);
    cuts = cuts;
  }
  newline_stops middle number before after NoMemory short same sends = record {
    lines = ended_lines given;
    slots = old.session.slots;
    more = [];
    are = (first_longer limits given (10 ∷ []) (ended_lines given) (first_ended limits given (omega (arith, short))), same ∙ a.number_is);
    replays = stays;
    sends = sends;
  }
  newline_stops middle number before after Unread short same never = absurd never

  pub byte_goes : (b : ℕ) (new : Replay) (before after : Output) → (b == 10) ≡ false → new.session ≡ old.session → new.line.items ≡ old.line.items ++ b ∷ [] → new.number ≡ old.number
      → new.count ≡ old.count + 1 → after ≡ before → Goes limits budget (given ++ b ∷ []) new text before after
  byte_goes b new before after other session line number count same = record {
    more = [];
    is_after = record {
      limits_are = ap (λ (s : PlainSession). s.limits) session ∙ a.limits_are;
      budget_is = ap (λ (s : PlainSession). s.budget) session ∙ a.budget_is;
      line_is = line ∙ ap (λ ls. ls ++ b ∷ []) a.line_is ∙ byte_leaves given b other;
      number_is = number ∙ a.number_is ∙ ap (λ (ls : List Line). length ls + 1) (sym (byte_ends given b other));
      count_is = count ∙ ap (λ n. n + 1) a.count_is ∙ sym (one_more given b);
      replays =
          subst (λ (ls : List Line). Replays limits budget ls new.session.slots (text ++ [])) (sym (byte_ends given b other))
          (subst (λ (s : PlainSession). Replays limits budget (ended_lines given) s.slots (text ++ [])) (sym session) stays);
    };
    sends = sends_same before after same;
  }

  pub byte_stops : (b number : ℕ) (before after : Output) → length given < input_limit limits → number ≡ old.number → after ≡ before
      → StopsAt (AreFirst limits (given ++ b ∷ [])) limits budget text number before after NoMemory
  byte_stops b number before after short same_number same = record {
    lines = ended_lines given;
    slots = old.session.slots;
    more = [];
    are = (first_longer limits given (b ∷ []) (ended_lines given) (first_ended limits given (omega (arith, short))), same_number ∙ a.number_is);
    replays = stays;
    sends = sends_same before after same;
  }

  -- ---- a byte past the limit

  past : Replays limits budget (ended_lines given ++ unreadable ∷ []) old.session.slots (text ++ bad_line old.number)
  past =
      of_one_more (ended_lines given) old.session.slots text unreadable old.session.slots (bad_line old.number) a.replays
      (subst (λ (n : ℕ). Takes limits budget (length (ended_lines given) + 1) old.session.slots unreadable old.session.slots (bad_line n)) (sym a.number_is) of_no_line)

  pub past_whole : (b : ℕ) (bs : List ℕ) (before after : Output) → length given ≡ input_limit limits → Sends before after (bad_line old.number)
      → Wrote (AreAll limits (given ++ b ∷ bs)) limits budget text before after
  past_whole b bs before after full sends = record {
    lines = ended_lines given ++ unreadable ∷ [];
    slots = old.session.slots;
    more = bad_line old.number;
    are = past_all limits given b bs full;
    replays = past;
    sends = sends;
  }

  pub past_stops : (b number : ℕ) (bs : List ℕ) (before after : Output) (stop : Stop) → length given ≡ input_limit limits → Puts before after (bad_line old.number) (Err stop)
      → StopsAt (AreFirst limits (given ++ b ∷ bs)) limits budget text number before after stop
  past_stops b number bs before after SinkFailed full cuts = record {
    lines = ended_lines given ++ unreadable ∷ [];
    slots = old.session.slots;
    more = bad_line old.number;
    are = past_first limits given b bs full;
    replays = past;
    cuts = cuts;
  }
  past_stops b number bs before after NoMemory full never = absurd never
  past_stops b number bs before after Unread full never = absurd never

-- ---- some bytes after others

pub goes_then : {limits : Limits} {budget : ℕ} {given further text : List ℕ} {middle new : Replay} {before between after : Output} → Goes limits budget given middle text before between
    → ((t : List ℕ) → IsAfter limits budget given middle t → Goes limits budget further new t between after) → Goes limits budget further new text before after
goes_then {limits = limits} {budget = budget} {further = further} {text = text} {new = new} first next =
    let second = next (text ++ first.more) first.is_after in
    record {
      more = first.more ++ second.more;
      is_after = subst (IsAfter limits budget further new) (append_assoc text first.more second.more) second.is_after;
      sends = sends_then first.sends second.sends;
    }

pub wrote_then : {P : List Line → Type 0} {limits : Limits} {budget : ℕ} {given text : List ℕ} {middle : Replay} {before between after : Output} → Goes limits budget given middle text before between
    → ((t : List ℕ) → IsAfter limits budget given middle t → Wrote P limits budget t between after) → Wrote P limits budget text before after
wrote_then {limits = limits} {budget = budget} {text = text} first next =
    let second = next (text ++ first.more) first.is_after in
    record {
      lines = second.lines;
      slots = second.slots;
      more = first.more ++ second.more;
      are = second.are;
      replays = subst (Replays limits budget second.lines second.slots) (append_assoc text first.more second.more) second.replays;
      sends = sends_then first.sends second.sends;
    }

pub stops_then : (P : List Line → Type 0) {limits : Limits} {budget : ℕ} {given text : List ℕ} {middle : Replay} (number : ℕ) {before between : Output} (after : Output) (stop : Stop)
    → Goes limits budget given middle text before between
    → ((t : List ℕ) → IsAfter limits budget given middle t → StopsAt P limits budget t number between after stop) → StopsAt P limits budget text number before after stop
stops_then P {limits = limits} {budget = budget} {text = text} number after SinkFailed first next =
    let second = next (text ++ first.more) first.is_after in
    record {
      lines = second.lines;
      slots = second.slots;
      more = first.more ++ second.more;
      are = second.are;
      replays = subst (Replays limits budget second.lines second.slots) (append_assoc text first.more second.more) second.replays;
      cuts = cuts_then first.sends second.cuts;
    }
stops_then P number after NoMemory first next = wrote_then first next
stops_then P {text = text} number after Unread first next = absurd (next (text ++ first.more) first.is_after)

-- the same of lines that are so by another fact
pub stops_as : (P Q : List Line → Type 0) (limits : Limits) (budget : ℕ) (text : List ℕ) (number : ℕ) (before after : Output) (stop : Stop) → ((lines : List Line) → P lines → Q lines)
    → StopsAt P limits budget text number before after stop → StopsAt Q limits budget text number before after stop
stops_as P Q limits budget text number before after SinkFailed by s = record { lines = s.lines; slots = s.slots; more = s.more; are = by s.lines s.are; replays = s.replays; cuts = s.cuts }
stops_as P Q limits budget text number before after NoMemory by s = record { lines = s.lines; slots = s.slots; more = s.more; are = (by s.lines s.are.0, s.are.1); replays = s.replays; sends = s.sends }
stops_as P Q limits budget text number before after Unread by never = absurd never
