-- The parts so far, one after the other.
use Rattle.std.specs.Prelude.{Option, Ok, Err}
use Rattle.std.proofs.Common.{ℕ, ◌+◌, ◌≡◌, List, [], ◌∷◌, ◌++◌, length, refl, ap, ◌∙◌, sym as flip, subst as along, arith, append_assoc, length-append}
use Rattle.dk_io.specs.Bytes.{AddsSome}
use Rattle.dk_io.specs.Gathered.{Moves, Gathers}
use Rattle.dk_io.proofs.Gather.{gathers_then, moves_then}
use Rattle.dk_model.specs.PlainEntries.{PlainSignature}
use Rattle.dk_model.specs.PlainCommands.{PlainCommand}
use Rattle.dk_model.specs.Verdicts.{verdict_of, entry_of, inferred_type}
use Rattle.dk_model.specs.declared.code.Verdict.TheVariants.{Accepted, Refused as Rejected, Ended as Over}
use Rattle.dk_model.specs.declared.stop.TypeFault.{TypeFault}
use Rattle.dk_model.specs.declared.stop.TypeFault.TheVariants.{Refused, Ended, NoMemory as NoRoom}
use Rattle.certificate_lines.specs.declared.line.Line.TheVariants.{First, Part}
use Rattle.certificate_items.specs.declared.item.Item.{Item as CodeItem}
use Rattle.certificate_items.specs.Texts.{AreShort, lines_of, lines_text}
use Rattle.certificate_items.specs.Views.{plain_items}
use Rattle.certificate_text.proofs.Texts.{short_append}
use Rattle.checked_steps.specs.Items.{Item}
use Rattle.checked_steps.specs.Checked.{IsChecked}
use Rattle.checked_steps.specs.Certificates.{AreChecked, none_checked, one_checked, IsCertificate, type_by_items}
use Rattle.checked_steps.specs.Laws.{AreAccepted, one_accepted}
use Rattle.told_items.specs.Faults.{IsFaultOf}
use Rattle.certify_theory.specs.Parts.{first_lines, AreFirstParts}
use Rattle.certify_theory.specs.Faults.{fault_at}
use Rattle.certify_theory.specs.Putting.{IsNext, PutAll, PutParts, PutFront, StopsBy}
use Rattle.certify_theory.proofs.Lines.{append_none, first_more, text_more}

-- ---- commands that are checked, and the signature behind them

pub data Reached : PlainSignature → List PlainCommand → List (List Item) → PlainSignature → Type 0 where
  none_reached : {S : PlainSignature} → Reached S [] [] S
  one_reached : {S T : PlainSignature} {command : PlainCommand} {items : List Item} {commands : List PlainCommand} {parts : List (List Item)}
      → IsChecked S command items → Reached (S ++ (entry_of S command (type_by_items S command items) ∷ [])) commands parts T → Reached S (command ∷ commands) (items ∷ parts) T

reached_checked : {S T : PlainSignature} {commands : List PlainCommand} {parts : List (List Item)} → Reached S commands parts T → AreChecked S commands parts
reached_checked none_reached = none_checked
reached_checked (one_reached e rest) = one_checked e (reached_checked rest)

reached_more : {S T : PlainSignature} {commands : List PlainCommand} {parts : List (List Item)} → Reached S commands parts T → (command : PlainCommand) (items : List Item) → IsChecked T command items
    → Reached S (commands ++ (command ∷ [])) (parts ++ (items ∷ [])) (T ++ (entry_of T command (type_by_items T command items) ∷ []))
reached_more none_reached command items e = one_reached e none_reached
reached_more (one_reached d rest) command items e = one_reached d (reached_more rest command items e)

accepted_next : {budget : ℕ} {S : PlainSignature} {command : PlainCommand} {commands : List PlainCommand} → AreAccepted budget S (command ∷ commands)
    → (verdict_of S command budget ≡ Accepted) × AreAccepted budget (S ++ (entry_of S command (inferred_type S command budget) ∷ [])) commands
accepted_next (one_accepted e rest) = (e, rest)

pub of_listed : {budget : ℕ} {S T : PlainSignature} {command : PlainCommand} (items listed : List CodeItem) → IsNext budget S command (plain_items items) T → listed ≡ items
    → IsNext budget S command (plain_items listed) T
of_listed {budget} {S} {T} {command} items listed next e = along (λ (l : List CodeItem). IsNext budget S command (plain_items l) T) (flip e) next

-- ---- what was put so far

pub record SoFar (budget : ℕ) (S : PlainSignature) (left : List PlainCommand) (done : ℕ) (commands : List PlainCommand) (a : Option (List ℕ)) (w : List ℕ) (b : Option (List ℕ)) (x : List ℕ) : Type 0 where
  pub parts : List (List Item)
  pub first : List PlainCommand
  pub split : commands ≡ first ++ left
  pub reached : Reached [] first parts S
  pub count : length parts ≡ done
  pub short : AreShort (first_lines parts)
  pub moves : Moves a w b x (lines_text (first_lines parts))
  pub accepted : AreAccepted budget [] commands → AreAccepted budget S left

no_parts : (commands : List PlainCommand) → AreFirstParts commands []
no_parts commands = record { first = []; others = commands; split = refl; certificate = none_checked }

module _ {E : Type 0} {a b : Option (List ℕ)} {w x : List ℕ} where
  -- behind the first line
  pub none_so_far : (budget : ℕ) (S : PlainSignature) (commands : List PlainCommand) → S ≡ [] → Gathers {E = E} a w b x (lines_text (First ∷ [])) (Ok tt) → SoFar budget S commands 0 commands a w b x
  none_so_far budget S commands e put = record {
    parts = [];
    first = [];
    split = refl;
    reached = along (λ z. Reached [] [] [] z) (flip e) none_reached;
    count = refl;
    short = (tt, tt);
    moves = put.whole;
    accepted = λ h. along (λ z. AreAccepted budget z commands) (flip e) h;
  }

  pub stops_first : (commands : List PlainCommand) → Gathers {E = E} a w b x (lines_text (First ∷ [])) (Ok tt) → PutParts commands 1 a w b x
  stops_first commands put = record { parts = []; firsts = no_parts commands; count = refl; short = (tt, tt); moves = put.whole }

  pub fails_first : {e : E} (commands : List PlainCommand) → Gathers {E = E} a w b x (lines_text (First ∷ [])) (Err e) → PutFront commands a w b
  fails_first commands put = record { parts = []; firsts = no_parts commands; front = put.front }

module _ {budget done : ℕ} {S : PlainSignature} {left commands : List PlainCommand} {a b : Option (List ℕ)} {w x : List ℕ} (so_far : SoFar budget S left done commands a w b x) where
  firsts_here : AreFirstParts commands so_far.parts
  firsts_here = record { first = so_far.first; others = left; split = so_far.split; certificate = reached_checked so_far.reached }

  parts_put : (number : ℕ) → number ≡ done + 1 → PutParts commands number a w b x
  parts_put number n = record { parts = so_far.parts; firsts = firsts_here; count = omega (arith, n, so_far.count); short = so_far.short; moves = so_far.moves }

  -- all commands
  pub all_put : left ≡ [] → PutAll commands a w b x
  all_put e = record {
    parts = so_far.parts;
    certificate = along (λ z. IsCertificate z so_far.parts) (flip (so_far.split ∙ ap (λ t. so_far.first ++ t) e ∙ append_none so_far.first)) (reached_checked so_far.reached);
    short = so_far.short;
    moves = so_far.moves;
  }

  module _ {command : PlainCommand} {others : List PlainCommand} (l : left ≡ command ∷ others) (number : ℕ) (n : number ≡ done + 1) where
    is_accepted : AreAccepted budget [] commands → (verdict_of S command budget ≡ Accepted) × AreAccepted budget (S ++ (entry_of S command (inferred_type S command budget) ∷ [])) others
    is_accepted h = accepted_next (along (λ z. AreAccepted budget S z) l (so_far.accepted h))

    -- the next command is at fault
    pub stops : (fault : TypeFault) → IsFaultOf (verdict_of S command budget) fault → StopsBy budget commands a w b x (fault_at number fault)
    stops (Refused code) v =
        let d : verdict_of S command budget ≡ Rejected code = v in
        ((λ h. let e : verdict_of S command budget ≡ Accepted = (is_accepted h).0 in cc), parts_put number n)
    stops Ended v =
        let d : verdict_of S command budget ≡ Over = v in
        ((λ h. let e : verdict_of S command budget ≡ Accepted = (is_accepted h).0 in cc), parts_put number n)
    stops NoRoom v = parts_put number n

    module _ {items : List Item} {T : PlainSignature} (next : IsNext budget S command items T) where
      split_more : commands ≡ (so_far.first ++ (command ∷ [])) ++ others
      split_more = so_far.split ∙ ap (λ t. so_far.first ++ t) l ∙ flip (append_assoc so_far.first (command ∷ []) others)

      reached_next : Reached [] (so_far.first ++ (command ∷ [])) (so_far.parts ++ (items ∷ [])) T
      reached_next = along (λ z. Reached [] (so_far.first ++ (command ∷ [])) (so_far.parts ++ (items ∷ [])) z) (flip next.by_items) (reached_more so_far.reached command items next.checked)

      number_is : number ≡ length so_far.parts + 1
      number_is = omega (arith, n, so_far.count)

      -- its part is put
      pub goes_on : {E : Type 0} {c : Option (List ℕ)} {y : List ℕ} → Gathers {E = E} b x c y (lines_text (Part number ∷ lines_of items)) (Ok tt) → AreShort (Part number ∷ lines_of items)
          → SoFar budget T others (done + 1) commands a w c y
      goes_on {E} {c} {y} put s = record {
        parts = so_far.parts ++ (items ∷ []);
        first = so_far.first ++ (command ∷ []);
        split = split_more;
        reached = reached_next;
        count = omega (arith, length-append so_far.parts (items ∷ []), so_far.count);
        short = along AreShort (flip (first_more so_far.parts items number number_is)) (short_append (first_lines so_far.parts) (Part number ∷ lines_of items) so_far.short s);
        moves = along (λ (t : List ℕ). Moves a w c y t) (flip (text_more so_far.parts items number number_is)) (moves_then so_far.moves put.whole);
        accepted = λ h. along (λ z. AreAccepted budget z others) (flip next.by_units) (is_accepted h).1;
      }

      -- or a front of it
      pub fails : {E : Type 0} {c : Option (List ℕ)} {y : List ℕ} {e : E} → Gathers {E = E} b x c y (lines_text (Part number ∷ lines_of items)) (Err e) → PutFront commands a w c
      fails {E} {c} {y} {e} put =
          let both : Gathers {E = E} a w c y (lines_text (first_lines so_far.parts) ++ lines_text (Part number ∷ lines_of items)) (Err e) =
          gathers_then (record { whole = so_far.moves; front = tt }) put in
          record {
            parts = so_far.parts ++ (items ∷ []);
            firsts = record { first = so_far.first ++ (command ∷ []); others = others; split = split_more; certificate = reached_checked reached_next };
            front = along (λ (t : List ℕ). AddsSome a c (w ++ t)) (flip (text_more so_far.parts items number number_is)) both.front;
          }
