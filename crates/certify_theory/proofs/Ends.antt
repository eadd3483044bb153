-- What the sink has taken in the end.
use Rattle.std.specs.Prelude.{Option, Result, Ok, Err}
use Rattle.std.proofs.Common.{ℕ, ◌≡◌, List, [], ◌∷◌, ◌++◌, ap, ◌∙◌, sym as flip, subst as along, append_assoc}
use Rattle.dk_io.specs.Bytes.{added, AddsSome}
use Rattle.dk_io.specs.Writing.{Wrote}
use Rattle.dk_io.specs.Gathered.{Moves, Gathers}
use Rattle.dk_io.proofs.Adds.{added-added}
use Rattle.dk_io.proofs.Gather.{moves_stop, wrote_whole}
use Rattle.dk_model.specs.PlainCommands.{PlainCommand}
use Rattle.certificate_lines.specs.declared.line.Line.TheVariants.{Last}
use Rattle.certificate_items.specs.Texts.{AreShort, lines_text}
use Rattle.certificate_text.proofs.Texts.{short_append}
use Rattle.recheck_theory.specs.Laws.{certificate_lines}
use Rattle.checked_steps.specs.Items.{Item}
use Rattle.checked_steps.specs.Laws.{AreAccepted}
use Rattle.certify_theory.specs.declared.fault.CertifyFault.{CertifyFault}
use Rattle.certify_theory.specs.declared.fault.CertifyFault.TheVariants.{NotAccepted, Failed, NoMemory}
use Rattle.certify_theory.specs.Parts.{first_lines}
use Rattle.certify_theory.specs.Ends.{TakesCertificate, TakesParts, TakesFront, of_parts, of_all}
use Rattle.certify_theory.specs.Putting.{PutAll, PutParts, PutFront, StopsBy}
use Rattle.certify_theory.proofs.Lines.{certificate_whole, text_whole}

moves_then_rest : {a b : Option (List ℕ)} {w x s : List ℕ} → Moves a w b x s → (t : List ℕ) → Moves a (w ++ s) b (x ++ t) t
moves_then_rest {x} first t = record {
  front = first.front;
  parts = ap (λ u. u ++ t) first.parts ∙ append_assoc first.front x t;
  taken = first.taken;
}

adds_after : {a b c : Option (List ℕ)} {w x s : List ℕ} (t : List ℕ) → Moves a w b x s → AddsSome b c (x ++ t) → AddsSome a c (w ++ (s ++ t))
adds_after {a} {b} {c} {w} {x} {s} t first some = along (λ (u : List ℕ). AddsSome a c u) (append_assoc w s t) (moves_stop (moves_then_rest first t) some)

-- a text went through the buffer, and then all that waited with one more was written
wrote_after : {E : Type 0} {a b c : Option (List ℕ)} {w x s : List ℕ} (t : List ℕ) (r : Result (Unit {0}) E) → Moves a w b x s → Wrote {E = E} b c (x ++ t) r → Wrote {E = E} a c (w ++ (s ++ t)) r
wrote_after {E} {a} {b} {c} {w} {x} {s} t (Ok u) first second = record {
  whole =
      second.whole ∙ ap (λ o. added o (x ++ t)) first.taken ∙ added-added a first.front (x ++ t)
      ∙ ap (added a) (flip (append_assoc first.front x t) ∙ ap (λ v. v ++ t) (flip first.parts) ∙ append_assoc w s t);
  front = tt;
}
wrote_after t (Err e) first second = record { whole = tt; front = adds_after t first second.front }

-- a text was put, and then all that waits was written
pub wrote_behind : {E : Type 0} {a b c : Option (List ℕ)} {w x s : List ℕ} (r : Result (Unit {0}) E) → Gathers {E = E} a w b x s (Ok tt) → Wrote {E = E} b c x r → Wrote {E = E} a c (w ++ s) r
wrote_behind {E} {a} {b} {c} {w} {x} {s} (Ok u) first second = record {
  whole =
      second.whole ∙ ap (λ o. added o x) first.whole.taken ∙ added-added a first.whole.front x
      ∙ ap (added a) (flip first.whole.parts);
  front = tt;
}
wrote_behind (Err e) first second = record { whole = tt; front = moves_stop first.whole second.front }

pub front_taken : {commands : List PlainCommand} {a c : Option (List ℕ)} {w : List ℕ} → w ≡ [] → PutFront commands a w c → TakesFront commands a c
front_taken {commands} {a} {c} empty put =
    of_parts put.parts put.firsts (along (λ (t : List ℕ). AddsSome a c t) (ap (λ v. v ++ lines_text (first_lines put.parts)) empty) put.front)

-- the numbers of the last line aren't any
whole_short : (parts : List (List Item)) → AreShort (first_lines parts) → AreShort (certificate_lines parts)
whole_short parts short = along AreShort (flip (certificate_whole parts)) (short_append (first_lines parts) (Last ∷ []) short (tt, tt))

module _ {E : Type 0} {commands : List PlainCommand} {a b c : Option (List ℕ)} {w x : List ℕ} (empty : w ≡ []) where
  -- all commands, and the last line behind them
  pub certificate_taken : PutAll commands a w b x → Wrote {E = E} b c (x ++ lines_text (Last ∷ [])) (Ok tt) → TakesCertificate commands a c
  certificate_taken put last =
      let both : Wrote {E = E} a c (w ++ (lines_text (first_lines put.parts) ++ lines_text (Last ∷ []))) (Ok tt) =
      wrote_after (lines_text (Last ∷ [])) (Ok tt) put.moves last in
      record {
        parts = put.parts;
        certificate = put.certificate;
        short = whole_short put.parts put.short;
        taken =
            both.whole ∙ ap (λ v. added a (v ++ (lines_text (first_lines put.parts) ++ lines_text (Last ∷ [])))) empty
            ∙ ap (added a) (flip (text_whole put.parts));
      }

  pub certificate_cut : {e : E} → PutAll commands a w b x → Wrote {E = E} b c (x ++ lines_text (Last ∷ [])) (Err e) → TakesFront commands a c
  certificate_cut {e} put last =
      let both : Wrote {E = E} a c (w ++ (lines_text (first_lines put.parts) ++ lines_text (Last ∷ []))) (Err e) = wrote_after (lines_text (Last ∷ [])) (Err e) put.moves last in
      of_all put.parts put.certificate (whole_short put.parts put.short)
      (along (λ (t : List ℕ). AddsSome a c t) (ap (λ v. v ++ (lines_text (first_lines put.parts) ++ lines_text (Last ∷ []))) empty ∙ flip (text_whole put.parts)) both.front)

  -- the parts before a command, all that waited of which was written, or not
  pub parts_taken : (number : ℕ) → PutParts commands number a w b x → Wrote {E = E} b c x (Ok tt) → TakesParts commands number a c
  parts_taken number put rest =
      let both : Wrote {E = E} a c (lines_text (first_lines put.parts)) (Ok tt) = wrote_whole empty (record { whole = put.moves; front = tt }) rest in
      record { parts = put.parts; firsts = put.firsts; count = put.count; short = put.short; taken = both.whole }

  pub parts_cut : {e : E} (number : ℕ) → PutParts commands number a w b x → Wrote {E = E} b c x (Err e) → TakesFront commands a c
  parts_cut {e} number put rest =
      let both : Wrote {E = E} a c (lines_text (first_lines put.parts)) (Err e) = wrote_whole empty (record { whole = put.moves; front = tt }) rest in
      of_parts put.parts put.firsts both.front

-- where the sink failed before
pub failed_taken : (budget : ℕ) (commands : List PlainCommand) (a : Option (List ℕ)) {c : Option (List ℕ)} {w : List ℕ} (x : List ℕ) → w ≡ [] → (fault : CertifyFault) → StopsBy budget commands a w c x fault → fault ≡ Failed → TakesFront commands a c
failed_taken budget commands a {c} {w} x empty fault put is = front_taken empty (along (λ (f : CertifyFault). StopsBy budget commands a w c x f) is put)

-- the same where a fault tells which command it is
module _ {E : Type 0} (budget : ℕ) (commands : List PlainCommand) (a : Option (List ℕ)) {b c : Option (List ℕ)} {w x : List ℕ} (empty : w ≡ []) {e : E} where
  pub not_accepted_cut : (fault : CertifyFault) (number : ℕ) → StopsBy budget commands a w b x fault → fault ≡ NotAccepted number → Wrote {E = E} b c x (Err e) → TakesFront commands a c
  not_accepted_cut fault number put is rest =
      let p : (¬ AreAccepted budget [] commands) × PutParts commands number a w b x = along (λ (f : CertifyFault). StopsBy budget commands a w b x f) is put in
      parts_cut empty number p.1 rest

  pub no_memory_cut : (fault : CertifyFault) (number : ℕ) → StopsBy budget commands a w b x fault → fault ≡ NoMemory number → Wrote {E = E} b c x (Err e) → TakesFront commands a c
  no_memory_cut fault number put is rest =
      let p : PutParts commands number a w b x = along (λ (f : CertifyFault). StopsBy budget commands a w b x f) is put in
      parts_cut empty number p rest
