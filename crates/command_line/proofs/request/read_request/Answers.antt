use Rattle.std.proofs.Common.{◌≡◌, ◌∙◌, List, Option, Some, None, ap, inl, inr, is_some, map, option_map, refl, subst, sym, true, true≢false}
use Rattle.std.specs.Prelude.{IsSome}
use Rattle.std.specs.Option.{option_and_then}
use Rattle.std.specs.String.{string_bytes}
use Rattle.clap.specs.Kinds.{HasKind, IsAmong}
use Rattle.clap.specs.Words.{Text, fault_of, kind_of}
use Rattle.clap.specs.declared.error.Error.{Error}
use Rattle.clap.specs.declared.error.kind.ErrorKind.TheVariants.{OutOfMemory}
use Rattle.command_line.specs.Words.{program}
use Rattle.command_line.specs.Requests.{request_in, request_of}
use Rattle.command_line.specs.Views.{IsTaken, plain_request}
use Rattle.command_line.proofs.RequestParts.{asked_by, is_simple_program, refused_by}
use Rattle.command_line.proofs.TakenWords.{taken_asks}
use Rattle.command_line.proofs.request.read_request.Goals as goal

-- another error than want of memory comes of words that clap refuses
refused : (words : List Text) (e : Error) → HasKind (fault_of program words) e → (kind_of e ≡ OutOfMemory → ⊥) → None ≡ request_of words
refused words e has other = elim has [
  | inl memory ↦ absurd (other memory)
  | inr among ↦ sym (refused_by words (fault_of program words) (kind_of e) refl among)
]

-- and has a kind of a fault
not_taken : (words : List Text) (e : Error) → HasKind (fault_of program words) e → (kind_of e ≡ OutOfMemory → ⊥) → IsTaken words → ⊥
not_taken words e has other taken = elim has [
  | inl memory ↦ other memory
  | inr among ↦ subst (IsAmong (kind_of e)) taken among
]

some_from : {X Y : Type 0} (f : X → Y) (o : Option X) (v : Option Y) → option_map f o ≡ v → is_some v ≡ true → IsSome o
some_from f None v is some = absurd (true≢false (sym (ap is_some is ∙ some)))
some_from f (Some x) v is some = refl

pub returns-in-Ok-clause-ok : goal.returns-in-Ok-clause-ok
returns-in-Ok-clause-ok c =
    let texts = map string_bytes c.args.words.now in
    let found = c.in-Ok.ensures in
    c.asked.ensures.value
    ∙ (ap (option_and_then request_in) (found.matches is_simple_program).1 ∙ sym (asked_by texts found.faults))

pub returns-in-Ok-clause-taken : goal.returns-in-Ok-clause-taken
returns-in-Ok-clause-taken c =
    let texts = map string_bytes c.args.words.now in
    let found = c.in-Ok.ensures in
    let asks = c.asked.ensures.value ∙ ap (option_and_then request_in) (found.matches is_simple_program).1 in
    ((λ some. found.faults), (λ taken. some_from plain_request c.asked.result _ asks (taken_asks texts found.faults)))

pub returns : goal.returns
returns c =
    let texts = map string_bytes c.args.words.now in
    let other : kind_of c.in-Err.error ≡ OutOfMemory → ⊥ = λ memory. c.in_default.not-OutOfMemory (c.kind.ensures ∙ memory) in
    record {
      ok = refused texts c.in-Err.error c.in-Err.ensures.faults other;
      taken = ((λ none. absurd (true≢false (sym none))), (λ taken. absurd (not_taken texts c.in-Err.error c.in-Err.ensures.faults other taken)));
      bounds = tt;
    }
