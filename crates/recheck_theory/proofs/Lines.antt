-- One line and one part at the front of bytes: there is no other.
use Rattle.std.specs.Prelude.{Result, Ok, Err, IsErrAnd}
use Rattle.std.proofs.Common.{ℕ, ◌≡◌, List, [], ◌∷◌, refl, ◌∙◌, sym as flip, subst as along}
use Rattle.dk_model.specs.PlainEntries.{PlainSignature}
use Rattle.dk_model.specs.PlainCommands.{PlainCommand}
use Rattle.certificate_lines.specs.declared.line.Line.{Line}
use Rattle.certificate_lines.specs.declared.line.Line.TheVariants.{Part}
use Rattle.certificate_items.specs.declared.fault.ReadFault.{ReadFault}
use Rattle.certificate_items.specs.declared.fault.ReadFault.TheVariants.{NoItems, NoMemory as NoRoom}
use Rattle.certificate_items.specs.Texts.{BeginsWith, HasFront}
use Rattle.certificate_items.proofs.Cutting.{first_told}
use Rattle.checked_steps.specs.Items.{Item}
use Rattle.checked_steps.specs.Checked.{IsChecked}
use Rattle.recheck.specs.declared.wrong.Wrong.{Wrong}
use Rattle.recheck.specs.declared.wrong.Wrong.TheVariants.{Rejected}
use Rattle.recheck.specs.Wrongs.{read_wrong}
use Rattle.recheck_theory.specs.Answers.{IsPart}
use Rattle.recheck_theory.specs.Parts.{BeginsWithout, HasNoPart}

pub another_line : (l m : Line) (bytes behind : List ℕ) → BeginsWith (l ∷ []) bytes behind → ¬ (l ≡ m) → BeginsWithout m bytes
another_line l m bytes behind h n rest g = n (first_told l m bytes behind rest h g).0

pub another_part : (l : Line) (found number : ℕ) (bytes behind : List ℕ) → BeginsWith (l ∷ []) bytes behind → l ≡ Part found → ¬ (found ≡ number) → BeginsWithout (Part number) bytes
another_part l found number bytes behind h i n = another_line l (Part number) bytes behind h
    (λ e. let q : Part found ≡ Part number = flip i ∙ e in n (let r : found ≡ number = cc in r))

module _ {S : PlainSignature} {number : ℕ} {command : PlainCommand} {bytes : List ℕ} where
  pub without_line : BeginsWithout (Part number) bytes → HasNoPart S number command bytes
  without_line n items behind p = n p.begun p.line

  -- behind the line of a part stands one text
  begun_told : {begun behind : List ℕ} {items : List Item} → BeginsWith (Part number ∷ []) bytes begun → (p : IsPart S number command items bytes behind) → HasFront begun items behind
  begun_told {begun} {behind} {items} h p =
      along (λ z. HasFront z items behind) (first_told (Part number) (Part number) bytes p.begun begun p.line h).1 p.front

  pub without_front : {begun : List ℕ} → BeginsWith (Part number ∷ []) bytes begun → ((items : List Item) (rest : List ℕ) → ¬ HasFront begun items rest) → HasNoPart S number command bytes
  without_front h n items behind p = n items behind (begun_told h p)

  pub not_checked : {begun behind : List ℕ} {items : List Item} → BeginsWith (Part number ∷ []) bytes begun
      → ((others : List Item) (rest : List ℕ) → HasFront begun others rest → (others ≡ items) × (rest ≡ behind)) → ¬ IsChecked S command items → HasNoPart S number command bytes
  not_checked h only n others rest p = n (along (IsChecked S command) (only others rest (begun_told h p)).0 p.checked)

-- ---- the error that is passed on

pub read_rejected : {T : Type 0} (r : Result T Wrong) (e : ReadFault) → IsErrAnd r (λ y. y ≡ read_wrong e) → r ≡ Err Rejected → e ≡ NoItems
read_rejected (Ok t) e h q = cc
read_rejected (Err y) NoItems h q = refl
read_rejected (Err y) NoRoom h q = cc

pub wrong_passed : {T : Type 0} (r : Result T Wrong) (e : Wrong) → IsErrAnd r (λ y. y ≡ e) → r ≡ Err Rejected → e ≡ Rejected
wrong_passed (Ok t) e h q = cc
wrong_passed (Err y) e h q = let i : y ≡ Rejected = cc in flip h ∙ i
