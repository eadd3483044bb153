-- What clap's getters read of a row is what the request takes from it.
use Rattle.std.proofs.Common.{◌≡◌, ◌∙◌, ◌<◌, ◌≤◌, ◌^◌, ◌⊎◌, inl, inr, ap, ℕ, Bool, true, false, Option, Some, None, Result, Ok, Err, refl, sym, arith, cond, codes, nat_le, true≢false}
use Rattle.std.specs.Option.{option_and_then, option_map_or, unwrap_or}
use Rattle.std.proofs.lemmas.Bool.{le-leb, leb-true}
use Rattle.std.specs.Str.Parse.{IsNumeral, ParsesBool, ParsesUnsigned, digits_value, without_leading_plus}
use Rattle.std.proofs.lemmas.Slice.Eq.{bytes_eq-Decides}
use Rattle.clap.specs.Matches.{ReadsOne}
use Rattle.clap.specs.Walk.{Text}
use Rattle.clap.specs.Values.{IsUnsignedIn}
use Rattle.clap.specs.ValueTests.{accepts}
use Rattle.clap.proofs.ValueTestLemmas.{accepts-Accepts, Accepts-accepts}
use Rattle.clap.specs.declared.builder.value_parser.ValueParser.{ValueParser}
use Rattle.clap.specs.declared.builder.value_parser.ValueParser.TheVariants as vp
use Rattle.command_line.specs.Requests.{is_true, number_of}

-- the flag is set where its text is `true`
pub flag_read : (E : Type 0) (o : Option Text) (r : Option Bool) → (o ≡ None → r ≡ None)
    → ((t : Text) → o ≡ Some t → ReadsOne {E = E} ParsesBool t r) → unwrap_or r false ≡ option_map_or is_true o false
flag_read E None r none value = ap (λ x. unwrap_or x false) (none refl)
flag_read E (Some t) r none value = go r (value t refl)
  where
    no : (b : Bool) → is_true t ≡ b → (t ≡ codes "true" → ⊥) → false ≡ is_true t
    no true e other = absurd (other ((bytes_eq-Decides t (codes "true")).0 e))
    no false e other = sym e

    go : (x : Option Bool) → ReadsOne {E = E} ParsesBool t x → unwrap_or x false ≡ is_true t
    go (Some true) h = sym ((bytes_eq-Decides t (codes "true")).1 h)
    go (Some false) h = sym (ap is_true h)
    go None h = no (is_true t) refl h.1.0

-- the numbers from 1 to the most
abbrev up_to : ℕ → ValueParser
up_to most = vp.Unsigned 1 most

-- the number is kept where it lies in the bounds
abbrev pub kept : ℕ → ℕ → Option ℕ
kept most n = cond (nat_le 1 n) (cond (nat_le n most) (Some n) None) None

pub kept-inside : (most n : ℕ) → 1 ≤ n → n ≤ most → kept most n ≡ Some n
kept-inside most n low high = rw (le-leb 1 n low, le-leb n most high) refl

pub kept-outside : (most n : ℕ) → ((1 ≤ n) × (most < n)) ⊎ (n < 1) → kept most n ≡ None
kept-outside most n out = go (nat_le 1 n) refl (nat_le n most) refl
  where
    go : (low : Bool) → nat_le 1 n ≡ low → (high : Bool) → nat_le n most ≡ high → kept most n ≡ None
    go false a high b = rw a refl
    go true a false b = rw (a, b) refl
    go true a true b =
        let low = leb-true 1 n a in
        let high = leb-true n most b in
        elim out [
          | inl h ↦ let above = h.1 in absurd (omega arith)
          | inr h ↦ absurd (omega arith)
        ]

module _ (most : ℕ) where
  fits : (t : Text) (n : ℕ) → IsUnsignedIn 1 most t → n ≡ digits_value 10 (without_leading_plus t) → number_of (up_to most) t ≡ Some n
  fits t n h is = rw (Accepts-accepts false (up_to most) t h) (ap Some (sym is))

  fails : (t : Text) → (IsUnsignedIn 1 most t → ⊥) → number_of (up_to most) t ≡ None
  fails t h = go (accepts false (up_to most) t) refl
    where
      go : (b : Bool) → accepts false (up_to most) t ≡ b → number_of (up_to most) t ≡ None
      go true e = absurd (h (accepts-Accepts false (up_to most) t e))
      go false e = rw e refl

  one_read : (E : Type 0) (t : Text) (r : Option ℕ) (G : Text → Result ℕ E → Type 0) → ((x : Result ℕ E) → G t x → ParsesUnsigned 64 10 t x)
      → ReadsOne G t r → number_of (up_to most) t ≡ option_and_then (kept most) r
  one_read E t None G only h = fails t (λ i. only (Err h.0) h.1 (i.0, i.1))
  one_read E t (Some n) G only h = go (nat_le 1 n) refl (nat_le n most) refl
    where
      number : Text → ℕ
      number text = digits_value 10 (without_leading_plus text)

      parsed : (IsNumeral 10 (without_leading_plus t) × (number t < 2 ^ 64)) × (n ≡ number t)
      parsed = only (Ok n) h

      low_is : IsUnsignedIn 1 most t → nat_le 1 n ≡ true
      low_is i = ap (nat_le 1) parsed.1 ∙ le-leb 1 (number t) i.2

      high_is : IsUnsignedIn 1 most t → nat_le n most ≡ true
      high_is i = ap (λ m. nat_le m most) parsed.1 ∙ le-leb (number t) most i.3

      go : (low : Bool) → nat_le 1 n ≡ low → (high : Bool) → nat_le n most ≡ high → number_of (up_to most) t ≡ kept most n
      go true a true b =
          rw (a, b) (fits t n (
            parsed.0.0,
            parsed.0.1,
            leb-true 1 (number t) (ap (nat_le 1) (sym parsed.1) ∙ a),
            leb-true (number t) most (ap (λ m. nat_le m most) (sym parsed.1) ∙ b),
          ) parsed.1)
      go true a false b = rw (a, b) (fails t (λ i. true≢false (sym (high_is i) ∙ b)))
      go false a high b = rw a (fails t (λ i. true≢false (sym (low_is i) ∙ a)))

  pub number_read : {E : Type 0} (o : Option Text) (r : Option ℕ) (G : Text → Result ℕ E → Type 0)
      → ((t : Text) (x : Result ℕ E) → G t x → ParsesUnsigned 64 10 t x)
      → (o ≡ None → r ≡ None) → ((t : Text) → o ≡ Some t → ReadsOne G t r) → option_and_then (number_of (up_to most)) o ≡ option_and_then (kept most) r
  number_read None r G only none value = sym (ap (option_and_then (kept most)) (none refl))
  number_read {E} (Some t) r G only none value = one_read E t r G (only t) (value t refl)
