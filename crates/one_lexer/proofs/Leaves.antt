-- How many bytes signs, quoted names and comments leave.
use Rattle.std.proofs.Common.{◌≤◌, ℕ, suc, ◌+◌, ◌-◌, Bool, true, false, nat_le, List, [], ◌∷◌, length, codes, arith}
use Rattle.dk_lexer.specs.declared.token.TokenKind.TheVariants as kind
use Rattle.dk_lexer.specs.declared.class.Class.{Class}
use Rattle.dk_lexer.specs.declared.class.Class.TheVariants as class
use Rattle.dk_lexer.specs.Classes.{class_of}
use Rattle.dk_lexer.specs.Spelling.{Spelling, blank, apart, behind_colon, behind_equals, behind_minus, behind_open, behind_two_minus, closes, colon_before, comment, comment_open, equals_before, long_before, minus_before, open_before, opens, pair, quoted}
use Rattle.dk_lexer.proofs.Leaves.{quoted_leaves, spelled_leaves}
use Rattle.dk_lexer.proofs.Outcomes.{Leaves, leaves_more}

-- a blank or a comment, which leaves at most so many bytes
abbrev pub IsBlank : ℕ → Spelling → Type 0
IsBlank n (blank left) = left ≤ n
IsBlank n comment_open = Unit {0}
IsBlank n _ = ⊥

-- signs that begin alike leave no more than what is behind their first byte
colon_by : (c : Class) (left : ℕ) → Leaves (suc left) (colon_before c left)
colon_by class.Equals left = omega arith
colon_by _ left = omega arith

pub colon_leaves : (bs : List ℕ) → Leaves (length bs) (behind_colon bs)
colon_leaves [] = omega arith
colon_leaves (c ∷ cs) = colon_by (class_of c) (length cs)

equals_by : (c : Class) (left : ℕ) → Leaves (suc left) (equals_before c left)
equals_by class.Greater left = omega arith
equals_by class.Equals left = omega arith
equals_by _ left = omega arith

pub equals_leaves : (bs : List ℕ) → Leaves (length bs) (behind_equals bs)
equals_leaves [] = omega arith
equals_leaves (c ∷ cs) = equals_by (class_of c) (length cs)

long_by : (c : Class) (left : ℕ) → Leaves (suc left) (long_before c left)
long_by class.Greater left = omega arith
long_by _ left = omega arith

pub two_minus_leaves : (bs : List ℕ) → Leaves (length bs) (behind_two_minus bs)
two_minus_leaves [] = omega arith
two_minus_leaves (c ∷ cs) = long_by (class_of c) (length cs)

minus_by : (c : Class) (cs : List ℕ) → Leaves (suc (length cs)) (minus_before c cs)
minus_by class.Greater cs = omega arith
minus_by class.Minus cs = leaves_more (length cs) (suc (length cs)) (behind_two_minus cs) (omega arith) (two_minus_leaves cs)
minus_by _ cs = omega arith

pub minus_leaves : (bs : List ℕ) → Leaves (length bs) (behind_minus bs)
minus_leaves [] = omega arith
minus_leaves (c ∷ cs) = minus_by (class_of c) cs

open_by : (limit : ℕ) (c : Class) (cs : List ℕ) → Leaves (suc (length cs)) (open_before limit c cs)
open_by limit class.Bar cs =
    leaves_more (length cs) (suc (length cs)) (open_before limit class.Bar cs) (omega arith) (spelled_leaves (length cs) kind.Quoted (codes "{|") (quoted limit cs) (quoted_leaves limit cs))
open_by limit _ cs = omega arith

pub open_leaves : (limit : ℕ) (bs : List ℕ) → Leaves (length bs) (behind_open limit bs)
open_leaves limit [] = omega arith
open_leaves limit (c ∷ cs) = open_by limit (class_of c) cs

-- comments
pub blank_more : (n m : ℕ) (spelling : Spelling) → n ≤ m → IsBlank n spelling → IsBlank m spelling
blank_more n m (blank left) le h = omega arith
blank_more n m comment_open le h = tt
blank_more n m _ le h = absurd h

closes_blank : (t : Bool) (bs : List ℕ) (s : Spelling) → IsBlank (length bs) s → IsBlank (suc (length bs)) (elim t [ true ↦ blank (length bs) | false ↦ s ])
closes_blank true bs s h = omega arith
closes_blank false bs s h = blank_more (length bs) (suc (length bs)) s (omega arith) h

pub comment_blank : (depth : ℕ) (last : Class) (bs : List ℕ) → IsBlank (length bs) (comment depth last bs)
comment_blank depth last [] = tt
comment_blank depth last (b ∷ bs) =
    elim (pair last (class_of b)) as (λ p. IsBlank (suc (length bs)) (elim p [
      | opens ↦ comment (depth + 1) class.Other bs
      | closes ↦ elim (nat_le depth 1) [ true ↦ blank (length bs) | false ↦ comment (depth - 1) class.Other bs ]
      | apart ↦ comment depth (class_of b) bs
    ])) [
      | opens ↦ blank_more (length bs) (suc (length bs)) (comment (depth + 1) class.Other bs) (omega arith) (comment_blank (depth + 1) class.Other bs)
      | closes ↦ closes_blank (nat_le depth 1) bs (comment (depth - 1) class.Other bs) (comment_blank (depth - 1) class.Other bs)
      | apart ↦ blank_more (length bs) (suc (length bs)) (comment depth (class_of b) bs) (omega arith) (comment_blank depth (class_of b) bs)
    ]
