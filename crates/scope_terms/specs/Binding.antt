-- For proofs: the binders above a place, and by what names are told from theirs.
use Rattle.std.specs.Prelude.{ℕ, ◌+◌, ◌*◌, ◌%◌, ◌≡◌, ◌≤◌, Some, None, List, [], ◌∷◌, ◌++◌, length, replicate, fold}
use Rattle.scope_terms.specs.Scopes.{Binder, Spelling, binds, number_from}
use Rattle.scope_terms.specs.declared.binders.Span.{Span}
use Rattle.scope_terms.specs.declared.binders.Spans.{Spans}
use Rattle.scope_terms.specs.declared.binders.Binders.{Binders, Outermost, Named', Unnamed'}

-- innermost first
abbrev pub binders : Binders → List Binder
binders Outermost = []
binders (Named' x spans c p outer passed q next) = Some x.now ∷ binders outer
binders (Unnamed' n p outer) = replicate n None ++ binders outer

abbrev pub first_byte : Spelling → ℕ
first_byte [] = 0
first_byte (c ∷ cs) = c

abbrev pub IsIn : ℕ → Span → Type 0
IsIn n s = (s.least ≤ n) × (n ≤ s.most)

-- the second has all numbers of the first, and one more
pub record Widens (s : Span) (n : ℕ) (t : Span) : Type 0 where
  pub least : t.least ≤ s.least
  pub least_new : t.least ≤ n
  pub most : s.most ≤ t.most
  pub most_new : n ≤ t.most

-- a name may be one of those of the spans
abbrev pub MayBe : Spelling → Spans → Type 0
MayBe x s = IsIn (length x) s.lengths × IsIn (first_byte x) s.firsts

-- the names among the binders may be
abbrev pub AreTold : Spans → List Binder → Type 0
AreTold s [] = Unit {0}
AreTold s (None ∷ bs) = AreTold s bs
AreTold s (Some x ∷ bs) = MayBe x s × AreTold s bs

-- one of sixteen classes; names of different classes differ
abbrev pub class_of : Spelling → ℕ
class_of x = fold (λ class byte. (class * 7 + byte % 16) % 16) 0 x

-- a name of this class is found among the last of these binders, behind so many that are passed
abbrev pub LeadsTo : ℕ → List Binder → ℕ → List Binder → Type 0
LeadsTo class bs passed last = (x : Spelling) (n : ℕ) → class_of x ≡ class → number_from n (binds x) bs ≡ number_from (n + passed) (binds x) last

-- what a binder tells of its name and of the binders outside of it
pub record Tells (x : Spelling) (s : Spans) (class : ℕ) (outer : List Binder) (passed : ℕ) (next : List Binder) : Type 0 where
  pub names : AreTold s (Some x ∷ outer)
  pub own : class ≡ class_of x
  pub link : LeadsTo class outer passed next

-- each binder of a name tells so
abbrev pub IsTold : Binders → Type 0
IsTold Outermost = Unit {0}
IsTold (Named' x s class p outer passed q next) = Tells x.now s class (binders outer) passed (binders next) × IsTold outer × IsTold next
IsTold (Unnamed' n p outer) = IsTold outer
