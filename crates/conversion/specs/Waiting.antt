-- For proofs: what waits for the normal form of a part: a stack of frames, the innermost one on top.
use Rattle.std.specs.Prelude.{ℕ, ◌≡◌, ◌<◌, ◌≤◌, ◌+◌, Option, Some, None, Result, Ok, Err, List, [], ◌∷◌, length}
use Rattle.dk_model.specs.Trees.{Tree, apply, bare, annotated, product}
use Rattle.dk_model.specs.Signatures.{PlainSignature}
use Rattle.dk_model.specs.Units.{Units, bind}
use Rattle.dk_model.specs.Parts.{each_normal}
use Rattle.dk_model.specs.Evaluation.{normal_of}
use Rattle.dk_model.specs.declared.stop.Stop.{Stop}
use Rattle.dk_model.specs.declared.stop.Stop.TheVariants.{Ended, NoMemory}
use Rattle.shared_term.specs.declared.id.TermId.{TermId}
use Rattle.shared_term.specs.Pools.{Node, term}
use Rattle.conversion.specs.declared.normal.Frame.{Frame}
use Rattle.conversion.specs.declared.normal.Frame.TheVariants.{Argument, Function, Body, Annotation, Annotated, Domain, Codomain, Conclude}
use Rattle.conversion.specs.declared.normal.Next.{Next}
use Rattle.conversion.specs.declared.normal.Next.TheVariants.{Part, Head}
use Rattle.conversion.specs.declared.normal.OpenPart.{OpenPart}
use Rattle.conversion.specs.declared.normal.Normalised.{Normalised}
use Rattle.conversion.specs.declared.normal.Normalised.TheVariants.{Told, Asks}

-- a frame is about terms of a pool of so many nodes
abbrev pub IsFrame : ℕ → Frame → Type 0
IsFrame n (Argument a) = a.0 < n
IsFrame n (Function f) = f.0 < n
IsFrame n Body = Unit {0}
IsFrame n (Annotation b) = b.0 < n
IsFrame n (Annotated a) = a.0 < n
IsFrame n (Domain b) = b.0 < n
IsFrame n (Codomain a) = a.0 < n
IsFrame n (Conclude t before) = t.0 < n

abbrev pub AreFrames : ℕ → List Frame → Type 0
AreFrames n [] = Unit {0}
AreFrames n (f ∷ fs) = IsFrame n f × AreFrames n fs

-- the normal form of what waits, where its part has the normal form `v`
abbrev pub continued : PlainSignature → List Node → Frame → Tree → ℕ → Units Tree
continued S ns (Argument a) v n = bind (normal_of S n (term ns a)) (λ b m. Some (apply v b, m))
continued S ns (Function f) v n = Some (apply (term ns f) v, n)
continued S ns Body v n = Some (bare v, n)
continued S ns (Annotation b) v n = bind (normal_of S n (term ns b)) (λ c m. Some (annotated v c, m))
continued S ns (Annotated a) v n = Some (annotated (term ns a) v, n)
continued S ns (Domain b) v n = bind (normal_of S n (term ns b)) (λ c m. Some (product v c, m))
continued S ns (Codomain a) v n = Some (product (term ns a) v, n)
continued S ns (Conclude t before) v n = Some (v, n)

-- the normal form for which the first of these waits, where the last one gets `x`
abbrev pub resumed : PlainSignature → List Node → List Frame → Units Tree → Units Tree
resumed S ns [] x = x
resumed S ns (f ∷ fs) x = bind (resumed S ns fs x) (continued S ns f)

-- a term that is still to be concluded has the normal form that its frame gets, and no more units are left than it had
abbrev pub IsWaiting : PlainSignature → List Node → Units Tree → ℕ → Frame → Type 0
IsWaiting S ns x left (Conclude t before) = (normal_of S before (term ns t) ≡ x) × (left ≤ before)
IsWaiting S ns x left f = Unit {0}

abbrev pub AreWaiting : PlainSignature → List Node → Units Tree → ℕ → List Frame → Type 0
AreWaiting S ns x left [] = Unit {0}
AreWaiting S ns x left (f ∷ fs) = IsWaiting S ns (resumed S ns fs x) left f × AreWaiting S ns x left fs

-- a normal form `due` that is under way, with so many units left, where the innermost frame gets `x`
pub record IsResumed (S : PlainSignature) (ns : List Node) (due x : Units Tree) (left : ℕ) (fs : List Frame) : Type 0 where
  pub frames : AreFrames (length ns) fs
  pub comes : due ≡ resumed S ns fs x
  pub waiting : AreWaiting S ns x left fs

-- a normal form that is there, with the units left
abbrev pub value_due : List Node → TermId → ℕ → Units Tree
value_due ns v left = Some (term ns v, left)

-- what the innermost frame gets
abbrev pub next_due : PlainSignature → List Node → Next → ℕ → Units Tree
next_due S ns (Part t) left = normal_of S left (term ns t)
next_due S ns (Head h) left = value_due ns h left

abbrev pub IsNext : ℕ → Next → Type 0
IsNext n (Part t) = t.0 < n
IsNext n (Head h) = h.0 < n

-- a weak head form is taken apart, whatever waits for its normal parts
abbrev pub TakesValueApart : List Node → Tree → List Frame → Next → List Frame → Type 0
TakesValueApart ns value old next new = IsNext (length ns) next × ((S : PlainSignature) (due : Units Tree) (left : ℕ)
    → IsResumed S ns due (each_normal (normal_of S) value left) left old → IsResumed S ns due (next_due S ns next left) left new)

-- whether it may take no unit
abbrev pub next_rank : Next → ℕ
next_rank (Part t) = 0
next_rank (Head h) = 1

-- the normal form of a part is there at once; or its weak head form is to be taken apart, with a unit less
abbrev pub MeetsPart : PlainSignature → List Node → TermId → ℕ → Result (Option TermId) Stop → ℕ → Type 0
MeetsPart S ns t n (Ok (Some v)) left = (normal_of S n (term ns t) ≡ value_due ns v left) × (v.0 < length ns)
MeetsPart S ns t n (Ok None) left = left + 1 ≡ n
MeetsPart S ns t n (Err Ended) left = (normal_of S n (term ns t) ≡ None) × (left ≡ 0)
MeetsPart S ns t n (Err NoMemory) left = Unit {0}

-- the normal form `due` is under way, and the weak head form of this part is to be taken apart next
pub record IsOpenPart (S : PlainSignature) (ns : List Node) (due : Units Tree) (fs : List Frame) (p : OpenPart) : Type 0 where
  pub way : IsResumed S ns due (normal_of S p.before (term ns p.part)) p.before fs
  pub part : p.part.0 < length ns
  pub some : 0 < p.before

-- the normal form `due` is told, or waits
abbrev pub GivesNormal : PlainSignature → Units Tree → List Node → Result Normalised Stop → List Frame → ℕ → Type 0
GivesNormal S due ns (Ok (Told v)) fs left = (due ≡ value_due ns v left) × (v.0 < length ns)
GivesNormal S due ns (Ok (Asks p)) fs left = IsOpenPart S ns due fs p × (left + 1 ≡ p.before)
GivesNormal S due ns (Err Ended) fs left = (due ≡ None) × (left ≡ 0)
GivesNormal S due ns (Err NoMemory) fs left = Unit {0}

-- a unit was taken where it waits
abbrev pub asks_rank : Normalised → ℕ
asks_rank (Told v) = 0
asks_rank (Asks p) = 1
