-- For callers: what reading the next spelling comes to.
use Rattle.std.specs.Prelude.{◌≡◌, ◌≤◌, ◌<◌, ℕ, Bool, true, false, List, [], ◌∷◌, ◌++◌, Option, None, IfSome}
use Rattle.dk_model.specs.declared.limits.Limits.{Limits}
use Rattle.dk_lexer.specs.declared.token.Token.{Token}
use Rattle.dk_lexer.specs.declared.place.Place.{Place}
use Rattle.dk_lexer.specs.Tokens.{broken, nothing_at, token_at, tokens}
use Rattle.one_lexer.specs.declared.found.Front.{Front}
use Rattle.one_lexer.specs.declared.found.Found.TheVariants as found
use Rattle.one_lexer.specs.declared.found.Found.{Found}
use Rattle.one_lexer.specs.declared.next.Spelt.{Spelt}
use Rattle.one_lexer.specs.declared.next.Standing.{Standing}
use Rattle.one_lexer.specs.declared.next.Next.{Next}
use Rattle.one_lexer.specs.declared.next.Next.TheVariants as next
use Rattle.one_lexer.specs.Reading.{Fails, Reads, ReadsComment, adds, last_of}

-- the token that is spelt so
abbrev pub token_of : Spelt → Token
token_of spelt = token_at spelt.here spelt.kind spelt.text.now

-- what is begun and isn't settled gives nothing yet; its line is that of its first byte
abbrev pub GivesNothing : Limits → List ℕ → List Token → Place → Type 0
GivesNothing limits before ts here = tokens limits before broken ≡ adds ts (nothing_at here)

abbrev pub Comes : Bool → Limits → List ℕ → List Token → Standing → List ℕ → Next → Type 0
Comes over limits before ts at bytes (next.Token spelt behind left) = Reads over limits before (ts ++ token_of spelt ∷ []) behind.here behind.command (last_of left bytes)
Comes over limits before ts at bytes (next.Blank behind left) = Reads over limits before ts behind.here behind.command (last_of left bytes)
Comes over limits before ts at bytes (next.Comment inside) = ReadsComment over limits before ts at.here at.command inside.next inside.depth inside.last []
Comes over limits before ts at bytes next.More = GivesNothing limits before ts at.here
Comes over limits before ts at bytes (next.Failed code) = Fails over limits before ts at.here code

-- it comes to that, whatever bytes and tokens were before
abbrev pub ComesFrom : Bool → Limits → Standing → List ℕ → Next → Type 0
ComesFrom over limits at bytes next = (before : List ℕ) (ts : List Token) → Reads over limits before ts at.here at.command bytes → Comes over limits before ts at bytes next

-- a token or a blank leaves fewer bytes than there are, and the end settles all
abbrev pub LeavesFewer : Bool → ℕ → Next → Type 0
LeavesFewer over size (next.Token spelt behind left) = left < size
LeavesFewer over size (next.Blank behind left) = left < size
LeavesFewer over size next.More = over ≡ false
LeavesFewer over size _ = Unit {0}

-- for proofs: what stands at so many bytes is a token or a fault, within them
abbrev pub IsWithin : ℕ → Found → Type 0
IsWithin size (found.Token kind text left) = left < size
IsWithin size (found.RunAndDot text left) = left < size
IsWithin size (found.Wrong code left) = left ≤ size
IsWithin size _ = ⊥

abbrev pub IsToken : ℕ → Front → Type 0
IsToken size front = IsWithin size front.found × IfSome front.late (λ left. left ≤ size)

-- a blank or a comment is settled; all else is within the bytes
abbrev pub ShapeBy : ℕ → Bool → Option ℕ → Found → Type 0
ShapeBy size settled late (found.Blank left) = (settled ≡ true) × ((late ≡ None) × (left < size))
ShapeBy size settled late found.CommentOpen = (settled ≡ true) × (late ≡ None)
ShapeBy size settled late found = IsWithin size found × IfSome late (λ left. left ≤ size)

abbrev pub Shape : ℕ → Front → Type 0
Shape size front = ShapeBy size front.settled front.late front.found
