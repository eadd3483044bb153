-- For proofs: the shape that the parts of a term so far have, by what waits for them.
use Rattle.std.specs.Prelude.{◌≡◌, Bool, true, false, List, [], ◌∷◌, Option, Some}
use Rattle.dk_lexer.specs.declared.token.Sign.{Sign}
use Rattle.dk_lexer.specs.declared.token.Sign.TheVariants as sign
use Rattle.dk_terms.specs.declared.operation.Wrap.{Wrap}
use Rattle.dk_terms.specs.declared.operation.Wrap.TheVariants as wrap
use Rattle.dk_terms.specs.declared.frame.Application.{Application}
use Rattle.dk_terms.specs.declared.frame.Application.TheVariants as application
use Rattle.dk_terms.specs.declared.frame.Frame.{Frame}
use Rattle.dk_terms.specs.declared.frame.Frame.TheVariants as frame
use Rattle.dk_terms.specs.declared.frame.Role.TheVariants as role
use Rattle.dk_terms.specs.Parts.{is_lone}
use Rattle.dk_terms.specs.Postfix.{Item, top_term}
use Rattle.dk_terms.specs.Stacks.{innermost_first}

-- whether each item is a term, the last one first: those that an application has, that stand before a bracket, before a scope
abbrev pub kinds_read : Bool → List Bool → List Bool
kinds_read false kinds = kinds
kinds_read true kinds = true ∷ kinds

abbrev pub kinds_of : Application → List Bool → List Bool
kinds_of (application.Reading r read) kinds = kinds_read read kinds
kinds_of application.Bindable kinds = true ∷ kinds
kinds_of application.Bracketed kinds = true ∷ kinds

-- whether a wrap takes the term before its scope
abbrev pub is_after_term : Wrap → Bool
is_after_term wrap.Bare = false
is_after_term w = true

abbrev pub frame_kinds : List Frame → List Bool
frame_kinds [] = []
frame_kinds (frame.Bracket r read ∷ fs) = kinds_read read (frame_kinds fs)
frame_kinds (frame.Wraps w ∷ fs) = false ∷ kinds_read (is_after_term w) (frame_kinds fs)

-- the shape of the parts
abbrev pub shape_due : Application → List Frame → Option (List Bool)
shape_due a fs = Some (kinds_of a (frame_kinds (innermost_first fs)))

-- the last term is a name or a wildcard where it may be a binder
abbrev pub is_bindable : Application → List Item → Bool
is_bindable application.Bindable items = is_lone (top_term items)
is_bindable a items = true

-- the application has read some terms, or none
abbrev pub HasRead : Application → Bool → Type 0
HasRead a read = (kinds : List Bool) → kinds_of a kinds ≡ kinds_read read kinds

-- nothing has been read at the front of a term
abbrev pub is_first : Application → Bool
is_first (application.Reading role.Front false) = true
is_first a = false

-- a binder and its domain may stand in the frame
abbrev pub is_domain : Frame → Bool
is_domain (frame.Bracket role.Front false) = true
is_domain f = false

abbrev pub is_closing : Sign → Bool
is_closing sign.CloseBracket = true
is_closing s = false
