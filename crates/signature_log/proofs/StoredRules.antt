-- A version with one entry more, and its entries over boxed terms.
use Rattle.std.proofs.Common.{◌≡◌, ◌∙◌, ◌+◌, ◌<◌, ap, sym as flip, ℕ, List, [], ◌∷◌, ◌++◌, length, map, take, get_or, slice_get, Some}
use Rattle.std.proofs.lemmas.List.{map-append, map_more}
use Rattle.std.proofs.lemmas.Option.{same_Some, slice_get_within, slice_get-get_or}
use Rattle.dk_model.specs.Signatures.{PlainEntry, plain_entry}
use Rattle.dk_model.specs.declared.signature.Entry.{Entry}
use Rattle.dk_model.specs.declared.term.Term.{Term}
use Rattle.shared_term.specs.declared.stored.Stored.{Stored}
use Rattle.signature_log.specs.Versions.{entries_of, stored_entry}

pub entry_appended : (v : List (Entry Stored)) (e : Entry Stored) → entries_of (v ++ e ∷ []) ≡ entries_of v ++ stored_entry e ∷ []
entry_appended v e = map-append stored_entry v (e ∷ [])

-- the entry at a place over boxed terms, behind those before it
pub boxed_more : (v : List (Entry Stored)) (at : ℕ) (s : Entry Stored) (boxed all : List (Entry Term)) (e : Entry Term) → slice_get v at ≡ Some s → plain_entry e ≡ stored_entry s
    → map plain_entry boxed ≡ map stored_entry (take at v) → all ≡ boxed ++ e ∷ [] → map plain_entry all ≡ map stored_entry (take (at + 1) v)
boxed_more v at s boxed all e is same before made =
    let within : at < length v = slice_get_within v at s is in
    let read : get_or v at s ≡ s = same_Some (get_or v at s) s (flip (slice_get-get_or v at s within) ∙ is) in
    ap (map plain_entry) made ∙ map-append plain_entry boxed (e ∷ []) ∙ ap (λ (xs : List PlainEntry). xs ++ plain_entry e ∷ []) before
    ∙ ap (λ (x : PlainEntry). map stored_entry (take at v) ++ x ∷ []) (same ∙ flip (ap stored_entry read)) ∙ flip (map_more stored_entry v at s within)
