-- For proofs: the rules of a symbol by their places: few, or many.
use Rattle.std.specs.Prelude.{ℕ, List}
use Rattle.dk_model.specs.declared.signature.Entry.{Entry}
use Rattle.shared_term.specs.declared.stored.Stored.{Stored}
use Rattle.signature_log.specs.Blocks.{IsLeaf}
use Rattle.signature_log.specs.declared.rule_list.Listing.{Listing}
use Rattle.signature_log.specs.declared.rule_list.Listing.TheVariants.{Few, Many}

abbrev pub places_of : Listing → List (Entry Stored × ℕ)
places_of (Few places) = places
places_of (Many places) = places

abbrev pub IsListing : Listing → Type 0
IsListing (Few places) = IsLeaf places
IsListing (Many places) = Unit {0}
