-- For callers: what a query finds, as plain data.
use Rattle.dk_model.specs.Scoping.{PlainFound, yes, no, of_type, value}
use Rattle.shared_term.specs.Storage.{stored_term}
use Rattle.shared_term.specs.declared.found.Found.{Found}
use Rattle.shared_term.specs.declared.found.Found.TheVariants.{Yes, No, Of, Value}

abbrev pub plain_found : Found → PlainFound
plain_found Yes = yes
plain_found No = no
plain_found (Of t) = of_type (stored_term t)
plain_found (Value t) = value (stored_term t)
