-- For callers: where told steps lead, and what is told of a term by what is told of its parts.
use Rattle.dk_model.specs.PlainTerms.{Tree}
use Rattle.dk_model.specs.Trees.{tree}
use Rattle.dk_model.specs.PlainEntries.{PlainSignature}
use Rattle.certificate_items.specs.Views.{plain_steps}
use Rattle.told_steps.specs.Told.{Leads}
use Rattle.told_steps.specs.declared.told.Told.{Told}

-- the steps lead from the term to the form
abbrev pub LeadsTo : PlainSignature → Tree → Told → Type 0
LeadsTo S t told = Leads S t (plain_steps told.steps) (tree told.form)

-- over every signature
abbrev pub AlwaysLeadsTo : Tree → Told → Type 0
AlwaysLeadsTo t told = (S : PlainSignature) → LeadsTo S t told

-- what leads to where the second begins, and goes on to where the second leads
abbrev pub LeadsOn : Told → Told → Told → Type 0
LeadsOn first second told = (S : PlainSignature) (t : Tree) → LeadsTo S t first → LeadsTo S (tree first.form) second → LeadsTo S t told

-- told of a term by what is told of its one part
abbrev pub LeadsAround : (Tree → Tree) → Told → Told → Type 0
LeadsAround node part told = (S : PlainSignature) (t : Tree) → LeadsTo S t part → LeadsTo S (node t) told

-- told of a term by what is told of its two parts
abbrev pub LeadsTogether : (Tree → Tree → Tree) → Told → Told → Told → Type 0
LeadsTogether node first second told = (S : PlainSignature) (t u : Tree) → LeadsTo S t first → LeadsTo S u second → LeadsTo S (node t u) told
