-- For callers: where the steps of two terms lead to one.
use Rattle.dk_model.specs.PlainTerms.{Tree}
use Rattle.dk_model.specs.Trees.{tree}
use Rattle.dk_model.specs.PlainEntries.{PlainSignature}
use Rattle.certificate_items.specs.Views.{plain_steps}
use Rattle.certificate_items.specs.declared.item.Join.{Join}
use Rattle.told_steps.specs.Told.{Leads, Meet}
use Rattle.told_steps.specs.Parts.{LeadsTo}
use Rattle.told_steps.specs.declared.told.Told.{Told}
use Rattle.told_steps.specs.declared.meeting.Meeting.{Meeting}

-- the steps lead from both terms to the form
abbrev pub MeetIn : PlainSignature → Tree → Tree → Meeting → Type 0
MeetIn S t u met = Leads S t (plain_steps met.first) (tree met.form) × Leads S u (plain_steps met.second) (tree met.form)

-- over every signature
abbrev pub AlwaysMeetIn : Tree → Tree → Meeting → Type 0
AlwaysMeetIn t u met = (S : PlainSignature) → MeetIn S t u met

-- two terms meet where their parts do
abbrev pub MeetAround : (Tree → Tree) → Meeting → Meeting → Type 0
MeetAround node part met = (S : PlainSignature) (t u : Tree) → MeetIn S t u part → MeetIn S (node t) (node u) met

abbrev pub MeetTogether : (Tree → Tree → Tree) → Meeting → Meeting → Meeting → Type 0
MeetTogether node first second met =
    (S : PlainSignature) (t u v w : Tree) → MeetIn S t u first → MeetIn S v w second → MeetIn S (node t v) (node u w) met

-- two terms meet where those meet that they lead to
abbrev pub MeetBehind : Told → Told → Meeting → Meeting → Type 0
MeetBehind first second behind met =
    (S : PlainSignature) (t u : Tree) → LeadsTo S t first → LeadsTo S u second → MeetIn S (tree first.form) (tree second.form) behind → MeetIn S t u met

-- the two lists of steps of a join
abbrev pub MeetBy : Meeting → Join → Type 0
MeetBy met join = (S : PlainSignature) (t u : Tree) → MeetIn S t u met → Meet S t (plain_steps join.first) u (plain_steps join.second)
