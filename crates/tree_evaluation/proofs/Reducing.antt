-- The reducer over trees: it keeps nothing, and a term stands for itself. And what an evaluation that tells its steps gives.
use Rattle.std.proofs.Common.{ℕ, ◌≡◌, List, [], ◌∷◌, map, ap, Bool, Option, Result, Ok, Err, refl, is_some}
use Rattle.dk_model.specs.Signatures.{PlainSignature}
use Rattle.dk_model.specs.Units.{Units}
use Rattle.tree_evaluation.specs.Views.{Term, Join, Told, Meeting, owned, denoted, Tree, tree}
use Rattle.dk_model.specs.declared.stop.Stop.{Stop}
use Rattle.dk_model.specs.declared.stop.Stop.TheVariants.{Ended, NoMemory}
use Rattle.signature_log.specs.Reducers.{Keeps, Gives, GivesAnswer}
use Rattle.certificate_items.specs.Views.{plain_steps}
use Rattle.tree_typing.specs.Given.{Gives as Answered}
use Rattle.told_steps.specs.Told.{Meet}
use Rattle.told_steps.specs.Meetings.{MeetIn, MeetBy}
use Rattle.tree_evaluation.specs.declared.trees.Trees.{Trees}
use Rattle.tree_evaluation.specs.Answers.{Answers, form_told}

pub trees_keep : (old new : Trees) → Keeps owned denoted old new
trees_keep old new = record { own = λ t o. tt; same = λ t o. refl }

pub form_given : (due : Units Tree) (r : Trees) (told : Told) (left : ℕ) → Answers form_told due (Ok told) left → Gives owned denoted due r (Ok told.form) left
form_given due r told left h = (h, tt)

pub no_form_given : (due : Units Tree) (r : Trees) (stop : Stop) (left : ℕ) → Answers form_told due (Err stop) left → Gives owned denoted due r (Err stop) left
no_form_given due r Ended left h = h
no_form_given due r NoMemory left h = tt

pub no_answer_given : (due : Units Bool) (stop : Stop) (left : ℕ) → Answers {A = Option Meeting} is_some due (Err stop) left → GivesAnswer due (Err stop) left
no_answer_given due Ended left h = h
no_answer_given due NoMemory left h = tt

pub same_trees : (r : Trees) (ts : List Term) → map tree ts ≡ map (denoted r) ts
same_trees r [] = refl
same_trees r (t ∷ ts) = ap (λ (us : List Tree). tree t ∷ us) (same_trees r ts)

-- with the steps

pub terms_told : (due : Units Tree) (result : Result Told Stop) (left : ℕ) → Answers form_told due result left → Answered (λ (told : Told). tree told.form) due result left
terms_told due (Ok told) left h = h
terms_told due (Err Ended) left h = h.0
terms_told due (Err NoMemory) left h = tt

pub none_told : (due : Units Bool) (stop : Stop) (left : ℕ) → Answers {A = Option Meeting} is_some due (Err stop) left → Answered {A = Option Join} is_some due (Err stop) left
none_told due Ended left h = h.0
none_told due NoMemory left h = tt

pub joined_told : (S : PlainSignature) (t u : Tree) (met : Meeting) (join : Join) → MeetBy met join → MeetIn S t u met → Meet S t (plain_steps join.first) u (plain_steps join.second)
joined_told S t u met join by m = by S t u m
