-- For proofs: where a walk stands: the frames that wait, and how much is left to do.
use Rattle.std.specs.Prelude.{◌≡◌, ℕ, ◌+◌, ◌<◌, ◌≤◌, List, [], ◌∷◌, length, Option, Some, None}
use Rattle.dk_model.specs.Trees.{Tree, variable, apply, bare, annotated, product}
use Rattle.shared_term.specs.declared.id.TermId.{TermId}
use Rattle.shared_term.specs.declared.change.Change.{Change}
use Rattle.shared_term.specs.declared.change.Change.TheVariants.{Substitute, SubstituteAll, Fill}
use Rattle.shared_term.specs.declared.change.Goal.{Goal}
use Rattle.shared_term.specs.declared.change.Given.{Given}
use Rattle.shared_term.specs.declared.change.Frame.{Frame}
use Rattle.shared_term.specs.declared.change.Frame.TheVariants.{First, Second, Body}
use Rattle.shared_term.specs.declared.change.State.{State}
use Rattle.shared_term.specs.declared.change.State.TheVariants.{Down, Up}
use Rattle.shared_term.specs.declared.entering.Step.{Step}
use Rattle.shared_term.specs.declared.entering.Step.TheVariants.{Answer, Instead, Inside, Parts}
use Rattle.shared_term.specs.Pools.{Node, term}
use Rattle.shared_term.specs.Changes.{IsAsked, wanted, joined, under, part}

module _ (ns : List Node) (g : Given) where
  abbrev pub goal_of : Frame → Goal
  goal_of (First goal pair second) = goal
  goal_of (Second goal pair first) = goal
  goal_of (Body goal) = goal

  -- what a frame makes of the tree that it waits for
  abbrev pub completed : Frame → Tree → Tree
  completed (First goal pair second) y = joined pair y (wanted ns g (part goal second (under pair goal.depth)))
  completed (Second goal pair first) y = joined pair (term ns first) y
  completed (Body goal) y = bare y

  abbrev pub HasParts : Frame → Type 0
  HasParts (First goal pair second) = second.0 < length ns
  HasParts (Second goal pair first) = first.0 < length ns
  HasParts (Body goal) = Unit {0}

  -- the frame gets what its goal asks for, from the tree that it waits for
  pub record Waits (f : Frame) (y : Tree) : Type 0 where
    pub asked : IsAsked (length ns) g (goal_of f)
    pub parts : HasParts f
    pub gets : wanted ns g (goal_of f) ≡ completed f y

  -- each frame waits for the one above it, and the topmost for the tree; the root is what they all make of it
  abbrev pub Wait : List Frame → Tree → Tree → Type 0
  Wait [] root y = root ≡ y
  Wait (f ∷ fs) root y = (root ≡ wanted ns g (goal_of f)) × (x : Tree) × Waits f x × Wait fs x y

  -- the tree that the state is to give, or has given
  abbrev pub given_by : State → Tree
  given_by (Down goal) = wanted ns g goal
  given_by (Up id) = term ns id

  abbrev pub IsStanding : State → Type 0
  IsStanding (Down goal) = IsAsked (length ns) g goal
  IsStanding (Up id) = id.0 < length ns

  -- a walk that will give the root
  pub record Stands (root : Tree) (fs : List Frame) (s : State) : Type 0 where
    pub standing : IsStanding s
    pub waits : Wait fs root (given_by s)

  -- the turns that a tree takes, where each leaf may take as many more
  abbrev pub weight : ℕ → Tree → ℕ
  weight c (apply f a) = weight c f + weight c a + 3
  weight c (bare b) = weight c b + 2
  weight c (annotated n b) = weight c n + weight c b + 3
  weight c (product a b) = weight c a + weight c b + 3
  weight c t = c + 1

  abbrev pub captures_weight : List (Option TermId) → ℕ
  captures_weight [] = 0
  captures_weight (None ∷ cs) = captures_weight cs
  captures_weight (Some i ∷ cs) = weight 0 (term ns i) + captures_weight cs

  abbrev pub terms_weight : List TermId → ℕ
  terms_weight [] = 0
  terms_weight (u ∷ us) = weight 0 (term ns u) + terms_weight us

  -- what a leaf may take more, where another term takes its place
  abbrev pub more : Change → ℕ
  more (Substitute u) = weight 0 (term ns u)
  more SubstituteAll = terms_weight g.terms.now
  more Fill = captures_weight g.captures.now
  more c = 0

  abbrev pub goal_weight : Goal → ℕ
  goal_weight goal = weight (more goal.change) (term ns goal.id)

  abbrev pub frame_weight : Frame → ℕ
  frame_weight (First goal pair second) = weight (more goal.change) (term ns second) + 2
  frame_weight (Second goal pair first) = 1
  frame_weight (Body goal) = 1

  abbrev pub frames_weight : List Frame → ℕ
  frames_weight [] = 0
  frames_weight (f ∷ fs) = frame_weight f + frames_weight fs

  abbrev pub state_weight : State → ℕ
  state_weight (Down goal) = goal_weight goal
  state_weight (Up id) = 0

  -- the turns that are left
  abbrev pub turns_left : List Frame → State → ℕ
  turns_left fs s = frames_weight fs + state_weight s

  -- what a walk does at a goal
  abbrev pub IsStep : Goal → Step → Type 0
  IsStep goal (Answer id) = (id.0 < length ns) × (term ns id ≡ wanted ns g goal)
  IsStep goal (Instead other) = IsAsked (length ns) g other × (wanted ns g goal ≡ wanted ns g other) × (goal_weight other < goal_weight goal)
  IsStep goal (Inside body) = let inner = part goal body (goal.depth + 1) in
      (body.0 < length ns) × (wanted ns g goal ≡ bare (wanted ns g inner)) × (goal_weight inner + 2 ≤ goal_weight goal)
  IsStep goal (Parts pair x y) = let first = part goal x goal.depth in let second = part goal y (under pair goal.depth) in
      (x.0 < length ns) × (y.0 < length ns) × (wanted ns g goal ≡ joined pair (wanted ns g first) (wanted ns g second))
      × (goal_weight first + goal_weight second + 3 ≤ goal_weight goal)

-- the answer is that variable
abbrev pub IsPlaced : List Node → ℕ → Step → Type 0
IsPlaced ns k (Answer id) = (id.0 < length ns) × (term ns id ≡ variable k)
IsPlaced ns k e = ⊥

-- one turn, from a state to another, in a pool that may have grown
pub record Turns (old new : List Node) (g : Given) (root : Tree) (fs : List Frame) (s : State) (fs' : List Frame) (s' : State) : Type 0 where
  pub stands : Stands new g root fs' s'
  pub fewer : turns_left new g fs' s' < turns_left old g fs s
