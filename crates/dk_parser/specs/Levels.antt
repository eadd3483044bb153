-- Trusted: the levels of a command, and the arguments of its applications (docs/grammar.md).
use Rattle.std.specs.Prelude.{◌≡◌, ◌≤◌, ℕ, ◌+◌, List, [], ◌∷◌, ◌++◌, max}
use Rattle.dk_lexer.specs.declared.token.Sign.TheVariants as sign
use Rattle.dk_terms.specs.declared.terminal.Terminal.{Terminal}
use Rattle.dk_terms.specs.declared.terminal.Terminal.TheVariants as terminal

-- what stands in a bracket that is open, or in none: its arrows so far, and the atoms of its last application
pub record Group : Type 0 where
  pub arrows : ℕ
  pub atoms : ℕ

abbrev pub empty_group : Group
empty_group = record { arrows = 0; atoms = 0 }

abbrev pub atom_more : Group → Group
atom_more g = record { arrows = g.arrows; atoms = g.atoms + 1 }

abbrev pub arrow_more : Group → Group
arrow_more g = record { arrows = g.arrows + 1; atoms = 0 }

abbrev pub binder_over : Group → Group
binder_over g = record { arrows = g.arrows; atoms = 0 }

-- the groups of the brackets that are open, the innermost first, and then the one outside of all brackets
pub record Groups : Type 0 where
  pub inner : Group
  pub outer : List Group

abbrev pub no_groups : Groups
no_groups = record { inner = empty_group; outer = [] }

abbrev pub with_inner : (Group → Group) → Groups → Groups
with_inner f gs = record { inner = f gs.inner; outer = gs.outer }

abbrev pub closed : Groups → List Group → Groups
closed gs [] = gs
closed gs (g ∷ outer) = record { inner = g; outer = outer }

-- a terminal of a term: a bracket is an atom of the application that it stands in; an arrow and a binder's colon end an application
abbrev pub groups_behind : Groups → Terminal → Groups
groups_behind gs (terminal.Name n) = with_inner atom_more gs
groups_behind gs (terminal.Qualified m n) = with_inner atom_more gs
groups_behind gs terminal.Star = with_inner atom_more gs
groups_behind gs terminal.Wildcard = with_inner atom_more gs
groups_behind gs (terminal.Sign sign.OpenBracket) = record { inner = empty_group; outer = atom_more gs.inner ∷ gs.outer }
groups_behind gs (terminal.Sign sign.CloseBracket) = closed gs gs.outer
groups_behind gs (terminal.Sign sign.Colon) = with_inner binder_over gs
groups_behind gs (terminal.Sign sign.Arrow) = with_inner arrow_more gs
groups_behind gs (terminal.Sign sign.DoubleArrow) = with_inner arrow_more gs
groups_behind gs x = gs

-- where in its command a terminal stands: in the head, which its `:` or `:=` ends; on the left side of a rule; or elsewhere
pub data Side : Type 0 where
  in_head : Side
  behind_head : Side
  on_left : Side

-- the parameters that have closed, the side, and the groups of the term
pub record Standing : Type 0 where
  pub params : ℕ
  pub side : Side
  pub groups : Groups

abbrev pub at_start : Standing
at_start = record { params = 0; side = in_head; groups = no_groups }

-- where a bracket closes: one parameter more, where the bracket is one of the head and stands in no other
abbrev pub params_closed : Side → List Group → ℕ → ℕ
params_closed in_head (g ∷ []) n = n + 1
params_closed side outer n = n

-- a colon outside of all brackets ends the head
abbrev pub side_at_colon : Side → List Group → Side
side_at_colon in_head [] = behind_head
side_at_colon side outer = side

-- what begins anew behind a term, a context or a left side
abbrev pub with_new_groups : Standing → Side → Standing
with_new_groups s side = record { params = s.params; side = side; groups = no_groups }

-- a brace opens a guard on a left side, and elsewhere the name of a rule
abbrev pub brace_opened : Side → Standing → Standing
brace_opened on_left s = record { params = s.params; side = on_left; groups = record { inner = empty_group; outer = atom_more s.groups.inner ∷ s.groups.outer } }
brace_opened side s = with_new_groups s behind_head

-- a bracket of the head that closes is a parameter; a context and its commas, `-->`, `:=`, `==` and the name of a rule end a term, and the dot a command; a query has no head
abbrev pub standing_behind : Standing → Terminal → Standing
standing_behind s (terminal.Sign sign.CloseBracket) = record { params = params_closed s.side s.groups.outer s.params; side = s.side; groups = groups_behind s.groups (terminal.Sign sign.CloseBracket) }
standing_behind s (terminal.Sign sign.Colon) = record { params = s.params; side = side_at_colon s.side s.groups.outer; groups = groups_behind s.groups (terminal.Sign sign.Colon) }
standing_behind s (terminal.Sign sign.Defined) = with_new_groups s behind_head
standing_behind s (terminal.Sign sign.OpenSquare) = with_new_groups s behind_head
standing_behind s (terminal.Sign sign.Comma) = with_new_groups s behind_head
standing_behind s (terminal.Sign sign.CloseSquare) = with_new_groups s on_left
standing_behind s (terminal.Sign sign.LongArrow) = with_new_groups s behind_head
standing_behind s (terminal.Sign sign.OpenBrace) = brace_opened s.side s
standing_behind s (terminal.Sign sign.CloseBrace) = record { params = s.params; side = s.side; groups = closed s.groups s.groups.outer }
standing_behind s (terminal.Sign sign.Equal) = with_new_groups s behind_head
standing_behind s (terminal.Sign sign.Dot) = at_start
standing_behind s terminal.Check = with_new_groups s behind_head
standing_behind s terminal.Assert = with_new_groups s behind_head
standing_behind s terminal.Infer = with_new_groups s behind_head
standing_behind s terminal.Eval = with_new_groups s behind_head
standing_behind s x = record { params = s.params; side = s.side; groups = groups_behind s.groups x }

abbrev pub standing_from : Standing → List Terminal → Standing
standing_from s [] = s
standing_from s (x ∷ xs) = standing_from (standing_behind s x) xs

abbrev pub standing : List Terminal → Standing
standing xs = standing_from at_start xs

abbrev pub arrows_of : List Group → ℕ
arrows_of [] = 0
arrows_of (g ∷ gs) = (g.arrows + 1) + arrows_of gs

-- the level: one for each parameter that has closed, one for each bracket that is open, and one for each arrow in what is not closed
abbrev pub level_of : Standing → ℕ
level_of s = s.params + (s.groups.inner.arrows + arrows_of s.groups.outer)

-- the argument that a brace begins, where it opens a guard
abbrev pub argument_of_brace : Side → Groups → ℕ
argument_of_brace on_left gs = gs.inner.atoms
argument_of_brace side gs = 0

-- the number of the argument that a terminal begins, from 1; 0 where it begins none
abbrev pub argument_in : Standing → Terminal → ℕ
argument_in s (terminal.Name n) = s.groups.inner.atoms
argument_in s (terminal.Qualified m n) = s.groups.inner.atoms
argument_in s terminal.Star = s.groups.inner.atoms
argument_in s terminal.Wildcard = s.groups.inner.atoms
argument_in s (terminal.Sign sign.OpenBracket) = s.groups.inner.atoms
argument_in s (terminal.Sign sign.OpenBrace) = argument_of_brace s.side s.groups
argument_in s x = 0

-- the level that a terminal stands on behind these, or the number of the argument that it begins, whichever is greater; a parameter's bracket counts for an argument of the name too, but its level is as great
abbrev pub level_or_argument : List Terminal → Terminal → ℕ
level_or_argument xs x = max (level_of (standing_behind (standing xs) x)) (argument_in (standing xs) x)

-- no terminal makes a level or an argument above the limit
abbrev pub IsWithin : ℕ → List Terminal → Type 0
IsWithin limit xs = (front rest : List Terminal) (x : Terminal) → xs ≡ front ++ x ∷ rest → level_or_argument front x ≤ limit
