-- For proofs: what has been made of the terminals of a term or of a left side so far. `Grammar` has its meaning.
use Rattle.std.specs.Prelude.{ℕ, List, [], ◌∷◌, Option, Some, None}
use Rattle.dk_lexer.specs.declared.token.Sign.{Sign}
use Rattle.dk_lexer.specs.declared.token.Sign.TheVariants as sign
use Rattle.dk_terms.specs.declared.terminal.Terminal.{Terminal}
use Rattle.dk_terms.specs.declared.terminal.Terminal.TheVariants as terminal
use Rattle.dk_terms.specs.Written.{Written, written_name, written_qualified, written_star, written_wild, written_apply, written_arrow, written_product, written_bare, written_annotated, WrittenPattern, pattern_name, pattern_qualified, pattern_wild, pattern_apply, pattern_bare}

-- where an application stands: at the front of a term; as what a query asks of, which is an application and no longer term,
-- so that a name there is an atom at once and a colon ends it; or as the domain of a binder
pub data Role : Type 0 where
  at_front : Role
  asked : Role
  domain : Option (List ℕ) → Role

-- what has been read of an application and what stands before it: nothing or some atoms; a name or a wildcard at the
-- front of a term, a binder or else the first atom; or a binder and its domain in brackets, behind which an arrow is due
pub data Application : Type 0 where
  reading : Role → Option Written → Application
  bindable : Option (List ℕ) → Application
  bracketed : Option (List ℕ) → Written → Application

-- what waits for a term: a bracket behind what stands before it, or what makes a longer term of it
pub data Frame : Type 0 where
  bracket_frame : Role → Option Written → Frame
  wrapping : (Written → Written) → Frame

-- a term that has begun; the innermost frame first
pub record TermSoFar : Type 0 where
  pub frames : List Frame
  pub application : Application

-- a term is due
abbrev pub term_due : TermSoFar
term_due = record { frames = []; application = reading at_front None }

-- an application is due, and nothing but one
abbrev pub asked_due : TermSoFar
asked_due = record { frames = []; application = reading asked None }

-- what a terminal makes of it: a term that goes on; a whole term, behind which this sign stands; or nothing
pub data TermStep : Type 0 where
  term_goes : TermSoFar → TermStep
  term_ends : Written → Sign → TermStep
  term_refuses : TermStep

-- a binder read as a term
abbrev pub binder_term : Option (List ℕ) → Written
binder_term None = written_wild
binder_term (Some n) = written_name n

-- an atom behind what has been read of its application
abbrev pub applied_to : Option Written → Written → Written
applied_to None a = a
applied_to (Some f) a = written_apply f a

abbrev pub within : List Frame → Application → TermStep
within fs application = term_goes (record { frames = fs; application = application })

abbrev pub framed : Frame → List Frame → TermStep
framed f fs = within (f ∷ fs) (reading at_front None)

-- one atom more
abbrev pub atom_next : List Frame → Application → Written → TermStep
atom_next fs (reading role o) a = within fs (reading role (Some (applied_to o a)))
atom_next fs (bindable v) a = within fs (reading at_front (Some (written_apply (binder_term v) a)))
atom_next fs (bracketed v b) a = term_refuses

-- one name or wildcard more
abbrev pub binder_next : List Frame → Application → Option (List ℕ) → TermStep
binder_next fs (reading at_front None) v = within fs (bindable v)
binder_next fs application v = atom_next fs application (binder_term v)

abbrev pub open_next : List Frame → Application → TermStep
open_next fs (reading role o) = framed (bracket_frame role o) fs
open_next fs (bindable v) = framed (bracket_frame at_front (Some (binder_term v))) fs
open_next fs (bracketed v a) = term_refuses

abbrev pub arrow_next : List Frame → Application → TermStep
arrow_next fs (bindable v) = framed (wrapping (λ b. written_arrow (binder_term v) b)) fs
arrow_next fs (reading at_front (Some a)) = framed (wrapping (λ b. written_arrow a b)) fs
arrow_next fs (reading (domain v) (Some a)) = framed (wrapping (λ b. written_product v a b)) fs
arrow_next fs (bracketed v a) = framed (wrapping (λ b. written_product v a b)) fs
arrow_next fs application = term_refuses

abbrev pub double_arrow_next : List Frame → Application → TermStep
double_arrow_next fs (bindable v) = framed (wrapping (λ b. written_bare v b)) fs
double_arrow_next fs (reading (domain v) (Some a)) = framed (wrapping (λ b. written_annotated v a b)) fs
double_arrow_next fs application = term_refuses

-- the bracket that a term stands in, and the sign behind the term
abbrev pub bracket_ended : List Frame → Role → Option Written → Written → Sign → TermStep
bracket_ended fs role o a sign.CloseBracket = within fs (reading role (Some (applied_to o a)))
bracket_ended fs role o a s = term_refuses

-- a term in its frames, and the sign behind it
abbrev pub ended : List Frame → Written → Sign → TermStep
ended [] a s = term_ends a s
ended (wrapping g ∷ fs) a s = ended fs (g a) s
ended (bracket_frame role o ∷ fs) a s = bracket_ended fs role o a s

-- `(x : A)`, which stands at the front of a term
abbrev pub domain_closed : List Frame → Option (List ℕ) → Written → Sign → TermStep
domain_closed (bracket_frame at_front None ∷ fs) v a sign.CloseBracket = within fs (bracketed v a)
domain_closed fs v a s = term_refuses

-- a colon stands behind a binder, or ends what a query asks of
abbrev pub colon_next : List Frame → Application → TermStep
colon_next fs (bindable v) = within fs (reading (domain v) None)
colon_next fs (reading asked (Some a)) = ended fs a sign.Colon
colon_next fs application = term_refuses

-- what ends an application
abbrev pub end_next : List Frame → Application → Sign → TermStep
end_next fs (bindable v) s = ended fs (binder_term v) s
end_next fs (reading at_front (Some a)) s = ended fs a s
end_next fs (reading asked (Some a)) s = ended fs a s
end_next fs (reading (domain v) (Some a)) s = domain_closed fs v a s
end_next fs application s = term_refuses

-- the term with one terminal more
abbrev pub term_next : TermSoFar → Terminal → TermStep
term_next p (terminal.Name n) = binder_next p.frames p.application (Some n)
term_next p terminal.Wildcard = binder_next p.frames p.application None
term_next p (terminal.Qualified m n) = atom_next p.frames p.application (written_qualified m n)
term_next p terminal.Star = atom_next p.frames p.application written_star
term_next p (terminal.Sign sign.OpenBracket) = open_next p.frames p.application
term_next p (terminal.Sign sign.Colon) = colon_next p.frames p.application
term_next p (terminal.Sign sign.Arrow) = arrow_next p.frames p.application
term_next p (terminal.Sign sign.DoubleArrow) = double_arrow_next p.frames p.application
term_next p (terminal.Sign s) = end_next p.frames p.application s
term_next p x = term_refuses

-- what has been read of an application of patterns: nothing or some atoms; or a binder or else the first atom
pub data LeftApplication : Type 0 where
  pattern_reading : Option WrittenPattern → LeftApplication
  pattern_bindable : Option (List ℕ) → LeftApplication

-- what waits for a pattern, as for a term
pub data PatternFrame : Type 0 where
  pattern_bracket : Option WrittenPattern → PatternFrame
  pattern_wrapping : (WrittenPattern → WrittenPattern) → PatternFrame

-- a left side that has begun; the innermost frame first, and the outermost one is a bracket
pub record LeftSoFar : Type 0 where
  pub frames : List PatternFrame
  pub application : LeftApplication

-- a left side is due
abbrev pub left_due : LeftSoFar
left_due = record { frames = []; application = pattern_reading None }

-- what a terminal makes of it: one that goes on, a whole left side, or nothing
pub data LeftStep : Type 0 where
  left_goes : LeftSoFar → LeftStep
  left_ends : WrittenPattern → LeftStep
  left_refuses : LeftStep

-- a binder read as a pattern
abbrev pub binder_pattern : Option (List ℕ) → WrittenPattern
binder_pattern None = pattern_wild
binder_pattern (Some n) = pattern_name n

-- what has been read of an application, where it may end
abbrev pub left_read : LeftApplication → Option WrittenPattern
left_read (pattern_reading o) = o
left_read (pattern_bindable v) = Some (binder_pattern v)

-- an atom behind what has been read of its application
abbrev pub pattern_applied_to : Option WrittenPattern → WrittenPattern → WrittenPattern
pattern_applied_to None p = p
pattern_applied_to (Some f) p = pattern_apply f p

-- one atom more
abbrev pub with_atom : LeftSoFar → WrittenPattern → LeftSoFar
with_atom part p = record { frames = part.frames; application = pattern_reading (Some (pattern_applied_to (left_read part.application) p)) }

-- one name or wildcard more
abbrev pub application_bound : LeftApplication → Option (List ℕ) → LeftApplication
application_bound (pattern_reading None) v = pattern_bindable v
application_bound application v = pattern_reading (Some (pattern_applied_to (left_read application) (binder_pattern v)))

abbrev pub left_within : List PatternFrame → LeftApplication → LeftStep
left_within fs application = left_goes (record { frames = fs; application = application })

-- the bracket that a pattern stands in, and the sign behind the pattern
abbrev pub pattern_bracket_ended : List PatternFrame → Option WrittenPattern → WrittenPattern → Sign → LeftStep
pattern_bracket_ended fs o p sign.CloseBracket = left_within fs (pattern_reading (Some (pattern_applied_to o p)))
pattern_bracket_ended fs o p s = left_refuses

-- a whole left side, and the sign behind it
abbrev pub left_whole : WrittenPattern → Sign → LeftStep
left_whole p sign.LongArrow = left_ends p
left_whole p s = left_refuses

-- a pattern in its frames, and the sign behind it
abbrev pub left_ended : List PatternFrame → WrittenPattern → Sign → LeftStep
left_ended [] p s = left_whole p s
left_ended (pattern_wrapping g ∷ fs) p s = left_ended fs (g p) s
left_ended (pattern_bracket o ∷ fs) p s = pattern_bracket_ended fs o p s

-- what ends an application
abbrev pub end_left : List PatternFrame → Option WrittenPattern → Sign → LeftStep
end_left fs None s = left_refuses
end_left fs (Some p) s = left_ended fs p s

-- `x =>`, which stands in brackets
abbrev pub left_bound : List PatternFrame → LeftApplication → LeftStep
left_bound (f ∷ fs) (pattern_bindable v) = left_within (pattern_wrapping (λ p. pattern_bare v p) ∷ f ∷ fs) (pattern_reading None)
left_bound fs application = left_refuses

-- the left side with one terminal more that is not in a guard
abbrev pub left_next : LeftSoFar → Terminal → LeftStep
left_next part (terminal.Name n) = left_within part.frames (application_bound part.application (Some n))
left_next part terminal.Wildcard = left_within part.frames (application_bound part.application None)
left_next part (terminal.Qualified m n) = left_goes (with_atom part (pattern_qualified m n))
left_next part (terminal.Sign sign.OpenBracket) = left_within (pattern_bracket (left_read part.application) ∷ part.frames) (pattern_reading None)
left_next part (terminal.Sign sign.CloseBracket) = end_left part.frames (left_read part.application) sign.CloseBracket
left_next part (terminal.Sign sign.DoubleArrow) = left_bound part.frames part.application
left_next part (terminal.Sign sign.LongArrow) = end_left part.frames (left_read part.application) sign.LongArrow
left_next part x = left_refuses
