-- For proofs: terms and left sides so far as plain data.
use Rattle.std.specs.Prelude.{ℕ, Bool, true, false, List, [], ◌∷◌, Option, Some, None}
use Rattle.dk_lexer.specs.declared.token.Sign.{Sign}
use Rattle.dk_terms.specs.declared.operation.Wrap.{Wrap}
use Rattle.dk_terms.specs.declared.frame.Role.{Role}
use Rattle.dk_terms.specs.declared.frame.Role.TheVariants as role
use Rattle.dk_terms.specs.declared.frame.Application.{Application}
use Rattle.dk_terms.specs.declared.frame.Application.TheVariants as application
use Rattle.dk_terms.specs.declared.frame.Frame.{Frame}
use Rattle.dk_terms.specs.declared.frame.Frame.TheVariants as frame
use Rattle.dk_terms.specs.declared.term_so_far.TermSoFar.{TermSoFar}
use Rattle.dk_terms.specs.declared.term_so_far.TermStep.{TermStep}
use Rattle.dk_terms.specs.declared.term_so_far.TermStep.TheVariants as term_step
use Rattle.dk_terms.specs.declared.left_so_far.LeftApplication.{LeftApplication}
use Rattle.dk_terms.specs.declared.left_so_far.LeftApplication.TheVariants as left_application
use Rattle.dk_terms.specs.declared.left_so_far.PatternFrame.{PatternFrame}
use Rattle.dk_terms.specs.declared.left_so_far.PatternFrame.TheVariants as pattern_frame
use Rattle.dk_terms.specs.declared.left_so_far.LeftSoFar.{LeftSoFar}
use Rattle.dk_terms.specs.declared.left_so_far.LeftStep.{LeftStep}
use Rattle.dk_terms.specs.declared.left_so_far.LeftStep.TheVariants as left_step
use Rattle.dk_terms.specs.declared.raw.RawPat.{RawPat}
use Rattle.dk_terms.specs.Written.{Written, written_star, WrittenPattern, pattern_bare}
use Rattle.dk_terms.specs.Parts.{Parts, before_waiting, binder_in, last_waiting, parts}
use Rattle.dk_terms.specs.Postfix.{Item, below, item_term, top_term, wrapped_items}
use Rattle.dk_terms.specs.RawViews.{written, written_pattern}
use Rattle.dk_terms.specs.Stacks.{innermost_first}
pub use Rattle.dk_terms.specs.Stacks.{stacked_on}
use Rattle.dk_terms.specs.Parsing as plain

abbrev pub maybe_pattern : Option RawPat → Option WrittenPattern
maybe_pattern None = None
maybe_pattern (Some p) = Some (written_pattern p)

-- ---- a term so far, by what its parts are: frames and applications take them from the top

abbrev pub plain_role : Role → List (Option (List ℕ)) → plain.Role
plain_role role.Front waiting = plain.at_front
plain_role role.Asked waiting = plain.asked
plain_role role.Domain waiting = plain.domain (last_waiting waiting)

-- the binders that wait outside of an application
abbrev pub waiting_outside : Role → List (Option (List ℕ)) → List (Option (List ℕ))
waiting_outside role.Domain waiting = before_waiting waiting
waiting_outside r waiting = waiting

-- what stands before an atom, where something does
abbrev pub read_before : Bool → List Item → Option Written
read_before false items = None
read_before true items = Some (top_term items)

abbrev pub items_outside : Bool → List Item → List Item
items_outside false items = items
items_outside true items = below items

-- the frames, the innermost first
abbrev pub frames_over : List Item → List (Option (List ℕ)) → List Frame → List plain.Frame
frames_over items waiting [] = []
frames_over items waiting (frame.Bracket r read ∷ fs) =
    plain.bracket_frame (plain_role r waiting) (read_before read items) ∷ frames_over (items_outside read items) (waiting_outside r waiting) fs
frames_over items waiting (frame.Wraps w ∷ fs) =
    plain.wrapping (λ b. top_term (wrapped_items w (item_term b ∷ items))) ∷ frames_over (below (wrapped_items w (item_term written_star ∷ items))) waiting fs

abbrev pub term_over : Parts → List Frame → Application → plain.TermSoFar
term_over p fs (application.Reading r read) = record {
  frames = frames_over (items_outside read p.items) (waiting_outside r p.waiting) fs;
  application = plain.reading (plain_role r p.waiting) (read_before read p.items);
}
term_over p fs application.Bindable = record {
  frames = frames_over (below p.items) p.waiting fs;
  application = plain.bindable (binder_in (top_term p.items));
}
term_over p fs application.Bracketed = record {
  frames = frames_over (below p.items) (before_waiting p.waiting) fs;
  application = plain.bracketed (last_waiting p.waiting) (top_term p.items);
}

abbrev pub plain_term : TermSoFar → plain.TermSoFar
plain_term t = term_over (parts t.list) (innermost_first t.frames.items) t.application

-- a bracket opens: a term is due in it
abbrev pub bracket_over : Parts → List Frame → Role → Bool → plain.TermStep
bracket_over p fs r read = plain.framed (plain.bracket_frame (plain_role r p.waiting) (read_before read p.items))
    (frames_over (items_outside read p.items) (waiting_outside r p.waiting) (innermost_first fs))

-- a scope begins whose binder is on top of these parts: a term is due in it
abbrev pub scope_over : Parts → List Frame → Wrap → plain.TermStep
scope_over p fs w = plain.framed (plain.wrapping (λ b. top_term (wrapped_items w (item_term b ∷ p.items))))
    (frames_over (below (wrapped_items w (item_term written_star ∷ p.items))) p.waiting (innermost_first fs))

-- the last term in its frames, as a whole one, as the domain of the binder that waits last, and the sign behind it
abbrev pub ended_over : Parts → List Frame → Sign → plain.TermStep
ended_over p fs s = plain.ended (frames_over (below p.items) p.waiting (innermost_first fs)) (top_term p.items) s

abbrev pub domain_over : Parts → List Frame → Sign → plain.TermStep
domain_over p fs s = plain.domain_closed (frames_over (below p.items) (before_waiting p.waiting) (innermost_first fs)) (last_waiting p.waiting) (top_term p.items) s

-- what a terminal came to, and the term that it left
abbrev pub plain_term_step : TermStep → TermSoFar → plain.TermStep
plain_term_step term_step.Goes t = plain.term_goes (plain_term t)
plain_term_step (term_step.Ends a s) t = plain.term_ends (written a) s
plain_term_step term_step.Refuses t = plain.term_refuses

abbrev pub plain_left_application : LeftApplication → plain.LeftApplication
plain_left_application (left_application.Reading o) = plain.pattern_reading (maybe_pattern o)
plain_left_application (left_application.Bindable v) = plain.pattern_bindable v

abbrev pub plain_pattern_frame : PatternFrame → plain.PatternFrame
plain_pattern_frame (pattern_frame.Bracket o) = plain.pattern_bracket (maybe_pattern o)
plain_pattern_frame (pattern_frame.Bare v) = plain.pattern_wrapping (λ p. pattern_bare v p)

abbrev pub plain_pattern_frames : List PatternFrame → List plain.PatternFrame
plain_pattern_frames fs = stacked_on plain_pattern_frame [] fs

abbrev pub plain_left : LeftSoFar → plain.LeftSoFar
plain_left p = record { frames = plain_pattern_frames p.frames; application = plain_left_application p.application }

-- what a terminal came to, and the left side that it left
abbrev pub plain_left_step : LeftStep → LeftSoFar → plain.LeftStep
plain_left_step left_step.Goes p = plain.left_goes (plain_left p)
plain_left_step (left_step.Ends q) p = plain.left_ends (written_pattern q)
plain_left_step left_step.Refuses p = plain.left_refuses
