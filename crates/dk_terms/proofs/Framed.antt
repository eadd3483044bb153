-- A term so far, as its frames and its parts grow and shrink.
use Rattle.std.proofs.Common.{◌≡◌, ℕ, List, [], ◌∷◌, ◌++◌, refl, sym, ap, ◌∙◌}
use Rattle.std.specs.Prelude.{Bool, true, false, Option, Some, ◌&&◌}
use Rattle.dk_lexer.specs.declared.token.Sign.{Sign}
use Rattle.dk_lexer.specs.declared.token.Sign.TheVariants as sign
use Rattle.dk_terms.specs.declared.frame.Application.{Application}
use Rattle.dk_terms.specs.declared.frame.Application.TheVariants as application
use Rattle.dk_terms.specs.declared.frame.Frame.{Frame}
use Rattle.dk_terms.specs.declared.frame.Frame.TheVariants as frame
use Rattle.dk_terms.specs.declared.frame.Role.{Role}
use Rattle.dk_terms.specs.declared.frame.Role.TheVariants as role
use Rattle.dk_terms.specs.declared.operation.Wrap.{Wrap}
use Rattle.dk_terms.specs.declared.operation.Wrap.TheVariants as wrap
use Rattle.dk_terms.specs.Parsing as plain
use Rattle.dk_terms.specs.Parts.{Parts, binder_in, is_lone, maybe_applied, with_wrap, before_waiting, last_waiting}
use Rattle.dk_terms.specs.Postfix.{Item, applied_shape, below, top_term, with_kind, wrapped_items, wrapped_shape}
use Rattle.dk_terms.specs.Shapes.{HasRead, frame_kinds, is_after_term, is_bindable, is_closing, kinds_read, shape_due, is_domain, is_first}
use Rattle.dk_terms.specs.Stacks.{innermost_first}
use Rattle.dk_terms.specs.Views.{ended_over, frames_over, items_outside, plain_role, read_before, term_over, waiting_outside, domain_over}
use Rattle.dk_terms.specs.Written.{Written, written_name, written_wild}
use Rattle.dk_terms.proofs.Stacked.{pushed}

-- the innermost frame
pub on_top : (old new : List Frame) (f : Frame) → new ≡ old ++ f ∷ [] → innermost_first new ≡ f ∷ innermost_first old
on_top old new f e = pushed (λ x. x) old new f e

-- a name or a wildcard is what it is as a binder
pub lone_read : (t : Written) → is_lone t ≡ true → plain.binder_term (binder_in t) ≡ t
lone_read (written_name n) e = refl
lone_read written_wild e = refl
lone_read t e = absurd cc

-- so is the last term where it may be a binder
pub front_read : (a : Application) (items : List Item) → a ≡ application.Bindable → is_bindable a items ≡ true → plain.binder_term (binder_in (top_term items)) ≡ top_term items
front_read application.Bindable items is lone = lone_read (top_term items) lone
front_read a items is lone = absurd cc

-- ---- shapes

pub shaped_scope : (shape : Option (List Bool)) (a : Application) (w : Wrap) (old new : List Frame) → shape ≡ shape_due a old → HasRead a (is_after_term w) → new ≡ old ++ frame.Wraps w ∷ []
    → with_kind false shape ≡ shape_due (application.Reading role.Front false) new
shaped_scope shape a w old new e taken more =
    ap (with_kind false) e ∙ ap (λ kinds. Some (false ∷ kinds)) (taken (frame_kinds (innermost_first old)))
    ∙ ap (λ fs. Some (frame_kinds fs)) (sym (on_top old new (frame.Wraps w) more))

pub shaped_bracket : (shape : Option (List Bool)) (a : Application) (r : Role) (read : Bool) (old new : List Frame) → shape ≡ shape_due a old → HasRead a read → new ≡ old ++ frame.Bracket r read ∷ []
    → shape ≡ shape_due (application.Reading role.Front false) new
shaped_bracket shape a r read old new e is more =
    e ∙ ap Some (is (frame_kinds (innermost_first old))) ∙ ap (λ fs. Some (frame_kinds fs)) (sym (on_top old new (frame.Bracket r read) more))

wrapped_kinds : (w : Wrap) (kinds : List Bool) → wrapped_shape w (Some (true ∷ false ∷ kinds_read (is_after_term w) kinds)) ≡ Some (true ∷ kinds)
wrapped_kinds wrap.Product kinds = refl
wrapped_kinds wrap.Bare kinds = refl
wrapped_kinds wrap.Annotated kinds = refl

pub shaped_wrap : (shape : Option (List Bool)) (a : Application) (w : Wrap) (old new : List Frame) → shape ≡ shape_due a old → a ≡ application.Reading role.Front true → old ≡ new ++ frame.Wraps w ∷ []
    → wrapped_shape w shape ≡ shape_due a new
shaped_wrap shape a w old new e is less =
    ap (wrapped_shape w) (e ∙ ap (λ x. shape_due x old) is ∙ ap (λ fs. Some (true ∷ frame_kinds fs)) (on_top new old (frame.Wraps w) less))
    ∙ wrapped_kinds w (frame_kinds (innermost_first new)) ∙ ap (λ x. shape_due x new) (sym is)

-- ---- what waits

wrap_by : (w : Wrap) (items : List Item) (waiting : List (Option (List ℕ))) (fs : List Frame) (s : Sign)
    → plain.ended (frames_over (below (wrapped_items w items)) waiting fs) (top_term (wrapped_items w items)) s ≡ plain.ended (frames_over (below items) waiting (frame.Wraps w ∷ fs)) (top_term items) s
wrap_by wrap.Product items waiting fs s = refl
wrap_by wrap.Bare items waiting fs s = refl
wrap_by wrap.Annotated items waiting fs s = refl

-- the innermost frame makes a longer term
pub ended_wrap : (p : Parts) (old new : List Frame) (w : Wrap) (s : Sign) → old ≡ new ++ frame.Wraps w ∷ [] → ended_over (with_wrap w p) new s ≡ ended_over p old s
ended_wrap p old new w s e =
    wrap_by w p.items p.waiting (innermost_first new) s
    ∙ ap (λ fs. plain.ended (frames_over (below p.items) p.waiting fs) (top_term p.items) s) (sym (on_top new old (frame.Wraps w) e))

close_by : (p : Parts) (r : Role) (read : Bool) (fs : List Frame)
    → plain.term_goes (term_over (maybe_applied read p) fs (application.Reading r true)) ≡ plain.ended (frames_over (below p.items) p.waiting (frame.Bracket r read ∷ fs)) (top_term p.items) sign.CloseBracket
close_by p r true fs = refl
close_by p r false fs = refl

pub closing_is : (s : Sign) → is_closing s ≡ true → s ≡ sign.CloseBracket
closing_is sign.CloseBracket e = refl
closing_is s e = absurd cc

-- a bracket closes behind a term
pub closed : (p : Parts) (old new : List Frame) (f : Frame) (r : Role) (read : Bool) (s : Sign) → old ≡ new ++ f ∷ [] → f ≡ frame.Bracket r read → is_closing s ≡ true
    → plain.term_goes (term_over (maybe_applied read p) (innermost_first new) (application.Reading r true)) ≡ ended_over p old s
closed p old new f r read s e is closing =
    close_by p r read (innermost_first new)
    ∙ ap (λ fs. plain.ended (frames_over (below p.items) p.waiting fs) (top_term p.items) sign.CloseBracket) (sym (on_top new old (frame.Bracket r read) (e ∙ ap (λ g. new ++ g ∷ []) is)))
    ∙ ap (λ t. ended_over p old t) (sym (closing_is s closing))

refused_by : (fs : List plain.Frame) (r : plain.Role) (o : Option Written) (a : Written) (s : Sign) → is_closing s ≡ false → plain.term_refuses ≡ plain.bracket_ended fs r o a s
refused_by fs r o a sign.CloseBracket e = absurd cc
refused_by fs r o a s e = refl

-- another sign in a bracket
pub not_closed : (p : Parts) (old new : List Frame) (f : Frame) (r : Role) (read : Bool) (s : Sign) → old ≡ new ++ f ∷ [] → f ≡ frame.Bracket r read → is_closing s ≡ false → plain.term_refuses ≡ ended_over p old s
not_closed p old new f r read s e is other =
    refused_by (frames_over (items_outside read (below p.items)) (waiting_outside r p.waiting) (innermost_first new)) (plain_role r p.waiting) (read_before read (below p.items)) (top_term p.items) s other
    ∙ ap (λ fs. plain.ended (frames_over (below p.items) p.waiting fs) (top_term p.items) s) (sym (on_top new old (frame.Bracket r read) (e ∙ ap (λ g. new ++ g ∷ []) is)))

pub shaped_close : (p : Parts) (a : Application) (old new : List Frame) (r : Role) (read : Bool) → p.shape ≡ shape_due a old → a ≡ application.Reading role.Front true → old ≡ new ++ frame.Bracket r read ∷ []
    → (maybe_applied read p).shape ≡ shape_due (application.Reading r true) new
shaped_close p a old new r read e is less =
    by_read read (frame_kinds (innermost_first new)) p (e ∙ ap (λ x. shape_due x old) is ∙ ap (λ fs. Some (true ∷ frame_kinds fs)) (on_top new old (frame.Bracket r read) less))
  where
    by_read : (read : Bool) (kinds : List Bool) (p : Parts) → p.shape ≡ Some (true ∷ kinds_read read kinds) → (maybe_applied read p).shape ≡ Some (true ∷ kinds)
    by_read true kinds p e = ap applied_shape e
    by_read false kinds p e = e

-- ---- a name or a wildcard behind others

-- the frames and the application of a term so far
abbrev frames_in : Parts → List Frame → Application → List plain.Frame
frames_in p fs a = (term_over p (innermost_first fs) a).frames

abbrev application_in : Parts → List Frame → Application → plain.Application
application_in p fs a = (term_over p (innermost_first fs) a).application

not_first : (p : Parts) (fs : List Frame) (a : Application) (v : Option (List ℕ)) → is_first a ≡ false
    → plain.atom_next (frames_in p fs a) (application_in p fs a) (plain.binder_term v) ≡ plain.binder_next (frames_in p fs a) (application_in p fs a) v
not_first p fs (application.Reading role.Front false) v e = absurd cc
not_first p fs (application.Reading role.Front true) v e = refl
not_first p fs (application.Reading r true) v e = refl
not_first p fs (application.Reading r false) v e = refl
not_first p fs a v e = refl

pub bound_later : (p : Parts) (fs : List Frame) (a : Application) (w : Written) → is_first a ≡ false → is_lone w ≡ true
    → plain.atom_next (frames_in p fs a) (application_in p fs a) w ≡ plain.binder_next (frames_in p fs a) (application_in p fs a) (binder_in w)
bound_later p fs a w e lone =
    ap (plain.atom_next (frames_in p fs a) (application_in p fs a)) (sym (lone_read w lone)) ∙ not_first p fs a (binder_in w) e

-- ---- a bracket closes behind a domain

domain_is : (f : Frame) → is_domain f ≡ true → f ≡ frame.Bracket role.Front false
domain_is (frame.Bracket role.Front false) e = refl
domain_is f e = absurd cc

pub domain_closes : (p : Parts) (old new : List Frame) (f : Frame) (s : Sign) → old ≡ new ++ f ∷ [] → is_domain f ≡ true → is_closing s ≡ true
    → plain.term_goes (term_over p (innermost_first new) application.Bracketed) ≡ domain_over p old s
domain_closes p old new f s e domain closing =
    ap (λ fs. plain.domain_closed (frames_over (below p.items) (before_waiting p.waiting) fs) (last_waiting p.waiting) (top_term p.items) sign.CloseBracket) (sym (on_top new old (frame.Bracket role.Front false) (e ∙ ap (λ g. new ++ g ∷ []) (domain_is f domain))))
    ∙ ap (λ t. domain_over p old t) (sym (closing_is s closing))

-- another frame, or another sign
other_domain : (p : Parts) (fs : List Frame) (f : Frame) (s : Sign) → (is_domain f && is_closing s) ≡ false
    → plain.term_refuses ≡ plain.domain_closed (frames_over (below p.items) (before_waiting p.waiting) (f ∷ fs)) (last_waiting p.waiting) (top_term p.items) s
other_domain p fs (frame.Bracket role.Front false) sign.CloseBracket e = absurd cc
other_domain p fs (frame.Bracket role.Front false) s e = refl
other_domain p fs (frame.Bracket r true) s e = refl
other_domain p fs (frame.Bracket r false) s e = refl
other_domain p fs f s e = refl

pub domain_refuses : (p : Parts) (old new : List Frame) (f : Frame) (s : Sign) → old ≡ new ++ f ∷ [] → (is_domain f && is_closing s) ≡ false → plain.term_refuses ≡ domain_over p old s
domain_refuses p old new f s e other =
    other_domain p (innermost_first new) f s other
    ∙ ap (λ fs. plain.domain_closed (frames_over (below p.items) (before_waiting p.waiting) fs) (last_waiting p.waiting) (top_term p.items) s) (sym (on_top new old f e))

pub shaped_domain : (shape : Option (List Bool)) (old new : List Frame) (a : Application) (f : Frame) → shape ≡ shape_due a old → HasRead a true → old ≡ new ++ f ∷ [] → is_domain f ≡ true → shape ≡ shape_due application.Bracketed new
shaped_domain shape old new a f s taken e domain =
    s ∙ ap Some (taken (frame_kinds (innermost_first old))) ∙ ap (λ fs. Some (true ∷ frame_kinds fs)) (on_top new old (frame.Bracket role.Front false) (e ∙ ap (λ g. new ++ g ∷ []) (domain_is f domain)))
