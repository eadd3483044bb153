-- The terminals that lead to a part of a term or of a left side.
use Rattle.std.proofs.Common.{◌≡◌, ℕ, List, [], ◌∷◌, ◌++◌, refl, sym, subst, append_assoc}
use Rattle.std.specs.Prelude.{Option, Some, None, Bool, true, false}
use Rattle.dk_lexer.specs.declared.token.Sign.{Sign}
use Rattle.dk_lexer.specs.declared.token.Sign.TheVariants as sign
use Rattle.dk_terms.specs.declared.terminal.Terminal.{Terminal}
use Rattle.dk_terms.specs.declared.terminal.Terminal.TheVariants as terminal
use Rattle.dk_terms.specs.Parsing.{Role, at_front, asked, domain, Application, reading, bindable, bracketed, Frame, bracket_frame, wrapping, TermSoFar, term_due, asked_due, TermStep, term_goes, term_ends, term_refuses, binder_term, applied_to, atom_next, binder_next, open_next, colon_next, arrow_next, double_arrow_next, ended, domain_closed, end_next, term_next, PatternFrame, pattern_bracket, pattern_wrapping, LeftApplication, pattern_reading, pattern_bindable, LeftStep, left_goes, left_ends, left_refuses, LeftSoFar, binder_pattern, left_read, pattern_applied_to, application_bound, end_left, left_bound, left_ended, left_next, left_whole}
use Rattle.dk_parser.specs.Written.{Written, written_product, WrittenPattern, pattern_bare}
use Rattle.dk_parser.specs.Grammar.{colon, arrow, double_arrow, open_bracket, close_bracket, long_arrow, SpellsBinder, spells_binder, spells_no_binder, SpellsAtom, spells_name, spells_qualified, spells_star, spells_wildcard, spells_brackets, SpellsApplication, spells_head, spells_applied, SpellsTerm, spells_application, spells_arrow, spells_product, spells_bracketed_product, spells_bare, spells_annotated, SpellsPatternAtom, spells_pattern_name, spells_pattern_qualified, spells_pattern_wildcard, spells_pattern_brackets, SpellsPatternApplication, spells_pattern_head, spells_pattern_applied, SpellsPattern, spells_pattern_application, spells_pattern_bare}

binder_atom : {x : Terminal} {v : Option (List ℕ)} → SpellsBinder x v → SpellsAtom (x ∷ []) (binder_term v)
binder_atom spells_binder = spells_name
binder_atom spells_no_binder = spells_wildcard

-- lists in other brackets
wrap_lists : (us vs : List Terminal) (x : Terminal) → (us ++ (vs ++ x ∷ [])) ++ [] ≡ (us ++ vs) ++ x ∷ []
wrap_lists us vs x = simp append_assoc

pub within_lists : (us vs zs : List Terminal) (x : Terminal) → us ++ (vs ++ x ∷ zs) ≡ (us ++ (vs ++ x ∷ [])) ++ zs
within_lists us vs zs x = simp append_assoc

pub nested_lists : (us ws zs : List Terminal) (x y : Terminal) → us ++ (ws ++ (x ∷ (zs ++ y ∷ []))) ≡ ((us ++ (ws ++ x ∷ [])) ++ zs) ++ y ∷ []
nested_lists us ws zs x y = simp append_assoc

-- these terminals lead to this application, at the front of a term, or, where it is true, of what a query asks of
pub data SpellsSoFar : Bool → List Terminal → Application → Type 0 where
  so_far_due : SpellsSoFar false [] (reading at_front None)
  so_far_front : {ws : List Terminal} {a : Written} → SpellsApplication ws a → SpellsSoFar false ws (reading at_front (Some a))
  so_far_domain_due : {x : Terminal} {v : Option (List ℕ)} → SpellsBinder x v → SpellsSoFar false (x ∷ colon ∷ []) (reading (domain v) None)
  so_far_domain : {x : Terminal} {v : Option (List ℕ)} {ws : List Terminal} {a : Written} → SpellsBinder x v → SpellsApplication ws a → SpellsSoFar false (x ∷ colon ∷ ws) (reading (domain v) (Some a))
  so_far_binder : {x : Terminal} {v : Option (List ℕ)} → SpellsBinder x v → SpellsSoFar false (x ∷ []) (bindable v)
  so_far_bracketed : {x : Terminal} {v : Option (List ℕ)} {ws : List Terminal} {a : Written} → SpellsBinder x v → SpellsApplication ws a → SpellsSoFar false (open_bracket ∷ x ∷ colon ∷ (ws ++ close_bracket ∷ [])) (bracketed v a)
  so_far_asked_due : SpellsSoFar true [] (reading asked None)
  so_far_asked : {ws : List Terminal} {a : Written} → SpellsApplication ws a → SpellsSoFar true ws (reading asked (Some a))

-- a term behind these terminals and this one makes this longer one
abbrev Wraps : List Terminal → Terminal → (Written → Written) → Type 0
Wraps vs x g = (zs : List Terminal) (b : Written) → SpellsTerm zs b → SpellsTerm (vs ++ x ∷ zs) (g b)

-- these terminals lead to what is in these frames: the first tells whether a query asks of the whole, the second of what is in them
pub data SpellsFrames : Bool → Bool → List Terminal → List Frame → Type 0 where
  no_frames : {top : Bool} → SpellsFrames top top [] []
  in_bracket : {top here : Bool} {us ws : List Terminal} {fs : List Frame} {role : Role} {o : Option Written} → SpellsFrames top here us fs → SpellsSoFar here ws (reading role o) → SpellsFrames top false (us ++ (ws ++ open_bracket ∷ [])) (bracket_frame role o ∷ fs)
  in_wrap : {top : Bool} {us : List Terminal} {fs : List Frame} {g : Written → Written} (vs : List Terminal) (x : Terminal) → SpellsFrames top false us fs → Wraps vs x g → SpellsFrames top false (us ++ (vs ++ x ∷ [])) (wrapping g ∷ fs)

-- these terminals of a term, or of what a query asks of, lead to this part of it
pub data ReachedAt : Bool → List Terminal → List Frame → Application → Type 0 where
  reached_at : {top here : Bool} {us ws : List Terminal} {fs : List Frame} {s : Application} → SpellsFrames top here us fs → SpellsSoFar here ws s → ReachedAt top (us ++ ws) fs s

abbrev pub ReachedTerm : Bool → List Terminal → TermSoFar → Type 0
ReachedTerm top xs p = ReachedAt top xs p.frames p.application

-- what is due at first
abbrev pub due_as : Bool → TermSoFar
due_as false = term_due
due_as true = asked_due

pub nothing_reached : (top : Bool) → ReachedTerm top [] (due_as top)
nothing_reached false = reached_at no_frames so_far_due
nothing_reached true = reached_at no_frames so_far_asked_due

-- what is whole at last
pub data SpellsWhole : Bool → List Terminal → Written → Type 0 where
  whole_term : {xs : List Terminal} {a : Written} → SpellsTerm xs a → SpellsWhole false xs a
  whole_application : {xs : List Terminal} {a : Written} → SpellsApplication xs a → SpellsWhole true xs a

-- what a terminal behind these makes of them
abbrev pub MadeTerm : Bool → List Terminal → Terminal → TermStep → Type 0
MadeTerm top xs x (term_goes q) = ReachedTerm top (xs ++ x ∷ []) q
MadeTerm top xs x (term_ends a s) = (x ≡ terminal.Sign s) × SpellsWhole top xs a
MadeTerm top xs x term_refuses = Unit {0}

-- by another bracketing of the list
lists_at : {top : Bool} {fs : List Frame} {s : Application} {ys zs : List Terminal} → ys ≡ zs → ReachedAt top ys fs s → ReachedAt top zs fs s
lists_at {top} {fs} {s} e h = subst (λ us. ReachedAt top us fs s) e h

more_at : {top here : Bool} {us ws : List Terminal} {fs : List Frame} {s t : Application} (ys : List Terminal) → SpellsFrames top here us fs → SpellsSoFar here ws s → SpellsSoFar here (ws ++ ys) t → ReachedAt top ((us ++ ws) ++ ys) fs t
more_at {us = us} {ws = ws} ys f h k = lists_at (sym (append_assoc us ws ys)) (reached_at f k)

-- a term is due in this frame
wraps_at : {top : Bool} {us vs : List Terminal} {fs : List Frame} {s : Application} {g : Written → Written} (x : Terminal) → SpellsFrames top false us fs → SpellsSoFar false vs s → Wraps vs x g → ReachedAt top ((us ++ vs) ++ x ∷ []) (wrapping g ∷ fs) (reading at_front None)
wraps_at {us = us} {vs = vs} x f h w = lists_at (wrap_lists us vs x) (reached_at (in_wrap vs x f w) so_far_due)

opens_at : {top here : Bool} {us ws : List Terminal} {fs : List Frame} {role : Role} {o : Option Written} → SpellsFrames top here us fs → SpellsSoFar here ws (reading role o) → ReachedAt top ((us ++ ws) ++ open_bracket ∷ []) (bracket_frame role o ∷ fs) (reading at_front None)
opens_at {us = us} {ws = ws} f h = lists_at (wrap_lists us ws open_bracket) (reached_at (in_bracket f h) so_far_due)

-- one atom more
atom_so_far : {here : Bool} {ws ys : List Terminal} {role : Role} {o : Option Written} {a : Written} → SpellsSoFar here ws (reading role o) → SpellsAtom ys a → SpellsSoFar here (ws ++ ys) (reading role (Some (applied_to o a)))
atom_so_far so_far_due k = so_far_front (spells_head k)
atom_so_far (so_far_front h) k = so_far_front (spells_applied h k)
atom_so_far (so_far_domain_due b) k = so_far_domain b (spells_head k)
atom_so_far (so_far_domain b h) k = so_far_domain b (spells_applied h k)
atom_so_far so_far_asked_due k = so_far_asked (spells_head k)
atom_so_far (so_far_asked h) k = so_far_asked (spells_applied h k)

front_so_far : {x : Terminal} {v : Option (List ℕ)} → SpellsBinder x v → SpellsSoFar false (x ∷ []) (reading at_front (Some (binder_term v)))
front_so_far b = so_far_front (spells_head (binder_atom b))

atom_made : {top here : Bool} {us ws : List Terminal} {fs : List Frame} {s : Application} (x : Terminal) {a : Written} → SpellsFrames top here us fs → SpellsSoFar here ws s → SpellsAtom (x ∷ []) a → MadeTerm top (us ++ ws) x (atom_next fs s a)
atom_made {s = reading role o} x f h k = more_at (x ∷ []) f h (atom_so_far h k)
atom_made {s = bindable v} x f (so_far_binder b) k = more_at (x ∷ []) f (so_far_binder b) (atom_so_far (front_so_far b) k)
atom_made {s = bracketed v b} x f h k = tt

binder_made : {top here : Bool} {us ws : List Terminal} {fs : List Frame} {s : Application} {x : Terminal} {v : Option (List ℕ)} → SpellsFrames top here us fs → SpellsSoFar here ws s → SpellsBinder x v → MadeTerm top (us ++ ws) x (binder_next fs s v)
binder_made {s = reading at_front None} {x = x} f so_far_due b = more_at (x ∷ []) f so_far_due (so_far_binder b)
binder_made {x = x} f h b = atom_made x f h (binder_atom b)

-- one sign more
open_made : {top here : Bool} {us ws : List Terminal} {fs : List Frame} {s : Application} → SpellsFrames top here us fs → SpellsSoFar here ws s → MadeTerm top (us ++ ws) open_bracket (open_next fs s)
open_made {s = reading role o} f h = opens_at f h
open_made {s = bindable v} f (so_far_binder b) = opens_at f (front_so_far b)
open_made {s = bracketed v a} f h = tt

colon_made : {top here : Bool} {us ws : List Terminal} {fs : List Frame} {s : Application} → SpellsFrames top here us fs → SpellsSoFar here ws s → MadeTerm top (us ++ ws) colon (colon_next fs s)
colon_made f (so_far_binder b) = more_at (colon ∷ []) f (so_far_binder b) (so_far_domain_due b)
colon_made no_frames (so_far_asked h) = (refl, whole_application h)
colon_made f h = tt

bracketed_wraps : {x : Terminal} {v : Option (List ℕ)} {ws : List Terminal} {a : Written} → SpellsBinder x v → SpellsApplication ws a → Wraps (open_bracket ∷ x ∷ colon ∷ (ws ++ close_bracket ∷ [])) arrow (λ b. written_product v a b)
bracketed_wraps {x} {v} {ws} {a} b h zs t k = subst (λ us. SpellsTerm (open_bracket ∷ x ∷ colon ∷ us) (written_product v a t)) (sym (append_assoc ws (close_bracket ∷ []) (arrow ∷ zs))) (spells_bracketed_product b h k)

arrow_made : {top here : Bool} {us ws : List Terminal} {fs : List Frame} {s : Application} → SpellsFrames top here us fs → SpellsSoFar here ws s → MadeTerm top (us ++ ws) arrow (arrow_next fs s)
arrow_made f (so_far_front h) = wraps_at arrow f (so_far_front h) (λ zs b k. spells_arrow h k)
arrow_made f (so_far_domain b h) = wraps_at arrow f (so_far_domain b h) (λ zs t k. spells_product b h k)
arrow_made f (so_far_binder b) = wraps_at arrow f (so_far_binder b) (λ zs t k. spells_arrow (spells_head (binder_atom b)) k)
arrow_made f (so_far_bracketed b h) = wraps_at arrow f (so_far_bracketed b h) (bracketed_wraps b h)
arrow_made f h = tt

double_arrow_made : {top here : Bool} {us ws : List Terminal} {fs : List Frame} {s : Application} → SpellsFrames top here us fs → SpellsSoFar here ws s → MadeTerm top (us ++ ws) double_arrow (double_arrow_next fs s)
double_arrow_made f (so_far_domain b h) = wraps_at double_arrow f (so_far_domain b h) (λ zs t k. spells_annotated b h k)
double_arrow_made f (so_far_binder b) = wraps_at double_arrow f (so_far_binder b) (λ zs t k. spells_bare b k)
double_arrow_made f h = tt

-- a sign behind a term in its frames
ended_made : {top : Bool} {us zs : List Terminal} {fs : List Frame} {a : Written} → SpellsFrames top false us fs → SpellsTerm zs a → (s : Sign) → MadeTerm top (us ++ zs) (terminal.Sign s) (ended fs a s)
ended_made no_frames k s = (refl, whole_term k)
ended_made {top} {zs = zs} {a = a} (in_wrap {us = us} {fs = fs} {g = g} vs x f w) k s =
    subst (λ ts. MadeTerm top ts (terminal.Sign s) (ended fs (g a) s)) (within_lists us vs zs x) (ended_made f (w zs a k) s)
ended_made {zs = zs} (in_bracket {us = us} {ws = ws} f h) k sign.CloseBracket = lists_at (nested_lists us ws zs open_bracket close_bracket) (reached_at f (atom_so_far h (spells_brackets k)))
ended_made (in_bracket f h) k s = tt

domain_made : {top : Bool} {us ws : List Terminal} {fs : List Frame} {x : Terminal} {v : Option (List ℕ)} {a : Written} → SpellsFrames top false us fs → SpellsBinder x v → SpellsApplication ws a → (s : Sign) → MadeTerm top (us ++ (x ∷ colon ∷ ws)) (terminal.Sign s) (domain_closed fs v a s)
domain_made {ws = ws} {x = x} (in_bracket {us = us} f so_far_due) b h sign.CloseBracket = lists_at (nested_lists us [] (x ∷ colon ∷ ws) open_bracket close_bracket) (reached_at f (so_far_bracketed b h))
domain_made f b h s = tt

end_made : {top here : Bool} {us ws : List Terminal} {fs : List Frame} {t : Application} → SpellsFrames top here us fs → SpellsSoFar here ws t → (s : Sign) → MadeTerm top (us ++ ws) (terminal.Sign s) (end_next fs t s)
end_made f (so_far_front h) s = ended_made f (spells_application h) s
end_made f (so_far_domain b h) s = domain_made f b h s
end_made f (so_far_binder b) s = ended_made f (spells_application (spells_head (binder_atom b))) s
end_made no_frames (so_far_asked h) s = (refl, whole_application h)
end_made f h s = tt

-- one terminal more of a term
pub term_made : {top : Bool} {xs : List Terminal} (p : TermSoFar) → ReachedTerm top xs p → (x : Terminal) → MadeTerm top xs x (term_next p x)
term_made p (reached_at f h) (terminal.Name n) = binder_made f h spells_binder
term_made p (reached_at f h) terminal.Wildcard = binder_made f h spells_no_binder
term_made p (reached_at f h) (terminal.Qualified m n) = atom_made (terminal.Qualified m n) f h spells_qualified
term_made p (reached_at f h) terminal.Star = atom_made terminal.Star f h spells_star
term_made p (reached_at f h) (terminal.Sign sign.OpenBracket) = open_made f h
term_made p (reached_at f h) (terminal.Sign sign.Colon) = colon_made f h
term_made p (reached_at f h) (terminal.Sign sign.Arrow) = arrow_made f h
term_made p (reached_at f h) (terminal.Sign sign.DoubleArrow) = double_arrow_made f h
term_made p (reached_at f h) (terminal.Sign s) = end_made f h s
term_made p (reached_at f h) x = tt

-- Left sides

pattern_binder_atom : {x : Terminal} {v : Option (List ℕ)} → SpellsBinder x v → SpellsPatternAtom (x ∷ []) (binder_pattern v)
pattern_binder_atom spells_binder = spells_pattern_name
pattern_binder_atom spells_no_binder = spells_pattern_wildcard

pub data SpellsLeftSoFar : List Terminal → LeftApplication → Type 0 where
  left_so_far_due : SpellsLeftSoFar [] (pattern_reading None)
  left_so_far_read : {ws : List Terminal} {p : WrittenPattern} → SpellsPatternApplication ws p → SpellsLeftSoFar ws (pattern_reading (Some p))
  left_so_far_binder : {x : Terminal} {v : Option (List ℕ)} → SpellsBinder x v → SpellsLeftSoFar (x ∷ []) (pattern_bindable v)

pub data SpellsPatternFrames : List Terminal → List PatternFrame → Type 0 where
  no_pattern_frames : SpellsPatternFrames [] []
  in_pattern_bracket : {us ws : List Terminal} {fs : List PatternFrame} {o : Option WrittenPattern} → SpellsPatternFrames us fs → SpellsLeftSoFar ws (pattern_reading o) → SpellsPatternFrames (us ++ (ws ++ open_bracket ∷ [])) (pattern_bracket o ∷ fs)
  in_pattern_wrap : {us : List Terminal} {x : Terminal} {v : Option (List ℕ)} {f : PatternFrame} {fs : List PatternFrame} → SpellsPatternFrames us (f ∷ fs) → SpellsBinder x v → SpellsPatternFrames (us ++ (x ∷ double_arrow ∷ [])) (pattern_wrapping (λ p. pattern_bare v p) ∷ f ∷ fs)

pub data ReachedLeftAt : List Terminal → List PatternFrame → LeftApplication → Type 0 where
  reached_left : {us ws : List Terminal} {fs : List PatternFrame} {s : LeftApplication} → SpellsPatternFrames us fs → SpellsLeftSoFar ws s → ReachedLeftAt (us ++ ws) fs s

-- these terminals of a left side lead to this part of it
abbrev pub ReachedLeft : List Terminal → LeftSoFar → Type 0
ReachedLeft xs part = ReachedLeftAt xs part.frames part.application

pub left_reached_nothing : ReachedLeftAt [] [] (pattern_reading None)
left_reached_nothing = reached_left no_pattern_frames left_so_far_due

abbrev pub MadeLeft : List Terminal → Terminal → LeftStep → Type 0
MadeLeft xs x (left_goes q) = ReachedLeft (xs ++ x ∷ []) q
MadeLeft xs x (left_ends p) = (x ≡ long_arrow) × SpellsPatternApplication xs p
MadeLeft xs x left_refuses = Unit {0}

left_lists : {fs : List PatternFrame} {s : LeftApplication} {ys zs : List Terminal} → ys ≡ zs → ReachedLeftAt ys fs s → ReachedLeftAt zs fs s
left_lists {fs} {s} e h = subst (λ us. ReachedLeftAt us fs s) e h

more_left : {us ws : List Terminal} {fs : List PatternFrame} {s t : LeftApplication} (ys : List Terminal) → SpellsPatternFrames us fs → SpellsLeftSoFar ws s → SpellsLeftSoFar (ws ++ ys) t → ReachedLeftAt ((us ++ ws) ++ ys) fs t
more_left {us} {ws} ys f h k = left_lists (sym (append_assoc us ws ys)) (reached_left f k)

settled : {ws : List Terminal} {s : LeftApplication} → SpellsLeftSoFar ws s → SpellsLeftSoFar ws (pattern_reading (left_read s))
settled left_so_far_due = left_so_far_due
settled (left_so_far_read h) = left_so_far_read h
settled (left_so_far_binder b) = left_so_far_read (spells_pattern_head (pattern_binder_atom b))

atom_read : {ws ys : List Terminal} {o : Option WrittenPattern} {p : WrittenPattern} → SpellsLeftSoFar ws (pattern_reading o) → SpellsPatternAtom ys p → SpellsLeftSoFar (ws ++ ys) (pattern_reading (Some (pattern_applied_to o p)))
atom_read left_so_far_due k = left_so_far_read (spells_pattern_head k)
atom_read (left_so_far_read h) k = left_so_far_read (spells_pattern_applied h k)

-- an atom more, of one terminal or of several
pub left_atom_reached : {xs ys : List Terminal} (part : LeftSoFar) {p : WrittenPattern} → ReachedLeft xs part → SpellsPatternAtom ys p → ReachedLeftAt (xs ++ ys) part.frames (pattern_reading (Some (pattern_applied_to (left_read part.application) p)))
left_atom_reached {ys = ys} part (reached_left f h) k = more_left ys f h (atom_read (settled h) k)

left_binder_reached : {us ws : List Terminal} {fs : List PatternFrame} {s : LeftApplication} {x : Terminal} {v : Option (List ℕ)} → SpellsPatternFrames us fs → SpellsLeftSoFar ws s → SpellsBinder x v → ReachedLeftAt ((us ++ ws) ++ x ∷ []) fs (application_bound s v)
left_binder_reached {x = x} f left_so_far_due b = more_left (x ∷ []) f left_so_far_due (left_so_far_binder b)
left_binder_reached {x = x} f h b = more_left (x ∷ []) f h (atom_read (settled h) (pattern_binder_atom b))

-- a sign behind a pattern in brackets
inside_made : {us zs : List Terminal} {f : PatternFrame} {fs : List PatternFrame} {p : WrittenPattern} → SpellsPatternFrames us (f ∷ fs) → SpellsPattern zs p → (s : Sign) → MadeLeft (us ++ zs) (terminal.Sign s) (left_ended (f ∷ fs) p s)
inside_made {zs = zs} {p = p} (in_pattern_wrap {us} {x} {v} {f = g} {fs = gs} f b) k s =
    subst (λ ts. MadeLeft ts (terminal.Sign s) (left_ended (g ∷ gs) (pattern_bare v p) s)) (sym (append_assoc us (x ∷ double_arrow ∷ []) zs)) (inside_made f (spells_pattern_bare b k) s)
inside_made {zs = zs} (in_pattern_bracket {us} {ws} f h) k sign.CloseBracket = left_lists (nested_lists us ws zs open_bracket close_bracket) (reached_left f (atom_read h (spells_pattern_brackets k)))
inside_made (in_pattern_bracket f h) k s = tt

whole_made : {ws : List Terminal} {p : WrittenPattern} → SpellsPatternApplication ws p → (s : Sign) → MadeLeft ws (terminal.Sign s) (left_whole p s)
whole_made k sign.LongArrow = (refl, k)
whole_made k s = tt

end_left_made : {us ws : List Terminal} {fs : List PatternFrame} {t : LeftApplication} → SpellsPatternFrames us fs → SpellsLeftSoFar ws t → (s : Sign) → MadeLeft (us ++ ws) (terminal.Sign s) (end_left fs (left_read t) s)
end_left_made f left_so_far_due s = tt
end_left_made {fs = []} no_pattern_frames (left_so_far_read h) s = whole_made h s
end_left_made {fs = []} no_pattern_frames (left_so_far_binder b) s = whole_made (spells_pattern_head (pattern_binder_atom b)) s
end_left_made {fs = g ∷ gs} f (left_so_far_read h) s = inside_made f (spells_pattern_application h) s
end_left_made {fs = g ∷ gs} f (left_so_far_binder b) s = inside_made f (spells_pattern_application (spells_pattern_head (pattern_binder_atom b))) s

bound_made : {us ws : List Terminal} {fs : List PatternFrame} {s : LeftApplication} → SpellsPatternFrames us fs → SpellsLeftSoFar ws s → MadeLeft (us ++ ws) double_arrow (left_bound fs s)
bound_made {fs = []} f h = tt
bound_made {us} {fs = g ∷ gs} f (left_so_far_binder {x} b) = left_lists (wrap_lists us (x ∷ []) double_arrow) (reached_left (in_pattern_wrap f b) left_so_far_due)
bound_made {fs = g ∷ gs} f h = tt

-- one terminal more of a left side
pub left_made : {xs : List Terminal} (part : LeftSoFar) → ReachedLeft xs part → (x : Terminal) → MadeLeft xs x (left_next part x)
left_made part (reached_left f h) (terminal.Name n) = left_binder_reached f h spells_binder
left_made part (reached_left f h) terminal.Wildcard = left_binder_reached f h spells_no_binder
left_made part (reached_left f h) (terminal.Qualified m n) = more_left (terminal.Qualified m n ∷ []) f h (atom_read (settled h) spells_pattern_qualified)
left_made part (reached_left {us} {ws} f h) (terminal.Sign sign.OpenBracket) = left_lists (wrap_lists us ws open_bracket) (reached_left (in_pattern_bracket f (settled h)) left_so_far_due)
left_made part (reached_left f h) (terminal.Sign sign.CloseBracket) = end_left_made f h sign.CloseBracket
left_made part (reached_left f h) (terminal.Sign sign.DoubleArrow) = bound_made f h
left_made part (reached_left f h) (terminal.Sign sign.LongArrow) = end_left_made f h sign.LongArrow
left_made part (reached_left f h) x = tt
