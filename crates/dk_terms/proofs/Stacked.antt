-- Lists that grow and shrink at their ends, as plain data.
use Rattle.std.proofs.Common.{◌≡◌, ◌+◌, ℕ, List, [], ◌∷◌, ◌++◌, refl, sym, ap, ◌∙◌}
use Rattle.std.specs.Prelude.{Option, None, drop}
use Rattle.std.proofs.lemmas.List.{drop-drop}
use Rattle.dk_lexer.specs.declared.token.Sign.{Sign}
use Rattle.dk_terms.specs.declared.left_so_far.PatternFrame.{PatternFrame}
use Rattle.dk_terms.specs.declared.left_so_far.PatternFrame.TheVariants as pattern_frame
use Rattle.dk_terms.specs.declared.raw.RawPat.{RawPat}
use Rattle.dk_terms.specs.Parsing as plain
use Rattle.dk_terms.specs.Parsing.{left_bound, left_ended, pattern_bracket_ended}
use Rattle.dk_terms.specs.Views.{maybe_pattern, plain_pattern_frame, plain_pattern_frames, stacked_on}
use Rattle.dk_terms.specs.Written.{WrittenPattern, pattern_bare}

stacked_more : {A B : Type 0} → (view : A → B) (ys : List B) (xs : List A) (x : A) → stacked_on view ys (xs ++ x ∷ []) ≡ view x ∷ stacked_on view ys xs
stacked_more view ys [] x = refl
stacked_more view ys (y ∷ xs) x = stacked_more view (view y ∷ ys) xs x

-- one more
pub pushed : {A B : Type 0} → (view : A → B) (old new : List A) (x : A) → new ≡ old ++ x ∷ [] → stacked_on view [] new ≡ view x ∷ stacked_on view [] old
pushed view old new x e = ap (stacked_on view []) e ∙ stacked_more view [] old x

-- a frame of a left side makes a longer pattern
pub left_wrap : (old new : List PatternFrame) (v : Option (List ℕ)) (p q : WrittenPattern) (s : Sign) → old ≡ new ++ pattern_frame.Bare v ∷ [] → q ≡ pattern_bare v p → left_ended (plain_pattern_frames new) q s ≡ left_ended (plain_pattern_frames old) p s
left_wrap old new v p q s e is = ap (λ q. left_ended (plain_pattern_frames new) q s) is ∙ ap (λ fs. left_ended fs p s) (sym (pushed plain_pattern_frame new old (pattern_frame.Bare v) e))

pub left_bracket : (old new : List PatternFrame) (o : Option RawPat) (p : WrittenPattern) (s : Sign) → old ≡ new ++ pattern_frame.Bracket o ∷ [] → pattern_bracket_ended (plain_pattern_frames new) (maybe_pattern o) p s ≡ left_ended (plain_pattern_frames old) p s
left_bracket old new o p s e = ap (λ fs. left_ended fs p s) (sym (pushed plain_pattern_frame new old (pattern_frame.Bracket o) e))

-- a binder goes on the innermost frame
pub bound_goes : (old outer same new : List PatternFrame) (f : PatternFrame) (v : Option (List ℕ)) → old ≡ outer ++ f ∷ [] → same ≡ outer ++ f ∷ [] → new ≡ same ++ pattern_frame.Bare v ∷ []
    → plain.left_within (plain_pattern_frames new) (plain.pattern_reading None) ≡ left_bound (plain_pattern_frames old) (plain.pattern_bindable v)
bound_goes old outer same new f v e e' is =
    ap (λ fs. plain.left_within fs (plain.pattern_reading None)) (pushed plain_pattern_frame same new (pattern_frame.Bare v) is)
    ∙ ap (λ fs. plain.left_within (plain_pattern_frame (pattern_frame.Bare v) ∷ fs) (plain.pattern_reading None)) (pushed plain_pattern_frame outer same f e')
    ∙ ap (λ fs. left_bound fs (plain.pattern_bindable v)) (sym (pushed plain_pattern_frame outer old f e))

-- what stands behind one more
pub behind_one_more : (n : ℕ) (xs : List ℕ) → drop 1 (drop n xs) ≡ drop (n + 1) xs
behind_one_more n xs = drop-drop 1 n xs
