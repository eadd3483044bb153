-- The bytes of a definition whose body is a printed term.
use Rattle.std.proofs.Common.{List, [], ◌∷◌, ◌++◌, ℕ, ◌≡◌, Bool, true, false, ◌||◌, Option, Some, None, refl, ap, sym as flip, ◌∙◌, if◌then◌else◌, append_assoc}
use Rattle.std.specs.Prelude.{codes}
use Rattle.dk_model.specs.PlainTerms.{Tree}
use Rattle.dk_terms.specs.declared.terminal.Terminal.{Terminal}
use Rattle.dk_terms.specs.Signs.{arrow, close_bracket, colon, dot, double_arrow, open_bracket}
use Rattle.dk_terms.specs.Written.{Written, written_name, written_qualified, written_star, written_wild, written_apply, written_arrow, written_product, written_bare, written_annotated}
use Rattle.term_print.specs.Named.{Word, written_term}
use Rattle.term_print.specs.ReadBack.{asking, asking_text, definition, definition_text}
use Rattle.term_print.specs.Spelled.{narrow, wide, binder_terminal, spelled}
use Rattle.term_print.specs.Text.{closes, opens, terminal_text, text_behind, text_of}
use Rattle.term_print.specs.declared.place.Place.{Place}
use Rattle.term_print.specs.declared.place.Place.TheVariants as place

-- the first one closes no bracket; the last one opens none
abbrev Begins : List Terminal → Type 0
Begins [] = ⊥
Begins (x ∷ xs) = closes x ≡ false

abbrev Shut : List Terminal → Type 0
Shut [] = ⊥
Shut (x ∷ []) = opens x ≡ false
Shut (x ∷ y ∷ ys) = Shut (y ∷ ys)

begins_both : (xs ys : List Terminal) → Begins xs → Begins (xs ++ ys)
begins_both [] ys b = absurd b
begins_both (x ∷ xs) ys b = b

shut_both : (xs ys : List Terminal) → Shut ys → Shut (xs ++ ys)
shut_both [] ys s = s
shut_both (x ∷ []) [] s = absurd s
shut_both (x ∷ []) (y ∷ ys) s = s
shut_both (x ∷ z ∷ zs) ys s = shut_both (z ∷ zs) ys s

shut_more : (x : Terminal) (xs : List Terminal) → Shut xs → Shut (x ∷ xs)
shut_more x [] s = absurd s
shut_more x (y ∷ ys) s = s

two_shut : (x y : Terminal) (xs : List Terminal) → Shut xs → Shut (x ∷ y ∷ xs)
two_shut x y xs s = shut_more x (y ∷ xs) (shut_more y xs s)

between_shut : (xs ys : List Terminal) (x : Terminal) → Shut ys → Shut (xs ++ x ∷ ys)
between_shut xs ys x s = shut_both xs (x ∷ ys) (shut_more x ys s)

brackets_shut : (xs : List Terminal) → Shut (open_bracket ∷ (xs ++ close_bracket ∷ []))
brackets_shut xs = shut_more open_bracket (xs ++ close_bracket ∷ []) (shut_both xs (close_bracket ∷ []) refl)

narrow_begins : (p : Place) (xs : List Terminal) → Begins xs → Begins (narrow p xs)
narrow_begins place.Term xs b = b
narrow_begins place.Application xs b = b
narrow_begins place.Atom xs b = refl

wide_begins : (p : Place) (xs : List Terminal) → Begins xs → Begins (wide p xs)
wide_begins place.Term xs b = b
wide_begins place.Application xs b = refl
wide_begins place.Atom xs b = refl

narrow_shut : (p : Place) (xs : List Terminal) → Shut xs → Shut (narrow p xs)
narrow_shut place.Term xs s = s
narrow_shut place.Application xs s = s
narrow_shut place.Atom xs s = brackets_shut xs

wide_shut : (p : Place) (xs : List Terminal) → Shut xs → Shut (wide p xs)
wide_shut place.Term xs s = s
wide_shut place.Application xs s = brackets_shut xs
wide_shut place.Atom xs s = brackets_shut xs

binder_begins : (x : Option (List ℕ)) → closes (binder_terminal x) ≡ false
binder_begins None = refl
binder_begins (Some n) = refl

spelled_begins : (p : Place) (w : Written) → Begins (spelled p w)
spelled_begins p (written_name n) = refl
spelled_begins p (written_qualified m n) = refl
spelled_begins p written_star = refl
spelled_begins p written_wild = refl
spelled_begins p (written_apply f a) = narrow_begins p _ (begins_both _ _ (spelled_begins place.Application f))
spelled_begins p (written_arrow a b) = wide_begins p _ (begins_both _ _ (spelled_begins place.Application a))
spelled_begins p (written_product x a b) = wide_begins p _ (binder_begins x)
spelled_begins p (written_bare x b) = wide_begins p _ (binder_begins x)
spelled_begins p (written_annotated x a b) = wide_begins p _ (binder_begins x)

spelled_shut : (p : Place) (w : Written) → Shut (spelled p w)
spelled_shut p (written_name n) = refl
spelled_shut p (written_qualified m n) = refl
spelled_shut p written_star = refl
spelled_shut p written_wild = refl
spelled_shut p (written_apply f a) = narrow_shut p _ (shut_both (spelled place.Application f) _ (spelled_shut place.Atom a))
spelled_shut p (written_arrow a b) = wide_shut p _ (between_shut (spelled place.Application a) (spelled place.Term b) arrow (spelled_shut place.Term b))
spelled_shut p (written_product x a b) = wide_shut p _ (two_shut (binder_terminal x) colon (spelled place.Application a ++ arrow ∷ spelled place.Term b)
    (between_shut (spelled place.Application a) (spelled place.Term b) arrow (spelled_shut place.Term b)))
spelled_shut p (written_bare x b) = wide_shut p _ (two_shut (binder_terminal x) double_arrow (spelled place.Term b) (spelled_shut place.Term b))
spelled_shut p (written_annotated x a b) = wide_shut p _ (two_shut (binder_terminal x) colon (spelled place.Application a ++ double_arrow ∷ spelled place.Term b)
    (between_shut (spelled place.Application a) (spelled place.Term b) double_arrow (spelled_shut place.Term b)))

-- a blank stands before the first one
blank_first : (xs : List Terminal) → Begins xs → text_behind false xs ≡ 32 ∷ text_behind true xs
blank_first [] b = absurd b
blank_first (x ∷ xs) b = ap (λ c. (if c then [] else (32 ∷ [])) ++ (terminal_text x ++ text_behind (opens x) xs)) b

-- and before the dot
dot_last : (joined : Bool) (xs : List Terminal) → Shut xs → text_behind joined (xs ++ dot ∷ []) ≡ text_behind joined xs ++ codes " ."
dot_last joined [] s = absurd s
dot_last joined (x ∷ []) s =
    ap (λ c. gap ++ (terminal_text x ++ text_behind c (dot ∷ []))) s
    ∙ (ap (λ ts. gap ++ ts) (flip (ap (λ ts. ts ++ codes " .") (ended (terminal_text x)))) ∙ flip (append_assoc gap (terminal_text x ++ []) (codes " .")))
  where
    gap : List ℕ
    gap = if joined || closes x then [] else (32 ∷ [])

    ended : (ys : List ℕ) → ys ++ [] ≡ ys
    ended [] = refl
    ended (y ∷ ys) = ap (λ zs. y ∷ zs) (ended ys)
dot_last joined (x ∷ y ∷ ys) s =
    ap (λ ts. gap ++ (terminal_text x ++ ts)) (dot_last (opens x) (y ∷ ys) s)
    ∙ (ap (λ ts. gap ++ ts) (flip (append_assoc (terminal_text x) (text_behind (opens x) (y ∷ ys)) (codes " .")))
    ∙ flip (append_assoc gap (terminal_text x ++ text_behind (opens x) (y ∷ ys)) (codes " .")))
  where
    gap : List ℕ
    gap = if joined || closes x then [] else (32 ∷ [])

pub definition_is : (words : ℕ → Word) (c : List ℕ) (t : Tree) → text_of (definition words c t) ≡ definition_text words c t
definition_is words c t =
    ap (λ ts. codes "def " ++ (c ++ (codes " :=" ++ ts)))
    (dot_last false (spelled place.Term (written_term words t)) (spelled_shut place.Term (written_term words t))
    ∙ ap (λ ts. ts ++ codes " .") (blank_first (spelled place.Term (written_term words t)) (spelled_begins place.Term (written_term words t))))

pub asking_is : (w : Terminal) (words : ℕ → Word) (t : Tree) → opens w ≡ false → text_of (asking w words t) ≡ asking_text w words t
asking_is w words t no_bracket =
    ap (λ c. terminal_text w ++ text_behind c (spelled place.Term (written_term words t) ++ dot ∷ [])) no_bracket
    ∙ ap (λ ts. terminal_text w ++ ts)
    (dot_last false (spelled place.Term (written_term words t)) (spelled_shut place.Term (written_term words t))
    ∙ ap (λ ts. ts ++ codes " .") (blank_first (spelled place.Term (written_term words t)) (spelled_begins place.Term (written_term words t))))
