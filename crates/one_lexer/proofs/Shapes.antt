-- What stands at a byte is a settled blank or a comment, or a token or a fault within the bytes.
use Rattle.std.proofs.Common.{◌≡◌, ◌≤◌, ◌<◌, ℕ, zero, suc, ◌+◌, ◌-◌, Bool, true, false, nat_le, List, [], ◌∷◌, ◌++◌, length, refl, sym, ap, subst, ◌∙◌, arith}
use Rattle.std.specs.Prelude.{Option, Some, None, IfSome}
use Rattle.dk_lexer.specs.declared.class.Class.{Class}
use Rattle.dk_lexer.specs.declared.class.Class.TheVariants as class
use Rattle.dk_lexer.specs.Classes.{class_of}
use Rattle.dk_lexer.specs.Spelling.{Spelling, blank, token, wrong, run_and_dot, comment_open, unsettled, late, bracket_before, behind_bracket, behind_colon, behind_equals, behind_minus, behind_open, word_spelled, comment, letters_of, behind_letters, run_of, behind_run, name_spelled, spelled_by}
use Rattle.dk_lexer.proofs.Outcomes.{Leaves, le_false}
use Rattle.one_lexer.proofs.Leaves.{IsBlank, blank_more}
use Rattle.dk_lexer.proofs.Leaves.{letters_leave, name_leaves, run_length, word_leaves}
use Rattle.one_lexer.proofs.Leaves.{colon_leaves, comment_blank, equals_leaves, minus_leaves, open_leaves}
use Rattle.one_lexer.specs.declared.found.Found.{Found}
use Rattle.one_lexer.specs.declared.found.Found.TheVariants as found
use Rattle.one_lexer.specs.Views.{found_spelling, late_by, settled_by, spelled_front}
use Rattle.one_lexer.specs.Steps.{ShapeBy}

-- a token leaves fewer bytes than there are, a fault at most all
abbrev pub Tight : ℕ → Spelling → Type 0
Tight n (token kind text left) = left ≤ n
Tight n (run_and_dot text left) = left ≤ n
Tight n (wrong code left) = left ≤ suc n
Tight n (unsettled s) = Tight n s
Tight n (late left s) = (left ≤ n) × Tight n s
Tight n (blank left) = ⊥
Tight n comment_open = ⊥

-- a blank or a comment, or a token or a fault
pub data Kind (n : ℕ) (s : Spelling) : Type 0 where
  passes : IsBlank n s → Kind n s
  stands : Tight n s → Kind n s

tight_from : (n : ℕ) (s : Spelling) → Leaves n s → Tight n s
tight_from n (token kind text left) h = h
tight_from n (run_and_dot text left) h = h
tight_from n (wrong code left) h = omega arith
tight_from n (unsettled s) h = tight_from n s h
tight_from n (late left s) h = (h.0, tight_from n s h.1)
tight_from n (blank left) h = absurd h
tight_from n comment_open h = absurd h

bracket_by : (c : Class) (cs : List ℕ) → Kind (suc (length cs)) (bracket_before c cs)
bracket_by class.Semicolon cs = passes (blank_more (length cs) (suc (length cs)) (comment 1 class.Other cs) (omega arith) (comment_blank 1 class.Other cs))
bracket_by _ cs = stands (omega arith)

bracket_kind : (bs : List ℕ) → Kind (length bs) (behind_bracket bs)
bracket_kind [] = stands (omega arith)
bracket_kind (c ∷ cs) = bracket_by (class_of c) cs

name_tight : (limit b : ℕ) (bs : List ℕ) → Tight (length bs) (name_spelled limit (b ∷ run_of bs) (behind_run bs))
name_tight zero b bs =
    let over : nat_le (length (b ∷ run_of bs)) 0 ≡ false = le_false (length (b ∷ run_of bs)) 0 (omega arith) in
    let count = run_length bs in
    let at_most : (length (b ∷ run_of bs) - 0) + length (behind_run bs) ≤ suc (length bs) = omega arith in
    rw over at_most
name_tight (suc limit) b bs = tight_from (length bs) (name_spelled (suc limit) (b ∷ run_of bs) (behind_run bs)) (name_leaves (suc limit) (b ∷ []) bs (omega arith))

-- no blank or comment begins with a byte of this class
abbrev IsSolid : Class → Type 0
IsSolid class.Blank = ⊥
IsSolid class.Newline = ⊥
IsSolid class.OpenBracket = ⊥
IsSolid _ = Unit {0}

solid_tight : (limit : ℕ) (c : Class) (b : ℕ) (bs : List ℕ) → IsSolid c → Tight (length bs) (spelled_by limit c b bs)
solid_tight limit class.Letter b bs h = name_tight limit b bs
solid_tight limit class.Digit b bs h = name_tight limit b bs
solid_tight limit class.Underscore b bs h = name_tight limit b bs
solid_tight limit class.Blank b bs h = absurd h
solid_tight limit class.Newline b bs h = absurd h
solid_tight limit class.OpenBracket b bs h = absurd h
solid_tight limit class.Colon b bs h = tight_from (length bs) (behind_colon bs) (colon_leaves bs)
solid_tight limit class.Equals b bs h = tight_from (length bs) (behind_equals bs) (equals_leaves bs)
solid_tight limit class.Minus b bs h = tight_from (length bs) (behind_minus bs) (minus_leaves bs)
solid_tight limit class.Dot b bs h = omega arith
solid_tight limit class.Comma b bs h = omega arith
solid_tight limit class.CloseBracket b bs h = omega arith
solid_tight limit class.OpenSquare b bs h = omega arith
solid_tight limit class.CloseSquare b bs h = omega arith
solid_tight limit class.OpenBrace b bs h = tight_from (length bs) (behind_open limit bs) (open_leaves limit bs)
solid_tight limit class.CloseBrace b bs h = omega arith
solid_tight limit class.Hash b bs h = tight_from (length bs) (word_spelled (letters_of bs) (length (behind_letters bs))) (word_leaves (letters_of bs) (length (behind_letters bs)) (length bs) (letters_leave bs))
solid_tight limit _ b bs h = omega arith

by_class : (limit : ℕ) (c : Class) (b : ℕ) (bs : List ℕ) → Kind (length bs) (spelled_by limit c b bs)
by_class limit class.Blank b bs = passes (omega arith)
by_class limit class.Newline b bs = passes (omega arith)
by_class limit class.OpenBracket b bs = bracket_kind bs
by_class limit c b bs = stands (solid_tight limit c b bs tt)

pub front_kind : (limit b : ℕ) (bs : List ℕ) → Kind (length bs) (spelled_front limit (b ∷ bs))
front_kind limit b bs = by_class limit (class_of b) b bs

-- ---- as the code sees it

blank_shape : (n left : ℕ) (settled : Bool) (brace : Option ℕ) → IsBlank n (late_by brace (settled_by settled (blank left))) → (settled ≡ true) × ((brace ≡ None) × (left ≤ n))
blank_shape n left true None h = (refl, (refl, h))
blank_shape n left false None h = absurd h
blank_shape n left settled (Some m) h = absurd h

not_blank : (n left : ℕ) (settled : Bool) (brace : Option ℕ) → Tight n (late_by brace (settled_by settled (blank left))) → ⊥
not_blank n left true None h = h
not_blank n left false None h = h
not_blank n left true (Some m) h = h.1
not_blank n left false (Some m) h = h.1

open_shape : (n : ℕ) (settled : Bool) (brace : Option ℕ) → IsBlank n (late_by brace (settled_by settled comment_open)) → (settled ≡ true) × (brace ≡ None)
open_shape n true None h = (refl, refl)
open_shape n false None h = absurd h
open_shape n settled (Some m) h = absurd h

not_open : (n : ℕ) (settled : Bool) (brace : Option ℕ) → Tight n (late_by brace (settled_by settled comment_open)) → ⊥
not_open n true None h = h
not_open n false None h = h
not_open n true (Some m) h = h.1
not_open n false (Some m) h = h.1

abbrev Early : ℕ → Option ℕ → Type 0
Early n brace = IfSome brace (λ left. left ≤ suc n)

late_tight : (n : ℕ) (settled : Bool) (brace : Option ℕ) (s : Spelling) → Tight n (late_by brace (settled_by settled s)) → Tight n s × Early n brace
late_tight n true None s h = (h, tt)
late_tight n false None s h = (h, tt)
late_tight n true (Some m) s h = (h.1, (let le : m ≤ n = h.0 in let more : m ≤ suc n = omega arith in more))
late_tight n false (Some m) s h = (h.1, (let le : m ≤ n = h.0 in let more : m ≤ suc n = omega arith in more))

not_passes : (n : ℕ) (settled : Bool) (brace : Option ℕ) (s : Spelling) → (IsBlank n s → ⊥) → IsBlank n (late_by brace (settled_by settled s)) → ⊥
not_passes n true None s absent h = absent h
not_passes n false None s absent h = h
not_passes n settled (Some m) s absent h = h

pub shape_by : (n : ℕ) (settled : Bool) (brace : Option ℕ) (f : Found) → Kind n (late_by brace (settled_by settled (found_spelling f))) → ShapeBy (suc n) settled brace f
shape_by n settled brace (found.Blank left) (passes h) = let k = blank_shape n left settled brace h in let le : left ≤ n = k.1.1 in (k.0, (k.1.0, omega arith))
shape_by n settled brace (found.Blank left) (stands h) = absurd (not_blank n left settled brace h)
shape_by n settled brace found.CommentOpen (passes h) = open_shape n settled brace h
shape_by n settled brace found.CommentOpen (stands h) = absurd (not_open n settled brace h)
shape_by n settled brace (found.Token kind text left) (passes h) = absurd (not_passes n settled brace (token kind text.now left) (λ never. never) h)
shape_by n settled brace (found.Token kind text left) (stands h) = let k = late_tight n settled brace (token kind text.now left) h in let le : left ≤ n = k.0 in ((omega arith), k.1)
shape_by n settled brace (found.RunAndDot text left) (passes h) = absurd (not_passes n settled brace (run_and_dot text.now left) (λ never. never) h)
shape_by n settled brace (found.RunAndDot text left) (stands h) = let k = late_tight n settled brace (run_and_dot text.now left) h in let le : left ≤ n = k.0 in ((omega arith), k.1)
shape_by n settled brace (found.Wrong code left) (passes h) = absurd (not_passes n settled brace (wrong code left) (λ never. never) h)
shape_by n settled brace (found.Wrong code left) (stands h) = late_tight n settled brace (wrong code left) h

pub shape_of : (limit n : ℕ) (settled : Bool) (brace : Option ℕ) (f : Found) (bytes : List ℕ) → 0 < length bytes → late_by brace (settled_by settled (found_spelling f)) ≡ spelled_front limit bytes → ShapeBy (length bytes) settled brace f
shape_of limit n settled brace f [] some is = absurd (omega arith)
shape_of limit n settled brace f (b ∷ bs) some is = shape_by (length bs) settled brace f (subst (Kind (length bs)) (sym is) (front_kind limit b bs))

-- ---- a comment that is open

-- a comment begins with the first two of these bytes, however they go on
pub record Opens (limit : ℕ) (bytes : List ℕ) : Type 0 where
  pub first : ℕ
  pub second : ℕ
  pub rest : List ℕ
  pub bytes_are : bytes ≡ first ∷ second ∷ rest
  pub starts : (more : List ℕ) → spelled_front limit (first ∷ second ∷ (rest ++ more)) ≡ comment 1 class.Other (rest ++ more)

tight_open : (n : ℕ) (s : Spelling) → Tight n s → s ≡ comment_open → ⊥
tight_open n s h e = subst (Tight n) e h

semicolon_opens : (limit b c : ℕ) (ds : List ℕ) (k : Class) → class_of b ≡ class.OpenBracket → class_of c ≡ k → bracket_before k ds ≡ comment_open → Opens limit (b ∷ c ∷ ds)
semicolon_opens limit b c ds class.Semicolon is there h = record {
  first = b;
  second = c;
  rest = ds;
  bytes_are = refl;
  starts = λ more. ap (λ (k : Class). spelled_by limit k b (c ∷ (ds ++ more))) is ∙ ap (λ (k : Class). bracket_before k (ds ++ more)) there;
}
semicolon_opens limit b c ds _ is there h = absurd cc

bracket_opens : (limit b : ℕ) (bs : List ℕ) → class_of b ≡ class.OpenBracket → behind_bracket bs ≡ comment_open → Opens limit (b ∷ bs)
bracket_opens limit b [] is h = absurd cc
bracket_opens limit b (c ∷ ds) is h = semicolon_opens limit b c ds (class_of c) is refl h

opens_by : (limit : ℕ) (k : Class) (b : ℕ) (bs : List ℕ) → class_of b ≡ k → spelled_by limit k b bs ≡ comment_open → Opens limit (b ∷ bs)
opens_by limit class.Blank b bs is h = absurd cc
opens_by limit class.Newline b bs is h = absurd cc
opens_by limit class.OpenBracket b bs is h = bracket_opens limit b bs is h
opens_by limit k b bs is h = absurd (tight_open (length bs) (spelled_by limit k b bs) (solid_tight limit k b bs tt) h)

pub comment_opens : (limit : ℕ) (bytes : List ℕ) → spelled_front limit bytes ≡ comment_open → Opens limit bytes
comment_opens limit [] h = absurd cc
comment_opens limit (b ∷ bs) h = opens_by limit (class_of b) b bs refl h
