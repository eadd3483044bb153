-- A run and the dot behind it: the dot is the sign where what follows doesn't go on with a name.
use Rattle.std.proofs.Common.{ℕ, suc, ◌+◌, ◌-◌, ◌≡◌, Bool, true, false, nat_le, List, [], ◌∷◌, ◌++◌, length, append_assoc, if◌then◌else◌, refl, ap, sym, subst, ◌∙◌}
use Rattle.dk_model.specs.declared.code.Code.TheVariants.{E05}
use Rattle.dk_lexer.specs.declared.class.Class.{Class}
use Rattle.dk_lexer.specs.declared.class.Class.TheVariants as class
use Rattle.dk_lexer.specs.Classes.{class_of, in_name}
use Rattle.dk_lexer.specs.Spelling.{Spelling, blank, token, run_and_dot, wrong, comment_open, unsettled, late, kind_of, is_wildcard, run_of, behind_run, dot_before, behind_dot, behind_name, name_spelled, behind_open, spelled, spelled_by}
use Rattle.dk_lexer.proofs.Leaves.{behind_name_leaves}
use Rattle.dk_lexer.proofs.Outcomes.{Leaves}
use Rattle.one_lexer.proofs.Leaves.{open_leaves}
use Rattle.one_lexer.proofs.Runs.{StartsRun, There, run_starts, run_split}
use Rattle.one_lexer.proofs.Slices.{run_named, behind_named}
use Rattle.text_law.proofs.Stands.{core}

-- behind a run and a dot, these bytes leave the dot a sign
abbrev pub EndsDot : List ℕ → Type 0
EndsDot r = (limit : ℕ) (text : List ℕ) → behind_dot limit text r ≡ run_and_dot text (length r)

pub newline_ends : (more : List ℕ) → EndsDot (10 ∷ more)
unfolding class_of
newline_ends more limit text = refl

-- ---- the same run again, with anything behind its dot

again_by : (t : Bool) (b : ℕ) (bs r : List ℕ) → in_name (class_of b) ≡ t → run_of (run_of bs ++ 46 ∷ r) ≡ run_of bs → run_of ((if t then b ∷ run_of bs else []) ++ 46 ∷ r) ≡ (if t then b ∷ run_of bs else [])
unfolding class_of
again_by true b bs r e h = run_named b (run_of bs ++ 46 ∷ r) e ∙ ap (λ (x : List ℕ). b ∷ x) h
again_by false b bs r e h = refl

run_again : (bs r : List ℕ) → run_of (run_of bs ++ 46 ∷ r) ≡ run_of bs
unfolding class_of
run_again [] r = refl
run_again (b ∷ bs) r = again_by (in_name (class_of b)) b bs r refl (run_again bs r)

behind_by : (t : Bool) (b : ℕ) (bs r : List ℕ) → in_name (class_of b) ≡ t → behind_run (run_of bs ++ 46 ∷ r) ≡ 46 ∷ r → behind_run ((if t then b ∷ run_of bs else []) ++ 46 ∷ r) ≡ 46 ∷ r
unfolding class_of
behind_by true b bs r e h = behind_named b (run_of bs ++ 46 ∷ r) e ∙ h
behind_by false b bs r e h = refl

behind_again : (bs r : List ℕ) → behind_run (run_of bs ++ 46 ∷ r) ≡ 46 ∷ r
unfolding class_of
behind_again [] r = refl
behind_again (b ∷ bs) r = behind_by (in_name (class_of b)) b bs r refl (behind_again bs r)

chosen : (t w : Bool) (limit n m : ℕ) (run more r text : List ℕ) (left : ℕ)
    → core (if t then (if w then token (kind_of run) run (suc (length more)) else behind_dot limit run more) else wrong E05 n) ≡ run_and_dot text left
    → (if t then (if w then token (kind_of run) run (suc (length r)) else behind_dot limit run r) else wrong E05 m) ≡ behind_dot limit run r
chosen true true limit n m run more r text left h = absurd cc
chosen true false limit n m run more r text left h = refl
chosen false w limit n m run more r text left h = absurd cc

named : (limit : ℕ) (run more r text : List ℕ) (left : ℕ) → core (name_spelled limit run (46 ∷ more)) ≡ run_and_dot text left → name_spelled limit run (46 ∷ r) ≡ behind_dot limit run r
unfolding class_of
named limit run more r text left h = chosen (nat_le (length run) limit) (is_wildcard run) limit ((length run - limit) + length (46 ∷ more)) ((length run - limit) + length (46 ∷ r)) run more r text left h

named_bytes : (limit b : ℕ) (bs more r text : List ℕ) (left : ℕ) → behind_run bs ≡ 46 ∷ more → core (name_spelled limit (b ∷ run_of bs) (behind_run bs)) ≡ run_and_dot text left
    → name_spelled limit (b ∷ run_of ((run_of bs ++ 46 ∷ []) ++ r)) (behind_run ((run_of bs ++ 46 ∷ []) ++ r)) ≡ behind_dot limit (b ∷ run_of bs) r
named_bytes limit b bs more r text left e h =
    let at : (run_of bs ++ 46 ∷ []) ++ r ≡ run_of bs ++ 46 ∷ r = append_assoc (run_of bs) (46 ∷ []) r in
    (λ i. name_spelled limit (b ∷ run_of (at i)) (behind_run (at i)))
    ∙ (λ i. name_spelled limit (b ∷ run_again bs r i) (behind_again bs r i))
    ∙ named limit (b ∷ run_of bs) more r text left (subst (λ (x : List ℕ). core (name_spelled limit (b ∷ run_of bs) x) ≡ run_and_dot text left) e h)

run_by : (limit : ℕ) (k : Class) (b : ℕ) (bs more r text : List ℕ) (left : ℕ) → in_name k ≡ true → behind_run bs ≡ 46 ∷ more → core (spelled_by limit k b bs) ≡ run_and_dot text left
    → spelled_by limit k b ((run_of bs ++ 46 ∷ []) ++ r) ≡ behind_dot limit (b ∷ run_of bs) r
run_by limit class.Letter b bs more r text left n e h = named_bytes limit b bs more r text left e h
run_by limit class.Digit b bs more r text left n e h = named_bytes limit b bs more r text left e h
run_by limit class.Underscore b bs more r text left n e h = named_bytes limit b bs more r text left e h
run_by limit class.Quote b bs more r text left n e h = absurd cc
run_by limit k b bs more r text left n e h = absurd cc

starts_core : (b : ℕ) (bs : List ℕ) (s : Spelling) (text : List ℕ) (left : ℕ) → StartsRun b bs s → core s ≡ run_and_dot text left → (in_name (class_of b) ≡ true) × There (b ∷ run_of bs) (behind_run bs) text left
starts_core b bs (run_and_dot text' left') text left h e = subst (StartsRun b bs) e h
starts_core b bs (unsettled s) text left h e = starts_core b bs s text left h e
starts_core b bs (late m s) text left h e = starts_core b bs s text left h.0 e
starts_core b bs _ text left h e = absurd cc

-- a run and its dot, and so many bytes behind it
pub record RunDot (limit b : ℕ) (bs text : List ℕ) (left : ℕ) : Type 0 where
  pub run : List ℕ
  pub more : List ℕ
  pub text_is : text ≡ b ∷ run
  pub bytes_are : bs ≡ (run ++ 46 ∷ []) ++ more
  pub left_is : left ≡ length more
  pub anew : (r : List ℕ) → spelled limit b ((run ++ 46 ∷ []) ++ r) ≡ behind_dot limit text r

pub run_dot : (limit b : ℕ) (bs text : List ℕ) (left : ℕ) → core (spelled limit b bs) ≡ run_and_dot text left → RunDot limit b bs text left
run_dot limit b bs text left h =
    let at : (in_name (class_of b) ≡ true) × There (b ∷ run_of bs) (behind_run bs) text left = starts_core b bs (spelled limit b bs) text left (run_starts limit b bs) h in
    let k : There (b ∷ run_of bs) (behind_run bs) text left = at.1 in
    record {
      run = run_of bs;
      more = k.more;
      text_is = k.text_is;
      bytes_are = sym (run_split bs) ∙ ap (λ (x : List ℕ). run_of bs ++ x) k.rest_is ∙ sym (append_assoc (run_of bs) (46 ∷ []) k.more);
      left_is = k.left_is;
      anew = λ r. run_by limit (class_of b) b bs k.more r text left at.0 k.rest_is h ∙ ap (λ (x : List ℕ). behind_dot limit x r) (sym k.text_is);
    }

-- ---- a blank or a comment leaves it a sign

leaves_never : (n : ℕ) (s : Spelling) (left : ℕ) → Leaves n s → core s ≡ blank left → ⊥
leaves_never n (unsettled s) left h e = leaves_never n s left h e
leaves_never n (late m s) left h e = leaves_never n s left h.1 e
leaves_never n (blank l) left h e = h
leaves_never n comment_open left h e = h
leaves_never n _ left h e = absurd cc

name_never : (t : Bool) (n : ℕ) (x : Spelling) (m left : ℕ) → Leaves n x → core (if t then x else wrong E05 m) ≡ blank left → ⊥
name_never true n x m left h e = leaves_never n x left h e
name_never false n x m left h e = absurd cc

blank_by : (limit : ℕ) (k : Class) (b : ℕ) (bs : List ℕ) (left : ℕ) → core (spelled_by limit k b bs) ≡ blank left → (max : ℕ) (text : List ℕ) (c : ℕ) (cs : List ℕ) → dot_before max text k c cs ≡ run_and_dot text (suc (length cs))
blank_by limit class.Letter b bs left e max text c cs = absurd (name_never (nat_le (length (b ∷ run_of bs)) limit) _ (behind_name limit (b ∷ run_of bs) (behind_run bs)) _ left (behind_name_leaves limit (b ∷ run_of bs) (behind_run bs)) e)
blank_by limit class.Digit b bs left e max text c cs = absurd (name_never (nat_le (length (b ∷ run_of bs)) limit) _ (behind_name limit (b ∷ run_of bs) (behind_run bs)) _ left (behind_name_leaves limit (b ∷ run_of bs) (behind_run bs)) e)
blank_by limit class.Underscore b bs left e max text c cs = absurd (name_never (nat_le (length (b ∷ run_of bs)) limit) _ (behind_name limit (b ∷ run_of bs) (behind_run bs)) _ left (behind_name_leaves limit (b ∷ run_of bs) (behind_run bs)) e)
blank_by limit class.OpenBrace b bs left e max text c cs = absurd (leaves_never (length bs) (behind_open limit bs) left (open_leaves limit bs) e)
blank_by limit _ b bs left e max text c cs = refl

pub blank_ends : (limit b : ℕ) (bs : List ℕ) (left : ℕ) → core (spelled limit b bs) ≡ blank left → (more : List ℕ) → EndsDot (b ∷ more)
blank_ends limit b bs left e more max text = blank_by limit (class_of b) b bs left e max text b more
