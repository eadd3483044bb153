-- Words of which some letters are known.
use Rattle.std.proofs.Common.{◌≡◌, ◌≤◌, ◌<◌, ◌+◌, ℕ, zero, suc, Bool, true, false, List, [], ◌∷◌, ◌++◌, length, take, drop, if◌then◌else◌, refl, sym, ap, subst, ◌∙◌, arith, length-append}
use Rattle.dk_lexer.specs.declared.class.Class.{Class}
use Rattle.dk_lexer.specs.declared.class.Class.TheVariants as class
use Rattle.dk_lexer.specs.declared.token.TokenKind.TheVariants as kind
use Rattle.dk_lexer.specs.Classes.{class_of, is_letter_class}
use Rattle.dk_lexer.specs.Spelling.{behind_letters, letters_of, spelled_by, token, unsettled, word_spelled}
use Rattle.one_lexer.specs.Lexers.{AreLetters, BeginsWord}
use Rattle.one_lexer.specs.Views.{spelled_front}

tail_same : (x : ℕ) (xs ys : List ℕ) → x ∷ xs ≡ x ∷ ys → xs ≡ ys
tail_same x xs ys e = cc

-- ---- letters behind letters that are known

front_by : (l : Bool) (b : ℕ) (bs xs : List ℕ) → (letters_of xs ≡ xs → letters_of bs ≡ bs) → (if l then b ∷ letters_of xs else []) ≡ b ∷ xs → (if l then b ∷ letters_of bs else []) ≡ b ∷ bs
front_by true b bs xs h e = ap (λ (x : List ℕ). b ∷ x) (h (tail_same b (letters_of xs) xs e))
front_by false b bs xs h e = absurd cc

back_by : (l : Bool) (b : ℕ) (bs xs : List ℕ) → (letters_of xs ≡ xs → behind_letters bs ≡ []) → (if l then b ∷ letters_of xs else []) ≡ b ∷ xs → (if l then behind_letters bs else b ∷ bs) ≡ []
back_by true b bs xs h e = h (tail_same b (letters_of xs) xs e)
back_by false b bs xs h e = absurd cc

all_front : (k : ℕ) (bs : List ℕ) → k ≤ length bs → letters_of (take k bs) ≡ take k bs → letters_of (drop k bs) ≡ drop k bs → letters_of bs ≡ bs
all_front zero bs le e h = h
all_front (suc k) [] le e h = refl
all_front (suc k) (b ∷ bs) le e h = front_by (is_letter_class (class_of b)) b bs (take k bs) (λ f. all_front k bs (omega arith) f h) e

all_back : (k : ℕ) (bs : List ℕ) → k ≤ length bs → letters_of (take k bs) ≡ take k bs → behind_letters (drop k bs) ≡ [] → behind_letters bs ≡ []
all_back zero bs le e h = h
all_back (suc k) [] le e h = refl
all_back (suc k) (b ∷ bs) le e h = back_by (is_letter_class (class_of b)) b bs (take k bs) (λ f. all_back k bs (omega arith) f h) e

take_whole : (n : ℕ) (bs : List ℕ) → n ≡ length bs → take n bs ≡ bs
take_whole zero [] e = refl
take_whole zero (b ∷ bs) e = absurd (omega arith)
take_whole (suc n) [] e = refl
take_whole (suc n) (b ∷ bs) e = ap (λ (x : List ℕ). b ∷ x) (take_whole n bs (omega arith))

drop_whole : (n : ℕ) (bs : List ℕ) → n ≡ length bs → drop n bs ≡ []
drop_whole zero [] e = refl
drop_whole zero (b ∷ bs) e = absurd (omega arith)
drop_whole (suc n) [] e = refl
drop_whole (suc n) (b ∷ bs) e = drop_whole n bs (omega arith)

-- `#` and letters alone
pub record IsWord (bytes : List ℕ) : Type 0 where
  pub rest : List ℕ
  pub bytes_are : bytes ≡ 35 ∷ rest
  pub some : 0 < length rest
  pub front : letters_of rest ≡ rest
  pub back : behind_letters rest ≡ []

pub is_word : (known n : ℕ) (bytes more : List ℕ) → 0 < known → known < length bytes → more ≡ drop (known + 1) bytes → n ≡ length more → letters_of more ≡ take n more → behind_letters more ≡ drop n more → BeginsWord known bytes → IsWord bytes
is_word known n [] more some lt more_is n_is front back h = absurd h
is_word known n (b ∷ bs) more some lt more_is n_is front back h =
    let z : known + 1 ≡ suc known = omega arith in
    let at : more ≡ drop known bs = more_is ∙ ap (λ (k : ℕ). drop k (b ∷ bs)) z in
    let le : known ≤ length bs = h.1.0 in
    record {
      rest = bs;
      bytes_are = ap (λ (x : ℕ). x ∷ bs) h.0;
      some = omega arith;
      front = all_front known bs le h.1.1 (subst (λ (x : List ℕ). letters_of x ≡ x) at (front ∙ take_whole n more n_is));
      back = all_back known bs le h.1.1 (subst (λ (x : List ℕ). behind_letters x ≡ []) at (back ∙ drop_whole n more n_is));
    }

hash_class : class_of 35 ≡ class.Hash
unfolding class_of
hash_class = refl

hash_spelled : (limit : ℕ) (bs : List ℕ) → 0 < length bs → letters_of bs ≡ bs → behind_letters bs ≡ [] → spelled_by limit class.Hash 35 bs ≡ unsettled (token kind.Profile (35 ∷ bs) 0)
hash_spelled limit [] some front back = absurd (omega arith)
hash_spelled limit (x ∷ xs) some front back =
    ap (λ (l : List ℕ). word_spelled l (length (behind_letters (x ∷ xs)))) front ∙ ap (λ (r : List ℕ). word_spelled (x ∷ xs) (length r)) back

pub word_waits : (limit : ℕ) (bytes : List ℕ) → IsWord bytes → spelled_front limit bytes ≡ unsettled (token kind.Profile bytes 0)
word_waits limit bytes w =
    subst (λ (x : List ℕ). spelled_front limit x ≡ unsettled (token kind.Profile x 0)) (sym w.bytes_are)
    (ap (λ (c : Class). spelled_by limit c 35 w.rest) hash_class ∙ hash_spelled limit w.rest w.some w.front w.back)

pub word_longer : (n : ℕ) (bytes : List ℕ) → n + 1 ≡ length bytes → IsWord bytes → BeginsWord n bytes
word_longer n bytes size w =
    let m = ap length w.bytes_are in
    let n_is : n ≡ length w.rest = omega arith in
    subst (BeginsWord n) (sym w.bytes_are) (refl, (omega arith, subst (λ (x : List ℕ). letters_of x ≡ x) (sym (take_whole n w.rest n_is)) w.front))

-- ---- letters are letters

letter_first : (b : ℕ) (bs : List ℕ) → is_letter_class (class_of b) ≡ true → letters_of (b ∷ bs) ≡ b ∷ letters_of bs
letter_first b bs e = rw e refl

again_by : (l : Bool) (b : ℕ) (bs : List ℕ) → is_letter_class (class_of b) ≡ l → letters_of (letters_of bs) ≡ letters_of bs → letters_of (if l then b ∷ letters_of bs else []) ≡ (if l then b ∷ letters_of bs else [])
again_by true b bs is h = letter_first b (letters_of bs) is ∙ ap (λ (x : List ℕ). b ∷ x) h
again_by false b bs is h = refl

letters_again : (bs : List ℕ) → letters_of (letters_of bs) ≡ letters_of bs
letters_again [] = refl
letters_again (b ∷ bs) = again_by (is_letter_class (class_of b)) b bs refl (letters_again bs)

pub begins_word : (n b : ℕ) (bs bytes : List ℕ) → bytes ≡ b ∷ bs → b ≡ 35 → n ≤ length bs → letters_of bs ≡ take n bs → BeginsWord n bytes
begins_word n b bs bytes is hash le e = subst (BeginsWord n) (sym is) (hash, (le, subst (λ (x : List ℕ). letters_of x ≡ x) e (letters_again bs)))

-- ---- more bytes come

letters_more : (n : ℕ) (bs more : List ℕ) → n ≤ length bs → take n (bs ++ more) ≡ take n bs
letters_more zero bs more le = refl
letters_more (suc n) [] more le = absurd (let no : suc n ≤ 0 = le in omega arith)
letters_more (suc n) (b ∷ bs) more le = ap (λ (x : List ℕ). b ∷ x) (letters_more n bs more (omega arith))

pub letters_longer : (n : ℕ) (bs more : List ℕ) → AreLetters n bs → AreLetters n (bs ++ more)
letters_longer n bs more h =
    let size = length-append bs more in
    let le : n ≤ length bs = h.0 in
    (omega arith, subst (λ (x : List ℕ). letters_of x ≡ x) (sym (letters_more n bs more le)) h.1)
