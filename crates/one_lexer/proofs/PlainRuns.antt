-- A plain run that is read the short way.
use Rattle.std.proofs.Common.{◌≡◌, ◌≤◌, ◌<◌, ℕ, zero, suc, ◌+◌, ◌-◌, Bool, true, false, ◌==◌, ◌&&◌, ◌||◌, nat_le, List, [], ◌∷◌, ◌++◌, length, take, drop, codes, if◌then◌else◌, refl, sym, ap, ◌∙◌, arith, append_assoc, length-append}
use Rattle.std.proofs.lemmas.List.{length-take-le}
use Rattle.std.proofs.lemmas.Bool.{eqb-false}
use Rattle.std.proofs.lemmas.Bool.Decides.{nat_tests}
use Rattle.std.specs.Prelude.{Some, slice_get}
use Rattle.std.specs.Str.{bytes_eq}
use Rattle.dk_lexer.specs.declared.class.Class.{Class}
use Rattle.dk_lexer.specs.declared.class.Class.TheVariants as class
use Rattle.dk_lexer.specs.declared.place.Place.{Place}
use Rattle.dk_lexer.specs.declared.token.TokenKind.{TokenKind}
use Rattle.dk_lexer.specs.declared.token.TokenKind.TheVariants as kind
use Rattle.dk_lexer.specs.Classes.{begins_name, class_of, in_name}
use Rattle.dk_lexer.specs.Spelling.{Spelling, behind_dot, behind_name, behind_run, dot_before, is_outside, is_wildcard, kind_of, name_spelled, run_and_dot, run_before, run_of, second_spelled, spelled_by, token, up_to}
use Rattle.dk_lexer.specs.Tokens.{behind}
use Rattle.one_lexer.specs.Places.{place_behind}
use Rattle.one_lexer.specs.Blanks.{is_blank_class}
use Rattle.one_lexer.specs.Quick.{BeginsRun, EndsWithDot, IsSecond, IsSpelt, along, may_be_word}
use Rattle.one_lexer.specs.Views.{spelled_front}
use Rattle.one_lexer.proofs.Bytes.{is_dot}
use Rattle.one_lexer.proofs.Runs.{run_place, run_split}
use Rattle.one_lexer.proofs.Slices.{behind_named, run_named}
use Rattle.one_lexer.proofs.SignLines.{along_all, on_line}
use Rattle.one_lexer.proofs.Seconds.{second_named}

-- ---- words

plain_is : (text : List ℕ) → is_wildcard text ≡ false → bytes_eq text (codes "Type") ≡ false → bytes_eq text (codes "def") ≡ false → bytes_eq text (codes "thm") ≡ false → is_outside text ≡ false → kind_of text ≡ kind.Plain
unfolding kind_of
plain_is text w s d t o =
    ap (λ (x : Bool). if x then kind.Wildcard else (if bytes_eq text (codes "Type") then kind.Star else (if bytes_eq text (codes "def") then kind.Def else (if bytes_eq text (codes "thm") then kind.Thm else (if is_outside text then kind.Profile else kind.Plain))))) w
    ∙ ap (λ (x : Bool). if x then kind.Star else (if bytes_eq text (codes "def") then kind.Def else (if bytes_eq text (codes "thm") then kind.Thm else (if is_outside text then kind.Profile else kind.Plain)))) s
    ∙ ap (λ (x : Bool). if x then kind.Def else (if bytes_eq text (codes "thm") then kind.Thm else (if is_outside text then kind.Profile else kind.Plain))) d
    ∙ ap (λ (x : Bool). if x then kind.Thm else (if is_outside text then kind.Profile else kind.Plain)) t
    ∙ ap (λ (x : Bool). if x then kind.Profile else kind.Plain) o

outside_not : (text : List ℕ) → bytes_eq text (codes "defac") ≡ false → bytes_eq text (codes "defacu") ≡ false → bytes_eq text (codes "injective") ≡ false → bytes_eq text (codes "private") ≡ false → is_outside text ≡ false
outside_not text a u i p = rw (a, u, i, p) refl

-- two bytes begin this word or none
apart : (t u r : Bool) → (t && u) ≡ false → (t && (u && r)) ≡ false
apart true u r e = ap (λ (x : Bool). x && r) e
apart false u r e = refl

other : (b c x y : ℕ) (bs cs : List ℕ) → ((b == x) && (c == y)) ≡ false → bytes_eq (b ∷ c ∷ bs) (x ∷ y ∷ cs) ≡ false
other b c x y bs cs e = apart (b == x) (c == y) (bytes_eq bs cs) e

neither : (t u : Bool) → (t || u) ≡ false → (t ≡ false) × (u ≡ false)
neither true u e = absurd cc
neither false u e = (refl, e)

-- one byte is no word
alone : (b x y : ℕ) (cs : List ℕ) → bytes_eq (b ∷ []) (x ∷ y ∷ cs) ≡ false
alone b x y cs = none (b == x)
  where
    none : (t : Bool) → (t && false) ≡ false
    none true = refl
    none false = refl

pub plain_word : (text : List ℕ) → may_be_word text ≡ false → kind_of text ≡ kind.Plain
plain_word [] h = plain_is [] refl refl refl refl (outside_not [] refl refl refl refl)
plain_word (b ∷ []) h =
    plain_is (b ∷ []) h (alone b 84 121 (codes "pe")) (alone b 100 101 (codes "f")) (alone b 116 104 (codes "m"))
    (outside_not (b ∷ []) (alone b 100 101 (codes "fac")) (alone b 100 101 (codes "facu")) (alone b 105 110 (codes "jective")) (alone b 112 114 (codes "ivate")))
plain_word (b ∷ c ∷ cs) h =
    let private = neither ((((b == 84) && (c == 121)) || ((b == 100) && (c == 101))) || (((b == 116) && (c == 104)) || ((b == 105) && (c == 110)))) ((b == 112) && (c == 114)) h in
    let four = neither (((b == 84) && (c == 121)) || ((b == 100) && (c == 101))) (((b == 116) && (c == 104)) || ((b == 105) && (c == 110))) private.0 in
    let first = neither ((b == 84) && (c == 121)) ((b == 100) && (c == 101)) four.0 in
    let last = neither ((b == 116) && (c == 104)) ((b == 105) && (c == 110)) four.1 in
    plain_is (b ∷ c ∷ cs) refl (other b c 84 121 cs (codes "pe") first.0) (other b c 100 101 cs (codes "f") first.1) (other b c 116 104 cs (codes "m") last.0)
    (outside_not (b ∷ c ∷ cs) (other b c 100 101 cs (codes "fac") first.1) (other b c 100 101 cs (codes "facu") first.1) (other b c 105 110 cs (codes "jective") last.1) (other b c 112 114 cs (codes "ivate") private.1))

-- ---- runs

begins_in : (k : Class) → begins_name k ≡ true → in_name k ≡ true
begins_in class.Letter h = refl
begins_in class.Digit h = refl
begins_in class.Underscore h = refl
begins_in _ h = absurd cc

spelled_run : (limit : ℕ) (k : Class) (b : ℕ) (bs : List ℕ) → begins_name k ≡ true → spelled_by limit k b bs ≡ name_spelled limit (b ∷ run_of bs) (behind_run bs)
spelled_run limit class.Letter b bs h = refl
spelled_run limit class.Digit b bs h = refl
spelled_run limit class.Underscore b bs h = refl
spelled_run limit _ b bs h = absurd cc

front_run : (limit : ℕ) (bytes : List ℕ) → BeginsRun bytes → spelled_front limit bytes ≡ name_spelled limit (run_of bytes) (behind_run bytes)
front_run limit [] h = absurd h
front_run limit (b ∷ bs) h =
    let named = begins_in (class_of b) h in
    spelled_run limit (class_of b) b bs h
    ∙ ap (λ (x : List ℕ). name_spelled limit x (behind_run bs)) (sym (run_named b bs named))
    ∙ ap (name_spelled limit (run_of (b ∷ bs))) (sym (behind_named b bs named))

some_run : (bytes : List ℕ) → BeginsRun bytes → 0 < length (run_of bytes)
some_run [] h = absurd h
some_run (b ∷ bs) h = let n : length (run_of (b ∷ bs)) ≡ suc (length (run_of bs)) = ap length (run_named b bs (begins_in (class_of b) h)) in omega arith

named_by : (t : Bool) (limit : ℕ) (text rest : List ℕ) → nat_le (length text) limit ≡ t → length text ≤ limit → name_spelled limit text rest ≡ behind_name limit text rest
named_by true limit text rest is le = rw is refl
named_by false limit text rest is le = absurd (let past : limit < length text = grind (arith, nat_tests) in omega (arith, past, le))

before_by : (limit : ℕ) (text : List ℕ) (k : Class) (c : ℕ) (cs : List ℕ) → class_of c ≡ k → (c == 46) ≡ false → run_before limit text k cs ≡ token (kind_of text) text (suc (length cs))
before_by limit text class.Dot c cs is e = absurd (eqb-false c 46 e (is_dot c is))
before_by limit text _ c cs is e = refl

-- what these bytes of a run are, of which so many are left behind it
run_spelt : (limit left : ℕ) (bytes : List ℕ) (s : Spelling) → BeginsRun bytes → spelled_front limit bytes ≡ s → left ≡ length (behind_run bytes) → IsSpelt limit bytes s left
run_spelt limit left bytes s begins is left_is =
    let some = some_run bytes begins in
    let size : length (run_of bytes) + length (behind_run bytes) ≡ length bytes = sym (length-append (run_of bytes) (behind_run bytes)) ∙ ap length (run_split bytes) in
    record {
      is = is;
      leaves = omega (arith, some, size, left_is);
      line = on_line bytes (run_of bytes) (behind_run bytes) left (sym (run_split bytes)) left_is (λ here. run_place here bytes);
    }

-- a run behind which this byte stands
pub run_alone : (limit count : ℕ) (bytes text rest cs : List ℕ) (c : ℕ) (kind : TokenKind) → BeginsRun bytes → run_of bytes ≡ take count bytes → behind_run bytes ≡ drop count bytes → text ≡ take count bytes → rest ≡ drop count bytes
    → count ≤ length bytes → count ≤ limit → rest ≡ c ∷ cs → (c == 46) ≡ false → kind ≡ kind_of text → IsSpelt limit bytes (token kind text (length rest)) (length rest)
run_alone limit count bytes text rest cs c kind begins front back text_is rest_is within le at not_dot kind_is =
    let run : run_of bytes ≡ text = front ∙ sym text_is in
    let behind : behind_run bytes ≡ c ∷ cs = back ∙ sym rest_is ∙ at in
    let size : length text ≡ count = ap length text_is ∙ length-take-le count bytes within in
    run_spelt limit (length rest) bytes (token kind text (length rest)) begins
    (front_run limit bytes begins ∙ ap (λ (x : List ℕ). name_spelled limit x (behind_run bytes)) run ∙ ap (name_spelled limit text) behind
    ∙ named_by (nat_le (length text) limit) limit text (c ∷ cs) refl (omega (arith, size, le))
    ∙ before_by limit text (class_of c) c cs refl not_dot
    ∙ ap (λ (k : TokenKind). token k text (suc (length cs))) (sym kind_is) ∙ ap (λ (x : List ℕ). token kind text (length x)) (sym at))
    (ap length (rest_is ∙ sym back))

blank_dot : (limit : ℕ) (text : List ℕ) (k : Class) (d : ℕ) (ds : List ℕ) → is_blank_class k ≡ true → dot_before limit text k d ds ≡ run_and_dot text (suc (length ds))
blank_dot limit text class.Blank d ds h = refl
blank_dot limit text class.Newline d ds h = refl
blank_dot limit text _ d ds h = absurd cc

dot_class : class_of 46 ≡ class.Dot
unfolding class_of
dot_class = refl

-- ---- a run and its dot

pub ends_with_dot : (limit count : ℕ) (bytes text rest cs : List ℕ) (c : ℕ) → BeginsRun bytes → run_of bytes ≡ take count bytes → behind_run bytes ≡ drop count bytes → text ≡ take count bytes → rest ≡ drop count bytes
    → count ≤ length bytes → count ≤ limit → rest ≡ c ∷ cs → c ≡ 46 → is_wildcard text ≡ false → EndsWithDot limit bytes cs
ends_with_dot limit count bytes text rest cs c begins front back text_is rest_is within le at dot plain =
    let run : run_of bytes ≡ text = front ∙ sym text_is in
    let size : length (run_of bytes) ≡ count = ap length front ∙ length-take-le count bytes within in
    record {
      begins = begins;
      plain = ap is_wildcard run ∙ plain;
      fits = omega (arith, size, le);
      rest_is = back ∙ sym rest_is ∙ at ∙ ap (λ n. n ∷ cs) dot;
    }

dotted_by : (t : Bool) (limit : ℕ) (text cs : List ℕ) → is_wildcard text ≡ t → t ≡ false → run_before limit text class.Dot cs ≡ behind_dot limit text cs
dotted_by true limit text cs is e = absurd cc
dotted_by false limit text cs is e = rw is refl

front_dot : (limit : ℕ) (bytes rest : List ℕ) → EndsWithDot limit bytes rest → spelled_front limit bytes ≡ behind_dot limit (run_of bytes) rest
front_dot limit bytes rest k =
    front_run limit bytes k.begins ∙ ap (name_spelled limit (run_of bytes)) k.rest_is
    ∙ named_by (nat_le (length (run_of bytes)) limit) limit (run_of bytes) (46 ∷ rest) refl k.fits
    ∙ ap (λ (c : Class). run_before limit (run_of bytes) c rest) dot_class
    ∙ dotted_by (is_wildcard (run_of bytes)) limit (run_of bytes) rest refl k.plain

pub rest_within : (limit : ℕ) (bytes rest : List ℕ) → EndsWithDot limit bytes rest → length rest < length bytes
rest_within limit bytes rest k =
    let size : length (run_of bytes) + length (behind_run bytes) ≡ length bytes = sym (length-append (run_of bytes) (behind_run bytes)) ∙ ap length (run_split bytes) in
    let n : length (behind_run bytes) ≡ suc (length rest) = ap length k.rest_is in
    omega (arith, size, n)

-- a blank behind the dot
pub run_dot : (limit : ℕ) (bytes text rest : List ℕ) (d : ℕ) → EndsWithDot limit bytes rest → text ≡ run_of bytes → Some d ≡ slice_get rest 0 → is_blank_class (class_of d) ≡ true
    → IsSpelt limit bytes (run_and_dot text (length rest)) (length rest + 1)
run_dot limit bytes text [] d k text_is first blank = absurd cc
run_dot limit bytes text (x ∷ xs) d k text_is first blank =
    let x_is : d ≡ x = cc in
    let n : length (behind_run bytes) ≡ suc (length (x ∷ xs)) = ap length k.rest_is in
    run_spelt limit (length (x ∷ xs) + 1) bytes (run_and_dot text (length (x ∷ xs))) k.begins
    (front_dot limit bytes (x ∷ xs) k ∙ blank_dot limit (run_of bytes) (class_of x) x xs (ap (λ n. is_blank_class (class_of n)) (sym x_is) ∙ blank)
    ∙ ap (λ (y : List ℕ). run_and_dot y (length (x ∷ xs))) (sym text_is))
    (omega (arith, n))

-- a second run behind it
second_by : (limit : ℕ) (text : List ℕ) (k : Class) (c : ℕ) (cs : List ℕ) → begins_name k ≡ true → dot_before limit text k c cs ≡ second_spelled limit text (c ∷ run_of cs) (length (behind_run cs))
second_by limit text class.Letter c cs h = refl
second_by limit text class.Digit c cs h = refl
second_by limit text class.Underscore c cs h = refl
second_by limit text _ c cs h = absurd cc

second_of : (limit : ℕ) (text rest : List ℕ) → BeginsRun rest → behind_dot limit text rest ≡ second_spelled limit text (run_of rest) (length (behind_run rest))
second_of limit text [] h = absurd h
second_of limit text (c ∷ cs) h =
    let named = begins_in (class_of c) h in
    second_by limit text (class_of c) c cs h
    ∙ ap (λ (x : List ℕ). second_spelled limit text x (length (behind_run cs))) (sym (run_named c cs named))
    ∙ ap (λ (x : List ℕ). second_spelled limit text (run_of (c ∷ cs)) (length x)) (sym (behind_named c cs named))

up_to_some : (s : Spelling) (left : ℕ) → 0 < left → up_to s left ≡ s
up_to_some s zero lt = absurd (omega arith)
up_to_some s (suc left) lt = refl

along_two : (here : Place) (xs ys : List ℕ) → ((p : Place) → place_behind p xs ≡ along p (length xs)) → ((p : Place) → place_behind p ys ≡ along p (length ys)) → place_behind here (xs ++ ys) ≡ along here (length (xs ++ ys))
along_two here xs ys h g =
    let n : (here.offset + length xs) + length ys ≡ here.offset + length (xs ++ ys) = let m = length-append xs ys in omega (arith, m) in
    behind_both here xs ys ∙ ap (λ (p : Place). place_behind p ys) (h here) ∙ g (along here (length xs))
    ∙ ap (λ (k : ℕ). let q : Place = record { offset = k; line = here.line } in q) n
  where
    behind_both : (here : Place) (xs ys : List ℕ) → place_behind here (xs ++ ys) ≡ place_behind (place_behind here xs) ys
    behind_both here [] ys = refl
    behind_both here (x ∷ xs) ys = behind_both (behind here x) xs ys

pub qualified_spelt : (limit left : ℕ) (bytes rest text : List ℕ) → EndsWithDot limit bytes rest → BeginsRun rest → IsSecond limit rest left → 0 < left → text ≡ take (length bytes - left) bytes
    → IsSpelt limit bytes (token kind.Qualified text left) left
qualified_spelt limit left bytes rest text k begins s some text_is =
    let run = run_of bytes in
    let behind = drop s.count rest in
    let whole : bytes ≡ run ++ 46 ∷ rest = sym (run_split bytes) ∙ ap (λ (x : List ℕ). run ++ x) k.rest_is in
    let parts : rest ≡ run_of rest ++ behind_run rest = sym (run_split rest) in
    let left_is : left ≡ length (behind_run rest) = s.left_is ∙ ap length (sym s.back) in
    let split : bytes ≡ (run ++ 46 ∷ run_of rest) ++ behind_run rest =
    whole ∙ ap (λ (x : List ℕ). run ++ 46 ∷ x) parts ∙ sym (append_assoc run (46 ∷ run_of rest) (behind_run rest)) in
    let size : length bytes ≡ length (run ++ 46 ∷ run_of rest) + length (behind_run rest) = ap length split ∙ length-append (run ++ 46 ∷ run_of rest) (behind_run rest) in
    let head : length (run ++ 46 ∷ run_of rest) ≡ length run + suc (length (run_of rest)) = length-append run (46 ∷ run_of rest) in
    let text_so : text ≡ take (length bytes - length behind) bytes = text_is ∙ ap (λ n. take (length bytes - n) bytes) s.left_is in
    record {
      is = front_dot limit bytes rest k ∙ second_of limit run rest begins
          ∙ sym (second_named limit s.count bytes run rest (take s.count rest) behind text whole s.front s.back refl refl s.within s.fits s.plain text_so)
          ∙ ap (λ n. up_to (token kind.Qualified text n) n) (sym s.left_is)
          ∙ up_to_some (token kind.Qualified text left) left some;
      leaves = omega (arith, size, head, left_is);
      line = on_line bytes (run ++ 46 ∷ run_of rest) (behind_run rest) left split left_is
          (λ here. along_two here run (46 ∷ run_of rest) (λ p. run_place p bytes)
          (λ p. along_two p (46 ∷ []) (run_of rest) (λ q. along_all q (46 ∷ []) (refl, tt)) (λ q. run_place q rest)));
    }
