-- The arguments of a value as a stack and as columns.
use Rattle.std.proofs.Common.{List, [], ◌∷◌, ◌++◌, ◌≡◌, ◌+◌, ◌<◌, ℕ, zero, suc, Some, true, false, refl, ap, ◌∙◌, sym as flip, subst, arith, length, take, map, get_or, length-append, append_assoc}
use Rattle.std.specs.Prelude.{slice_get}
use Rattle.std.proofs.lemmas.List.{map-append, length-map, take-map}
use Rattle.dk_model.specs.Trees.{Tree, star, kind, symbol, variable, rule_variable, apply, bare, annotated, product}
use Rattle.dk_model.specs.Spines.{head, arguments}
use Rattle.dk_model.specs.Matrix.{is_bare}
use Rattle.dk_model.specs.Matrix.{Column as PlainColumn}
use Rattle.shared_term.specs.declared.id.TermId.{TermId}
use Rattle.shared_term.specs.Pools.{Node, term}
use Rattle.rule_match.specs.declared.key.Key.TheVariants.{Abstraction}
use Rattle.rule_match.specs.declared.value.Column.{Column}
use Rattle.rule_match.specs.Keys.{key_at, key_of}
use Rattle.rule_match.specs.Columns.{AreWithin, behind, wound, from_top, is_application, column, argument_column, AreColumns, IsHeadOf}

-- a stack from its top

pub from_top_pushed : {A : Type 0} (xs : List A) (a : A) → from_top (xs ++ (a ∷ [])) ≡ a ∷ from_top xs
from_top_pushed [] a = refl
from_top_pushed (x ∷ xs) a = ap (λ l. l ++ (x ∷ [])) (from_top_pushed xs a)

pub length_from_top : {A : Type 0} (xs : List A) → length (from_top xs) ≡ length xs
length_from_top [] = refl
length_from_top (x ∷ xs) = length-append (from_top xs) (x ∷ []) ∙ (let h : length (from_top xs) ≡ length xs = length_from_top xs in omega (arith, h))

pub map_from_top : {A B : Type 0} (f : A → B) (xs : List A) → map f (from_top xs) ≡ from_top (map f xs)
map_from_top f [] = refl
map_from_top f (x ∷ xs) = map-append f (from_top xs) (x ∷ []) ∙ ap (λ l. l ++ (f x ∷ [])) (map_from_top f xs)

-- a head and its arguments

arguments_alone : (t : Tree) → is_application t ≡ false → arguments t ≡ []
arguments_alone (apply f a) e = cc
arguments_alone t e = refl

head_alone : (t : Tree) → is_application t ≡ false → head t ≡ t
head_alone (apply f a) e = cc
head_alone t e = refl

pub arguments_wound : (t : Tree) (xs : List Tree) → is_application t ≡ false → arguments (wound t xs) ≡ from_top xs
arguments_wound t [] e = arguments_alone t e
arguments_wound t (x ∷ xs) e = ap (λ (l : List Tree). l ++ (x ∷ [])) (arguments_wound t xs e)

pub head_wound : (t : Tree) (xs : List Tree) → is_application t ≡ false → head (wound t xs) ≡ t
head_wound t [] e = head_alone t e
head_wound t (x ∷ xs) e = head_wound t xs e

-- the columns as plain data

abbrev plain_argument : ℕ → Tree → PlainColumn
plain_argument depth a = record { depth = depth; term = a }

pub plain_arguments : (ns : List Node) (depth : ℕ) (ids : List TermId) → map (column ns) (map (argument_column depth) ids) ≡ map (plain_argument depth) (map (term ns) ids)
plain_arguments ns depth [] = refl
plain_arguments ns depth (i ∷ ids) = ap (λ l. column ns (argument_column depth i) ∷ l) (plain_arguments ns depth ids)

pub arguments_opened : (ns : List Node) (depth : ℕ) (ids : List TermId) → map (column ns) (map (argument_column depth) (from_top ids)) ≡ map (plain_argument depth) (from_top (behind ns ids))
arguments_opened ns depth ids = plain_arguments ns depth (from_top ids) ∙ ap (map (plain_argument depth)) (map_from_top (term ns) ids)

pub columns_joined : (n : ℕ) (cs ds : List Column) → AreColumns n cs → AreColumns n ds → AreColumns n (cs ++ ds)
columns_joined n [] ds h k = k
columns_joined n (c ∷ cs) ds h k = (h.0, columns_joined n cs ds h.1 k)

pub arguments_within : (n depth : ℕ) (ids : List TermId) → AreWithin n ids → AreColumns n (map (argument_column depth) (from_top ids))
arguments_within n depth [] h = tt
arguments_within n depth (i ∷ ids) h =
    let e = map-append (argument_column depth) (from_top ids) (i ∷ []) in
    subst (λ (l : List Column). AreColumns n l) (flip e) (columns_joined n (map (argument_column depth) (from_top ids)) (argument_column depth i ∷ []) (arguments_within n depth ids h.1) (h.0, tt))

pub argument_taken : (depth : ℕ) (stack rest : List TermId) (a : TermId) (cs new whole : List Column) → stack ≡ rest ++ (a ∷ []) → new ≡ cs ++ (argument_column depth a ∷ [])
    → cs ++ map (argument_column depth) (from_top stack) ≡ whole → new ++ map (argument_column depth) (from_top rest) ≡ whole
argument_taken depth stack rest a cs new whole e q h =
    ap (λ l. l ++ map (argument_column depth) (from_top rest)) q
    ∙ append_assoc cs (argument_column depth a ∷ []) (map (argument_column depth) (from_top rest))
    ∙ ap (λ l. cs ++ map (argument_column depth) l) (flip (ap from_top e ∙ from_top_pushed rest a)) ∙ h

pub columns_joined_3 : (n : ℕ) (a b d : List Column) (c : Column) → AreColumns n a → c.term.0 < n → AreColumns n b → AreColumns n d → AreColumns n (((a ++ (c ∷ [])) ++ b) ++ d)
columns_joined_3 n a b d c h k l m = columns_joined n ((a ++ (c ∷ [])) ++ b) d (columns_joined n (a ++ (c ∷ [])) b (columns_joined n a (c ∷ []) h (k, tt)) l) m

-- what a value is

pub head_known : (ns : List Node) (value h : TermId) (ids empty : List TermId) (n : ℕ) → wound (term ns h) (behind ns ids) ≡ wound (term ns value) (behind ns empty) → empty ≡ []
    → is_application (term ns h) ≡ false → n ≡ length ids → IsHeadOf (term ns h) n (term ns value)
head_known ns value h ids empty n e q p k =
    let is : wound (term ns h) (behind ns ids) ≡ term ns value = e ∙ ap (λ (l : List TermId). wound (term ns value) (behind ns l)) q in record {
      is = flip (head_wound (term ns h) (behind ns ids) p) ∙ ap head is;
      counted = k ∙ flip (ap length (flip (ap arguments is) ∙ arguments_wound (term ns h) (behind ns ids) p) ∙ length_from_top (behind ns ids) ∙ length-map ids (term ns));
    }

pub shown_arguments : (ns : List Node) (value h : TermId) (ids empty : List TermId) → wound (term ns h) (behind ns ids) ≡ wound (term ns value) (behind ns empty) → empty ≡ []
    → is_application (term ns h) ≡ false → arguments (term ns value) ≡ from_top (behind ns ids)
shown_arguments ns value h ids empty e q p =
    flip (ap arguments (e ∙ ap (λ (l : List TermId). wound (term ns value) (behind ns l)) q)) ∙ arguments_wound (term ns h) (behind ns ids) p

pub key_bare : (v : Tree) → is_bare v ≡ true → Abstraction ≡ key_of v
key_bare star e = cc
key_bare kind e = cc
key_bare (symbol k) e = cc
key_bare (variable k) e = cc
key_bare (rule_variable k) e = cc
key_bare (apply f a) e = cc
key_bare (bare b) e = refl
key_bare (annotated n b) e = cc
key_bare (product a b) e = cc

pub key_else : (v : Tree) → is_bare v ≡ false → key_at (head v) (length (arguments v)) ≡ key_of v
key_else star e = refl
key_else kind e = refl
key_else (symbol k) e = refl
key_else (variable k) e = refl
key_else (rule_variable k) e = refl
key_else (apply f a) e = refl
key_else (bare b) e = cc
key_else (annotated n b) e = refl
key_else (product a b) e = refl

-- the first arguments of a stack

get_left : {A : Type 0} (xs ys : List A) (k : ℕ) (y : A) → slice_get xs k ≡ Some y → slice_get (xs ++ ys) k ≡ Some y
get_left [] ys k y e = cc
get_left (x ∷ xs) ys zero y e = e
get_left (x ∷ xs) ys (suc k) y e = get_left xs ys k y e

get_last : {A : Type 0} (xs : List A) (y : A) (k : ℕ) → k ≡ length xs → slice_get (xs ++ (y ∷ [])) k ≡ Some y
get_last [] y k e = rw e refl
get_last (x ∷ xs) y zero e = absurd (omega (arith, e))
get_last (x ∷ xs) y (suc k) e = get_last xs y k (omega arith)

get_from_top : {A : Type 0} (xs : List A) (i k : ℕ) (d : A) → i + k + 1 ≡ length xs → slice_get (from_top xs) k ≡ Some (get_or xs i d)
get_from_top [] i k d e = absurd (omega arith)
get_from_top (x ∷ xs) zero k d e = get_last (from_top xs) x k (let h : length (from_top xs) ≡ length xs = length_from_top xs in omega (arith, h))
get_from_top (x ∷ xs) (suc i) k d e = get_left (from_top xs) (x ∷ []) k (get_or xs i d) (get_from_top xs i k d (omega arith))

take_more : {A : Type 0} (xs : List A) (k : ℕ) (x : A) → slice_get xs k ≡ Some x → take (suc k) xs ≡ take k xs ++ (x ∷ [])
take_more [] k x e = cc
take_more (y ∷ xs) zero x e = let q : y ≡ x = cc in ap (λ z. z ∷ []) q
take_more (y ∷ xs) (suc k) x e = ap (λ l. y ∷ l) (take_more xs k x e)

pub column_pushed : (cs : List Column) (ids : List TermId) (i k : ℕ) (a d : TermId) → i + k + 1 ≡ length ids → a ≡ get_or ids i d
    → cs ≡ map (argument_column 0) (take k (from_top ids)) → cs ++ (argument_column 0 a ∷ []) ≡ map (argument_column 0) (take (suc k) (from_top ids))
column_pushed cs ids i k a d e r q =
    ap (λ l. l ++ (argument_column 0 a ∷ [])) q ∙ ap (λ x. map (argument_column 0) (take k (from_top ids)) ++ (argument_column 0 x ∷ [])) r
    ∙ flip (ap (map (argument_column 0)) (take_more (from_top ids) k (get_or ids i d) (get_from_top ids i k d e)) ∙ map-append (argument_column 0) (take k (from_top ids)) (get_or ids i d ∷ []))

columns_of_first : (n w : ℕ) (cs : List Column) → AreColumns n cs → AreColumns n (take w cs)
columns_of_first n zero cs h = tt
columns_of_first n (suc w) [] h = tt
columns_of_first n (suc w) (c ∷ cs) h = (h.0, columns_of_first n w cs h.1)

pub first_within : (n w : ℕ) (ids : List TermId) → AreWithin n ids → AreColumns n (map (argument_column 0) (take w (from_top ids)))
first_within n w ids h =
    subst (λ (l : List Column). AreColumns n l) (take-map (argument_column 0) w (from_top ids)) (columns_of_first n w (map (argument_column 0) (from_top ids)) (arguments_within n 0 ids h))
