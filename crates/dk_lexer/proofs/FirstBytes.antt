-- A plain run by its first byte: each word begins with one of a few.
use Rattle.std.proofs.Common.{◌≡◌, ℕ, Bool, true, false, ◌||◌, ◌&&◌, ◌==◌, List, [], ◌∷◌, codes, if◌then◌else◌, refl, sym, ap, subst, ◌∙◌}
use Rattle.std.specs.Prelude.{None, Some, slice_get}
use Rattle.std.specs.Str.{bytes_eq}
use Rattle.dk_lexer.specs.declared.token.TokenKind.{TokenKind}
use Rattle.dk_lexer.specs.declared.token.TokenKind.TheVariants as kind
use Rattle.dk_lexer.specs.Spelling.{is_outside, is_wildcard, kind_of}

-- what a run is, by which of the words it is
abbrev kind_by : Bool → Bool → Bool → Bool → Bool → TokenKind
kind_by wildcard star def thm outside = if wildcard then kind.Wildcard else (if star then kind.Star
    else (if def then kind.Def else (if thm then kind.Thm else (if outside then kind.Profile else kind.Plain))))

kind_is : (text : List ℕ) (w s d t o : Bool) → is_wildcard text ≡ w → bytes_eq text (codes "Type") ≡ s → bytes_eq text (codes "def") ≡ d → bytes_eq text (codes "thm") ≡ t → is_outside text ≡ o
    → kind_by w s d t o ≡ kind_of text
unfolding kind_of
kind_is text w s d t o w_is s_is d_is t_is o_is =
    sym (ap (λ (x : Bool). kind_by x (bytes_eq text (codes "Type")) (bytes_eq text (codes "def")) (bytes_eq text (codes "thm")) (is_outside text)) w_is
    ∙ ap (λ (x : Bool). kind_by w x (bytes_eq text (codes "def")) (bytes_eq text (codes "thm")) (is_outside text)) s_is
    ∙ ap (λ (x : Bool). kind_by w s x (bytes_eq text (codes "thm")) (is_outside text)) d_is
    ∙ ap (λ (x : Bool). kind_by w s d x (is_outside text)) t_is
    ∙ ap (λ (x : Bool). kind_by w s d t x) o_is)

outside_is : (text : List ℕ) (a u i p : Bool) → bytes_eq text (codes "defac") ≡ a → bytes_eq text (codes "defacu") ≡ u → bytes_eq text (codes "injective") ≡ i → bytes_eq text (codes "private") ≡ p
    → is_outside text ≡ (((a || u) || i) || p)
outside_is text a u i p a_is u_is i_is p_is =
    ap (λ (x : Bool). ((x || bytes_eq text (codes "defacu")) || bytes_eq text (codes "injective")) || bytes_eq text (codes "private")) a_is
    ∙ ap (λ (x : Bool). ((a || x) || bytes_eq text (codes "injective")) || bytes_eq text (codes "private")) u_is
    ∙ ap (λ (x : Bool). ((a || u) || x) || bytes_eq text (codes "private")) i_is
    ∙ ap (λ (x : Bool). ((a || u) || i) || x) p_is

-- a run that begins with another byte isn't the wildcard, and isn't the word
no_wildcard : (b : ℕ) (bs : List ℕ) → (b == 95) ≡ false → is_wildcard (b ∷ bs) ≡ false
no_wildcard b [] e = e
no_wildcard b (c ∷ cs) e = refl

no_word : (b c : ℕ) (bs cs : List ℕ) → (b == c) ≡ false → bytes_eq (b ∷ bs) (c ∷ cs) ≡ false
no_word b c bs cs e = ap (λ (t : Bool). t && bytes_eq bs cs) e

-- a fact of each run that begins with this byte
begun : (P : List ℕ → Type 0) (c : ℕ) (text : List ℕ) (b : ℕ) → ((xs : List ℕ) → P (c ∷ xs)) → Some b ≡ slice_get text 0 → b ≡ c → P text
begun P c [] b f h is = cc
begun P c (x ∷ xs) b f h is = let x_is : c ≡ x = cc in subst (λ n. P (n ∷ xs)) x_is (f xs)

-- what a run is that can be one word alone
abbrev AloneBy : List ℕ → TokenKind → List ℕ → Type 0
AloneBy word k text = (if bytes_eq text word then k else kind.Plain) ≡ kind_of text

star_by : (e : Bool) (xs : List ℕ) → bytes_eq (84 ∷ xs) (codes "Type") ≡ e → (if e then kind.Star else kind.Plain) ≡ kind_of (84 ∷ xs)
star_by true xs is = kind_is (84 ∷ xs) false true false false false (no_wildcard 84 xs refl) is refl refl (outside_is (84 ∷ xs) false false false false refl refl refl refl)
star_by false xs is = kind_is (84 ∷ xs) false false false false false (no_wildcard 84 xs refl) is refl refl (outside_is (84 ∷ xs) false false false false refl refl refl refl)

thm_by : (e : Bool) (xs : List ℕ) → bytes_eq (116 ∷ xs) (codes "thm") ≡ e → (if e then kind.Thm else kind.Plain) ≡ kind_of (116 ∷ xs)
thm_by true xs is = kind_is (116 ∷ xs) false false false true false (no_wildcard 116 xs refl) refl refl is (outside_is (116 ∷ xs) false false false false refl refl refl refl)
thm_by false xs is = kind_is (116 ∷ xs) false false false false false (no_wildcard 116 xs refl) refl refl is (outside_is (116 ∷ xs) false false false false refl refl refl refl)

injective_by : (e : Bool) (xs : List ℕ) → bytes_eq (105 ∷ xs) (codes "injective") ≡ e → (if e then kind.Profile else kind.Plain) ≡ kind_of (105 ∷ xs)
injective_by true xs is = kind_is (105 ∷ xs) false false false false true (no_wildcard 105 xs refl) refl refl refl (outside_is (105 ∷ xs) false false true false refl refl is refl)
injective_by false xs is = kind_is (105 ∷ xs) false false false false false (no_wildcard 105 xs refl) refl refl refl (outside_is (105 ∷ xs) false false false false refl refl is refl)

private_by : (e : Bool) (xs : List ℕ) → bytes_eq (112 ∷ xs) (codes "private") ≡ e → (if e then kind.Profile else kind.Plain) ≡ kind_of (112 ∷ xs)
private_by true xs is = kind_is (112 ∷ xs) false false false false true (no_wildcard 112 xs refl) refl refl refl (outside_is (112 ∷ xs) false false false true refl refl refl is)
private_by false xs is = kind_is (112 ∷ xs) false false false false false (no_wildcard 112 xs refl) refl refl refl (outside_is (112 ∷ xs) false false false false refl refl refl is)

wildcard_by : (e : Bool) (xs : List ℕ) → is_wildcard (95 ∷ xs) ≡ e → (if e then kind.Wildcard else kind.Plain) ≡ kind_of (95 ∷ xs)
wildcard_by true xs is = kind_is (95 ∷ xs) true false false false false is refl refl refl (outside_is (95 ∷ xs) false false false false refl refl refl refl)
wildcard_by false xs is = kind_is (95 ∷ xs) false false false false false is refl refl refl (outside_is (95 ∷ xs) false false false false refl refl refl refl)

def_by : (d a u : Bool) (xs : List ℕ) → bytes_eq (100 ∷ xs) (codes "def") ≡ d → bytes_eq (100 ∷ xs) (codes "defac") ≡ a → bytes_eq (100 ∷ xs) (codes "defacu") ≡ u
    → (if d then kind.Def else (if a then kind.Profile else (if u then kind.Profile else kind.Plain))) ≡ kind_of (100 ∷ xs)
def_by true a u xs d_is a_is u_is = kind_is (100 ∷ xs) false false true false (((a || u) || false) || false) (no_wildcard 100 xs refl) refl d_is refl (outside_is (100 ∷ xs) a u false false a_is u_is refl refl)
def_by false true u xs d_is a_is u_is = kind_is (100 ∷ xs) false false false false true (no_wildcard 100 xs refl) refl d_is refl (outside_is (100 ∷ xs) true u false false a_is u_is refl refl)
def_by false false true xs d_is a_is u_is = kind_is (100 ∷ xs) false false false false true (no_wildcard 100 xs refl) refl d_is refl (outside_is (100 ∷ xs) false true false false a_is u_is refl refl)
def_by false false false xs d_is a_is u_is = kind_is (100 ∷ xs) false false false false false (no_wildcard 100 xs refl) refl d_is refl (outside_is (100 ∷ xs) false false false false a_is u_is refl refl)

-- ---- as the calls find it

pub begins_star : (text : List ℕ) (b : ℕ) → Some b ≡ slice_get text 0 → b ≡ 84 → AloneBy (codes "Type") kind.Star text
begins_star text b = begun (AloneBy (codes "Type") kind.Star) 84 text b (λ xs. star_by (bytes_eq (84 ∷ xs) (codes "Type")) xs refl)

pub begins_thm : (text : List ℕ) (b : ℕ) → Some b ≡ slice_get text 0 → b ≡ 116 → AloneBy (codes "thm") kind.Thm text
begins_thm text b = begun (AloneBy (codes "thm") kind.Thm) 116 text b (λ xs. thm_by (bytes_eq (116 ∷ xs) (codes "thm")) xs refl)

pub begins_injective : (text : List ℕ) (b : ℕ) → Some b ≡ slice_get text 0 → b ≡ 105 → AloneBy (codes "injective") kind.Profile text
begins_injective text b = begun (AloneBy (codes "injective") kind.Profile) 105 text b (λ xs. injective_by (bytes_eq (105 ∷ xs) (codes "injective")) xs refl)

pub begins_private : (text : List ℕ) (b : ℕ) → Some b ≡ slice_get text 0 → b ≡ 112 → AloneBy (codes "private") kind.Profile text
begins_private text b = begun (AloneBy (codes "private") kind.Profile) 112 text b (λ xs. private_by (bytes_eq (112 ∷ xs) (codes "private")) xs refl)

pub begins_wildcard : (text : List ℕ) (b : ℕ) → Some b ≡ slice_get text 0 → b ≡ 95 → (if is_wildcard text then kind.Wildcard else kind.Plain) ≡ kind_of text
begins_wildcard text b = begun (λ t. (if is_wildcard t then kind.Wildcard else kind.Plain) ≡ kind_of t) 95 text b (λ xs. wildcard_by (is_wildcard (95 ∷ xs)) xs refl)

pub begins_d : (text : List ℕ) → Some 100 ≡ slice_get text 0
    → (if bytes_eq text (codes "def") then kind.Def else (if bytes_eq text (codes "defac") then kind.Profile else (if bytes_eq text (codes "defacu") then kind.Profile else kind.Plain))) ≡ kind_of text
begins_d text h = begun (λ t. (if bytes_eq t (codes "def") then kind.Def else (if bytes_eq t (codes "defac") then kind.Profile else (if bytes_eq t (codes "defacu") then kind.Profile else kind.Plain))) ≡ kind_of t)
    100 text 100 (λ xs. def_by (bytes_eq (100 ∷ xs) (codes "def")) (bytes_eq (100 ∷ xs) (codes "defac")) (bytes_eq (100 ∷ xs) (codes "defacu")) xs refl refl refl) h refl

-- no word begins with this byte
pub begins_none : (text : List ℕ) (b : ℕ) → Some b ≡ slice_get text 0 → (b == 95) ≡ false → (b == 84) ≡ false → (b == 100) ≡ false → (b == 116) ≡ false → (b == 105) ≡ false → (b == 112) ≡ false
    → kind.Plain ≡ kind_of text
begins_none [] b h w s d t i p = cc
begins_none (x ∷ xs) b h w s d t i p =
    let x_is : x ≡ b = cc in
    subst (λ n. kind.Plain ≡ kind_of (n ∷ xs)) (sym x_is)
    (kind_is (b ∷ xs) false false false false false (no_wildcard b xs w) (no_word b 84 xs (codes "ype") s) (no_word b 100 xs (codes "ef") d) (no_word b 116 xs (codes "hm") t)
    (outside_is (b ∷ xs) false false false false (no_word b 100 xs (codes "efac") d) (no_word b 100 xs (codes "efacu") d) (no_word b 105 xs (codes "njective") i) (no_word b 112 xs (codes "rivate") p)))

-- a run with no byte
pub begins_nothing : (text : List ℕ) → None ≡ slice_get text 0 → kind.Plain ≡ kind_of text
unfolding kind_of
begins_nothing [] h = refl
begins_nothing (x ∷ xs) h = cc
