-- A printed term is read and scoped as the same term.
use Rattle.std.proofs.Common.{inl, List, [], ◌∷◌, ◌++◌, ℕ, zero, suc, ◌≡◌, ◌<◌, ◌≤◌, ◌+◌, ◌-◌, ◌^◌, Bool, true, false, nat_le, length, Option, Some, None, refl, ap, sym as flip, subst as along_path, ◌∙◌, arith, if◌then◌else◌}
use Rattle.std.specs.Prelude.{codes, is_some}
use Rattle.std.proofs.lemmas.List.{append-nil}
use Rattle.std.specs.Fmt.{decimal}
use Rattle.dk_model.specs.PlainTerms.{Tree, star, kind, symbol, variable, rule_variable, apply, bare, annotated, product}
use Rattle.dk_model.specs.Scoping.{PlainCommand, declare}
use Rattle.dk_model.specs.declared.code.Code.{Code}
use Rattle.dk_model.specs.declared.limits.Limits.{Limits}
use Rattle.dk_model.specs.declared.signature.SymSort.TheVariants.{Definable}
use Rattle.dk_lexer.specs.declared.token.Token.{Token}
use Rattle.dk_lexer.specs.declared.token.TokenKind.TheVariants as kinds
use Rattle.dk_lexer.specs.Classes.{begins_name, class_of, in_name}
use Rattle.dk_lexer.specs.Spelling.{kind_of}
use Rattle.dk_lexer.specs.Tokens as lexer
use Rattle.dk_lexer.specs.Tokens.{tokens, command_limit, input_limit}
use Rattle.dk_lexer.proofs.Outcomes.{le_true, le_false}
use Rattle.dk_terms.specs.declared.terminal.Terminal.{Terminal}
use Rattle.dk_terms.specs.declared.terminal.Terminal.TheVariants as terminal
use Rattle.dk_terms.specs.Signs.{close_bracket, defined, dot, open_bracket}
use Rattle.dk_terms.specs.Written.{Written, written_name, written_qualified, written_arrow, written_product}
use Rattle.dk_parser.specs.Grammar.{SpellsForm, spells_no_params, spells_definition, Spells, terminals, first_line}
use Rattle.dk_parser.specs.Levels.{IsWithin}
use Rattle.dk_parser.specs.Reading.{Reads, TokenReading, reads_nothing, reads_command}
use Rattle.dk_parser.specs.FileReading.{read, reading_of, tail_by_bytes, whole}
use Rattle.dk_parser.specs.Written.{WrittenForm, written_declare, WrittenCommand}
use Rattle.dk_parser.proofs.Exact.{only}
use Rattle.scope_terms.specs.Scopes.{Spelling, Module, Symbols, number_of, own_of, Scoping, scoped, refused, one, both, scope_of, Declaration, declaration_of, no_names, term_of}
use Rattle.dk_model.specs.declared.code.Code.TheVariants.{E11}
use Rattle.term_print.specs.Named.{Word, mentions, binder_name, spellings, written_word, written_at, written_term}
use Rattle.term_print.specs.Spelled.{narrow, wide, spelled}
use Rattle.term_print.specs.declared.place.Place.{Place}
use Rattle.term_print.specs.declared.place.Place.TheVariants as place
use Rattle.term_print.specs.Text.{opens, text_of}
use Rattle.term_print.specs.Readable.{IsSpelt, AreSpelt, EndsInDot, StandInName, IsPlainName}
use Rattle.term_print.specs.ReadBack.{binders_deep, CanBeRead, word_terminal, SymbolsSpelt, asking, asking_text, definition, definition_text, FitsIn, IsAskable, IsReadable, IsWritable, ReadsAs}
use Rattle.term_print.proofs.Fresh.{Digits, decimal_digits, quotes, binder_shape}
use Rattle.std.proofs.lemmas.Bool.{eq-eqb}
use Rattle.term_print.proofs.Scoped.{term_scoped, either_left, either_right, closed_below}
use Rattle.term_print.proofs.Bytes.{asking_is, definition_is}
use Rattle.term_print.proofs.Spells.{term_spelled}
use Rattle.term_print.proofs.Texts.{Gives, sign_spelt, name_spelt, run_spelled, text_read}

-- ---- the words of the profile, and names of binders

digit_in_name : (b : ℕ) → 48 ≤ b → b < 58 → in_name (class_of b) ≡ true
unfolding class_of
digit_in_name b l h =
    let e1 : nat_le 97 b ≡ false = le_false 97 b (omega arith) in
    let e2 : nat_le 65 b ≡ false = le_false 65 b (omega arith) in
    let e3 : nat_le 48 b ≡ true = le_true 48 b l in
    let e4 : nat_le b 57 ≡ true = le_true b 57 (omega arith) in
    rw (e1, e2, e3, e4) refl

quotes_stand : (k : ℕ) → StandInName (quotes k)
unfolding class_of
quotes_stand zero = tt
quotes_stand (suc k) = (refl, quotes_stand k)

digits_stand : (ds : List ℕ) (k : ℕ) → Digits ds → StandInName (ds ++ quotes k)
digits_stand [] k h = quotes_stand k
digits_stand (b ∷ bs) k h = (digit_in_name b h.0 h.1, digits_stand bs k h.2)

plain_x : (rest : List ℕ) → kind_of (120 ∷ rest) ≡ kinds.Plain
unfolding kind_of
plain_x [] = refl
plain_x (b ∷ bs) = refl

x_begins : begins_name (class_of 120) ≡ true
unfolding class_of
x_begins = refl

binder_plain : (limit : ℕ) (used : List Spelling) (d : ℕ) → d < 2 ^ 64 → length (binder_name used d) ≤ limit → IsPlainName limit (binder_name used d)
binder_plain limit used d l fits =
    let (k, e) = binder_shape used d in
    let short : length (120 ∷ (decimal d ++ quotes k)) ≤ limit = along_path (λ (n : List ℕ). length n ≤ limit) e fits in
    along_path (IsPlainName limit) (flip e) (record { run = (x_begins, digits_stand (decimal d) k (decimal_digits d l)); no_word = plain_x (decimal d ++ quotes k); short = short })

def_spelt : (limit : ℕ) → 4 ≤ limit → IsSpelt limit terminal.Def
unfolding class_of kind_of
def_spelt limit l = record {
  first = 100;
  others = 101 ∷ 102 ∷ [];
  text = refl;
  no_comment = λ e. cc;
  reads = λ rest e. (kinds.Def, codes "def", inl (run_spelled limit 100 (101 ∷ 102 ∷ []) rest refl (refl, (refl, tt)) (omega arith) e), refl);
}

star_spelt : (limit : ℕ) → 4 ≤ limit → IsSpelt limit terminal.Star
unfolding class_of kind_of
star_spelt limit l = record {
  first = 84;
  others = 121 ∷ 112 ∷ 101 ∷ [];
  text = refl;
  no_comment = λ e. cc;
  reads = λ rest e. (kinds.Star, codes "Type", inl (run_spelled limit 84 (121 ∷ 112 ∷ 101 ∷ []) rest refl (refl, (refl, (refl, tt))) l e), refl);
}

below_one : (d : ℕ) (t : Tree) → ((k : ℕ) → mentions (k + 1) t ≡ true → k < d) → (k : ℕ) → mentions k t ≡ true → k < d + 1
below_one d t v zero m = omega arith
below_one d t v (suc k) m = let l = v k (ap (λ i. mentions i t) (let z : k + 1 ≡ suc k = omega arith in z) ∙ m) in omega arith

-- ---- the terminals of a printed term

both_spelt : (limit : ℕ) (xs ys : List Terminal) → AreSpelt limit xs → AreSpelt limit ys → AreSpelt limit (xs ++ ys)
both_spelt limit [] ys s t = t
both_spelt limit (x ∷ xs) ys s t = (s.0, both_spelt limit xs ys s.1 t)

in_brackets_spelt : (limit : ℕ) (xs : List Terminal) → AreSpelt limit xs → AreSpelt limit (open_bracket ∷ (xs ++ close_bracket ∷ []))
in_brackets_spelt limit xs s = (sign_spelt limit _, both_spelt limit xs (close_bracket ∷ []) s (sign_spelt limit _, tt))

narrow_spelt : (limit : ℕ) (p : Place) (xs : List Terminal) → AreSpelt limit xs → AreSpelt limit (narrow p xs)
narrow_spelt limit place.Term xs s = s
narrow_spelt limit place.Application xs s = s
narrow_spelt limit place.Atom xs s = in_brackets_spelt limit xs s

wide_spelt : (limit : ℕ) (p : Place) (xs : List Terminal) → AreSpelt limit xs → AreSpelt limit (wide p xs)
wide_spelt limit place.Term xs s = s
wide_spelt limit place.Application xs s = in_brackets_spelt limit xs s
wide_spelt limit place.Atom xs s = in_brackets_spelt limit xs s

word_spelt : (limit : ℕ) (p : Place) (w : Word) → IsSpelt limit (word_terminal w) → AreSpelt limit (spelled p (written_word w))
word_spelt limit p w s = by w.module_name s
  where
    by : (m : Option Spelling) → IsSpelt limit (elim m [ None ↦ terminal.Name w.spelling | Some n ↦ terminal.Qualified n w.spelling ])
        → AreSpelt limit (spelled p (elim m [ None ↦ written_name w.spelling | Some n ↦ written_qualified n w.spelling ]))
    by None h = (h, tt)
    by (Some n) h = (h, tt)

module _ (limit : ℕ) (four : 4 ≤ limit) (symbols : Symbols) (m : Module) (words : ℕ → Word) (used : List Spelling) where
  binder_spelt : (d : ℕ) → d < 2 ^ 64 → length (binder_name used d) ≤ limit → IsSpelt limit (terminal.Name (binder_name used d))
  binder_spelt d l fits = name_spelt limit (binder_name used d) (binder_plain limit used d l fits)

  -- below `n` binders each name is short enough; the term stands in `d` of them
  term_spelt : (n d : ℕ) (p : Place) (t : Tree) → n < 2 ^ 64 → ((i : ℕ) → i < n → length (binder_name used i) ≤ limit) → d + binders_deep t ≤ n
      → ((k : ℕ) → mentions k t ≡ true → k < d) → CanBeRead symbols m words t → SymbolsSpelt limit words t → AreSpelt limit (spelled p (written_at words used d t))
  term_spelt n d p star l b w v r s = (star_spelt limit four, tt)
  term_spelt n d p kind l b w v r s = absurd r
  term_spelt n d p (symbol k) l b w v r s = word_spelt limit p (words k) s
  term_spelt n d p (variable k) l b w v r s = let below : k < d = v k (eq-eqb k k refl) in (binder_spelt (d - (k + 1)) (omega arith) (b (d - (k + 1)) (omega arith)), tt)
  term_spelt n d p (rule_variable k) l b w v r s = absurd r
  term_spelt n d p (apply f a) l b w v r s = narrow_spelt limit p _ (both_spelt limit _ _
      (term_spelt n d place.Application f l b (omega arith) (λ k m. v k (either_left (mentions k f) (mentions k a) m)) r.0 s.0)
      (term_spelt n d place.Atom a l b (omega arith) (λ k m. v k (either_right (mentions k f) (mentions k a) m)) r.1 s.1))
  term_spelt n d p (bare t) l b w v r s = wide_spelt limit p _ (
    binder_spelt d (omega arith) (b d (omega arith)),
    (
      sign_spelt limit _,
      term_spelt n (d + 1) place.Term t l b (omega arith) (below_one d t v) r s,
    ),
  )
  term_spelt n d p (annotated c t) l b w v r s = absurd r
  term_spelt n d p (product a t) l b w v r s = product_spelt (mentions 0 t)
      (term_spelt n d place.Application a l b (omega arith) (λ k m. v k (either_left (mentions k a) (mentions (k + 1) t) m)) r.0 s.0)
      (term_spelt n (d + 1) place.Term t l b (omega arith) (below_one d t (λ k m. v k (either_right (mentions k a) (mentions (k + 1) t) m))) r.1 s.1)
      (binder_spelt d (omega arith) (b d (omega arith)))
    where
      product_spelt : (c : Bool) → AreSpelt limit (spelled place.Application (written_at words used d a)) → AreSpelt limit (spelled place.Term (written_at words used (d + 1) t)) → IsSpelt limit (terminal.Name (binder_name used d))
          → AreSpelt limit (spelled p (if c then written_product (Some (binder_name used d)) (written_at words used d a) (written_at words used (d + 1) t)
          else written_arrow (written_at words used d a) (written_at words used (d + 1) t)))
      product_spelt true x y z = wide_spelt limit p _ (z, (sign_spelt limit _, both_spelt limit _ _ x (sign_spelt limit _, y)))
      product_spelt false x y z = wide_spelt limit p _ (both_spelt limit _ _ x (sign_spelt limit _, y))

-- ---- the command

pub dot_last : (xs : List Terminal) → EndsInDot (xs ++ dot ∷ [])
dot_last [] = refl
dot_last (x ∷ []) = refl
dot_last (x ∷ y ∷ ys) = dot_last (y ∷ ys)

-- a command of these terminals is read from its bytes
abbrev pub IsRead : Limits → List ℕ → WrittenForm → Type 0
IsRead limits bytes form = (line : ℕ) × (read limits bytes lexer.whole ≡ record { commands = record { line = line; form = form } ∷ []; tail = whole })

pub command_read : (limits : Limits) (xs : List Terminal) (form : WrittenForm) → AreSpelt limits.name_bytes xs → EndsInDot xs → SpellsForm xs form → FitsIn limits xs (text_of xs) → IsRead limits (text_of xs) form
unfolding tokens
command_read limits xs form spelt ends spells fits = (first_line ts, is)
  where
    bytes : List ℕ
    bytes = text_of xs

    ts : List Token
    ts = (tokens limits bytes lexer.whole).tokens

    command : WrittenCommand
    command = record { line = first_line ts; form = form }

    gives : Gives xs (tokens limits bytes lexer.whole)
    gives = text_read limits (length bytes) fits.command_bytes fits.input_bytes true xs spelt ends (record { offset = 0; line = 1 }) None

    spells_tokens : Spells ts command
    spells_tokens = record { line = refl; form = along_path (λ (ys : List Terminal). SpellsForm ys form) (flip gives.terminals) spells }

    within : IsWithin limits.levels (terminals ts)
    within = along_path (IsWithin limits.levels) (flip gives.terminals) fits.levels

    reads : Reads limits ts (record { commands = command ∷ []; begun = None; fault = None })
    reads = along_path (λ (us : List Token). Reads limits us (record { commands = command ∷ []; begun = None; fault = None })) (append-nil ts) (reads_command spells_tokens within reads_nothing)

    is : read limits bytes lexer.whole ≡ record { commands = command ∷ []; tail = whole }
    is = ap (λ (r : TokenReading). reading_of r (tokens limits bytes lexer.whole) lexer.whole) (flip (only reads))
        ∙ ap (λ (f : Option Code). record { commands = command ∷ []; tail = tail_by_bytes f (tokens limits bytes lexer.whole).line lexer.whole None }) gives.fault

-- the printed term, and a dot
module _ (limits : Limits) (symbols : Symbols) (m : Module) (words : ℕ → Word) (t : Tree) (h : IsReadable limits symbols m words t) where
  pub term_and_dot : AreSpelt limits.name_bytes (spelled place.Term (written_term words t) ++ dot ∷ [])
  term_and_dot = both_spelt limits.name_bytes (spelled place.Term (written_term words t)) (dot ∷ [])
      (term_spelt limits.name_bytes h.short_words symbols m words (spellings words t) (binders_deep t) 0 place.Term t h.deep h.binders (omega arith) (λ k mentioned. closed_below 0 k t h.closed mentioned) h.readable h.symbols_spelt)
      (sign_spelt limits.name_bytes _, tt)

  pub term_means : term_of symbols (own_of symbols m) no_names [] (written_term words t) ≡ scoped t
  term_means = term_scoped symbols m words t h.closed h.deep h.readable

-- ---- a definition

none_some : (o : Option ℕ) → o ≡ None → is_some o ≡ false
none_some o e = ap is_some e

pub read_back : (limits : Limits) (symbols : Symbols) (m : Module) (words : ℕ → Word) (c : List ℕ) (t : Tree) → IsWritable limits symbols m words c t
    → ReadsAs limits symbols m (definition_text words c t) (declare Definable None (Some t))
read_back limits symbols m words c t h = record { line = is.0; form = form; is = is.1; means = means }
  where
    w : Written
    w = written_term words t

    form : WrittenForm
    form = written_declare Definable c [] None (Some w)

    spelt : AreSpelt limits.name_bytes (definition words c t)
    spelt = (def_spelt limits.name_bytes h.term.short_words, (h.name, (sign_spelt limits.name_bytes _, term_and_dot limits symbols m words t h.term)))

    fits : FitsIn limits (definition words c t) (text_of (definition words c t))
    fits = along_path (FitsIn limits (definition words c t)) (flip (definition_is words c t)) h.fits

    is : IsRead limits (definition_text words c t) form
    is = along_path (λ bytes. IsRead limits bytes form) (definition_is words c t)
        (command_read limits (definition words c t) form spelt (dot_last (terminal.Def ∷ terminal.Name c ∷ defined ∷ spelled place.Term w)) (spells_definition spells_no_params (term_spelled w)) fits)

    means : scope_of symbols m form ≡ scoped (declare Definable None (Some t))
    means = ap (λ (b : Bool). if b then refused E11 else one (λ (d : Declaration). declare Definable d.typ d.body) (declaration_of symbols (own_of symbols m) [] [] None (Some w))) (none_some (number_of (own_of symbols m) c) h.is_new)
        ∙ ap (λ (x : Scoping Tree). one (λ (d : Declaration). declare Definable d.typ d.body) (both (λ a b. let r : Declaration = record { typ = a; body = b } in r) (scoped None) (one Some x))) (term_means limits symbols m words t h.term)

-- ---- a word and the term

pub asked_back : (limits : Limits) (symbols : Symbols) (m : Module) (words : ℕ → Word) (w : Terminal) (t : Tree) (form : WrittenForm) (command : PlainCommand) → IsAskable limits symbols m words w t
    → IsSpelt limits.name_bytes w → opens w ≡ false → SpellsForm (asking w words t) form → scope_of symbols m form ≡ scoped command
    → ReadsAs limits symbols m (asking_text w words t) command
asked_back limits symbols m words w t form command h word no_bracket spells means = record { line = is.0; form = form; is = is.1; means = means }
  where
    fits : FitsIn limits (asking w words t) (text_of (asking w words t))
    fits = along_path (FitsIn limits (asking w words t)) (flip (asking_is w words t no_bracket)) h.fits

    is : IsRead limits (asking_text w words t) form
    is = along_path (λ bytes. IsRead limits bytes form) (asking_is w words t no_bracket)
        (command_read limits (asking w words t) form (word, term_and_dot limits symbols m words t h.term) (dot_last (w ∷ spelled place.Term (written_term words t))) spells fits)
