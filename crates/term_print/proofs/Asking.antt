-- A printed term behind `#EVAL` or `#INFER` is read as that query.
use Rattle.std.proofs.Common.{inl, inr, List, [], ◌∷◌, ◌++◌, ℕ, ◌≡◌, false, length, refl, ap, ◌∙◌, if◌then◌else◌}
use Rattle.std.specs.Prelude.{codes}
use Rattle.dk_model.specs.PlainTerms.{Tree}
use Rattle.dk_model.specs.Scoping.{query, type_of, value_of}
use Rattle.dk_model.specs.declared.limits.Limits.{Limits}
use Rattle.dk_lexer.specs.declared.token.TokenKind.TheVariants as kinds
use Rattle.dk_lexer.specs.Classes.{class_of, is_letter_class}
use Rattle.dk_lexer.specs.Spelling.{behind_letters, letters_of, token, up_to, word_spelled}
use Rattle.dk_terms.specs.declared.terminal.Terminal.TheVariants as terminal
use Rattle.dk_parser.specs.Grammar.{spells_type_of, spells_value_of}
use Rattle.dk_parser.specs.Written.{asked_type, asked_value, written_query}
use Rattle.scope_terms.specs.Scopes.{Module, Symbols, one}
use Rattle.term_print.specs.Named.{Word, written_term}
use Rattle.term_print.specs.ReadBack.{IsAskable, ReadsAs, asking_text}
use Rattle.term_print.specs.Readable.{Ends, IsSpelt}
use Rattle.term_print.proofs.ReadBack.{asked_back, term_means}
use Rattle.term_print.proofs.Spells.{term_spelled}

-- ---- the two words

-- a word ends before a blank and before a closing bracket
behind : (rest : List ℕ) → Ends rest → (letters_of rest ≡ []) × (behind_letters rest ≡ rest)
unfolding class_of
behind [] e = absurd e
behind (b ∷ bs) (inl e) = (
  ap (λ c. if is_letter_class (class_of c) then c ∷ letters_of bs else []) e,
  ap (λ c. if is_letter_class (class_of c) then behind_letters bs else b ∷ bs) e,
)
behind (b ∷ bs) (inr e) = (
  ap (λ c. if is_letter_class (class_of c) then c ∷ letters_of bs else []) e,
  ap (λ c. if is_letter_class (class_of c) then behind_letters bs else b ∷ bs) e,
)

-- and a byte behind it settles it
settled : (text rest : List ℕ) → Ends rest → up_to (token kinds.Profile text (length rest)) (length rest) ≡ token kinds.Profile text (length rest)
settled text [] e = absurd e
settled text (b ∷ bs) e = refl

word_read : (x : ℕ) (xs rest : List ℕ) → Ends rest → word_spelled (x ∷ (xs ++ letters_of rest)) (length (behind_letters rest)) ≡ token kinds.Profile (35 ∷ x ∷ (xs ++ [])) (length rest)
word_read x xs rest e =
    ap (λ r. word_spelled (x ∷ (xs ++ r)) (length (behind_letters rest))) (behind rest e).0
    ∙ (ap (λ r. word_spelled (x ∷ (xs ++ [])) (length r)) (behind rest e).1
    ∙ settled (35 ∷ x ∷ (xs ++ [])) rest e)

eval_spelt : (limit : ℕ) → IsSpelt limit terminal.Eval
unfolding class_of
eval_spelt limit = record {
  first = 35;
  others = 69 ∷ 86 ∷ 65 ∷ 76 ∷ [];
  text = refl;
  no_comment = λ e. cc;
  reads = λ rest e. (kinds.Profile, codes "#EVAL", inl (word_read 69 (86 ∷ 65 ∷ 76 ∷ []) rest e), refl);
}

infer_spelt : (limit : ℕ) → IsSpelt limit terminal.Infer
unfolding class_of
infer_spelt limit = record {
  first = 35;
  others = 73 ∷ 78 ∷ 70 ∷ 69 ∷ 82 ∷ [];
  text = refl;
  no_comment = λ e. cc;
  reads = λ rest e. (kinds.Profile, codes "#INFER", inl (word_read 73 (78 ∷ 70 ∷ 69 ∷ 82 ∷ []) rest e), refl);
}

-- ---- the queries

module _ (limits : Limits) (symbols : Symbols) (m : Module) (words : ℕ → Word) (t : Tree) where
  pub value_asked : IsAskable limits symbols m words terminal.Eval t → ReadsAs limits symbols m (asking_text terminal.Eval words t) (query false (value_of t))
  value_asked h = asked_back limits symbols m words terminal.Eval t (written_query false (asked_value (written_term words t))) (query false (value_of t)) h
      (eval_spelt limits.name_bytes) refl (spells_value_of (term_spelled (written_term words t)))
      (ap (λ s. one (query false) (one value_of s)) (term_means limits symbols m words t h.term))

  pub type_asked : IsAskable limits symbols m words terminal.Infer t → ReadsAs limits symbols m (asking_text terminal.Infer words t) (query false (type_of t))
  type_asked h = asked_back limits symbols m words terminal.Infer t (written_query false (asked_type (written_term words t))) (query false (type_of t)) h
      (infer_spelt limits.name_bytes) refl (spells_type_of (term_spelled (written_term words t)))
      (ap (λ s. one (query false) (one type_of s)) (term_means limits symbols m words t h.term))
