-- A small file with a comment before its first command, and the texts of its commands, by computation.
use Rattle.std.proofs.Common.{List, [], ◌∷◌, ◌++◌, ℕ, ◌+◌, ◌≡◌, Some, None, refl, sym, subst, codes}
use Rattle.dk_model.specs.Limits.{standard}
use Rattle.dk_model.specs.declared.signature.SymSort.TheVariants.{Static}
use Rattle.dk_lexer.specs.declared.token.Token.{Token}
use Rattle.dk_lexer.specs.declared.token.TokenKind.{TokenKind}
use Rattle.dk_lexer.specs.declared.token.TokenKind.TheVariants as kind
use Rattle.dk_lexer.specs.declared.token.Sign.TheVariants as sign
use Rattle.dk_lexer.specs.Classes.{class_of}
use Rattle.dk_lexer.specs.Spelling.{kind_of}
use Rattle.dk_lexer.specs.Tokens.{bound, behind, tokens, whole}
use Rattle.dk_terms.specs.Grammar.{spells_name, spells_head, spells_application}
use Rattle.dk_parser.specs.Grammar.{Spells, spells_no_params, spells_static}
use Rattle.dk_parser.specs.Written.{written_name, written_declare, WrittenCommand}
use Rattle.text_law.specs.Cuts.{AreCut, cut_none, cut_command, AreTextsOf}

abbrev file : List ℕ
file = codes "(;.;)a:b. c:d ."

abbrev token : TokenKind → List ℕ → ℕ → Token
token k text offset = record { kind = k; spelling = text; offset = offset; line = 1 }

-- the declaration of one name by another, from one place to the other
abbrev spelt : List ℕ → List ℕ → ℕ → ℕ → List Token
spelt n a begin dot = token kind.Plain n begin ∷ token (kind.Sign sign.Colon) [] (begin + 1) ∷ token kind.Plain a (begin + 2) ∷ token (kind.Sign sign.Dot) [] dot ∷ []

abbrev declared : List ℕ → List ℕ → WrittenCommand
declared n a = record { line = 1; form = written_declare Static n [] (Some (written_name a)) None }

spells : (n a : List ℕ) (begin dot : ℕ) → Spells (spelt n a begin dot) (declared n a)
spells n a begin dot = record { line = refl; form = spells_static spells_no_params (spells_application (spells_head spells_name)) }

tokens_are : (tokens standard file whole).tokens ≡ spelt (codes "a") (codes "b") 5 8 ++ spelt (codes "c") (codes "d") 10 14
unfolding tokens class_of kind_of bound behind
tokens_are = refl

texts_are : AreTextsOf standard file (declared (codes "a") (codes "b") ∷ declared (codes "c") (codes "d") ∷ []) (codes "a:b." ∷ codes "c:d ." ∷ [])
texts_are = subst (λ ts. AreCut file ts (declared (codes "a") (codes "b") ∷ declared (codes "c") (codes "d") ∷ []) (codes "a:b." ∷ codes "c:d ." ∷ [])) (sym tokens_are)
    (cut_command {ts = spelt (codes "a") (codes "b") 5 8} (spells (codes "a") (codes "b") 5 8) (cut_command {ts = spelt (codes "c") (codes "d") 10 14} (spells (codes "c") (codes "d") 10 14) cut_none))
