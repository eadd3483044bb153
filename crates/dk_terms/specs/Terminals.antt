-- Trusted: the terminal of a token.
use Rattle.std.specs.Prelude.{ℕ, ◌+◌, Bool, List, ◌==◌, length, take, drop, position, unwrap_or, codes, if◌then◌else◌}
use Rattle.std.specs.Str.{bytes_eq}
use Rattle.dk_lexer.specs.declared.token.Token.{Token}
use Rattle.dk_lexer.specs.declared.token.TokenKind.{TokenKind}
use Rattle.dk_lexer.specs.declared.token.TokenKind.TheVariants as kind
use Rattle.dk_terms.specs.declared.terminal.Terminal.{Terminal}
use Rattle.dk_terms.specs.declared.terminal.Terminal.TheVariants as terminal

abbrev pub is_dot : ℕ → Bool
is_dot byte = byte == 46

-- where the first dot of a spelling is, or its length where there is none
abbrev pub dot_role : List ℕ → ℕ
dot_role spelling = unwrap_or (position is_dot spelling) (length spelling)

-- the module of a qualified name as spelt: what stands before the first dot
abbrev pub module_part : List ℕ → List ℕ
module_part spelling = take (dot_role spelling) spelling

-- the name in that module: what stands behind the first dot
abbrev pub name_part : List ℕ → List ℕ
name_part spelling = drop (dot_role spelling + 1) spelling

-- the words that begin queries; any other one is outside the profile
abbrev pub query_terminal : List ℕ → Terminal
query_terminal spelling = if bytes_eq spelling (codes "#CHECK") then terminal.Check else (if bytes_eq spelling (codes "#ASSERT") then terminal.Assert
    else (if bytes_eq spelling (codes "#INFER") then terminal.Infer else (if bytes_eq spelling (codes "#EVAL") then terminal.Eval else terminal.Profile)))

-- a word that no name is spelt as: two of these begin directives, and four begin queries
abbrev pub word_terminal : List ℕ → Terminal
word_terminal spelling = if bytes_eq spelling (codes "#NAME") then terminal.NameWord else (if bytes_eq spelling (codes "#REQUIRE") then terminal.RequireWord else query_terminal spelling)

abbrev pub terminal_by : TokenKind → List ℕ → Terminal
terminal_by kind.Plain spelling = terminal.Name spelling
terminal_by kind.Quoted spelling = terminal.Name spelling
terminal_by kind.Qualified spelling = terminal.Qualified (module_part spelling) (name_part spelling)
terminal_by kind.Wildcard spelling = terminal.Wildcard
terminal_by kind.Star spelling = terminal.Star
terminal_by kind.Def spelling = terminal.Def
terminal_by kind.Thm spelling = terminal.Thm
terminal_by kind.Profile spelling = word_terminal spelling
terminal_by (kind.Sign s) spelling = terminal.Sign s

abbrev pub terminal_of : Token → Terminal
terminal_of token = terminal_by token.kind token.spelling
