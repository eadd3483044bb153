-- For proofs: how a quoted name ends, seen as the trusted definition.
use Rattle.std.specs.Prelude.{◌≡◌, ◌≢◌, ℕ, ◌-◌, List, [], ◌∷◌, ◌++◌, length}
use Rattle.dk_lexer.specs.Spelling.{Quoted, closed, faulty, open_ended, one_more, quoted}
use Rattle.one_lexer.specs.declared.quoted.End.{End}
use Rattle.one_lexer.specs.declared.quoted.End.TheVariants as end

-- the bytes of a name, its closing sign and what is behind it
pub record Closes (limit : ℕ) (bytes : List ℕ) (left : ℕ) : Type 0 where
  pub name : List ℕ
  pub rest : List ℕ
  pub bytes_are : bytes ≡ name ++ 124 ∷ 125 ∷ rest
  pub left_is : left ≡ length rest
  pub ends : quoted limit bytes ≡ closed name left

-- how a quoted name of these bytes ends
abbrev pub Ends : ℕ → List ℕ → End → Type 0
Ends limit bytes (end.Closed left) = Closes limit bytes left
Ends limit bytes (end.Faulty code left) = quoted limit bytes ≡ faulty code left
Ends limit bytes end.Open = quoted limit bytes ≡ open_ended

-- for proofs: bytes of the name before the rest of it
abbrev pub after : List ℕ → Quoted → Quoted
after [] quoted = quoted
after (b ∷ bs) quoted = one_more b (after bs quoted)

-- the byte is one of the name
pub record GoesOn (room b : ℕ) (more : List ℕ) : Type 0 where
  pub some : room ≢ 0
  pub adds : quoted room (b ∷ more) ≡ one_more b (quoted (room - 1) more)

-- these bytes end with those
pub record EndsWith (bytes body : List ℕ) : Type 0 where
  pub front : List ℕ
  pub bytes_are : bytes ≡ front ++ body
