-- The tokens of a whole text, by those that a lexer gave.
use Rattle.std.proofs.Common.{List, [], ◌++◌, ℕ, ◌≡◌, true, refl, ap, sym, ◌∙◌}
use Rattle.std.proofs.lemmas.List.{append-nil}
use Rattle.dk_model.specs.declared.code.Code.{Code}
use Rattle.dk_model.specs.declared.limits.Limits.{Limits}
use Rattle.dk_lexer.specs.declared.token.Token.{Token}
use Rattle.dk_lexer.specs.Tokens.{Lexed, tokens, whole}
use Rattle.one_lexer.specs.declared.lexer.Lexer.{Lexer}
use Rattle.one_lexer.specs.declared.lexer.State.{State}
use Rattle.one_lexer.specs.declared.lexer.State.TheVariants as state
use Rattle.one_lexer.specs.declared.lexer.Taken.{Taken}
use Rattle.one_lexer.specs.declared.lexer.Taken.TheVariants as taken
use Rattle.one_lexer.specs.declared.next.Spelt.{Spelt}
use Rattle.one_lexer.specs.declared.next.Standing.{Standing}
use Rattle.one_lexer.specs.Lexers.{HasFault, Knows, KnowsBy, Takes}
use Rattle.one_lexer.specs.Reading.{adds}
use Rattle.one_lexer.proofs.Lexers.{known}

-- these tokens begin with those
pub record BeginsSo (all ts : List Token) : Type 0 where
  pub later : List Token
  pub all_are : all ≡ ts ++ later

begins_so : (limits : Limits) (text : List ℕ) (ts : List Token) (x : Lexed) → tokens limits (text ++ []) whole ≡ adds ts x → BeginsSo (tokens limits text whole).tokens ts
begins_so limits text ts x e = record { later = x.tokens; all_are = ap (λ bs. (tokens limits bs whole).tokens) (sym (append-nil text)) ∙ ap (λ (z : Lexed). z.tokens) e }

begin_by : (limits : Limits) (text rest : List ℕ) (ts : List Token) (at : Standing) (s : State) → KnowsBy true limits text ts rest at s → BeginsSo (tokens limits text whole).tokens ts
begin_by limits text rest ts at state.Between k = begins_so limits text ts _ (k.onward [] whole (refl, refl))
begin_by limits text rest ts at (state.Word known) k = begins_so limits text ts _ (k.0.onward [] whole (refl, refl))
begin_by limits text rest ts at (state.Comment inside) k = begins_so limits text ts _ (k.onward [] whole (refl, refl))
begin_by limits text rest ts at (state.Failed code) k = begins_so limits text ts _ (k.stands [] whole (refl, refl))

-- the tokens of a text begin with those that it gave
pub tokens_begin : (text rest : List ℕ) (ts : List Token) (lexer : Lexer) → Knows true text ts rest lexer → BeginsSo (tokens lexer.limits text whole).tokens ts
tokens_begin text rest ts lexer k = begin_by lexer.limits text rest ts lexer.at lexer.state (known true text rest ts lexer k)

ended_so : (limits : Limits) (bytes : List ℕ) (ts : List Token) (code : Code) (line : ℕ) → HasFault true limits bytes ts code line → (tokens limits bytes whole).tokens ≡ ts
ended_so limits bytes ts code line f = ap (λ bs. (tokens limits bs whole).tokens) (sym (append-nil bytes)) ∙ ap (λ (x : Lexed). x.tokens) (f.stands [] whole (refl, refl))

-- where none is taken, at the end or at a fault, they are those that it gave
pub tokens_end : (bytes rest : List ℕ) (ts : List Token) (new : Lexer) (t : Taken) → ((s : Spelt) (n : ℕ) → t ≡ taken.Token s n → ⊥) → Takes true bytes ts rest new t → (tokens new.limits bytes whole).tokens ≡ ts
tokens_end bytes rest ts new (taken.Token s n) none k = absurd (none s n refl)
tokens_end bytes rest ts new (taken.More left) none k = ap (λ (x : Lexed). x.tokens) k.1
tokens_end bytes rest ts new (taken.Failed code) none k = ended_so new.limits bytes ts code new.at.here.line k.1
