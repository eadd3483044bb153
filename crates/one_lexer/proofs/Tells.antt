-- A whole text, token after token.
use Rattle.std.proofs.Common.{◌≡◌, ℕ, List, [], ◌++◌, ◌∷◌, false, true, refl, ap, ◌∙◌, sym}
use Rattle.std.proofs.lemmas.List.{append-nil}
use Rattle.std.specs.Prelude.{Some, None}
use Rattle.dk_model.specs.declared.code.Code.{Code}
use Rattle.dk_model.specs.declared.limits.Limits.{Limits}
use Rattle.dk_lexer.specs.declared.token.Token.{Token}
use Rattle.dk_lexer.specs.Tokens.{Lexed, tokens, whole}
use Rattle.one_lexer.specs.declared.lexer.Lexer.{Lexer}
use Rattle.one_lexer.specs.declared.next.Spelt.{Spelt}
use Rattle.one_lexer.specs.Lexers.{HasAll, HasFault, Knows}
use Rattle.one_lexer.specs.Steps.{token_of}
use Rattle.one_lexer.proofs.Lexers.{knows_over}

-- the tokens before the rest, whatever they are
pub record Told (limits : Limits) (text rest : List ℕ) (lexer : Lexer) : Type 0 where
  pub ts : List Token
  pub knows : Knows true text ts rest lexer
  pub limits_are : lexer.limits ≡ limits

pub told_new : (limits : Limits) (text : List ℕ) (lexer : Lexer) → Knows false text [] text lexer → lexer.limits ≡ limits → Told limits text text lexer
told_new limits text lexer k is = record { ts = []; knows = knows_over text text [] lexer k; limits_are = is }

pub told_token : (limits : Limits) (text rest : List ℕ) (ts : List Token) (new : Lexer) (spelt : Spelt) → Knows true text (ts ++ token_of spelt ∷ []) rest new → new.limits ≡ limits → Told limits text rest new
told_token limits text rest ts new spelt k is = record { ts = ts ++ token_of spelt ∷ []; knows = k; limits_are = is }

pub all_fault : (limits l : Limits) (text : List ℕ) (ts : List Token) (line : ℕ) → l ≡ limits → HasAll true l text ts line → (tokens limits text whole).fault ≡ None
all_fault limits l text ts line is h = ap (λ (x : Limits). (tokens x text whole).fault) (sym is) ∙ ap (λ (x : Lexed). x.fault) h

pub all_line : (limits l : Limits) (text : List ℕ) (ts : List Token) (line : ℕ) → l ≡ limits → HasAll true l text ts line → (tokens limits text whole).line ≡ line
all_line limits l text ts line is h = ap (λ (x : Limits). (tokens x text whole).line) (sym is) ∙ ap (λ (x : Lexed). x.line) h

at_end : (limits : Limits) (text : List ℕ) (ts : List Token) (code : Code) (line : ℕ) → HasFault true limits text ts code line → tokens limits text whole ≡ record { tokens = ts; fault = Some code; line = line }
at_end limits text ts code line h = ap (λ (x : List ℕ). tokens limits x whole) (sym (append-nil text)) ∙ h.stands [] whole (refl, refl)

pub fault_fault : (limits l : Limits) (text : List ℕ) (ts : List Token) (code : Code) (line : ℕ) → l ≡ limits → HasFault true l text ts code line → (tokens limits text whole).fault ≡ Some code
fault_fault limits l text ts code line is h = ap (λ (x : Limits). (tokens x text whole).fault) (sym is) ∙ ap (λ (x : Lexed). x.fault) (at_end l text ts code line h)

pub fault_line : (limits l : Limits) (text : List ℕ) (ts : List Token) (code : Code) (line : ℕ) → l ≡ limits → HasFault true l text ts code line → (tokens limits text whole).line ≡ line
fault_line limits l text ts code line is h = ap (λ (x : Limits). (tokens x text whole).line) (sym is) ∙ ap (λ (x : Lexed). x.line) (at_end l text ts code line h)
