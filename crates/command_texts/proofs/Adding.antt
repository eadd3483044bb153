-- Tokens looked at one after the other.
use Rattle.std.proofs.Common.{List, [], ◌∷◌, ◌++◌, append-nil, append_assoc, ℕ, ◌≡◌, true, Option, None, refl, ap, sym, ◌∙◌}
use Rattle.dk_model.specs.declared.code.Code.{Code}
use Rattle.dk_model.specs.declared.limits.Limits.{Limits}
use Rattle.dk_lexer.specs.declared.token.Token.{Token}
use Rattle.dk_lexer.specs.Tokens.{Lexed, tokens, whole}
use Rattle.one_lexer.specs.declared.lexer.Lexer.{Lexer}
use Rattle.one_lexer.specs.declared.lexer.Taken.{Taken}
use Rattle.one_lexer.specs.declared.lexer.Taken.TheVariants as taken
use Rattle.one_lexer.specs.declared.next.Spelt.{Spelt}
use Rattle.one_lexer.specs.Lexers.{HasFault, Knows, Takes}
use Rattle.command_texts.specs.declared.cutting.Texts.{Texts}
use Rattle.command_texts.specs.Cutting.{ended_by, begun_behind, spans_of, begun_after, Adds}

spans_last : (b : Option ℕ) (ts : List Token) (t : Token) → spans_of b (ts ++ t ∷ []) ≡ spans_of b ts ++ ended_by t.kind t.offset (begun_after b ts)
spans_last b [] t = append-nil (ended_by t.kind t.offset b)
spans_last b (u ∷ ts) t = ap (λ z. ended_by u.kind u.offset b ++ z) (spans_last (begun_behind u.kind u.offset b) ts t)
    ∙ sym (append_assoc (ended_by u.kind u.offset b) (spans_of (begun_behind u.kind u.offset b) ts) (ended_by t.kind t.offset (begun_after b (u ∷ ts))))

begun_last : (b : Option ℕ) (ts : List Token) (t : Token) → begun_after b (ts ++ t ∷ []) ≡ begun_behind t.kind t.offset (begun_after b ts)
begun_last b [] t = refl
begun_last b (u ∷ ts) t = begun_last (begun_behind u.kind u.offset b) ts t

-- the tokens before the rest of the bytes were looked at
pub record HasCut (limits : Limits) (bytes rest : List ℕ) (lexer : Lexer) (x : Texts) : Type 0 where
  pub ts : List Token
  pub knows : Knows true bytes ts rest lexer
  pub limits_are : lexer.limits ≡ limits
  pub ended : x.ended.items ≡ spans_of None ts
  pub begun : x.begun ≡ begun_after None ts

pub cut_nothing : (limits : Limits) (bytes : List ℕ) (lexer : Lexer) (x : Texts) → Knows true bytes [] bytes lexer → lexer.limits ≡ limits → x.ended.items ≡ [] → x.begun ≡ None → HasCut limits bytes bytes lexer x
cut_nothing limits bytes lexer x k l e b = record { ts = []; knows = k; limits_are = l; ended = e; begun = b }

-- one more token
pub cut_more : {limits : Limits} {bytes rest left : List ℕ} {lexer : Lexer} {x : Texts} (new : Lexer) (y : Texts) (t : Token) (h : HasCut limits bytes rest lexer x) → Knows true bytes (h.ts ++ t ∷ []) left new → new.limits ≡ lexer.limits → Adds x t.kind t.offset y
    → HasCut limits bytes left new y
cut_more new y t h k l a = record {
  ts = h.ts ++ t ∷ [];
  knows = k;
  limits_are = l ∙ h.limits_are;
  ended = a.ended ∙ (λ i. h.ended i ++ ended_by t.kind t.offset (h.begun i)) ∙ sym (spans_last None h.ts t);
  begun = a.begun ∙ ap (begun_behind t.kind t.offset) h.begun ∙ sym (begun_last None h.ts t);
}

ended_so : (limits : Limits) (bytes : List ℕ) (ts : List Token) (code : Code) (line : ℕ) → HasFault true limits bytes ts code line → (tokens limits bytes whole).tokens ≡ ts
ended_so limits bytes ts code line f = ap (λ bs. (tokens limits bs whole).tokens) (sym (append-nil bytes)) ∙ ap (λ (x : Lexed). x.tokens) (f.stands [] whole (refl, refl))

-- where none is taken, at the end or at a fault, the tokens are those that were given
tokens_end : (bytes rest : List ℕ) (ts : List Token) (new : Lexer) (t : Taken) → ((s : Spelt) (n : ℕ) → t ≡ taken.Token s n → ⊥) → Takes true bytes ts rest new t → (tokens new.limits bytes whole).tokens ≡ ts
tokens_end bytes rest ts new (taken.Token s n) none k = absurd (none s n refl)
tokens_end bytes rest ts new (taken.More left) none k = ap (λ (x : Lexed). x.tokens) k.1
tokens_end bytes rest ts new (taken.Failed code) none k = ended_so new.limits bytes ts code new.at.here.line k.1

-- all were looked at
pub cut_all : {limits : Limits} {bytes rest : List ℕ} {lexer : Lexer} {x : Texts} (new : Lexer) (t : Taken) (h : HasCut limits bytes rest lexer x) → new.limits ≡ lexer.limits → ((s : Spelt) (n : ℕ) → t ≡ taken.Token s n → ⊥) → Takes true bytes h.ts rest new t
    → x.ended.items ≡ spans_of None (tokens limits bytes whole).tokens
cut_all {bytes} {rest} new t h l none k =
    h.ended ∙ ap (spans_of None) (sym (tokens_end bytes rest h.ts new t none k)) ∙ ap (λ (z : Limits). spans_of None (tokens z bytes whole).tokens) (l ∙ h.limits_are)
