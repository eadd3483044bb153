-- What a lexer knows of the bytes given, however they go on and end.
use Rattle.std.proofs.Common.{◌≡◌, ℕ, Bool, true, false, List, [], ◌++◌, refl, sym, ap, subst, ◌∙◌, arith}
use Rattle.std.proofs.lemmas.List.{append-nil}
use Rattle.dk_model.specs.declared.limits.Limits.{Limits}
use Rattle.dk_lexer.specs.declared.token.Token.{Token}
use Rattle.dk_lexer.specs.Tokens.{Ending, Lexed, tokens, whole}
use Rattle.one_lexer.specs.declared.lexer.Lexer.{Lexer}
use Rattle.one_lexer.specs.declared.lexer.State.{State}
use Rattle.one_lexer.specs.declared.lexer.State.TheVariants as state
use Rattle.one_lexer.specs.declared.lexer.Taken.{Taken}
use Rattle.one_lexer.specs.declared.lexer.Taken.TheVariants as taken
use Rattle.one_lexer.specs.declared.next.Standing.{Standing}
use Rattle.one_lexer.specs.Lexers.{IsLeft, Knows, KnowsBy, ending_of, limits_of}
use Rattle.one_lexer.specs.Reading.{MayCome, adds}
use Rattle.one_lexer.proofs.Carries.{may_end}
use Rattle.one_lexer.proofs.Lexers.{known}
use Rattle.file_reader.specs.Held.{LeavesAtMost}

-- tokens that begin with these
abbrev pub BeginsSo : List Token → List Token → Type 0
BeginsSo all ts = (us : List Token) × (all ≡ ts ++ us)

added : (ts : List Token) (all next : Lexed) → all ≡ adds ts next → BeginsSo all.tokens ts
added ts all next is = (next.tokens, ap (λ (l : Lexed). l.tokens) is)

by_state : (over : Bool) (limits : Limits) (before rest : List ℕ) (ts : List Token) (at : Standing) (s : State) → KnowsBy over limits before ts rest at s
    → (more : List ℕ) (how : Ending) → MayCome over more how → BeginsSo (tokens limits (before ++ more) how).tokens ts
by_state over limits before rest ts at state.Between k more how may = added ts (tokens limits (before ++ more) how) _ (k.onward more how may)
by_state over limits before rest ts at (state.Word n) k more how may = added ts (tokens limits (before ++ more) how) _ (k.0.onward more how may)
by_state over limits before rest ts at (state.Comment inside) k more how may = added ts (tokens limits (before ++ more) how) _ (k.onward more how may)
by_state over limits before rest ts at (state.Failed code) k more how may = added ts (tokens limits (before ++ more) how) _ (k.stands more how may)

module _ (over : Bool) (limits : Limits) (given rest : List ℕ) (taken : List Token) (lexer : Lexer) (limits_are : limits_of lexer ≡ limits) (k : Knows over given taken rest lexer) where
  -- however the bytes go on, their tokens begin with those that were taken
  pub go_on : (more : List ℕ) (how : Ending) → MayCome over more how → BeginsSo (tokens limits (given ++ more) how).tokens taken
  go_on more how may =
      subst (λ (x : Limits). BeginsSo (tokens x (given ++ more) how).tokens taken) limits_are
      (by_state over lexer.limits given rest taken lexer.at lexer.state (known over given rest taken lexer k) more how may)

  -- and so do those of the bytes by now
  pub by_now : BeginsSo (tokens limits given (ending_of over)).tokens taken
  by_now =
      let n = go_on [] (ending_of over) (may_end over) in
      (n.0, ap (λ bs. (tokens limits bs (ending_of over)).tokens) (sym (append-nil given)) ∙ n.1)

-- where the end was met, nothing comes
pub may_come : (over : Bool) (rest : List ℕ) → (ending_of over ≡ whole → rest ≡ []) → MayCome over rest whole
may_come false rest last = tt
may_come true rest last = (last refl, refl)

-- what is left of some bytes
pub at_most : (over : Bool) (size : ℕ) (t : Taken) → IsLeft over size t → LeavesAtMost size t
at_most over size (taken.Token spelt left) h = h
at_most true size (taken.More left) h = omega (arith, h)
at_most false size (taken.More left) h = h
at_most over size (taken.Failed code) h = tt
