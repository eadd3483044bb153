-- What a query finds is so, where evaluation has its meaning.
use Rattle.std.specs.Prelude.{Bool, true, false}
use Rattle.std.proofs.Common.{[], ◌≡◌, Some, subst as along}
use Rattle.dk_model.specs.Trees.{Tree}
use Rattle.dk_model.specs.Erasure.{erased}
use Rattle.dk_model.specs.Signatures.{PlainSignature}
use Rattle.dk_model.specs.Scoping.{PlainAsked, typed, alike, type_of, value_of, PlainFound, yes, no, of_type, value}
use Rattle.dk_model.specs.declared.code.Code.TheVariants.{E21}
use Rattle.dk_model.specs.TypingOver.{Evaluator, JudgedIn, answer, refused, ended, inferred}
use Rattle.dk_model.specs.CommandTypingOver.{or_no, declaration_checked, compared, evaluated, asked_found}
use Rattle.typing_model.specs.Steps.{ReducesTo, AreJoinable}
use Rattle.typing_model.specs.Laws.{Reduces}
use Rattle.typing_model.specs.Queries.{HasSomeType, IsSo, FoundIsSo}
use Rattle.typing_model.proofs.Typing.{from_after, from_next, convertible_joins, inferred_derives}
use Rattle.typing_model.proofs.Commands.{declaration_derives}

same_found : {X : Type 0} (f g : PlainFound) (n m : X) → answer f n ≡ answer g m → f ≡ g
same_found f g n m e = cc

from_no : {X : Type 0} (P : Type 0) (x : JudgedIn X PlainFound) (f : PlainFound) (m : X) → or_no x ≡ answer f m → (x ≡ answer f m → P) → (no ≡ f → P) → P
from_no P (answer g n) f m e k l = k e
from_no P (refused c n) f m e k l = l (same_found no f n m e)
from_no P ended f m e k l = cc

module _ (S : PlainSignature) {X : Type 0} (E : Evaluator X) (M : Reduces S E) where
  compared_joins : (t u : Tree) (n m : X) (v : Unit {0}) → compared E S t u n ≡ answer v m → HasSomeType S t × HasSomeType S u × AreJoinable S (erased t) (erased u)
  compared_joins t u n m v e = from_next (HasSomeType S t × HasSomeType S u × AreJoinable S (erased t) (erased u)) (inferred E S [] [] t n) _ v m e (λ T i e1 g.
      from_next (HasSomeType S t × HasSomeType S u × AreJoinable S (erased t) (erased u)) (inferred E S [] [] u i) _ v m g (λ U j e2 h.
      ((T, inferred_derives S E M [] [] t T n i e1), (U, inferred_derives S E M [] [] u U i j e2), convertible_joins S E M E21 (erased t) (erased u) j m v h)))

  evaluated_reduces : (t v : Tree) (n m : X) → evaluated E S t n ≡ answer v m → HasSomeType S t × ReducesTo S (erased t) v
  evaluated_reduces t v n m e = from_next (HasSomeType S t × ReducesTo S (erased t) v) (inferred E S [] [] t n) _ v m e (λ T i e1 g.
      from_after (HasSomeType S t × ReducesTo S (erased t) v) (E.normal i (erased t)) answer v m g (λ p e2 h.
      let q : p.0 ≡ v = cc in ((T, inferred_derives S E M [] [] t T n i e1), along (ReducesTo S (erased t)) q (M.normal i p.1 (erased t) p.0 e2))))

  asked_is_so : (demand : Bool) (a : PlainAsked) (n m : X) (f : PlainFound) → asked_found E S a n ≡ answer f m → IsSo S demand a f
  asked_is_so demand (typed t A) n m f e = from_next (IsSo S demand (typed t A) f) (declaration_checked E S (Some A) (Some t) n) _ f m e (λ v i e1 g.
      along (IsSo S demand (typed t A)) (same_found yes f i m g) (declaration_derives S E M (Some A) (Some t) n i v e1))
  asked_is_so demand (alike t u) n m f e = from_next (IsSo S demand (alike t u) f) (compared E S t u n) _ f m e (λ v i e1 g.
      along (IsSo S demand (alike t u)) (same_found yes f i m g) (compared_joins t u n i v e1))
  asked_is_so demand (type_of t) n m f e = from_next (IsSo S demand (type_of t) f) (inferred E S [] [] t n) _ f m e (λ T i e1 g.
      along (IsSo S demand (type_of t)) (same_found (of_type T) f i m g) (inferred_derives S E M [] [] t T n i e1))
  asked_is_so demand (value_of t) n m f e = from_next (IsSo S demand (value_of t) f) (evaluated E S t n) _ f m e (λ v i e1 g.
      along (IsSo S demand (value_of t)) (same_found (value v) f i m g) (evaluated_reduces t v n i e1))

  pub found_is_so : FoundIsSo S E
  found_is_so true a n m f e = asked_is_so true a n m f e
  found_is_so false (typed t A) n m f e = from_no (IsSo S false (typed t A) f) (asked_found E S (typed t A) n) f m e (asked_is_so false (typed t A) n m f) (λ q. along (IsSo S false (typed t A)) q tt)
  found_is_so false (alike t u) n m f e = from_no (IsSo S false (alike t u) f) (asked_found E S (alike t u) n) f m e (asked_is_so false (alike t u) n m f) (λ q. along (IsSo S false (alike t u)) q tt)
  found_is_so false (type_of t) n m f e = asked_is_so false (type_of t) n m f e
  found_is_so false (value_of t) n m f e = asked_is_so false (value_of t) n m f e
