-- The clauses of a reducer from those of a pool.
use Rattle.std.proofs.Common.{◌≡◌, ◌∙◌, ◌<◌, ℕ, List, [], ◌∷◌, Option, Some, None, Bool, Result, Ok, Err, refl, ap, arith, length, map}
use Rattle.dk_model.specs.Trees.{Tree}
use Rattle.dk_model.specs.Signatures.{maybe_by}
use Rattle.dk_model.specs.Units.{Units}
use Rattle.dk_model.specs.declared.NodeOf.TheVariants.{Star, Kind, Sym, Var, Rvar, App, Abs, Prod}
use Rattle.dk_model.specs.declared.stop.Stop.{Stop}
use Rattle.dk_model.specs.declared.stop.Stop.TheVariants.{Ended, NoMemory}
use Rattle.shared_term.specs.declared.id.TermId.{TermId}
use Rattle.shared_term.specs.Pools.{Node, term, terms, Extends, IsWithin}
use Rattle.shared_term.specs.Pools.{denoted as node_term}
use Rattle.shared_term.specs.Changes.{AreTerms, AreCaptures, captured_terms}
use Rattle.signature_log.specs.Reducers.{Keeps, Gives, GivesAnswer, Shows, OwnsParts, AreOwned, OwnsSomes, built}
use Rattle.conversion.specs.declared.state.PoolReducer.{PoolReducer}
use Rattle.conversion.specs.Given.{GivesTerm, GivesBool}
use Rattle.conversion.specs.Owned.{owned, denoted}

pub pool_keeps : (old new : PoolReducer) → Extends old.pool new.pool → Keeps owned denoted old new
pool_keeps old new e = record { own = λ t l. omega (arith, e.longer, l); same = λ t l. e.keeps t.0 l }

pub pool_gives : (due : Units Tree) (r : PoolReducer) (result : Result TermId Stop) (left : ℕ) → GivesTerm due r.pool result left → Gives owned denoted due r result left
pool_gives due r (Ok t) left h = h
pool_gives due r (Err Ended) left h = h
pool_gives due r (Err NoMemory) left h = tt

pub pool_answers : (due : Units Bool) (result : Result Bool Stop) (left : ℕ) → GivesBool due result left → GivesAnswer due result left
pool_answers due (Ok b) left h = h
pool_answers due (Err Ended) left h = h
pool_answers due (Err NoMemory) left h = tt

-- a node of the pool

pub pool_built : (r : PoolReducer) (n : Node) → node_term (terms r.pool) n ≡ built denoted r n
pool_built r Star = refl
pool_built r Kind = refl
pool_built r (Sym k) = refl
pool_built r (Var k) = refl
pool_built r (Rvar k) = refl
pool_built r (App f a) = refl
pool_built r (Abs None b) = refl
pool_built r (Abs (Some n) b) = refl
pool_built r (Prod a b) = refl

pub parts_within : (r : PoolReducer) (n : Node) → OwnsParts owned r n → IsWithin (length r.pool) n
parts_within r Star h = tt
parts_within r Kind h = tt
parts_within r (Sym k) h = tt
parts_within r (Var k) h = tt
parts_within r (Rvar k) h = tt
parts_within r (App f a) h = h
parts_within r (Abs None b) h = h
parts_within r (Abs (Some n) b) h = h
parts_within r (Prod a b) h = h

parts_owned : (r : PoolReducer) (i : ℕ) (n : Node) → i < length r.pool → IsWithin i n → OwnsParts owned r n
parts_owned r i Star l h = tt
parts_owned r i Kind l h = tt
parts_owned r i (Sym k) l h = tt
parts_owned r i (Var k) l h = tt
parts_owned r i (Rvar k) l h = tt
parts_owned r i (App f a) l h = (omega (arith, l, h.0), omega (arith, l, h.1))
parts_owned r i (Abs None b) l h = omega (arith, l, h)
parts_owned r i (Abs (Some n) b) l h = (omega (arith, l, h.0), omega (arith, l, h.1))
parts_owned r i (Prod a b) l h = (omega (arith, l, h.0), omega (arith, l, h.1))

pub pool_shows : (r : PoolReducer) (t : TermId) (n : Node) → t.0 < length r.pool → term r.pool t ≡ node_term (terms r.pool) n → IsWithin t.0 n → Shows owned denoted r (term r.pool t) n
pool_shows r t n l e h = (e ∙ pool_built r n, parts_owned r t.0 n l h)

pub terms_owned : (r : PoolReducer) (ts : List TermId) → AreOwned owned r ts → AreTerms (length r.pool) ts
terms_owned r [] h = tt
terms_owned r (t ∷ ts) h = (h.0, terms_owned r ts h.1)

-- captures

pub somes_captured : (r : PoolReducer) (os : List (Option TermId)) → OwnsSomes owned r os → AreCaptures (length r.pool) os
somes_captured r [] h = tt
somes_captured r (None ∷ os) h = somes_captured r os h.1
somes_captured r (Some t ∷ os) h = (h.0, somes_captured r os h.1)

pub somes_denoted : (r : PoolReducer) (os : List (Option TermId)) → captured_terms r.pool os ≡ map (maybe_by (denoted r)) os
somes_denoted r [] = refl
somes_denoted r (None ∷ os) = ap (λ (xs : List (Option Tree)). None ∷ xs) (somes_denoted r os)
somes_denoted r (Some t ∷ os) = ap (λ (xs : List (Option Tree)). Some (term r.pool t) ∷ xs) (somes_denoted r os)
