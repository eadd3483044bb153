-- How many books are put aside after a call.
use Rattle.std.proofs.Common.{◌≡◌, ◌<◌, ◌≤◌, ◌+◌, ℕ, Bool, true, false, List, length, subst, ap, arith, OnOk, OnErr, IfOk}
use Rattle.std.specs.Prelude.{Ok, Err, Result}
use Rattle.dk_io.specs.Bytes.{put_aside}

pub count_more : {A : Type 0} (open_before : Bool) (x : A) (old new : List A) → new ≡ put_aside open_before x old → length new ≤ length old + 1
count_more true x old new is = let e = ap length is in omega (arith, e)
count_more false x old new is = let e = ap length is in omega (arith, e)

-- where one was open there is one
pub some_more : {A : Type 0} (open_before : Bool) (x : A) (old new : List A) → open_before ≡ true → new ≡ put_aside open_before x old → 0 < length new
some_more true x old new is_open is = let e = ap length is in omega (arith, e)
some_more false x old new is_open is = cc

-- an opening puts one aside at most
pub one_more : {A X E : Type 0} (r : Result X E) (open_before : Bool) (x : A) (old new : List A) → OnOk r (new ≡ put_aside open_before x old) → OnErr r (new ≡ old) → length new ≤ length old + 1
one_more (Ok v) b x old new ok err = count_more b x old new ok
one_more (Err v) b x old new ok err = let e = ap length err in omega (arith, e)

-- a read puts none aside
pub as_many : {A : Type 0} (old new : List A) → new ≡ old → length new ≤ length old + 1
as_many old new is = let e = ap length is in omega (arith, e)
