-- The steps of a comparison, up to a pair that is to be opened.
use Rattle.std.proofs.Common.{◌≡◌, ◌∙◌, ◌≤◌, ◌+◌, ◌-◌, ◌++◌, ◌∷◌, [], List, Bool, length, ap, subst, refl, sym as flip, arith}
use Rattle.dk_model.specs.Signatures.{PlainSignature}
use Rattle.dk_model.specs.Units.{Units}
use Rattle.shared_term.specs.Pools.{Node}
use Rattle.signature_log.specs.Versions.{entries_of}
use Rattle.conversion.specs.declared.state.PoolReducer.{PoolReducer}
use Rattle.conversion.specs.declared.compare.Step.{Step}
use Rattle.conversion.specs.declared.compare.Step.TheVariants.{Pair, Conclude}
use Rattle.conversion.specs.declared.compare.Look.{Look}
use Rattle.conversion.specs.declared.compare.Look.TheVariants.{Behind}
use Rattle.conversion.specs.Pending.{IsLook, IsUnderWay, IsOpenPair, look_made, look_due, look_rank}
use Rattle.conversion.specs.Reducers.{Serves}
use Rattle.conversion.proofs.Winding.{extends_none}
use Rattle.conversion.proofs.Serving.{answers_put, answer_made}
use Rattle.conversion.proofs.Comparing.{pair_within, concluded_within, look_told, look_opens, look_at, way_skips, way_concludes, concluded_gives, concluded_units}
use Rattle.conversion.proofs.state.PoolReducer.compare_on.Goals as goal

pub loop-look-preserved-in-AtOnce : goal.loop-look-preserved-in-AtOnce
loop-look-preserved-in-AtOnce c =
    let S : PlainSignature = entries_of c.args.version.now in
    let due : Units Bool = look_due S c.args.self.now.pool c.args.look c.args.left.now c.args.work.now.items in
    let ns : List Node = c.loop-look.self.pool in
    let i = c.loop-look.invariant in
    let same : c.meet.new.self ≡ c.loop-look.self = c.in_ok-alike-in-At.ensures.same in
    let way = subst (λ (k : Look). IsUnderWay S ns due (look_made S ns k c.loop-look.left) c.loop-look.left c.loop-look.work.items) c.in-At.is i.way in
    let taken = subst (λ (k : Look). c.loop-look.left + look_rank k ≤ c.args.left.now + look_rank c.args.look) c.in-At.is i.taken in
    record {
      look = tt;
      way = subst (λ (r : PoolReducer). IsUnderWay S r.pool due (look_made S r.pool (Behind c.in-AtOnce.alike) c.meet.new.left) c.meet.new.left c.loop-look.work.items) (flip same)
          (look_told S ns due c.in-At.first c.in-At.second c.loop-look.left c.meet.new.left c.in-AtOnce.alike c.loop-look.work.items (rw c.in-AtOnce.is at c.in_ok-alike-in-At.ensures.gives)
          (omega (arith, c.in_ok-alike-in-At.ensures.turned)) way);
      pool = ap (λ (r : PoolReducer). r.pool) same ∙ i.pool;
      serves = subst (Serves S) (flip same) i.serves;
      less = omega (arith, c.in_ok-alike-in-At.ensures.turned, i.less);
      taken = omega (arith, c.in_ok-alike-in-At.ensures.turned, taken);
    }

pub returns-in-Opens-clause-gives : goal.returns-in-Opens-clause-gives
returns-in-Opens-clause-gives c =
    let S : PlainSignature = entries_of c.args.version.now in
    let due : Units Bool = look_due S c.args.self.now.pool c.args.look c.args.left.now c.args.work.now.items in
    let ns : List Node = c.loop-look.self.pool in
    let i = c.loop-look.invariant in
    let way = subst (λ (k : Look). IsUnderWay S ns due (look_made S ns k c.loop-look.left) c.loop-look.left c.loop-look.work.items) c.in-At.is i.way in
    let within = subst (IsLook (length ns)) c.in-At.is i.look in
    let met = rw c.in-Opens.is at c.in_ok-alike-in-At.ensures.gives in (
      subst (λ (r : PoolReducer). IsOpenPair S r.pool due c.loop-look.work.items (record { first = c.in-At.first; second = c.in-At.second; before = c.loop-look.left })) (flip c.in_ok-alike-in-At.ensures.same)
          (look_opens S ns due c.in-At.first c.in-At.second c.loop-look.left c.meet.new.left c.loop-look.work.items within.0 within.1 met.0 met.1 way),
      met.0,
    )

pub loop-look-preserved-then-alike : goal.loop-look-preserved-then-alike
loop-look-preserved-then-alike c =
    let S : PlainSignature = entries_of c.args.version.now in
    let due : Units Bool = look_due S c.args.self.now.pool c.args.look c.args.left.now c.args.work.now.items in
    let ns : List Node = c.loop-look.self.pool in
    let i = c.loop-look.invariant in
    let e : c.loop-look.work.items ≡ c.pop.new.self.items ++ (Pair c.in-Some-Pair.first c.in-Some-Pair.second ∷ []) =
    c.in-Some-Pair.ensures.items ∙ ap (λ (x : Step). c.pop.new.self.items ++ (x ∷ [])) c.in-Some-Pair.field-0-is in
    let way = subst (λ (l : List Step). IsUnderWay S ns due (look_made S ns (Behind c.in-Behind.alike) c.loop-look.left) c.loop-look.left l) e
    (subst (λ (k : Look). IsUnderWay S ns due (look_made S ns k c.loop-look.left) c.loop-look.left c.loop-look.work.items) c.in-Behind.is i.way) in
    let taken = subst (λ (k : Look). c.loop-look.left + look_rank k ≤ c.args.left.now + look_rank c.args.look) c.in-Behind.is i.taken in
    record {
      look = pair_within (length ns) c.pop.new.self.items c.in-Some-Pair.first c.in-Some-Pair.second way.within;
      way = look_at S ns due c.loop-look.left c.in-Behind.alike c.pop.new.self.items c.in-Some-Pair.first c.in-Some-Pair.second c.if-alike.true way;
      pool = i.pool;
      serves = i.serves;
      less = i.less;
      taken = omega (arith, taken);
    }

pub loop-look-preserved-else-alike : goal.loop-look-preserved-else-alike
loop-look-preserved-else-alike c =
    let S : PlainSignature = entries_of c.args.version.now in
    let due : Units Bool = look_due S c.args.self.now.pool c.args.look c.args.left.now c.args.work.now.items in
    let ns : List Node = c.loop-look.self.pool in
    let i = c.loop-look.invariant in
    let e : c.loop-look.work.items ≡ c.pop.new.self.items ++ (Pair c.in-Some-Pair.first c.in-Some-Pair.second ∷ []) =
    c.in-Some-Pair.ensures.items ∙ ap (λ (x : Step). c.pop.new.self.items ++ (x ∷ [])) c.in-Some-Pair.field-0-is in
    let way = subst (λ (l : List Step). IsUnderWay S ns due (look_made S ns (Behind c.in-Behind.alike) c.loop-look.left) c.loop-look.left l) e
    (subst (λ (k : Look). IsUnderWay S ns due (look_made S ns k c.loop-look.left) c.loop-look.left c.loop-look.work.items) c.in-Behind.is i.way) in
    record {
      look = tt;
      way = way_skips S ns due c.loop-look.left c.in-Behind.alike c.pop.new.self.items c.in-Some-Pair.first c.in-Some-Pair.second c.if-alike.false way;
      pool = i.pool;
      serves = i.serves;
      less = i.less;
      taken = subst (λ (k : Look). c.loop-look.left + look_rank k ≤ c.args.left.now + look_rank c.args.look) c.in-Behind.is i.taken;
    }

pub overflow_sub-units : goal.overflow_sub-units
overflow_sub-units c =
    let S : PlainSignature = entries_of c.args.version.now in
    let due : Units Bool = look_due S c.args.self.now.pool c.args.look c.args.left.now c.args.work.now.items in
    let ns : List Node = c.loop-look.self.pool in
    let e : c.loop-look.work.items ≡ c.pop.new.self.items ++ (Conclude c.in-Some-Conclude.first c.in-Some-Conclude.second c.in-Some-Conclude.before ∷ []) =
    c.in-Some-Conclude.ensures.items ∙ ap (λ (x : Step). c.pop.new.self.items ++ (x ∷ [])) c.in-Some-Conclude.field-0-is in
    concluded_units S ns due c.loop-look.left c.in-Behind.alike c.pop.new.self.items c.in-Some-Conclude.first c.in-Some-Conclude.second c.in-Some-Conclude.before
    (subst (λ (l : List Step). IsUnderWay S ns due (look_made S ns (Behind c.in-Behind.alike) c.loop-look.left) c.loop-look.left l) e
    (subst (λ (k : Look). IsUnderWay S ns due (look_made S ns k c.loop-look.left) c.loop-look.left c.loop-look.work.items) c.in-Behind.is c.loop-look.invariant.way))

pub loop-look-preserved : goal.loop-look-preserved
loop-look-preserved c =
    let S : PlainSignature = entries_of c.args.version.now in
    let due : Units Bool = look_due S c.args.self.now.pool c.args.look c.args.left.now c.args.work.now.items in
    let ns : List Node = c.loop-look.self.pool in
    let i = c.loop-look.invariant in
    let e : c.loop-look.work.items ≡ c.pop.new.self.items ++ (Conclude c.in-Some-Conclude.first c.in-Some-Conclude.second c.in-Some-Conclude.before ∷ []) =
    c.in-Some-Conclude.ensures.items ∙ ap (λ (x : Step). c.pop.new.self.items ++ (x ∷ [])) c.in-Some-Conclude.field-0-is in
    let way = subst (λ (l : List Step). IsUnderWay S ns due (look_made S ns (Behind c.in-Behind.alike) c.loop-look.left) c.loop-look.left l) e
    (subst (λ (k : Look). IsUnderWay S ns due (look_made S ns k c.loop-look.left) c.loop-look.left c.loop-look.work.items) c.in-Behind.is i.way) in
    let within = concluded_within (length ns) c.pop.new.self.items c.in-Some-Conclude.first c.in-Some-Conclude.second c.in-Some-Conclude.before way.within in
    record {
      look = tt;
      way = way_concludes S ns due c.loop-look.left c.in-Behind.alike c.pop.new.self.items c.in-Some-Conclude.first c.in-Some-Conclude.second c.in-Some-Conclude.before way;
      pool = i.pool;
      serves = record {
        loaded = i.serves.loaded;
        heads = i.serves.heads;
        values = i.serves.values;
        normals = i.serves.normals;
        answers = answers_put _ _ _ _ c.in-Some-Conclude.first.0 c.in-Some-Conclude.second.0 _ i.serves.answers
            (answer_made S ns ns c.in-Some-Conclude.first c.in-Some-Conclude.second c.in-Behind.alike (c.in-Some-Conclude.before - c.loop-look.left)
            c.in-Some-Conclude.before c.loop-look.left (extends_none ns) within.0 within.1
            (concluded_gives S ns due c.loop-look.left c.in-Behind.alike c.pop.new.self.items c.in-Some-Conclude.first c.in-Some-Conclude.second c.in-Some-Conclude.before way) refl)
            (rw (c.number.ensures, c.number-in-Some-Conclude.ensures) at c.put.ensures);
        trees = i.serves.trees;
      };
      less = i.less;
      taken = subst (λ (k : Look). c.loop-look.left + look_rank k ≤ c.args.left.now + look_rank c.args.look) c.in-Behind.is i.taken;
    }
