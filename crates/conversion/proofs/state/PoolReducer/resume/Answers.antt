-- A frame goes on once its part has a normal form.
use Rattle.std.proofs.Common.{◌-◌, ◌++◌, ◌∷◌, [], List, length, ap, subst, refl, sym as flip}
use Rattle.dk_model.specs.Trees.{Tree}
use Rattle.dk_model.specs.Signatures.{PlainSignature}
use Rattle.dk_model.specs.Units.{Units}
use Rattle.dk_model.specs.Evaluation.{normal_of}
use Rattle.shared_term.specs.Pools.{term}
use Rattle.signature_log.specs.Versions.{entries_of}
use Rattle.conversion.specs.declared.normal.Frame.{Frame}
use Rattle.conversion.specs.Waiting.{IsFrame, IsWaiting, IsResumed, continued, resumed, value_due}
use Rattle.conversion.proofs.Winding.{extends_none}
use Rattle.conversion.proofs.Serving.{normals_put, normal_made, serves_grown}
use Rattle.conversion.proofs.Waiting.{frame_popped, waits_popped, argument_next, annotation_next, domain_next, built_next, concluded_next}
use Rattle.conversion.proofs.state.PoolReducer.resume.Goals as goal

pub returns-in_ok-push_frame-in-Argument-clause-way : goal.returns-in_ok-push_frame-in-Argument-clause-way
returns-in_ok-push_frame-in-Argument-clause-way c =
    let S : PlainSignature = entries_of c.args.version.now in
    let ns = c.args.self.now.pool in
    let due : Units Tree = resumed S ns (c.args.frames.now.items ++ (c.args.frame ∷ [])) (value_due ns c.args.value c.args.left) in
    subst (λ (l : List Frame). IsResumed S ns due (normal_of S c.args.left (term ns c.in-Argument.argument)) c.args.left l) (flip c.in_ok-push_frame-in-Argument.ensures)
    (argument_next S ns c.args.frames.now.items due c.args.value c.in-Argument.argument c.args.left c.requires.value
    (subst (λ (f : Frame). IsResumed S ns due (value_due ns c.args.value c.args.left) c.args.left (c.args.frames.now.items ++ (f ∷ []))) c.in-Argument.is c.requires.way))

pub returns-in_ok-push_frame-in-Argument-clause-gives : goal.returns-in_ok-push_frame-in-Argument-clause-gives
returns-in_ok-push_frame-in-Argument-clause-gives c =
    let within : IsFrame (length c.args.self.now.pool) c.args.frame = frame_popped (length c.args.self.now.pool) c.args.frames.now.items c.args.frame c.requires.way.frames in
    subst (IsFrame (length c.args.self.now.pool)) c.in-Argument.is within

pub returns-in_ok-push_frame-in-Annotation-clause-way : goal.returns-in_ok-push_frame-in-Annotation-clause-way
returns-in_ok-push_frame-in-Annotation-clause-way c =
    let S : PlainSignature = entries_of c.args.version.now in
    let ns = c.args.self.now.pool in
    let due : Units Tree = resumed S ns (c.args.frames.now.items ++ (c.args.frame ∷ [])) (value_due ns c.args.value c.args.left) in
    subst (λ (l : List Frame). IsResumed S ns due (normal_of S c.args.left (term ns c.in-Annotation.body)) c.args.left l) (flip c.in_ok-push_frame-in-Annotation.ensures)
    (annotation_next S ns c.args.frames.now.items due c.args.value c.in-Annotation.body c.args.left c.requires.value
    (subst (λ (f : Frame). IsResumed S ns due (value_due ns c.args.value c.args.left) c.args.left (c.args.frames.now.items ++ (f ∷ []))) c.in-Annotation.is c.requires.way))

pub returns-in_ok-push_frame-in-Annotation-clause-gives : goal.returns-in_ok-push_frame-in-Annotation-clause-gives
returns-in_ok-push_frame-in-Annotation-clause-gives c =
    let within : IsFrame (length c.args.self.now.pool) c.args.frame = frame_popped (length c.args.self.now.pool) c.args.frames.now.items c.args.frame c.requires.way.frames in
    subst (IsFrame (length c.args.self.now.pool)) c.in-Annotation.is within

pub returns-in_ok-push_frame-in-Domain-clause-way : goal.returns-in_ok-push_frame-in-Domain-clause-way
returns-in_ok-push_frame-in-Domain-clause-way c =
    let S : PlainSignature = entries_of c.args.version.now in
    let ns = c.args.self.now.pool in
    let due : Units Tree = resumed S ns (c.args.frames.now.items ++ (c.args.frame ∷ [])) (value_due ns c.args.value c.args.left) in
    subst (λ (l : List Frame). IsResumed S ns due (normal_of S c.args.left (term ns c.in-Domain.codomain)) c.args.left l) (flip c.in_ok-push_frame-in-Domain.ensures)
    (domain_next S ns c.args.frames.now.items due c.args.value c.in-Domain.codomain c.args.left c.requires.value
    (subst (λ (f : Frame). IsResumed S ns due (value_due ns c.args.value c.args.left) c.args.left (c.args.frames.now.items ++ (f ∷ []))) c.in-Domain.is c.requires.way))

pub returns-in_ok-push_frame-in-Domain-clause-gives : goal.returns-in_ok-push_frame-in-Domain-clause-gives
returns-in_ok-push_frame-in-Domain-clause-gives c =
    let within : IsFrame (length c.args.self.now.pool) c.args.frame = frame_popped (length c.args.self.now.pool) c.args.frames.now.items c.args.frame c.requires.way.frames in
    subst (IsFrame (length c.args.self.now.pool)) c.in-Domain.is within

pub returns-in_ok-whole-in-Function-clause-way : goal.returns-in_ok-whole-in-Function-clause-way
returns-in_ok-whole-in-Function-clause-way c =
    let S : PlainSignature = entries_of c.args.version.now in
    let ns = c.args.self.now.pool in
    built_next S ns _ c.args.frames.now.items c.args.frame (resumed S ns (c.args.frames.now.items ++ (c.args.frame ∷ [])) (value_due ns c.args.value c.args.left)) c.args.value c.in_ok-whole-in-Function.whole _ c.args.left
    (ap (λ (f : Frame). continued S ns f (term ns c.args.value) c.args.left) c.in-Function.is) c.in_ok-whole-in-Function.ensures.keeps c.in_ok-whole-in-Function.ensures.denotes c.requires.way

pub returns-in_ok-whole-in-Body-clause-way : goal.returns-in_ok-whole-in-Body-clause-way
returns-in_ok-whole-in-Body-clause-way c =
    let S : PlainSignature = entries_of c.args.version.now in
    let ns = c.args.self.now.pool in
    built_next S ns _ c.args.frames.now.items c.args.frame (resumed S ns (c.args.frames.now.items ++ (c.args.frame ∷ [])) (value_due ns c.args.value c.args.left)) c.args.value c.in_ok-whole-in-Body.whole _ c.args.left
    (ap (λ (f : Frame). continued S ns f (term ns c.args.value) c.args.left) c.in-Body.is) c.in_ok-whole-in-Body.ensures.keeps c.in_ok-whole-in-Body.ensures.denotes c.requires.way

pub returns-in_ok-whole-in-Annotated-clause-way : goal.returns-in_ok-whole-in-Annotated-clause-way
returns-in_ok-whole-in-Annotated-clause-way c =
    let S : PlainSignature = entries_of c.args.version.now in
    let ns = c.args.self.now.pool in
    built_next S ns _ c.args.frames.now.items c.args.frame (resumed S ns (c.args.frames.now.items ++ (c.args.frame ∷ [])) (value_due ns c.args.value c.args.left)) c.args.value c.in_ok-whole-in-Annotated.whole _ c.args.left
    (ap (λ (f : Frame). continued S ns f (term ns c.args.value) c.args.left) c.in-Annotated.is) c.in_ok-whole-in-Annotated.ensures.keeps c.in_ok-whole-in-Annotated.ensures.denotes c.requires.way

pub returns-in_ok-whole-in-Codomain-clause-way : goal.returns-in_ok-whole-in-Codomain-clause-way
returns-in_ok-whole-in-Codomain-clause-way c =
    let S : PlainSignature = entries_of c.args.version.now in
    let ns = c.args.self.now.pool in
    built_next S ns _ c.args.frames.now.items c.args.frame (resumed S ns (c.args.frames.now.items ++ (c.args.frame ∷ [])) (value_due ns c.args.value c.args.left)) c.args.value c.in_ok-whole-in-Codomain.whole _ c.args.left
    (ap (λ (f : Frame). continued S ns f (term ns c.args.value) c.args.left) c.in-Codomain.is) c.in_ok-whole-in-Codomain.ensures.keeps c.in_ok-whole-in-Codomain.ensures.denotes c.requires.way

pub returns-in-Conclude-clause-way : goal.returns-in-Conclude-clause-way
returns-in-Conclude-clause-way c =
    let S : PlainSignature = entries_of c.args.version.now in
    let ns = c.args.self.now.pool in
    let due : Units Tree = resumed S ns (c.args.frames.now.items ++ (c.args.frame ∷ [])) (value_due ns c.args.value c.args.left) in
    concluded_next S ns c.args.frames.now.items due c.args.value c.in-Conclude.whole c.in-Conclude.before c.args.left
    (subst (λ (f : Frame). IsResumed S ns due (value_due ns c.args.value c.args.left) c.args.left (c.args.frames.now.items ++ (f ∷ []))) c.in-Conclude.is c.requires.way)

pub returns-in-Conclude-clause-serves : goal.returns-in-Conclude-clause-serves
returns-in-Conclude-clause-serves c =
    let S : PlainSignature = entries_of c.args.version.now in
    let ns = c.args.self.now.pool in
    let w = subst (λ (f : Frame). IsWaiting S ns (value_due ns c.args.value c.args.left) c.args.left f) c.in-Conclude.is
    (waits_popped S ns c.args.frames.now.items c.args.frame (value_due ns c.args.value c.args.left) c.args.left c.requires.way.waiting) in
    let i = subst (IsFrame (length ns)) c.in-Conclude.is (frame_popped (length ns) c.args.frames.now.items c.args.frame c.requires.way.frames) in
    record {
      loaded = c.requires.serves.loaded;
      heads = c.requires.serves.heads;
      values = c.requires.serves.values;
      normals = normals_put _ _ _ _ c.in-Conclude.whole.0 0 _ c.requires.serves.normals
          (normal_made S ns ns c.in-Conclude.whole (record { id = c.args.value; units = c.in-Conclude.before - c.args.left })
          c.in-Conclude.before c.args.left (extends_none ns) i c.requires.value w.0 refl)
          (rw c.number.ensures at c.put.ensures);
      answers = c.requires.serves.answers;
      trees = c.requires.serves.trees;
    }

pub overflow_sub-units : goal.overflow_sub-units
overflow_sub-units c =
    let S : PlainSignature = entries_of c.args.version.now in
    let ns = c.args.self.now.pool in
    let w = subst (λ (f : Frame). IsWaiting S ns (value_due ns c.args.value c.args.left) c.args.left f) c.in-Conclude.is
    (waits_popped S ns c.args.frames.now.items c.args.frame (value_due ns c.args.value c.args.left) c.args.left c.requires.way.waiting) in
    w.1

pub returns-in_ok-whole-in-Function-clause-serves : goal.returns-in_ok-whole-in-Function-clause-serves
returns-in_ok-whole-in-Function-clause-serves c = serves_grown (entries_of c.args.version.now) c.args.self.now c.intern.new.self c.in_ok-whole-in-Function.ensures.keeps c.requires.serves

pub returns-in_err-whole-in-Function-clause-serves : goal.returns-in_err-whole-in-Function-clause-serves
returns-in_err-whole-in-Function-clause-serves c = serves_grown (entries_of c.args.version.now) c.args.self.now c.intern.new.self c.in_err-whole-in-Function.ensures.keeps c.requires.serves

pub returns-in_ok-whole-in-Body-clause-serves : goal.returns-in_ok-whole-in-Body-clause-serves
returns-in_ok-whole-in-Body-clause-serves c = serves_grown (entries_of c.args.version.now) c.args.self.now c.intern-in-Body.new.self c.in_ok-whole-in-Body.ensures.keeps c.requires.serves

pub returns-in_err-whole-in-Body-clause-serves : goal.returns-in_err-whole-in-Body-clause-serves
returns-in_err-whole-in-Body-clause-serves c = serves_grown (entries_of c.args.version.now) c.args.self.now c.intern-in-Body.new.self c.in_err-whole-in-Body.ensures.keeps c.requires.serves

pub returns-in_ok-whole-in-Annotated-clause-serves : goal.returns-in_ok-whole-in-Annotated-clause-serves
returns-in_ok-whole-in-Annotated-clause-serves c = serves_grown (entries_of c.args.version.now) c.args.self.now c.intern-in-Annotated.new.self c.in_ok-whole-in-Annotated.ensures.keeps c.requires.serves

pub returns-in_err-whole-in-Annotated-clause-serves : goal.returns-in_err-whole-in-Annotated-clause-serves
returns-in_err-whole-in-Annotated-clause-serves c = serves_grown (entries_of c.args.version.now) c.args.self.now c.intern-in-Annotated.new.self c.in_err-whole-in-Annotated.ensures.keeps c.requires.serves

pub returns-in_ok-whole-in-Codomain-clause-serves : goal.returns-in_ok-whole-in-Codomain-clause-serves
returns-in_ok-whole-in-Codomain-clause-serves c = serves_grown (entries_of c.args.version.now) c.args.self.now c.intern-in-Codomain.new.self c.in_ok-whole-in-Codomain.ensures.keeps c.requires.serves

pub returns-in_err-whole-in-Codomain-clause-serves : goal.returns-in_err-whole-in-Codomain-clause-serves
returns-in_err-whole-in-Codomain-clause-serves c = serves_grown (entries_of c.args.version.now) c.args.self.now c.intern-in-Codomain.new.self c.in_err-whole-in-Codomain.ensures.keeps c.requires.serves

pub intern-requires : goal.intern-requires
intern-requires c =
    let i = subst (IsFrame (length c.args.self.now.pool)) c.in-Function.is (frame_popped (length c.args.self.now.pool) c.args.frames.now.items c.args.frame c.requires.way.frames) in (i, c.requires.value)

pub intern-requires-in-Annotated : goal.intern-requires-in-Annotated
intern-requires-in-Annotated c =
    let i = subst (IsFrame (length c.args.self.now.pool)) c.in-Annotated.is (frame_popped (length c.args.self.now.pool) c.args.frames.now.items c.args.frame c.requires.way.frames) in (i, c.requires.value)

pub intern-requires-in-Codomain : goal.intern-requires-in-Codomain
intern-requires-in-Codomain c =
    let i = subst (IsFrame (length c.args.self.now.pool)) c.in-Codomain.is (frame_popped (length c.args.self.now.pool) c.args.frames.now.items c.args.frame c.requires.way.frames) in (i, c.requires.value)
