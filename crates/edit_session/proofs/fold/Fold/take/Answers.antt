use Rattle.std.proofs.Common.{◌≡◌, ◌+◌, ◌∙◌, ap, length, refl, slice_get, subst, sym}
use Rattle.std.proofs.lemmas.Option.{slice_get_read}
use Rattle.dk_model.specs.declared.code.Fault.TheVariants as fault
use Rattle.dk_parser.specs.RawViews.{written_form}
use Rattle.scope_terms.specs.Names.{reading}
use Rattle.signature_log.specs.Versions.{entries_of}
use Rattle.edit_session.specs.Shaping.{IsNotShaped, IsShapedAs}
use Rattle.edit_session.specs.Turning.{Accepts}
use Rattle.edit_session.specs.declared.slot.Slot.{Slot}
use Rattle.edit_session.proofs.Counting.{get_same}
use Rattle.edit_session.proofs.Taking.{raw_there, taken_full, taken_goes, taken_refused, taken_slots, taken_stops}
use Rattle.edit_session.proofs.fold.Fold.take.Goals as goal

pub returns-then-at-self-clause-turn : goal.returns-then-at-self-clause-turn
returns-then-at-self-clause-turn g c = λ limits start h. taken_full limits start c.args.at c.args.slots.now.items c.args.self.now c.requires.within c.if-at-self.true h

pub returns-in-Err-Refused-clause-turn : goal.returns-in-Err-Refused-clause-turn
returns-in-Err-Refused-clause-turn g c =
    let a = c.in-Err-Refused.is in
    let b = c.in-Err-Refused.field-0-is in
    let d = c.in-Err-Refused.code-is in
    let e : c.in-Err-Refused.field-0 ≡ fault.Refused c.in-Err-Refused.code = cc in
    λ limits start h. taken_refused limits start c.args.at c.args.slots.now.items c.args.self.now c.shape.new.names c.index.result.now
    (slice_get_read c.args.slots.now.items (length c.args.slots.now.items) c.args.at c.index.result.now refl c.requires.within c.index.ensures) c.if-at-self.false h c.in-Err-Refused.code
    (subst (IsNotShaped (reading c.args.self.now.names) (entries_of c.args.self.now.version) (written_form c.index.result.now.raw.form)) e c.in-Err-Refused.ensures.err)

pub returns-in-Ok-accept-clause-turn : goal.returns-in-Ok-accept-clause-turn
returns-in-Ok-accept-clause-turn g c =
    let n = c.in_ok-findings.ensures.ok in
    let is = subst (IsShapedAs (reading c.args.self.now.names) (entries_of c.args.self.now.version) (written_form c.index.result.now.raw.form)) (sym c.deref.ensures) c.in-Ok.ensures.ok in
    let here = slice_get_read c.args.slots.now.items (length c.args.slots.now.items) c.args.at c.index.result.now refl c.requires.within c.index.ensures in
    let r = ap (λ (s : Slot). s.raw) (get_same (slice_get c.args.slots.now.items c.args.at) c.index.result.now n.slot here n.here) in
    let accepts = subst (λ shaped. Accepts c.index-in-Accepted.result.now (c.args.at + 1) shaped c.in_ok-findings.findings c.answered.new.self c.accept.new.self) (c.deref_mut.ensures.value ∙ sym c.deref.ensures) c.in-Ok-accept.ensures.ok in
    λ limits start h. taken_goes limits start c.args.at c.args.slots.now.items c.answered.new.slots.items c.args.self.now c.shape.new.names c.answered.new.self h c.deref.result.now c.in_ok-findings.findings c.index.result.now.raw is c.if-at-self.false n r c.in-Accepted.is (c.args.at + 1) refl c.accept.new.self c.index-in-Accepted.result.now
    (raw_there c.args.slots.now.items c.answered.new.slots.items c.args.at n.slot' c.index-in-Accepted.result.now n.slot.raw c.requires.within n.slots_are c.index-in-Accepted.ensures n.raw) accepts c.in-Ok.ensures.names

pub returns-in-Ok-accept-clause-slots : goal.returns-in-Ok-accept-clause-slots
returns-in-Ok-accept-clause-slots g c =
    let n = c.in_ok-findings.ensures.ok in
    let is = subst (IsShapedAs (reading c.args.self.now.names) (entries_of c.args.self.now.version) (written_form c.index.result.now.raw.form)) (sym c.deref.ensures) c.in-Ok.ensures.ok in
    let here = slice_get_read c.args.slots.now.items (length c.args.slots.now.items) c.args.at c.index.result.now refl c.requires.within c.index.ensures in
    let r = ap (λ (s : Slot). s.raw) (get_same (slice_get c.args.slots.now.items c.args.at) c.index.result.now n.slot here n.here) in
    λ limits start h. taken_slots limits start c.args.at c.args.slots.now.items c.answered.new.slots.items c.args.self.now c.shape.new.names c.answered.new.self h c.deref.result.now c.in_ok-findings.findings c.index.result.now.raw is c.if-at-self.false n r

pub returns-in-Accepted-clause-slots : goal.returns-in-Accepted-clause-slots
returns-in-Accepted-clause-slots g c =
    let n = c.in_ok-findings.ensures.ok in
    let is = subst (IsShapedAs (reading c.args.self.now.names) (entries_of c.args.self.now.version) (written_form c.index.result.now.raw.form)) (sym c.deref.ensures) c.in-Ok.ensures.ok in
    let here = slice_get_read c.args.slots.now.items (length c.args.slots.now.items) c.args.at c.index.result.now refl c.requires.within c.index.ensures in
    let r = ap (λ (s : Slot). s.raw) (get_same (slice_get c.args.slots.now.items c.args.at) c.index.result.now n.slot here n.here) in
    λ limits start h. taken_slots limits start c.args.at c.args.slots.now.items c.answered.new.slots.items c.args.self.now c.shape.new.names c.answered.new.self h c.deref.result.now c.in_ok-findings.findings c.index.result.now.raw is c.if-at-self.false n r

pub returns-clause-turn : goal.returns-clause-turn
returns-clause-turn g c =
    let n = c.in_ok-findings.ensures.ok in
    let is = subst (IsShapedAs (reading c.args.self.now.names) (entries_of c.args.self.now.version) (written_form c.index.result.now.raw.form)) (sym c.deref.ensures) c.in-Ok.ensures.ok in
    let here = slice_get_read c.args.slots.now.items (length c.args.slots.now.items) c.args.at c.index.result.now refl c.requires.within c.index.ensures in
    let r = ap (λ (s : Slot). s.raw) (get_same (slice_get c.args.slots.now.items c.args.at) c.index.result.now n.slot here n.here) in
    λ limits start h. taken_stops limits start c.args.at c.args.slots.now.items c.answered.new.slots.items c.args.self.now c.shape.new.names c.answered.new.self h c.deref.result.now c.in_ok-findings.findings c.index.result.now.raw is c.if-at-self.false n r c.in_ok-findings.findings.verdict refl c.in_default.not-Accepted

pub returns-clause-slots : goal.returns-clause-slots
returns-clause-slots g c =
    let n = c.in_ok-findings.ensures.ok in
    let is = subst (IsShapedAs (reading c.args.self.now.names) (entries_of c.args.self.now.version) (written_form c.index.result.now.raw.form)) (sym c.deref.ensures) c.in-Ok.ensures.ok in
    let here = slice_get_read c.args.slots.now.items (length c.args.slots.now.items) c.args.at c.index.result.now refl c.requires.within c.index.ensures in
    let r = ap (λ (s : Slot). s.raw) (get_same (slice_get c.args.slots.now.items c.args.at) c.index.result.now n.slot here n.here) in
    λ limits start h. taken_slots limits start c.args.at c.args.slots.now.items c.answered.new.slots.items c.args.self.now c.shape.new.names c.answered.new.self h c.deref.result.now c.in_ok-findings.findings c.index.result.now.raw is c.if-at-self.false n r
