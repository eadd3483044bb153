-- Each step, from the state of the reducer before it to that at the start.
use Rattle.std.proofs.Common.{rules, ◌≡◌, ◌∙◌, ◌∷◌, ◌++◌, ◌+◌, [], arith, true, false, sym as flip, ap, refl, subst as along_path, map}
use Rattle.dk_model.specs.Trees.{bare, annotated}
use Rattle.dk_model.specs.Erasure.{erased}
use Rattle.dk_model.specs.Substitution.{substitute}
use Rattle.dk_model.specs.Typing.{answer, is_abstraction, inferred, checked, as_product, as_convertible}
use Rattle.dk_model.specs.declared.code.Code.TheVariants.{E20, E21, E24}
use Rattle.signature_log.specs.Versions.{entries_of}
use Rattle.signature_log.specs.Reducers.{built, AreOwned}
use Rattle.signature_log.proofs.Keeping.{keeps_further, keeps_none}
use Rattle.infer_check.specs.Contexts.{rule_types, bound_types}
use Rattle.infer_check.specs.Spine.{along, size, total_size, wound}
use Rattle.dk_model.proofs.Winding.{total_pushed}
use Rattle.infer_check.proofs.Contexts.{owned_front, owned_kept, owned_last, types_kept}
use Rattle.infer_check.proofs.Spines.{arguments_smaller, map_pushed}
use Rattle.infer_check.proofs.Moving.{same_size, context_moved, rule_types_moved, bound_types_moved, context_under, rule_types_under, bound_types_under, checked_same, inferred_same, same_same, opened_bare, owned_bare, opened_annotated, owned_annotated, not_abstraction, last_smaller}
use Rattle.split_check.specs.declared.laying.Laying.{Laying}
use Rattle.split_check.specs.Laying.{GoesOn, IsOver, LaysFit, domain_agrees}
use Rattle.split_check.proofs.Joining.{type_none, type_some, product_none, product_some, fit_false, fit_true, fit_alike, if_ok, over_alike, goes_alike}
use Rattle.split_check.proofs.Walking.{spine_headless, spine_begun, no_function, no_fit, one_more, bare_fits, annotated_disagrees, annotated_fits, other_over, other_fits, abstraction_over, fit_told}
use Rattle.split_check.proofs.typing.+laying.Goals as goal

-- the body of an abstraction

pub lay_body-lay_check-goes-requires : goal.lay_body-lay_check-goes-requires
lay_body-lay_check-goes-requires g t c κs within =
    let r = c.args.r.now in
    let x = c.args.laying.now.walk.context in
    let h = context_under {owns = g.R.Reducer.owns} {denotes = g.R.Reducer.denotes} r r (keeps_none r) x c.bind.new.self c.requires.ready.context c.args.function.domain c.in_ok-bind.ensures.ok c.requires.domain in
    search rules

pub lay_body-returns-clause-lays : goal.lay_body-returns-clause-lays
lay_body-returns-clause-lays g t c =
    let S = entries_of c.args.version.now in
    let D = g.R.Reducer.denotes in
    let r = c.args.r.now in
    let l0 = c.args.laying.now in
    let x = l0.walk.context in
    let V = rule_types D r x in
    let G = bound_types D r x in
    let A = D r c.args.function.domain in
    let B = D r c.args.function.codomain in
    let b = D r c.args.body.term in
    let v = rule_types_under {owns = g.R.Reducer.owns} {denotes = D} r r (keeps_none r) x c.bind.new.self c.requires.ready.context c.args.function.domain c.in_ok-bind.ensures.ok in
    let w = bound_types_under {owns = g.R.Reducer.owns} {denotes = D} r r (keeps_none r) x c.bind.new.self c.requires.ready.context c.args.function.domain c.in_ok-bind.ensures.ok in
    let l1 = c.lay_check-goes.new.laying in
    let begun : Laying g.row.R-T.Denot = record { walk = record { context = c.bind.new.self; left = l0.walk.left }; steps = l0.steps; whole = l0.whole; nodes = l0.nodes; apart = l0.apart } in
    let ended : Laying g.row.R-T.Denot = record { walk = record { context = c.leave-domain.new.self; left = l1.walk.left }; steps = l1.steps; whole = l1.whole; nodes = l1.nodes; apart = l1.apart } in
    if_ok (LaysFit S (checked S (rule_types D r c.bind.new.self) (bound_types D r c.bind.new.self) b B) begun l1) (LaysFit S (checked S V (A ∷ G) b B) l0 ended) c.lay_check-goes.result
    (λ q h. fit_told S (checked S V (A ∷ G) b B) l0 ended begun l1 q refl refl refl
    (fit_alike S (checked S (rule_types D r c.bind.new.self) (bound_types D r c.bind.new.self) b B) (checked S V (A ∷ G) b B) begun l1 q (λ n. checked_same S {t = b} {A = B} n (flip v) (flip w) refl refl) h))
    c.lay_check-goes.ensures.lays

-- an abstraction

pub lay_check-returns-in_default-2-clause-lays : goal.lay_check-returns-in_default-2-clause-lays
lay_check-returns-in_default-2-clause-lays g t c =
    let S = entries_of c.args.version.now in
    let D = g.R.Reducer.denotes in
    let r = c.args.r.now in
    let l0 = c.args.laying.now in
    let x = l0.walk.context in
    let V = rule_types D r x in
    let G = bound_types D r x in
    let t = D r c.args.sized.term in
    let F = D r c.args.expected in
    let o = c.open.new.self in
    let ko = c.in_ok-other.ensures.keeps in
    let node = c.in_ok-other.ensures.node in
    let F1 = D o c.args.expected in
    let fe : F1 ≡ F = ko.same c.args.expected c.requires.expected in
    let l1 = c.lay_product.new.laying in
    let q = product_none g.R.Reducer.owns D S l0 l1 c.lay_product.new.r (as_product S E24 F1) c.in_ok-function-in-Abs.field-0 c.in_default-2.not-Some c.in_ok-function-in-Abs.ensures.lays in
    abstraction_over D o c.in-Abs.annotation c.in-Abs.body S V G t F l0 l1 (node.0 ∙ ap (built D o) c.in-Abs.is) (along_path (λ f. IsOver S (as_product S E24 f) l0 l1) fe q)

pub lay_check-returns-in-None-clause-lays : goal.lay_check-returns-in-None-clause-lays
lay_check-returns-in-None-clause-lays g t c =
    let S = entries_of c.args.version.now in
    let D = g.R.Reducer.denotes in
    let r = c.args.r.now in
    let l0 = c.args.laying.now in
    let x = l0.walk.context in
    let V = rule_types D r x in
    let G = bound_types D r x in
    let t = D r c.args.sized.term in
    let F = D r c.args.expected in
    let o = c.open.new.self in
    let ko = c.in_ok-other.ensures.keeps in
    let node = c.in_ok-other.ensures.node in
    let F1 = D o c.args.expected in
    let fe : F1 ≡ F = ko.same c.args.expected c.requires.expected in
    let r2 = c.lay_product.new.r in
    let l1 = c.lay_product.new.laying in
    let lp = c.in_ok-function-in-Abs.ensures in
    let fn = c.in-Some.function in
    let p = product_some g.R.Reducer.owns D S l0 l1 r2 (as_product S E24 F1) c.in_ok-function-in-Abs.field-0 fn c.in-Some.is lp.lays in
    let k2 = keeps_further r o r2 ko lp.follows.keeps in
    let A = D r2 fn.domain in
    let B = D r2 fn.codomain in
    let p1 = along_path (λ f. GoesOn S (as_product S E24 f) (answer (A, B)) l0 l1) fe p.0 in
    let l2 = c.lay_body.new.laying in
    let b = D r2 c.in-Abs.body in
    let ob = owned_bare g.R.Reducer.owns D o c.in_ok-other.other c.in-Abs.annotation c.in-Abs.body c.in-Abs.is c.in-None.is node.1 in
    let te : t ≡ bare b = opened_bare g.R.Reducer.owns D o c.in_ok-other.other c.in-Abs.annotation c.in-Abs.body t c.in-Abs.is c.in-None.is node.0 ∙ ap bare (flip (lp.follows.keeps.same c.in-Abs.body ob)) in
    let v = rule_types_moved r r2 k2 x l1.walk.context c.requires.ready.context lp.stays.context in
    let w = bound_types_moved r r2 k2 x l1.walk.context c.requires.ready.context lp.stays.context in
    if_ok (LaysFit S (checked S (rule_types D r2 l1.walk.context) (A ∷ bound_types D r2 l1.walk.context) b B) l1 l2) (LaysFit S (checked S V G t F) l0 l2) c.lay_body.result
    (λ q h. fit_alike S (checked S V G (bare b) F) (checked S V G t F) l0 l2 q (λ n. checked_same S {V = V} {G = G} {A = F} n refl refl te refl)
    (bare_fits S V G b F A B l0 l1 l2 l2 lp.stays.whole p1 q
    (fit_alike S (checked S (rule_types D r2 l1.walk.context) (A ∷ bound_types D r2 l1.walk.context) b B) (checked S V (A ∷ G) b B) l1 l2 q (λ n. checked_same S {t = b} {A = B} n (flip v) (ap (λ H. A ∷ H) (flip w)) refl refl) h)))
    c.lay_body.ensures.lays

pub lay_check-returns-else-branch-clause-lays : goal.lay_check-returns-else-branch-clause-lays
lay_check-returns-else-branch-clause-lays g t c =
    let S = entries_of c.args.version.now in
    let D = g.R.Reducer.denotes in
    let r = c.args.r.now in
    let l0 = c.args.laying.now in
    let x = l0.walk.context in
    let V = rule_types D r x in
    let G = bound_types D r x in
    let t = D r c.args.sized.term in
    let F = D r c.args.expected in
    let o = c.open.new.self in
    let ko = c.in_ok-other.ensures.keeps in
    let node = c.in_ok-other.ensures.node in
    let F1 = D o c.args.expected in
    let fe : F1 ≡ F = ko.same c.args.expected c.requires.expected in
    let r2 = c.lay_product.new.r in
    let l1 = c.lay_product.new.laying in
    let lp = c.in_ok-function-in-Abs.ensures in
    let fn = c.in-Some.function in
    let p = product_some g.R.Reducer.owns D S l0 l1 r2 (as_product S E24 F1) c.in_ok-function-in-Abs.field-0 fn c.in-Some.is lp.lays in
    let k2 = keeps_further r o r2 ko lp.follows.keeps in
    let A = D r2 fn.domain in
    let B = D r2 fn.codomain in
    let p1 = along_path (λ f. GoesOn S (as_product S E24 f) (answer (A, B)) l0 l1) fe p.0 in
    let l2 = c.lay_domain.new.laying in
    let ld = c.in_ok-lay_domain-in-Some-annotation.ensures in
    let d1 = c.in-Some-annotation.domain in
    let od = owned_annotated g.R.Reducer.owns D o c.in_ok-other.other c.in-Abs.annotation c.in-Abs.body d1 c.in-Abs.is c.in-Some-annotation.is node.1 in
    let d = D r2 d1 in
    let b = D r2 c.in-Abs.body in
    let te : t ≡ annotated d b = opened_annotated g.R.Reducer.owns D o c.in_ok-other.other c.in-Abs.annotation c.in-Abs.body d1 t c.in-Abs.is c.in-Some-annotation.is node.0
    ∙ (λ i. annotated (flip (lp.follows.keeps.same d1 od.0) i) (flip (lp.follows.keeps.same c.in-Abs.body od.1) i)) in
    let v = rule_types_moved r r2 k2 x l1.walk.context c.requires.ready.context lp.stays.context in
    let w = bound_types_moved r r2 k2 x l1.walk.context c.requires.ready.context lp.stays.context in
    let e : c.in_ok-lay_domain-in-Some-annotation.field-0 ≡ false = search rules in
    let q = fit_false S (domain_agrees S (rule_types D r2 l1.walk.context) (bound_types D r2 l1.walk.context) d A) l1 l2 c.in_ok-lay_domain-in-Some-annotation.field-0 e ld.lays in
    let q1 = along_path (λ W. IsOver S (domain_agrees S W G d A) l1 l2) v (along_path (λ H. IsOver S (domain_agrees S (rule_types D r2 l1.walk.context) H d A) l1 l2) w q) in
    over_alike S (checked S V G (annotated d b) F) (checked S V G t F) l0 l2 (λ n. checked_same S {V = V} {G = G} {A = F} n refl refl te refl) (annotated_disagrees S V G b F A B l0 l1 l2 l2 lp.stays.whole d p1 q1)

pub lay_check-returns-then-branch-clause-lays : goal.lay_check-returns-then-branch-clause-lays
lay_check-returns-then-branch-clause-lays g t c =
    let S = entries_of c.args.version.now in
    let D = g.R.Reducer.denotes in
    let r = c.args.r.now in
    let l0 = c.args.laying.now in
    let x = l0.walk.context in
    let V = rule_types D r x in
    let G = bound_types D r x in
    let t = D r c.args.sized.term in
    let F = D r c.args.expected in
    let o = c.open.new.self in
    let ko = c.in_ok-other.ensures.keeps in
    let node = c.in_ok-other.ensures.node in
    let F1 = D o c.args.expected in
    let fe : F1 ≡ F = ko.same c.args.expected c.requires.expected in
    let r2 = c.lay_product.new.r in
    let l1 = c.lay_product.new.laying in
    let lp = c.in_ok-function-in-Abs.ensures in
    let fn = c.in-Some.function in
    let p = product_some g.R.Reducer.owns D S l0 l1 r2 (as_product S E24 F1) c.in_ok-function-in-Abs.field-0 fn c.in-Some.is lp.lays in
    let k2 = keeps_further r o r2 ko lp.follows.keeps in
    let A = D r2 fn.domain in
    let B = D r2 fn.codomain in
    let p1 = along_path (λ f. GoesOn S (as_product S E24 f) (answer (A, B)) l0 l1) fe p.0 in
    let l2 = c.lay_domain.new.laying in
    let r3 = c.lay_domain.new.r in
    let l3 = c.lay_body-then-branch.new.laying in
    let ld = c.in_ok-lay_domain-in-Some-annotation.ensures in
    let k3 = keeps_further o r2 r3 lp.follows.keeps ld.follows.keeps in
    let kr = keeps_further r r2 r3 k2 ld.follows.keeps in
    let d1 = c.in-Some-annotation.domain in
    let od = owned_annotated g.R.Reducer.owns D o c.in_ok-other.other c.in-Abs.annotation c.in-Abs.body d1 c.in-Abs.is c.in-Some-annotation.is node.1 in
    let d = D r2 d1 in
    let b = D r3 c.in-Abs.body in
    let te : t ≡ annotated d b = opened_annotated g.R.Reducer.owns D o c.in_ok-other.other c.in-Abs.annotation c.in-Abs.body d1 t c.in-Abs.is c.in-Some-annotation.is node.0
    ∙ (λ i. annotated (flip (lp.follows.keeps.same d1 od.0) i) (flip (k3.same c.in-Abs.body od.1) i)) in
    let v = rule_types_moved r r2 k2 x l1.walk.context c.requires.ready.context lp.stays.context in
    let w = bound_types_moved r r2 k2 x l1.walk.context c.requires.ready.context lp.stays.context in
    let e : c.in_ok-lay_domain-in-Some-annotation.field-0 ≡ true = search rules in
    let q = fit_true S (domain_agrees S (rule_types D r2 l1.walk.context) (bound_types D r2 l1.walk.context) d A) l1 l2 c.in_ok-lay_domain-in-Some-annotation.field-0 e ld.lays in
    let q1 = along_path (λ W. GoesOn S (domain_agrees S W G d A) (answer tt) l1 l2) v (along_path (λ H. GoesOn S (domain_agrees S (rule_types D r2 l1.walk.context) H d A) (answer tt) l1 l2) w q) in
    let v3 = rule_types_moved r r3 kr x l2.walk.context c.requires.ready.context (ld.stays.context ∙ lp.stays.context) in
    let w3 = bound_types_moved r r3 kr x l2.walk.context c.requires.ready.context (ld.stays.context ∙ lp.stays.context) in
    let a3 : D r3 fn.domain ≡ A = ld.follows.keeps.same fn.domain p.1 in
    let b3 : D r3 fn.codomain ≡ B = ld.follows.keeps.same fn.codomain p.2 in
    if_ok (LaysFit S (checked S (rule_types D r3 l2.walk.context) (D r3 fn.domain ∷ bound_types D r3 l2.walk.context) b (D r3 fn.codomain)) l2 l3) (LaysFit S (checked S V G t F) l0 l3) c.lay_body-then-branch.result
    (λ s h. fit_alike S (checked S V G (annotated d b) F) (checked S V G t F) l0 l3 s (λ n. checked_same S {V = V} {G = G} {A = F} n refl refl te refl)
    (annotated_fits S V G b F A B l0 l1 l2 l3 lp.stays.whole d p1 ld.stays.whole q1 s
    (fit_alike S (checked S (rule_types D r3 l2.walk.context) (D r3 fn.domain ∷ bound_types D r3 l2.walk.context) b (D r3 fn.codomain)) (checked S V (A ∷ G) b B) l2 l3 s
    (λ n. checked_same S {t = b} n (flip v3) (λ i. flip a3 i ∷ flip w3 i) refl (flip b3)) h)))
    c.lay_body-then-branch.ensures.lays

-- any other term

pub lay_check-returns-in_default-3 : goal.lay_check-returns-in_default-3
lay_check-returns-in_default-3 g t c =
    let S = entries_of c.args.version.now in
    let D = g.R.Reducer.denotes in
    let r = c.args.r.now in
    let l0 = c.args.laying.now in
    let x = l0.walk.context in
    let V = rule_types D r x in
    let G = bound_types D r x in
    let t = D r c.args.sized.term in
    let F = D r c.args.expected in
    let o = c.open.new.self in
    let ko = c.in_ok-other.ensures.keeps in
    let node = c.in_ok-other.ensures.node in
    let F1 = D o c.args.expected in
    let fe : F1 ≡ F = ko.same c.args.expected c.requires.expected in
    let none = ap is_abstraction node.0 ∙ not_abstraction D o c.in_ok-other.other c.in_default.not-Abs in
    let l1 = c.lay_infer.new.laying in
    let r2 = c.lay_infer.new.r in
    let li = c.in_ok-found-in_default.ensures in
    let Vo = rule_types D o x in
    let Go = bound_types D o x in
    let u = built D o c.in_ok-other.other in
    let v = rule_types_moved r o ko x x c.requires.ready.context refl in
    let w = bound_types_moved r o ko x x c.requires.ready.context refl in
    let q = type_none g.R.Reducer.owns D S l0 l1 r2 (inferred S Vo Go u) c.in_ok-found-in_default.field-0 c.in_default-3.not-Some li.lays in
    record {
      lays = other_over S V G t F none l0 l1 l1 (over_alike S (inferred S Vo Go u) (inferred S V G t) l0 l1 (λ n. inferred_same S n (flip v) (flip w) node.0) q);
      stays = li.stays;
      follows = record { keeps = keeps_further r o r2 ko li.follows.keeps; serving = li.follows.serving };
    }

pub lay_check-returns-in-Some-2 : goal.lay_check-returns-in-Some-2
lay_check-returns-in-Some-2 g t c =
    let S = entries_of c.args.version.now in
    let D = g.R.Reducer.denotes in
    let r = c.args.r.now in
    let l0 = c.args.laying.now in
    let x = l0.walk.context in
    let V = rule_types D r x in
    let G = bound_types D r x in
    let t = D r c.args.sized.term in
    let F = D r c.args.expected in
    let o = c.open.new.self in
    let ko = c.in_ok-other.ensures.keeps in
    let node = c.in_ok-other.ensures.node in
    let F1 = D o c.args.expected in
    let fe : F1 ≡ F = ko.same c.args.expected c.requires.expected in
    let none = ap is_abstraction node.0 ∙ not_abstraction D o c.in_ok-other.other c.in_default.not-Abs in
    let l1 = c.lay_infer.new.laying in
    let r2 = c.lay_infer.new.r in
    let l2 = c.lay_same.new.laying in
    let li = c.in_ok-found-in_default.ensures in
    let Vo = rule_types D o x in
    let Go = bound_types D o x in
    let u = built D o c.in_ok-other.other in
    let v = rule_types_moved r o ko x x c.requires.ready.context refl in
    let w = bound_types_moved r o ko x x c.requires.ready.context refl in
    let k2 = keeps_further r o r2 ko li.follows.keeps in
    let U = D r2 c.in-Some-2.found in
    let q = type_some g.R.Reducer.owns D S l0 l1 r2 (inferred S Vo Go u) c.in_ok-found-in_default.field-0 c.in-Some-2.found c.in-Some-2.is li.lays in
    let q1 = goes_alike S (inferred S Vo Go u) (inferred S V G t) (answer U) (answer U) l0 l1 (λ n. inferred_same S n (flip v) (flip w) node.0) (λ n. refl) q.0 in
    let fe2 : D r2 c.args.expected ≡ F = k2.same c.args.expected c.requires.expected in
    record {
      lays = if_ok (LaysFit S (as_convertible S E21 U (D r2 c.args.expected)) l1 l2) (LaysFit S (checked S V G t F) l0 l2) c.lay_same.result
          (λ s h. other_fits S V G t F none l0 l1 l2 U q1 li.stays.whole s
          (fit_alike S (as_convertible S E21 U (D r2 c.args.expected)) (as_convertible S E21 U F) l1 l2 s (λ n. same_same S {A = U} n refl (flip fe2)) h))
          c.lay_same.ensures.lays;
      stays = record { context = c.lay_same.ensures.stays.context ∙ li.stays.context; whole = c.lay_same.ensures.stays.whole ∙ li.stays.whole };
      follows = record { keeps = keeps_further r r2 c.lay_same.new.r k2 c.lay_same.ensures.follows.keeps; serving = c.lay_same.ensures.follows.serving };
    }

-- the arguments of an application

pub lay_infer-returns-in_default-clause-lays : goal.lay_infer-returns-in_default-clause-lays
lay_infer-returns-in_default-clause-lays g t c =
    let S = entries_of c.args.version.now in
    let D = g.R.Reducer.denotes in
    let W = g.R.Reducer.owns in
    let r = c.args.r.now in
    let l0 = c.args.laying.now in
    let x = l0.walk.context in
    let V = rule_types D r x in
    let G = bound_types D r x in
    let t0 = built D r c.args.node in
    let u = c.unwind.new.r in
    let z = c.sizes.new.r in
    let ty = c.lay_type.new.r in
    let l1 = c.lay_type.new.laying in
    let hd = c.in_ok-head.field-0.head in
    let items = c.in_ok-head.field-0.arguments.items in
    let iu = c.in_ok-head.ensures in
    let kz = c.in_ok-sizes.ensures.keeps in
    let lt = c.in_ok-typ.ensures in
    let krz = keeps_further r u z iu.keeps kz in
    let kut = keeps_further u z ty kz lt.follows.keeps in
    let Vz = rule_types D z x in
    let Gz = bound_types D z x in
    let hz = D z hd in
    let v = rule_types_moved r z krz x x c.requires.ready.context refl in
    let w = bound_types_moved r z krz x x c.requires.ready.context refl in
    let e : wound hz (map (D u) items) ≡ t0 = (λ i. wound (kz.same hd iu.head i) (map (D u) items)) ∙ iu.term in
    let q = type_none W D S l0 l1 ty (inferred S Vz Gz hz) c.in_ok-typ.field-0 c.in_default.not-Some lt.lays in
    spine_headless S V G l0 l1 hz t0 (map (D u) items) e (over_alike S (inferred S Vz Gz hz) (inferred S V G hz) l0 l1 (λ n. inferred_same S {t = hz} n (flip v) (flip w) refl) q)

pub lay_infer-loop-argument-init : goal.lay_infer-loop-argument-init
lay_infer-loop-argument-init g t c =
    let S = entries_of c.args.version.now in
    let D = g.R.Reducer.denotes in
    let W = g.R.Reducer.owns in
    let r = c.args.r.now in
    let l0 = c.args.laying.now in
    let x = l0.walk.context in
    let V = rule_types D r x in
    let G = bound_types D r x in
    let t0 = built D r c.args.node in
    let u = c.unwind.new.r in
    let z = c.sizes.new.r in
    let ty = c.lay_type.new.r in
    let l1 = c.lay_type.new.laying in
    let hd = c.in_ok-head.field-0.head in
    let items = c.in_ok-head.field-0.arguments.items in
    let iu = c.in_ok-head.ensures in
    let kz = c.in_ok-sizes.ensures.keeps in
    let lt = c.in_ok-typ.ensures in
    let krz = keeps_further r u z iu.keeps kz in
    let kut = keeps_further u z ty kz lt.follows.keeps in
    let Vz = rule_types D z x in
    let Gz = bound_types D z x in
    let hz = D z hd in
    let v = rule_types_moved r z krz x x c.requires.ready.context refl in
    let w = bound_types_moved r z krz x x c.requires.ready.context refl in
    let e : wound hz (map (D ty) items) ≡ t0 = (λ i. wound (kz.same hd iu.head i) (types_kept u ty items kut iu.arguments i)) ∙ iu.term in
    let p = type_some W D S l0 l1 ty (inferred S Vz Gz hz) c.in_ok-typ.field-0 c.in-Some.typ c.in-Some.is lt.lays in
    let U = D ty c.in-Some.typ in
    record {
      goes = spine_begun S V G l0 l1 hz t0 U (map (D ty) items) e (goes_alike S (inferred S Vz Gz hz) (inferred S V G hz) (answer U) (answer U) l0 l1 (λ n. inferred_same S {t = hz} n (flip v) (flip w) refl) (λ n. refl) p.0);
      typ = p.1;
      arguments = owned_kept u ty items kut iu.arguments;
      follows = record { keeps = keeps_further r z ty krz lt.follows.keeps; serving = lt.follows.serving };
      stays = lt.stays;
      smaller = arguments_smaller hz t0 (map (D ty) items) e;
    }

pub lay_infer-returns-in_default-2-clause-lays : goal.lay_infer-returns-in_default-2-clause-lays
lay_infer-returns-in_default-2-clause-lays g t c =
    let S = entries_of c.args.version.now in
    let D = g.R.Reducer.denotes in
    let W = g.R.Reducer.owns in
    let r = c.args.r.now in
    let l0 = c.args.laying.now in
    let x = l0.walk.context in
    let V = rule_types D r x in
    let G = bound_types D r x in
    let t0 = built D r c.args.node in
    let L = c.loop-argument.invariant in
    let at = c.loop-argument.r in
    let lk = c.loop-argument.laying in
    let F = D at c.loop-argument.typ in
    let a = c.in-Some-pop.argument in
    let rest = c.pop.new.self.items in
    let ei = c.in-Some-pop.ensures.items in
    let zs = map (D at) c.loop-argument.arguments.items in
    let xs = map (D at) rest in
    let ez : zs ≡ xs ++ D at a ∷ [] = ap (map (D at)) ei ∙ map_pushed (D at) rest a in
    let oa = owned_last W at rest a (along_path (AreOwned W at) ei L.arguments) in
    let r2 = c.lay_product.new.r in
    let l2 = c.lay_product.new.laying in
    let lp = c.in_ok-function.ensures in
    no_function S V G t0 zs xs (D at a) F l0 lk l2 l2 ez L.stays.whole L.goes
    (product_none W D S lk l2 r2 (as_product S E20 F) c.in_ok-function.field-0 c.in_default-2.not-Some lp.lays)

pub lay_infer-put_argument-requires-clause-argument : goal.lay_infer-put_argument-requires-clause-argument
lay_infer-put_argument-requires-clause-argument g t c =
    let S = entries_of c.args.version.now in
    let D = g.R.Reducer.denotes in
    let W = g.R.Reducer.owns in
    let r = c.args.r.now in
    let l0 = c.args.laying.now in
    let x = l0.walk.context in
    let V = rule_types D r x in
    let G = bound_types D r x in
    let t0 = built D r c.args.node in
    let L = c.loop-argument.invariant in
    let at = c.loop-argument.r in
    let lk = c.loop-argument.laying in
    let F = D at c.loop-argument.typ in
    let a = c.in-Some-pop.argument in
    let rest = c.pop.new.self.items in
    let ei = c.in-Some-pop.ensures.items in
    let zs = map (D at) c.loop-argument.arguments.items in
    let xs = map (D at) rest in
    let ez : zs ≡ xs ++ D at a ∷ [] = ap (map (D at)) ei ∙ map_pushed (D at) rest a in
    let oa = owned_last W at rest a (along_path (AreOwned W at) ei L.arguments) in
    let r2 = c.lay_product.new.r in
    let l2 = c.lay_product.new.laying in
    let lp = c.in_ok-function.ensures in
    lp.follows.keeps.own a oa

pub lay_infer-returns-in_err-typ-2-clause-follows : goal.lay_infer-returns-in_err-typ-2-clause-follows
lay_infer-returns-in_err-typ-2-clause-follows g t c =
    let S = entries_of c.args.version.now in
    let D = g.R.Reducer.denotes in
    let W = g.R.Reducer.owns in
    let r = c.args.r.now in
    let l0 = c.args.laying.now in
    let x = l0.walk.context in
    let V = rule_types D r x in
    let G = bound_types D r x in
    let t0 = built D r c.args.node in
    let L = c.loop-argument.invariant in
    let at = c.loop-argument.r in
    let lk = c.loop-argument.laying in
    let F = D at c.loop-argument.typ in
    let a = c.in-Some-pop.argument in
    let rest = c.pop.new.self.items in
    let ei = c.in-Some-pop.ensures.items in
    let zs = map (D at) c.loop-argument.arguments.items in
    let xs = map (D at) rest in
    let ez : zs ≡ xs ++ D at a ∷ [] = ap (map (D at)) ei ∙ map_pushed (D at) rest a in
    let oa = owned_last W at rest a (along_path (AreOwned W at) ei L.arguments) in
    let r2 = c.lay_product.new.r in
    let l2 = c.lay_product.new.laying in
    let lp = c.in_ok-function.ensures in
    let S = entries_of c.args.version.now in
    record {
      keeps = keeps_further r at c.put_argument.new.r L.follows.keeps (keeps_further at r2 c.put_argument.new.r lp.follows.keeps c.in_err-typ-2.ensures.keeps);
      serving = c.in_err-typ-2.ensures.serves S lp.follows.serving;
    }

pub lay_infer-lay_argument-requires : goal.lay_infer-lay_argument-requires
lay_infer-lay_argument-requires g t c κs within =
    let S = entries_of c.args.version.now in
    let D = g.R.Reducer.denotes in
    let W = g.R.Reducer.owns in
    let r = c.args.r.now in
    let l0 = c.args.laying.now in
    let x = l0.walk.context in
    let V = rule_types D r x in
    let G = bound_types D r x in
    let t0 = built D r c.args.node in
    let L = c.loop-argument.invariant in
    let at = c.loop-argument.r in
    let lk = c.loop-argument.laying in
    let F = D at c.loop-argument.typ in
    let a = c.in-Some-pop.argument in
    let rest = c.pop.new.self.items in
    let ei = c.in-Some-pop.ensures.items in
    let zs = map (D at) c.loop-argument.arguments.items in
    let xs = map (D at) rest in
    let ez : zs ≡ xs ++ D at a ∷ [] = ap (map (D at)) ei ∙ map_pushed (D at) rest a in
    let oa = owned_last W at rest a (along_path (AreOwned W at) ei L.arguments) in
    let r2 = c.lay_product.new.r in
    let l2 = c.lay_product.new.laying in
    let lp = c.in_ok-function.ensures in
    let r3 = c.put_argument.new.r in
    let fn = c.in-Some-2.function in
    let A = D r2 fn.domain in
    let B = D r2 fn.codomain in
    let p = product_some W D S lk l2 r2 (as_product S E20 F) c.in_ok-function.field-0 fn c.in-Some-2.is lp.lays in
    let ia = c.in_ok-typ-2.ensures in
    let k2 = lp.follows.keeps in
    let k3 = keeps_further at r2 r3 k2 ia.keeps in
    let kr2 = keeps_further r at r2 L.follows.keeps k2 in
    let kr3 = keeps_further r at r3 L.follows.keeps k3 in
    let stayed = lp.stays.context ∙ L.stays.context in
    let s = last_smaller D at c.loop-argument.arguments.items rest a (size t0) ei L.smaller in
    let e = same_size at r3 k3 a oa in
    let o = k3.own a oa in
    let od = ia.keeps.own fn.domain p.1 in
    let h = context_moved r r3 kr3 x l2.walk.context c.requires.ready.context stayed in
    let sv = ia.serves S lp.follows.serving in
    search rules

pub lay_infer-returns-then-not-branch-clause-lays : goal.lay_infer-returns-then-not-branch-clause-lays
lay_infer-returns-then-not-branch-clause-lays g t c =
    let S = entries_of c.args.version.now in
    let D = g.R.Reducer.denotes in
    let W = g.R.Reducer.owns in
    let r = c.args.r.now in
    let l0 = c.args.laying.now in
    let x = l0.walk.context in
    let V = rule_types D r x in
    let G = bound_types D r x in
    let t0 = built D r c.args.node in
    let L = c.loop-argument.invariant in
    let at = c.loop-argument.r in
    let lk = c.loop-argument.laying in
    let F = D at c.loop-argument.typ in
    let a = c.in-Some-pop.argument in
    let rest = c.pop.new.self.items in
    let ei = c.in-Some-pop.ensures.items in
    let zs = map (D at) c.loop-argument.arguments.items in
    let xs = map (D at) rest in
    let ez : zs ≡ xs ++ D at a ∷ [] = ap (map (D at)) ei ∙ map_pushed (D at) rest a in
    let oa = owned_last W at rest a (along_path (AreOwned W at) ei L.arguments) in
    let r2 = c.lay_product.new.r in
    let l2 = c.lay_product.new.laying in
    let lp = c.in_ok-function.ensures in
    let r3 = c.put_argument.new.r in
    let fn = c.in-Some-2.function in
    let A = D r2 fn.domain in
    let B = D r2 fn.codomain in
    let p = product_some W D S lk l2 r2 (as_product S E20 F) c.in_ok-function.field-0 fn c.in-Some-2.is lp.lays in
    let ia = c.in_ok-typ-2.ensures in
    let k2 = lp.follows.keeps in
    let k3 = keeps_further at r2 r3 k2 ia.keeps in
    let kr2 = keeps_further r at r2 L.follows.keeps k2 in
    let kr3 = keeps_further r at r3 L.follows.keeps k3 in
    let stayed = lp.stays.context ∙ L.stays.context in
    let l3 = c.lay_argument.new.laying in
    let la = c.in_ok-lay_argument.ensures in
    let V3 = rule_types D r3 l2.walk.context in
    let G3 = bound_types D r3 l2.walk.context in
    let v3 = rule_types_moved r r3 kr3 x l2.walk.context c.requires.ready.context stayed in
    let w3 = bound_types_moved r r3 kr3 x l2.walk.context c.requires.ready.context stayed in
    let ta : D at a ≡ D r3 a = flip (k3.same a oa) in
    let da : A ≡ D r3 fn.domain = flip (ia.keeps.same fn.domain p.1) in
    let e : c.in_ok-lay_argument.field-0 ≡ false = search rules in
    let q = fit_false S (checked S V3 G3 (D r3 a) (D r3 fn.domain)) l2 l3 c.in_ok-lay_argument.field-0 e la.lays in
    no_fit S V G t0 zs xs (D at a) F l0 lk l2 l3 ez L.stays.whole L.goes A B p.0 lp.stays.whole
    (over_alike S (checked S V3 G3 (D r3 a) (D r3 fn.domain)) (checked S V G (D at a) A) l2 l3 (λ n. checked_same S n (flip v3) (flip w3) ta da) q)

pub lay_infer-loop-argument-preserved : goal.lay_infer-loop-argument-preserved
lay_infer-loop-argument-preserved g t c =
    let S = entries_of c.args.version.now in
    let D = g.R.Reducer.denotes in
    let W = g.R.Reducer.owns in
    let r = c.args.r.now in
    let l0 = c.args.laying.now in
    let x = l0.walk.context in
    let V = rule_types D r x in
    let G = bound_types D r x in
    let t0 = built D r c.args.node in
    let L = c.loop-argument.invariant in
    let at = c.loop-argument.r in
    let lk = c.loop-argument.laying in
    let F = D at c.loop-argument.typ in
    let a = c.in-Some-pop.argument in
    let rest = c.pop.new.self.items in
    let ei = c.in-Some-pop.ensures.items in
    let zs = map (D at) c.loop-argument.arguments.items in
    let xs = map (D at) rest in
    let ez : zs ≡ xs ++ D at a ∷ [] = ap (map (D at)) ei ∙ map_pushed (D at) rest a in
    let oa = owned_last W at rest a (along_path (AreOwned W at) ei L.arguments) in
    let r2 = c.lay_product.new.r in
    let l2 = c.lay_product.new.laying in
    let lp = c.in_ok-function.ensures in
    let r3 = c.put_argument.new.r in
    let fn = c.in-Some-2.function in
    let A = D r2 fn.domain in
    let B = D r2 fn.codomain in
    let p = product_some W D S lk l2 r2 (as_product S E20 F) c.in_ok-function.field-0 fn c.in-Some-2.is lp.lays in
    let ia = c.in_ok-typ-2.ensures in
    let k2 = lp.follows.keeps in
    let k3 = keeps_further at r2 r3 k2 ia.keeps in
    let kr2 = keeps_further r at r2 L.follows.keeps k2 in
    let kr3 = keeps_further r at r3 L.follows.keeps k3 in
    let stayed = lp.stays.context ∙ L.stays.context in
    let l3 = c.lay_argument.new.laying in
    let la = c.in_ok-lay_argument.ensures in
    let V3 = rule_types D r3 l2.walk.context in
    let G3 = bound_types D r3 l2.walk.context in
    let v3 = rule_types_moved r r3 kr3 x l2.walk.context c.requires.ready.context stayed in
    let w3 = bound_types_moved r r3 kr3 x l2.walk.context c.requires.ready.context stayed in
    let ta : D at a ≡ D r3 a = flip (k3.same a oa) in
    let da : A ≡ D r3 fn.domain = flip (ia.keeps.same fn.domain p.1) in
    let r4 = c.lay_argument.new.r in
    let k4 = keeps_further at r3 r4 k3 la.follows.keeps in
    let e : c.in_ok-lay_argument.field-0 ≡ true = search rules in
    let q = fit_true S (checked S V3 G3 (D r3 a) (D r3 fn.domain)) l2 l3 c.in_ok-lay_argument.field-0 e la.lays in
    let m = one_more S V G t0 zs xs (D at a) F l0 lk l2 l3 ez L.stays.whole L.goes A B p.0 lp.stays.whole
    (goes_alike S (checked S V3 G3 (D r3 a) (D r3 fn.domain)) (checked S V G (D at a) A) (answer tt) (answer tt) l2 l3 (λ n. checked_same S n (flip v3) (flip w3) ta da) (λ n. refl) q) in
    let orest = owned_front W at rest a (along_path (AreOwned W at) ei L.arguments) in
    let xs4 : xs ≡ map (D r4) rest = flip (types_kept at r4 rest k4 orest) in
    let y4 : substitute 0 (erased (D at a)) B ≡ D r4 c.in_ok-typ-2.typ =
    flip (la.follows.keeps.same c.in_ok-typ-2.typ ia.makes.1 ∙ ia.makes.0 ∙ ap (λ y. substitute 0 (erased y) B) (k2.same a oa)) in
    let n1 : total_size zs ≡ total_size xs + size (D at a) = ap total_size ez ∙ total_pushed xs (D at a) in
    let n2 : total_size (map (D r4) rest) ≡ total_size xs = ap total_size (flip xs4) in
    record {
      goes = goes_alike S (inferred S V G t0) (inferred S V G t0) (along S V G xs (substitute 0 (erased (D at a)) B)) (along S V G (map (D r4) rest) (D r4 c.in_ok-typ-2.typ)) l0 l3 (λ n. refl)
          (λ n. λ i. along S V G (xs4 i) (y4 i) n) m;
      typ = la.follows.keeps.own c.in_ok-typ-2.typ ia.makes.1;
      arguments = owned_kept at r4 rest k4 orest;
      follows = record { keeps = keeps_further r at r4 L.follows.keeps k4; serving = la.follows.serving };
      stays = record { context = la.stays.context ∙ stayed; whole = la.stays.whole ∙ lp.stays.whole ∙ L.stays.whole };
      smaller = omega (arith, n1, n2, L.smaller);
    }

pub lay_infer-returns-clause-lays : goal.lay_infer-returns-clause-lays
lay_infer-returns-clause-lays g t c =
    let S = entries_of c.args.version.now in
    let D = g.R.Reducer.denotes in
    let W = g.R.Reducer.owns in
    let r = c.args.r.now in
    let l0 = c.args.laying.now in
    let x = l0.walk.context in
    let V = rule_types D r x in
    let G = bound_types D r x in
    let t0 = built D r c.args.node in
    let L = c.loop-argument.invariant in
    let at = c.loop-argument.r in
    let Y = D at c.loop-argument.typ in
    let e : c.loop-argument.arguments.items ≡ [] = search rules in
    (along_path (λ is. GoesOn S (inferred S V G t0) (along S V G (map (D at) is) Y) l0 c.loop-argument.laying) e L.goes, L.typ)
