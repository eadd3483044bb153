-- A rule that fires on the ends of a term's first arguments.
use Rattle.std.specs.Prelude.{take, drop, map, length, replicate}
use Rattle.std.proofs.Common.{List, [], ◌∷◌, ◌++◌, append-nil, ℕ, zero, suc, ◌≡◌, ◌+◌, ◌-◌, ◌≤◌, ◌≢◌, Some, refl, ap, ◌∙◌, sym as flip, subst as along, arith}
use Rattle.std.proofs.lemmas.List.{length-append, take-append-le, drop-append-le, take-take, take_all, length-take-le}
use Rattle.dk_model.specs.Trees.{Tree, tree, symbol, apply}
use Rattle.dk_model.specs.Signatures.{PlainSignature}
use Rattle.dk_model.specs.Spines.{head, arguments, applied, head_symbol}
use Rattle.dk_model.specs.Matrix.{blank, cell, Column}
use Rattle.typing_model.specs.Steps.{Part, AreInstances, capture, instantiated}
use Rattle.typing_model.proofs.Evaluation.{applied_append, filled_instantiated}
use Rattle.typing_model.proofs.Matrix.{Takes, blanks_take}
use Rattle.checked_steps.specs.Items.{no_steps, more_steps, rule_step}
use Rattle.checked_steps.specs.Taken.{and_then, all_joined, fired, steps_taken}
use Rattle.checked_steps.proofs.Complete.{rule_fired}
use Rattle.certificate_items.specs.declared.item.Step.{Step}
use Rattle.certificate_items.specs.declared.item.Step.TheVariants.{Rule}
use Rattle.certificate_items.specs.declared.item.Join.{Join}
use Rattle.certificate_items.specs.Views.{plain_steps, plain_joins}
use Rattle.certificate_items.proofs.Rows.{rule_is}
use Rattle.told_steps.specs.Told.{Leads}
use Rattle.told_steps.specs.Parts.{LeadsTo, AlwaysLeadsTo, LeadsOn, LeadsTogether}
use Rattle.told_steps.specs.Ends.{column_of, columns_of, AreEnds, Fires}
use Rattle.told_steps.specs.Folding.{form_of, column_at, columns_at, SpineLeads}
use Rattle.told_steps.specs.Firing.{IsRuleStep, FiresOn, FiresBehind}
use Rattle.told_steps.proofs.Steps.{leads_by}
use Rattle.told_steps.proofs.Folding.{InstancesTaken, instances_taken}
use Rattle.told_steps.specs.declared.told.Told.{Told}
use Rattle.told_steps.specs.declared.end.End.{End}
use Rattle.told_steps.specs.declared.firing.TakenRule.{TakenRule}

-- the one step of a rule, as code has it
pub one_step : (number : ℕ) (js : List Join) (steps : List Step) → steps ≡ Rule 0 number js ∷ [] → plain_steps steps ≡ more_steps (rule_step 0 number (plain_joins js)) no_steps
one_step number js steps e = ap plain_steps e ∙ ap (λ x. more_steps x no_steps) (rule_is 0 number js)

head_is : (t : Tree) (k : ℕ) → head_symbol t ≡ Some k → head t ≡ symbol k
head_is (apply f a) k e = head_is f k e
head_is (symbol j) k e = let q : k ≡ j = cc in ap symbol (flip q)
head_is t k e = cc

nothing_left : (n : ℕ) (ts : List Tree) → length ts ≡ n → drop n ts ≡ []
nothing_left zero [] e = refl
nothing_left zero (t ∷ ts) e = absurd (omega arith)
nothing_left (suc n) [] e = refl
nothing_left (suc n) (t ∷ ts) e = nothing_left n ts (omega arith)

-- ---- no argument behind

-- where all arguments are as they ended, the rule fires
pub fires_here : (t : Tree) (taken : TakenRule) (ends : List End) (placed step told : Told) → SpineLeads t ends placed → IsRuleStep taken step → LeadsOn placed step told → tree told.form ≡ tree step.form
    → FiresBehind t 0 taken ends told
fires_here t taken ends placed step told lead rule on w = λ S f.
    let n : length (arguments t) ≡ length f.rule.pats = (let q : length (arguments t) ≡ length f.rule.pats + 0 = f.count in omega arith) in
    let all : take (length f.rule.pats) (arguments t) ≡ arguments t = take_all (length f.rule.pats) (arguments t) (omega arith) in
    let p : LeadsTo S t placed × (tree placed.form ≡ applied (head t) (map form_of ends)) = lead S 0 (along (λ (ts : List Tree). AreEnds S (columns_at 0 ts) ends) all f.leads) in
    let us : List Tree = map form_of ends in
    let spine : tree placed.form ≡ applied (symbol f.head) us = p.1 ∙ ap (λ (h : Tree). applied h us) (head_is t f.head f.symbol) in
    let acts : fired S taken.number (all_joined S (plain_joins taken.joins)) (applied (symbol f.head) us) ≡ Some (instantiated (capture f.parts) 0 f.rule.right) =
    rule_fired S f.head taken.number f.rule us f.parts (all_joined S (plain_joins taken.joins)) f.numbered f.instances f.joined in
    let ends_at : Leads S (tree placed.form) (more_steps (rule_step 0 taken.number (plain_joins taken.joins)) no_steps) (tree step.form) =
    ap (λ (x : Tree). steps_taken S (more_steps (rule_step 0 taken.number (plain_joins taken.joins)) no_steps) x) spine ∙ ap (λ o. and_then o (steps_taken S no_steps)) acts
    ∙ ap Some (flip f.right ∙ flip rule.form) in
    let none : drop (length f.rule.pats) (arguments t) ≡ [] = nothing_left (length f.rule.pats) (arguments t) n in (
      on S t p.0 (leads_by S (more_steps (rule_step 0 taken.number (plain_joins taken.joins)) no_steps) (plain_steps step.steps) (tree placed.form) (tree step.form) (tree step.form) rule.steps refl ends_at),
      w ∙ rule.form ∙ ap (applied (tree taken.right)) (flip none),
    )

-- ---- one more argument behind

pub fires_around : (f a : Tree) (behind all : ℕ) (taken : TakenRule) (ends : List End) (function argument told : Told) → all ≡ behind + 1 → FiresBehind f behind taken ends function
    → tree argument.form ≡ a → AlwaysLeadsTo a argument → tree told.form ≡ apply (tree function.form) (tree argument.form) → LeadsTogether apply function argument told
    → FiresBehind (apply f a) all taken ends told
fires_around f a behind all taken ends function argument told more fires is here w on = λ S g.
    let n : length (arguments f) ≡ length g.rule.pats + behind =
    (let q : length (arguments f ++ (a ∷ [])) ≡ length g.rule.pats + all = g.count in let r : length (arguments f ++ (a ∷ [])) ≡ length (arguments f) + 1 = length-append (arguments f) (a ∷ []) in omega arith) in
    let l : length g.rule.pats ≤ length (arguments f) = omega arith in
    let h : FiresOn S f behind taken ends = record {
      head = g.head;
      rule = g.rule;
      parts = g.parts;
      symbol = g.symbol;
      numbered = g.numbered;
      count = n;
      leads = along (λ (ts : List Tree). AreEnds S (columns_at 0 ts) ends) (take-append-le (length g.rule.pats) (arguments f) (a ∷ []) l) g.leads;
      instances = g.instances;
      joined = g.joined;
      right = g.right;
    } in
    let rest : List Tree = drop (length g.rule.pats) (arguments f) in
    let q : LeadsTo S f function × (tree function.form ≡ applied (tree taken.right) rest) = fires S h in (
      on S f a q.0 (here S),
      w ∙ ap (λ (x : Tree). apply x (tree argument.form)) q.1 ∙ ap (apply (applied (tree taken.right) rest)) is
          ∙ flip (applied_append (tree taken.right) rest (a ∷ [])) ∙ ap (applied (tree taken.right)) (flip (drop-append-le (length g.rule.pats) (arguments f) (a ∷ []) l)),
    )

-- no argument is there for one
pub fires_not : (t : Tree) (behind : ℕ) (taken : TakenRule) (ends : List End) (told : Told) → arguments t ≡ [] → behind ≢ 0 → FiresBehind t behind taken ends told
fires_not t behind taken ends told e n = λ S g.
    absurd (let a : length (arguments t) ≡ 0 = ap length e in let b : length (arguments t) ≡ length g.rule.pats + behind = g.count in omega arith)

-- ---- the ends of all columns

ends_take : (S : PlainSignature) (n : ℕ) (cs : List Column) (es : List End) → AreEnds S cs es → AreEnds S (take n cs) (take n es)
ends_take S zero cs es a = tt
ends_take S (suc n) [] [] a = tt
ends_take S (suc n) (c ∷ cs) (e ∷ es) a = (a.0, a.1, ends_take S n cs es a.2)
ends_take S (suc n) [] (e ∷ es) a = absurd a
ends_take S (suc n) (c ∷ cs) [] a = absurd a

take_columns : (n d : ℕ) (ts : List Tree) → take n (columns_at d ts) ≡ columns_at d (take n ts)
take_columns zero d ts = refl
take_columns (suc n) d [] = refl
take_columns (suc n) d (t ∷ ts) = ap (λ (cs : List Column). column_at d t ∷ cs) (take_columns n d ts)

take_ends : (n : ℕ) (es : List End) → columns_of es ≡ columns_of (take n es) ++ columns_of (drop n es)
take_ends zero es = refl
take_ends (suc n) [] = refl
take_ends (suc n) (e ∷ es) = ap (λ (cs : List Column). column_of e ∷ cs) (take_ends n es)

-- the ends of the arguments that the patterns are for, where others may stand behind them
pub fires : (t : Tree) (taken : TakenRule) (ends first : List End) (behind : ℕ) (told : Told) → first ≡ take taken.patterns ends → behind ≡ length (arguments t) - taken.patterns
    → FiresBehind t behind taken first told → Fires t taken ends told
fires t taken ends first behind told is so goes = λ S width rule captures m taking right.
    let same : length rule.pats ≡ taken.patterns = m.patterns in
    let narrow : length rule.pats ≤ width = (let a : taken.patterns ≤ width = m.enough_columns in omega arith) in
    let enough : length rule.pats ≤ length (arguments t) = (let a : taken.patterns ≤ length (arguments t) = m.enough_arguments in omega arith) in
    let counted : length (arguments t) ≡ length rule.pats + behind = omega arith in
    let p : ℕ = length rule.pats in
    let ts : List Tree = take p (arguments t) in
    let lead : AreEnds S (columns_at 0 ts) (take p ends) =
    along (λ (cs : List Column). AreEnds S cs (take p ends)) (◌∙◌ {b = columns_at 0 (take p (take width (arguments t)))} (take_columns p 0 (take width (arguments t))) (ap (columns_at 0) (take-take p width (arguments t) narrow)))
    (ends_take S p (columns_at 0 (take width (arguments t))) ends taking.leads) in
    let taken_parts : InstancesTaken 0 rule.pats (take p ends) (replicate (width - p) blank) (columns_of (drop p ends)) taking.parts =
    instances_taken S 0 ts rule.pats (take p ends) (replicate (width - p) blank) (columns_of (drop p ends)) taking.parts (length-take-le p (arguments t) enough) lead
    (along (λ (cs : List Column). Takes (map cell rule.pats ++ replicate (width - p) blank) cs taking.parts) (take_ends p ends) taking.takes) in
    let nothing : taken_parts.1 ≡ [] = blanks_take S (width - p) (columns_of (drop p ends)) taken_parts.1 taken_parts.3 in
    let all : taking.parts ≡ taken_parts.0 = taken_parts.4 ∙ ap (λ (xs : List Part). taken_parts.0 ++ xs) nothing ∙ append-nil taken_parts.0 in
    let ready : take p ends ≡ first = ap (λ (k : ℕ). take k ends) same ∙ flip is in
    let on : FiresOn S t behind taken first = record {
      head = m.head;
      rule = rule;
      parts = taking.parts;
      symbol = m.symbol;
      numbered = m.numbered;
      count = counted;
      leads = along (λ (es : List End). AreEnds S (columns_at 0 ts) es) ready lead;
      instances = along (λ (es : List End). AreInstances 0 rule.pats (map form_of es) taking.parts) ready (along (λ (xs : List Part). AreInstances 0 rule.pats (map form_of (take p ends)) xs) (flip all) taken_parts.2);
      joined = taking.joined;
      right = right ∙ filled_instantiated captures (capture taking.parts) taking.captured 0 rule.right;
    } in
    let q : LeadsTo S t told × (tree told.form ≡ applied (tree taken.right) (drop p (arguments t))) = goes S on in
    (q.0, q.1 ∙ ap (λ (x : Tree). applied x (drop p (arguments t))) right)
