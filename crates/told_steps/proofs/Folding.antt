-- The ends of a level by those of the next one, where a value and its parts stand in the place of a column.
use Rattle.std.specs.Prelude.{slice_get, eqb, ◌&&◌, take, drop, map, length, replicate, Bool, true, false, if◌then◌else◌}
use Rattle.std.proofs.Common.{List, [], ◌∷◌, ◌++◌, append_assoc, ℕ, zero, suc, ◌≡◌, ◌+◌, ◌≤◌, Some, None, refl, ap, ◌∙◌, sym as flip, subst as along, arith}
use Rattle.std.proofs.lemmas.Bool.{eqb-true}
use Rattle.std.proofs.lemmas.List.{map-append, length-map, length-append}
use Rattle.dk_model.specs.Trees.{Tree, tree, star, kind, symbol, variable, rule_variable, apply, bare, annotated, product}
use Rattle.dk_model.specs.Signatures.{Pattern, Patterns, pattern_list, rule_variable_pattern, wildcard_pattern, guard_pattern, symbol_pattern, variable_pattern, abstraction_pattern, PlainSignature}
use Rattle.dk_model.specs.Spines.{head, arguments, applied, body_of}
use Rattle.dk_model.specs.Matrix.{Cell, blank, cell, Column, opened_columns, heads_same, is_bare, is_rigid, refined_cells, cell_at}
use Rattle.typing_model.specs.Steps.{Part, IsInstance, at_symbol, at_variable, at_abstraction, AreInstances, no_arguments, one_argument}
use Rattle.typing_model.proofs.Evaluation.{both_left, both_right, applied_append}
use Rattle.typing_model.proofs.Matrix.{CellTakes, Takes, symbol_is, variable_is, opened_symbol, opened_variable, none_left, blanks_take}
use Rattle.told_steps.specs.Parts.{LeadsTo, AlwaysLeadsTo, LeadsOn, LeadsAround, LeadsTogether}
use Rattle.told_steps.specs.Ends.{column_of, columns_of, AreEnds, FoldsBack}
use Rattle.told_steps.specs.Folding.{form_of, column_at, columns_at, rebuilt, SpineLeads, PartsLead, FoldsColumn}
use Rattle.told_steps.specs.declared.told.Told.{Told}
use Rattle.told_steps.specs.declared.end.End.{End}
use Rattle.told_steps.specs.declared.fold.Opened.{Opened}

-- ---- ends of columns

module _ (S : PlainSignature) where
  pub no_ends : (es : List End) → AreEnds S [] es → es ≡ []
  no_ends [] a = refl
  no_ends (e ∷ es) a = absurd a

  pub ends_count : (cs : List Column) (es : List End) → AreEnds S cs es → length cs ≡ length es
  ends_count [] [] a = refl
  ends_count (c ∷ cs) (e ∷ es) a = ap (λ (n : ℕ). suc n) (ends_count cs es a.2)
  ends_count [] (e ∷ es) a = absurd a
  ends_count (c ∷ cs) [] a = absurd a

  pub ends_split : (cs ds : List Column) (es gs : List End) → length cs ≡ length es → AreEnds S (cs ++ ds) (es ++ gs) → AreEnds S cs es × AreEnds S ds gs
  ends_split [] ds [] gs n a = (tt, a)
  ends_split [] ds (e ∷ es) gs n a = absurd (omega arith)
  ends_split (c ∷ cs) ds [] gs n a = absurd (omega arith)
  ends_split (c ∷ cs) ds (e ∷ es) gs n a = let r : AreEnds S cs es × AreEnds S ds gs = ends_split cs ds es gs (omega arith) a.2 in ((a.0, a.1, r.0), r.1)

  pub ends_join : (cs ds : List Column) (es gs : List End) → AreEnds S cs es → AreEnds S ds gs → AreEnds S (cs ++ ds) (es ++ gs)
  ends_join [] ds [] gs a b = b
  ends_join (c ∷ cs) ds (e ∷ es) gs a b = (a.0, a.1, ends_join cs ds es gs a.2 b)
  ends_join [] ds (e ∷ es) gs a b = absurd a
  ends_join (c ∷ cs) ds [] gs a b = absurd a

-- ---- a spine

pub one_more_form : (t : Tree) (es : List End) (e : End) → applied t (map form_of (es ++ (e ∷ []))) ≡ apply (applied t (map form_of es)) (form_of e)
one_more_form t es e = ap (applied t) (map-append form_of es (e ∷ [])) ∙ applied_append t (map form_of es) (form_of e ∷ [])

one_more_column : (S : PlainSignature) (d : ℕ) (ts : List Tree) (a : Tree) (es : List End) → AreEnds S (columns_at d (ts ++ (a ∷ []))) es → AreEnds S (columns_at d ts ++ (column_at d a ∷ [])) es
one_more_column S d ts a es h = along (λ (cs : List Column). AreEnds S cs es) (map-append (column_at d) ts (a ∷ [])) h

same_front : (cs : List Column) (c : Column) (es : List End) (e : End) → length (cs ++ (c ∷ [])) ≡ length (es ++ (e ∷ [])) → length cs ≡ length es
same_front cs c es e h = let p : length (cs ++ (c ∷ [])) ≡ length cs + 1 = length-append cs (c ∷ []) in let q : length (es ++ (e ∷ [])) ≡ length es + 1 = length-append es (e ∷ []) in omega arith

-- an application by its function and the end of its argument
pub spine_on : (f a : Tree) (ends before : List End) (e : End) (function told : Told) → ends ≡ before ++ (e ∷ []) → SpineLeads f before function
    → tree told.form ≡ apply (tree function.form) (tree e.told.form) → LeadsTogether apply function e.told told → SpineLeads (apply f a) ends told
spine_on f a ends before e function told is s w h = λ S d given.
    let all : AreEnds S (columns_at d (arguments f) ++ (column_at d a ∷ [])) (before ++ (e ∷ [])) =
    one_more_column S d (arguments f) a (before ++ (e ∷ [])) (along (λ (es : List End). AreEnds S (columns_at d (arguments f ++ (a ∷ []))) es) is given) in
    let n : length (columns_at d (arguments f)) ≡ length before =
    same_front (columns_at d (arguments f)) (column_at d a) before e (ends_count S (columns_at d (arguments f) ++ (column_at d a ∷ [])) (before ++ (e ∷ [])) all) in
    let p : AreEnds S (columns_at d (arguments f)) before × AreEnds S (column_at d a ∷ []) (e ∷ []) = ends_split S (columns_at d (arguments f)) (column_at d a ∷ []) before (e ∷ []) n all in
    let q : LeadsTo S f function × (tree function.form ≡ applied (head f) (map form_of before)) = s S d p.0 in (
      h S f a q.0 p.1.1,
      w ∙ ap (λ (g : Tree). apply g (tree e.told.form)) q.1 ∙ flip (one_more_form (head f) before e) ∙ ap (λ (es : List End). applied (head f) (map form_of es)) (flip is),
    )

-- no application
pub spine_alone : (t : Tree) (ends : List End) (told : Told) → arguments t ≡ [] → head t ≡ t → tree told.form ≡ t → AlwaysLeadsTo t told → SpineLeads t ends told
spine_alone t ends told n h w l = λ S d given.
    let none : ends ≡ [] = no_ends S ends (along (λ (ts : List Tree). AreEnds S (columns_at d ts) ends) n given) in
    (l S, w ∙ flip h ∙ ap (λ (es : List End). applied (head t) (map form_of es)) (flip none))

-- no end of the argument
pub spine_missing : (f a : Tree) (ends : List End) (told : Told) → ends ≡ [] → SpineLeads (apply f a) ends told
spine_missing f a ends told is = λ S d given.
    let n : length (columns_at d (arguments f) ++ (column_at d a ∷ [])) ≡ 0 =
    ends_count S (columns_at d (arguments f) ++ (column_at d a ∷ [])) [] (one_more_column S d (arguments f) a [] (along (λ (es : List End). AreEnds S (columns_at d (arguments f ++ (a ∷ []))) es) is given)) in
    absurd (let p : length (columns_at d (arguments f) ++ (column_at d a ∷ [])) ≡ length (columns_at d (arguments f)) + 1 = length-append (columns_at d (arguments f)) (column_at d a ∷ []) in omega arith)

-- ---- the parts of a value

pub bare_is : (t b : Tree) → body_of t ≡ Some b → t ≡ bare b
bare_is (bare c) b e = let q : c ≡ b = cc in ap bare q
bare_is star b e = cc
bare_is kind b e = cc
bare_is (symbol k) b e = cc
bare_is (variable k) b e = cc
bare_is (rule_variable k) b e = cc
bare_is (apply f a) b e = cc
bare_is (annotated n c) b e = cc
bare_is (product c d) b e = cc

body_last : (b : Tree) (before : List End) (e : End) (told : Told) → tree told.form ≡ bare (tree e.told.form) → LeadsAround bare e.told told → PartsLead (bare b) (before ++ (e ∷ [])) told
body_last b [] e told w h = λ S d given. (h S b given.1, w)
body_last b (x ∷ []) e told w h = λ S d given. absurd given.2
body_last b (x ∷ y ∷ xs) e told w h = λ S d given. absurd given.2

pub body_parts : (v b : Tree) (ends before : List End) (e : End) (told : Told) → body_of v ≡ Some b → ends ≡ before ++ (e ∷ []) → tree told.form ≡ bare (tree e.told.form)
    → LeadsAround bare e.told told → PartsLead v ends told
body_parts v b ends before e told i is w h = along (λ (t : Tree). PartsLead t ends told) (flip (bare_is v b i)) (along (λ (es : List End). PartsLead (bare b) es told) (flip is) (body_last b before e told w h))

pub body_missing : (v b : Tree) (ends : List End) (told : Told) → body_of v ≡ Some b → ends ≡ [] → PartsLead v ends told
body_missing v b ends told i is = along (λ (t : Tree). PartsLead t ends told) (flip (bare_is v b i)) (along (λ (es : List End). PartsLead (bare b) es told) (flip is) (λ S d given. absurd given))

pub spine_parts : (v : Tree) (ends : List End) (told : Told) → body_of v ≡ None → SpineLeads v ends told → PartsLead v ends told
spine_parts (bare c) ends told e s = λ S d given. cc
spine_parts star ends told e s = s
spine_parts kind ends told e s = s
spine_parts (symbol k) ends told e s = s
spine_parts (variable k) ends told e s = s
spine_parts (rule_variable k) ends told e s = s
spine_parts (apply f a) ends told e s = s
spine_parts (annotated n c) ends told e s = s
spine_parts (product c d) ends told e s = s

-- ---- what a row takes from a column

-- blank cells take nothing from these columns
blanks_past : (n : ℕ) (ds cols : List Column) (cs : List Cell) (parts : List Part) → length ds ≡ n → Takes (replicate n blank ++ cs) (ds ++ cols) parts → Takes cs cols parts
blanks_past zero [] cols cs parts e h = h
blanks_past zero (d ∷ ds) cols cs parts e h = absurd (omega arith)
blanks_past (suc n) [] cols cs parts e h = absurd (omega arith)
blanks_past (suc n) (d ∷ ds) cols cs parts e h = along (Takes cs cols) (flip (h.4 ∙ ap (λ (xs : List Part). xs ++ h.1) h.2)) (blanks_past n ds cols cs h.1 (omega arith) h.3)

same_column : (a b : ℕ) (t u : Tree) → a ≡ b → t ≡ u → ◌≡◌ {A = Column} (record { depth = a; term = t }) (record { depth = b; term = u })
same_column a b t u e d = ap (λ (n : ℕ). record { depth = n; term = t }) e ∙ ap (λ (x : Tree). record { depth = b; term = x }) d

-- a cell that asks nothing of the head is kept
kept_cells : (c : Cell) (v : Tree) (n : ℕ) (new : List Cell) → is_rigid c ≡ false → refined_cells v n c ≡ Some new → new ≡ c ∷ replicate n blank
kept_cells blank v n new r e = cc
kept_cells (cell (rule_variable_pattern k xs)) v n new r e = cc
kept_cells (cell wildcard_pattern) v n new r e = cc
kept_cells (cell (guard_pattern g)) v n new r e = cc
kept_cells (cell (symbol_pattern k ps)) v n new r e = cc
kept_cells (cell (variable_pattern k ps)) v n new r e = cc
kept_cells (cell (abstraction_pattern p)) v n new r e = cc

kept_takes : (c : Cell) (n : ℕ) (own end : Column) (ds cols : List Column) (cells : List Cell) (parts : List Part) → own ≡ end → length ds ≡ n
    → Takes ((c ∷ replicate n blank) ++ cells) (own ∷ (ds ++ cols)) parts → Takes (c ∷ cells) (end ∷ cols) parts
kept_takes c n own end ds cols cells parts e l h = (h.0, h.1, along (λ (x : Column). CellTakes c x h.0) e h.2, blanks_past n ds cols cells h.1 l h.3, h.4)

-- what instances take, and what the cells behind them do
abbrev pub InstancesTaken : ℕ → List Pattern → List End → List Cell → List Column → List Part → Type 0
InstancesTaken d ps es cells cols parts = (mine : List Part) × (others : List Part) × AreInstances d ps (map form_of es) mine × Takes cells cols others × (parts ≡ mine ++ others)

pub instances_taken : (S : PlainSignature) (d : ℕ) (vs : List Tree) (ps : List Pattern) (es : List End) (cells : List Cell) (cols : List Column) (parts : List Part) → length vs ≡ length ps
    → AreEnds S (columns_at d vs) es → Takes (map cell ps ++ cells) (columns_of es ++ cols) parts → InstancesTaken d ps es cells cols parts
instances_taken S d [] [] [] cells cols parts n a h = ([], parts, no_arguments, h, refl)
instances_taken S d [] [] (e ∷ es) cells cols parts n a h = absurd a
instances_taken S d [] (p ∷ ps) es cells cols parts n a h = absurd (omega arith)
instances_taken S d (v ∷ vs) [] es cells cols parts n a h = absurd (omega arith)
instances_taken S d (v ∷ vs) (p ∷ ps) [] cells cols parts n a h = absurd a
instances_taken S d (v ∷ vs) (p ∷ ps) (e ∷ es) cells cols parts n a h =
    let b : InstancesTaken d ps es cells cols h.1 = instances_taken S d vs ps es cells cols h.1 (omega arith) a.2 h.3 in (
      h.0 ++ b.0,
      b.1,
      one_argument (along (λ (x : ℕ). IsInstance x p (form_of e) h.0) (flip a.0) h.2) b.2,
      b.3,
      h.4 ∙ ap (λ (xs : List Part). h.0 ++ xs) b.4 ∙ flip (append_assoc h.0 b.0 b.1),
    )

module _ (S : PlainSignature) (d : ℕ) (own : Column) (inner : List End) (cells : List Cell) (cols : List Column) (parts : List Part) where
  -- what is taken from a value and its parts is taken from the value over the ends of its parts
  abbrev pub TakesRebuilt : Tree → Cell → List Cell → Type 0
  TakesRebuilt v c new = AreEnds S (opened_columns d v) inner → Takes (new ++ cells) (own ∷ (columns_of inner ++ cols)) parts
      → Takes (c ∷ cells) ((record { depth = d; term = rebuilt v (map form_of inner) }) ∷ cols) parts

  spine_takes : (q : Tree) (c : Cell) (vs : List Tree) (ps : List Pattern) → ((bs : List Tree) (mine : List Part) → AreInstances d ps bs mine → CellTakes c (record { depth = d; term = applied q bs }) mine)
      → length vs ≡ length ps → AreEnds S (columns_at d vs) inner → Takes ((blank ∷ map cell ps) ++ cells) (own ∷ (columns_of inner ++ cols)) parts
      → Takes (c ∷ cells) ((record { depth = d; term = applied q (map form_of inner) }) ∷ cols) parts
  spine_takes q c vs ps k l a h = let b : InstancesTaken d ps inner cells cols h.1 = instances_taken S d vs ps inner cells cols h.1 l a h.3 in
      (b.0, b.1, k (map form_of inner) b.0 b.2, b.3, h.4 ∙ ap (λ (xs : List Part). xs ++ h.1) h.2 ∙ b.4)

  rebuilt_symbol : (k : ℕ) (v : Tree) (ts : List Tree) → head v ≡ symbol k → rebuilt v ts ≡ applied (symbol k) ts
  rebuilt_symbol k (bare b) ts e = cc
  rebuilt_symbol k v ts e = ap (λ (t : Tree). applied t ts) e

  rebuilt_variable : (k : ℕ) (v : Tree) (ts : List Tree) → head v ≡ variable k → rebuilt v ts ≡ applied (variable k) ts
  rebuilt_variable k (bare b) ts e = cc
  rebuilt_variable k v ts e = ap (λ (t : Tree). applied t ts) e

  at_term : (c : Cell) (t u : Tree) → u ≡ t → Takes (c ∷ cells) ((record { depth = d; term = t }) ∷ cols) parts → Takes (c ∷ cells) ((record { depth = d; term = u }) ∷ cols) parts
  at_term c t u e h = along (λ (x : Tree). Takes (c ∷ cells) ((record { depth = d; term = x }) ∷ cols) parts) (flip e) h

  symbol_takes : (v : Tree) (k : ℕ) (ps : Patterns) (new : List Cell) (x : Bool) → (heads_same (head v) (symbol k) && eqb (length (arguments v)) (length (pattern_list ps))) ≡ x
      → (if x then Some (blank ∷ map cell (pattern_list ps)) else None) ≡ Some new → TakesRebuilt v (cell (symbol_pattern k ps)) new
  symbol_takes v k ps new false q e = λ a h. cc
  symbol_takes v k ps new true q e = λ a h.
      let i : head v ≡ symbol k = symbol_is (head v) k (both_left (heads_same (head v) (symbol k)) (eqb (length (arguments v)) (length (pattern_list ps))) q) in
      let n : new ≡ blank ∷ map cell (pattern_list ps) = cc in
      at_term (cell (symbol_pattern k ps)) (applied (symbol k) (map form_of inner)) (rebuilt v (map form_of inner)) (rebuilt_symbol k v (map form_of inner) i)
      (spine_takes (symbol k) (cell (symbol_pattern k ps)) (arguments v) (pattern_list ps) (λ bs mine is. at_symbol is)
      (eqb-true (length (arguments v)) (length (pattern_list ps)) (both_right (heads_same (head v) (symbol k)) (eqb (length (arguments v)) (length (pattern_list ps))) q))
      (along (λ (cs : List Column). AreEnds S cs inner) (opened_symbol d k v i) a) (along (λ (xs : List Cell). Takes (xs ++ cells) (own ∷ (columns_of inner ++ cols)) parts) n h))

  variable_takes : (v : Tree) (k : ℕ) (ps : Patterns) (new : List Cell) (x : Bool) → (heads_same (head v) (variable k) && eqb (length (arguments v)) (length (pattern_list ps))) ≡ x
      → (if x then Some (blank ∷ map cell (pattern_list ps)) else None) ≡ Some new → TakesRebuilt v (cell (variable_pattern k ps)) new
  variable_takes v k ps new false q e = λ a h. cc
  variable_takes v k ps new true q e = λ a h.
      let i : head v ≡ variable k = variable_is (head v) k (both_left (heads_same (head v) (variable k)) (eqb (length (arguments v)) (length (pattern_list ps))) q) in
      let n : new ≡ blank ∷ map cell (pattern_list ps) = cc in
      at_term (cell (variable_pattern k ps)) (applied (variable k) (map form_of inner)) (rebuilt v (map form_of inner)) (rebuilt_variable k v (map form_of inner) i)
      (spine_takes (variable k) (cell (variable_pattern k ps)) (arguments v) (pattern_list ps) (λ bs mine is. at_variable is)
      (eqb-true (length (arguments v)) (length (pattern_list ps)) (both_right (heads_same (head v) (variable k)) (eqb (length (arguments v)) (length (pattern_list ps))) q))
      (along (λ (cs : List Column). AreEnds S cs inner) (opened_variable d k v i) a) (along (λ (xs : List Cell). Takes (xs ++ cells) (own ∷ (columns_of inner ++ cols)) parts) n h))

body_takes : (S : PlainSignature) (d : ℕ) (own : Column) (inner : List End) (cells : List Cell) (cols : List Column) (parts : List Part) (b : Tree) (p : Pattern)
    → AreEnds S ((record { depth = d + 1; term = b }) ∷ []) inner → Takes (blank ∷ cell p ∷ cells) (own ∷ (columns_of inner ++ cols)) parts
    → Takes (cell (abstraction_pattern p) ∷ cells) ((record { depth = d; term = rebuilt (bare b) (map form_of inner) }) ∷ cols) parts
body_takes S d own [] cells cols parts b p a h = absurd a
body_takes S d own (e ∷ g ∷ es) cells cols parts b p a h = absurd a.2
body_takes S d own (e ∷ []) cells cols parts b p a h = let g : Takes (cell p ∷ cells) (column_of e ∷ cols) h.1 = h.3 in
    (g.0, g.1, at_abstraction (along (λ (x : ℕ). IsInstance x p (form_of e) g.0) (flip a.0) g.2), g.3, h.4 ∙ ap (λ (xs : List Part). xs ++ h.1) h.2 ∙ g.4)

module _ (S : PlainSignature) (d : ℕ) (own : Column) (inner : List End) (cells : List Cell) (cols : List Column) (parts : List Part) where
  abstraction_takes : (v : Tree) (p : Pattern) (new : List Cell) → (if is_bare v then Some (blank ∷ cell p ∷ []) else None) ≡ Some new
      → TakesRebuilt S d own inner cells cols parts v (cell (abstraction_pattern p)) new
  abstraction_takes (bare b) p new e = λ a h. let n : new ≡ blank ∷ cell p ∷ [] = cc in
      body_takes S d own inner cells cols parts b p a (along (λ (xs : List Cell). Takes (xs ++ cells) (own ∷ (columns_of inner ++ cols)) parts) n h)
  abstraction_takes v p new e = λ a h. cc

  pub rigid_takes : (v : Tree) (c : Cell) (new : List Cell) → is_rigid c ≡ true → refined_cells v (length (opened_columns d v)) c ≡ Some new
      → TakesRebuilt S d own inner cells cols parts v c new
  rigid_takes v blank new r e = λ a h. cc
  rigid_takes v (cell (rule_variable_pattern k xs)) new r e = λ a h. cc
  rigid_takes v (cell wildcard_pattern) new r e = λ a h. cc
  rigid_takes v (cell (guard_pattern g)) new r e = λ a h. cc
  rigid_takes v (cell (symbol_pattern k ps)) new r e = symbol_takes S d own inner cells cols parts v k ps new _ refl e
  rigid_takes v (cell (variable_pattern k ps)) new r e = variable_takes S d own inner cells cols parts v k ps new _ refl e
  rigid_takes v (cell (abstraction_pattern p)) new r e = abstraction_takes v p new e

-- ---- a column

pub loose_folds : (opened : Opened) (own : End) (inner : List End) (end : End) → opened.rigid ≡ false → end.depth ≡ opened.depth → tree end.told.form ≡ tree own.told.form
    → LeadsOn opened.told own.told end.told → FoldsColumn opened own inner end
loose_folds opened own inner end r w q on = λ S base c new d l s e ends. (
  d ∙ flip w,
  on S base.term l ends.1,
  λ cells cols parts h.
      let v : Tree = tree opened.told.form in let n : ℕ = length (opened_columns opened.depth v) in
      let i : new ≡ c ∷ replicate n blank = kept_cells c v n new (flip s ∙ r) e in
      let m : length (columns_of inner) ≡ n = length-map inner column_of ∙ flip (ends_count S (opened_columns opened.depth v) inner ends.2) in
      kept_takes c n (column_of own) (column_of end) (columns_of inner) cols cells parts (same_column own.depth end.depth (tree own.told.form) (tree end.told.form) (flip ends.0 ∙ flip w) (flip q)) m
      (along (λ (xs : List Cell). Takes (xs ++ cells) (column_of own ∷ (columns_of inner ++ cols)) parts) i h),
)

pub rigid_folds : (opened : Opened) (own : End) (inner : List End) (end : End) (value : Told) → opened.rigid ≡ true → end.depth ≡ opened.depth → tree end.told.form ≡ tree value.form
    → LeadsOn opened.told value end.told → PartsLead (tree opened.told.form) inner value → FoldsColumn opened own inner end
rigid_folds opened own inner end value r w q on lead = λ S base c new d l s e ends.
    let v : Tree = tree opened.told.form in
    let p : LeadsTo S v value × (tree value.form ≡ rebuilt v (map form_of inner)) = lead S opened.depth ends.2 in (
      d ∙ flip w,
      on S base.term l p.0,
      λ cells cols parts h.
          along (λ (x : Column). Takes (c ∷ cells) (x ∷ cols) parts) (same_column opened.depth end.depth (rebuilt v (map form_of inner)) (tree end.told.form) (flip w) (flip p.1 ∙ flip q))
          (rigid_takes S opened.depth (column_of own) inner cells cols parts v c new (flip s ∙ r) e ends.2 h),
    )

-- ---- a level

front_length : (n : ℕ) (cs : List Column) (c : Column) → slice_get cs n ≡ Some c → length (take n cs) ≡ n
front_length zero cs c e = refl
front_length (suc n) [] c e = cc
front_length (suc n) (x ∷ cs) c e = ap (λ (m : ℕ). suc m) (front_length n cs c e)

put_back : (n : ℕ) (cs : List Column) (c : Column) → slice_get cs n ≡ Some c → take n cs ++ (c ∷ drop (suc n) cs) ≡ cs
put_back zero [] c e = cc
put_back (suc n) [] c e = cc
put_back zero (x ∷ cs) c e = let q : c ≡ x = cc in ap (λ (y : Column). y ∷ cs) q
put_back (suc n) (x ∷ cs) c e = ap (λ (xs : List Column). x ∷ xs) (put_back n cs c e)

pub row_takes : (v : Tree) (m at : ℕ) (cs new : List Cell) (front : List Column) (own end : Column) (inner back : List Column) (ps : List Part) (S : PlainSignature)
    → length front ≡ at → refined_cells v m (cell_at cs at) ≡ Some new
    → ((cells : List Cell) (cols : List Column) (parts : List Part) → Takes (new ++ cells) (own ∷ (inner ++ cols)) parts → Takes (cell_at cs at ∷ cells) (end ∷ cols) parts)
    → Takes (take at cs ++ (new ++ drop (suc at) cs)) (front ++ (own ∷ (inner ++ back))) ps → Takes cs (front ++ (end ∷ back)) ps
row_takes v m at [] new front own end inner back ps S l e k h =
    blanks_take S (suc m) (front ++ (own ∷ (inner ++ back))) ps (along (λ (xs : List Cell). Takes xs (front ++ (own ∷ (inner ++ back))) ps) (flip (append_assoc (take at []) new (drop (suc at) [])) ∙ none_left at m new e) h)
row_takes v m zero (c ∷ cs) new [] own end inner back ps S l e k h = k cs back ps h
row_takes v m zero (c ∷ cs) new (x ∷ front) own end inner back ps S l e k h = absurd (omega arith)
row_takes v m (suc at) (c ∷ cs) new [] own end inner back ps S l e k h = absurd (omega arith)
row_takes v m (suc at) (c ∷ cs) new (x ∷ front) own end inner back ps S l e k h = (h.0, h.1, h.2, row_takes v m at cs new front own end inner back h.1 S (omega arith) e k h.3, h.4)

columns_append : (front : List End) (own : End) (inner back : List End) → columns_of (front ++ (own ∷ (inner ++ back))) ≡ columns_of front ++ (column_of own ∷ (columns_of inner ++ columns_of back))
columns_append front own inner back = map-append column_of front (own ∷ (inner ++ back)) ∙ ap (λ (cs : List Column). columns_of front ++ (column_of own ∷ cs)) (map-append column_of inner back)

next_place : (n : ℕ) → n + 1 ≡ suc n
next_place n = omega arith

module _ (opened : Opened) (front : List End) (own : End) (inner back : List End) (end : End) (n : length front ≡ opened.at) (folds : FoldsColumn opened own inner end)
    (m : length inner ≡ length (opened_columns opened.depth (tree opened.told.form))) where
  abbrev v : Tree
  v = tree opened.told.form

  abbrev value_columns : List Column
  value_columns = (record { depth = opened.depth; term = v }) ∷ opened_columns opened.depth v

  level_folds : FoldsBack opened (front ++ (own ∷ (inner ++ back))) (front ++ (end ∷ back))
  level_folds = λ S bases cells new captures joins o r t.
      let at : ℕ = opened.at in
      let rest : List Column = drop (suc at) bases in
      let given : AreEnds S (take at bases ++ (value_columns ++ rest)) (front ++ ((own ∷ inner) ++ back)) =
      along (λ (k : ℕ). AreEnds S (take at bases ++ (value_columns ++ drop k bases)) (front ++ ((own ∷ inner) ++ back))) (next_place at) (along (λ (cs : List Column). AreEnds S cs (front ++ ((own ∷ inner) ++ back))) (append_assoc (take at bases) value_columns (drop (at + 1) bases)) t.leads) in
      let a : AreEnds S (take at bases) front × AreEnds S (value_columns ++ rest) ((own ∷ inner) ++ back) =
      ends_split S (take at bases) (value_columns ++ rest) front ((own ∷ inner) ++ back) (front_length at bases o.base o.stands ∙ flip n) given in
      let b : AreEnds S value_columns (own ∷ inner) × AreEnds S rest back = ends_split S value_columns rest (own ∷ inner) back (ap (λ (k : ℕ). suc k) (flip m)) a.1 in
      let f : _ = folds S o.base (cell_at cells at) new o.same_depth o.leads r.rigid r.refined b.0 in
      record {
        parts = t.parts;
        leads = along (λ (cs : List Column). AreEnds S cs (front ++ (end ∷ back))) (put_back at bases o.base o.stands)
            (ends_join S (take at bases) (o.base ∷ rest) front (end ∷ back) a.0 (f.0, f.1, b.1));
        takes = along (λ (cs : List Column). Takes cells cs t.parts) (flip (map-append column_of front (end ∷ back)))
            (row_takes v (length (opened_columns opened.depth v)) at cells new (columns_of front) (column_of own) (column_of end) (columns_of inner) (columns_of back) t.parts S
            (length-map front column_of ∙ n) r.refined f.2
            (along (λ (cs : List Column). Takes (take at cells ++ (new ++ drop (suc at) cells)) cs t.parts) (columns_append front own inner back)
            (along (λ (k : ℕ). Takes (take at cells ++ (new ++ drop k cells)) (columns_of (front ++ (own ∷ (inner ++ back)))) t.parts) (next_place at)
            (along (λ (xs : List Cell). Takes xs (columns_of (front ++ (own ∷ (inner ++ back)))) t.parts) (append_assoc (take at cells) new (drop (at + 1) cells)) t.takes))));
        captured = t.captured;
        joined = t.joined;
      }

-- ends that are too few for the columns
pub too_few : (opened : Opened) (deeper ends : List End) → length deeper ≤ opened.at + length (opened_columns opened.depth (tree opened.told.form)) → FoldsBack opened deeper ends
too_few opened deeper ends l = λ S bases cells new captures joins o r t.
    absurd (let v : Column = record { depth = opened.depth; term = tree opened.told.form } in
    let given : List Column = opened_columns opened.depth (tree opened.told.form) in
    let rest : List Column = drop (opened.at + 1) bases in
    let a : length (take opened.at bases ++ (v ∷ (given ++ rest))) ≡ length deeper = ends_count S (take opened.at bases ++ (v ∷ (given ++ rest))) deeper (along (λ (cs : List Column). AreEnds S cs deeper) (append_assoc (take opened.at bases) (v ∷ given) rest) t.leads) in
    let b : length (take opened.at bases ++ (v ∷ (given ++ rest))) ≡ length (take opened.at bases) + suc (length (given ++ rest)) = length-append (take opened.at bases) (v ∷ (given ++ rest)) in
    let c : length (given ++ rest) ≡ length (opened_columns opened.depth (tree opened.told.form)) + length rest = length-append given rest in
    let d : length (take opened.at bases) ≡ opened.at = front_length opened.at bases o.base o.stands in
    omega arith)

-- a level whose ends are these
pub folds_back : (opened : Opened) (deeper front : List End) (own : End) (inner back : List End) (end : End) (ends : List End) → deeper ≡ front ++ (own ∷ (inner ++ back)) → length front ≡ opened.at
    → length inner ≡ length (opened_columns opened.depth (tree opened.told.form)) → FoldsColumn opened own inner end → ends ≡ (front ++ (end ∷ [])) ++ back → FoldsBack opened deeper ends
folds_back opened deeper front own inner back end ends e n m f w =
    along (λ (es : List End). FoldsBack opened es ends) (flip e)
    (along (λ (es : List End). FoldsBack opened (front ++ (own ∷ (inner ++ back))) es) (flip (w ∙ append_assoc front (end ∷ []) back)) (level_folds opened front own inner back end n f m))
