-- A turn of printing.
use Rattle.std.proofs.Common.{List, [], ◌∷◌, ◌++◌, ℕ, ◌≡◌, ◌+◌, Bool, true, false, Option, Some, None, refl, ap, sym as flip, subst as along_path, ◌∙◌, if◌then◌else◌, append_assoc, ◌*◌, ◌<◌, ◌≤◌, arith}
use Rattle.dk_lexer.specs.declared.token.Sign.TheVariants as sign
use Rattle.dk_model.specs.PlainTerms.{Tree, symbol, apply, bare, annotated, product}
use Rattle.dk_terms.specs.declared.terminal.Terminal.{Terminal}
use Rattle.dk_terms.specs.declared.terminal.Terminal.TheVariants as terminal
use Rattle.scope_terms.specs.Scopes.{Spelling}
use Rattle.dk_terms.specs.Written.{written_arrow, written_product}
use Rattle.term_print.specs.Named.{Word, binder_name, mentions, spellings, written_at, written_word}
use Rattle.term_print.specs.Spelled as spelled
use Rattle.term_print.specs.Text.{text_behind, text_of}
use Rattle.term_print.specs.ReadBack.{word_terminal}
use Rattle.term_print.specs.Printing.{printed}
use Rattle.term_print.specs.declared.place.Place.{Place}
use Rattle.term_print.specs.declared.place.Place.TheVariants as place
use Rattle.term_print.specs.declared.task.Subterm.{Subterm}
use Rattle.term_print.specs.declared.task.Task.{Task}
use Rattle.term_print.specs.declared.task.Task.TheVariants as task
use Rattle.term_print.specs.declared.text.Mark.{Mark}
use Rattle.term_print.specs.declared.text.Mark.TheVariants as mark
use Rattle.term_print.specs.declared.text.Text.{Text}
use Rattle.term_print.specs.Products.{front, last_one, named_last, size}
use Rattle.term_print.specs.Tasks.{Puts, text_with, terminals, left_of, before, bracketed_if, application_parts, arrow_parts, bare_parts, bound_parts, is_narrow, is_wide, named_left, named_behind, weight, weights}
use Rattle.term_print.specs.Walks.{SameSpellings}
use Rattle.term_print.proofs.Naming.{written_same}
use Rattle.term_print.proofs.Surveyed.{front_of, last_of}
use Rattle.term_print.proofs.Stacking.{append_nothing, pushed}

pub plain_word : (old new : Text) (w : Word) (name : List ℕ) → None ≡ w.module_name → name ≡ w.spelling → Puts old (terminal.Name name) new → Puts old (word_terminal w) new
plain_word old new w name m s p = along_path (λ o. Puts old (elim o [ None ↦ terminal.Name w.spelling | Some n ↦ terminal.Qualified n w.spelling ]) new) m (along_path (λ n. Puts old (terminal.Name n) new) s p)

pub qualified_word : (old new : Text) (w : Word) (module_name name : List ℕ) → Some module_name ≡ w.module_name → name ≡ w.spelling → Puts old (terminal.Qualified module_name name) new → Puts old (word_terminal w) new
qualified_word old new w module_name name m s p = along_path (λ o. Puts old (elim o [ None ↦ terminal.Name w.spelling | Some n ↦ terminal.Qualified n w.spelling ]) new) m (along_path (λ n. Puts old (terminal.Qualified module_name n) new) s p)

narrow_is : (p : Place) (xs : List Terminal) → bracketed_if (is_narrow p) xs ≡ spelled.narrow p xs
narrow_is place.Term xs = refl
narrow_is place.Application xs = refl
narrow_is place.Atom xs = refl

wide_is : (p : Place) (xs : List Terminal) → bracketed_if (is_wide p) xs ≡ spelled.wide p xs
wide_is place.Term xs = refl
wide_is place.Application xs = refl
wide_is place.Atom xs = refl

module _ (denotes : ℕ → Tree) where
  -- those found of a stack with a product on top
  ends_with : (t a b : ℕ) (ts : List Task) (named : List Bool) → denotes t ≡ product (denotes a) (denotes b) → named ≡ named_left denotes ts ++ named_last (denotes t)
      → named ≡ (named_left denotes ts ++ (named_last (denotes b) ++ named_last (denotes a))) ++ mentions 0 (denotes b) ∷ []
  ends_with t a b ts named e h = h ∙ (ap (λ u. named_left denotes ts ++ named_last u) e
      ∙ (ap (λ xs. named_left denotes ts ++ xs) (flip (append_assoc (named_last (denotes b)) (named_last (denotes a)) (mentions 0 (denotes b) ∷ [])))
      ∙ flip (append_assoc (named_left denotes ts) (named_last (denotes b) ++ named_last (denotes a)) (mentions 0 (denotes b) ∷ []))))

  named_turn : (t : ℕ) (u : Tree) (old new : List Task) (named bs : List Bool) → named ≡ named_left denotes old ++ named_last (denotes t) → denotes t ≡ u → named_left denotes new ≡ named_left denotes old ++ bs → bs ≡ named_last u → named ≡ named_left denotes new
  named_turn t u old new named bs h e n i = h ∙ (ap (λ v. named_left denotes old ++ named_last v) e ∙ (ap (λ xs. named_left denotes old ++ xs) (flip i) ∙ flip n))

  pub named_leaf : (t : ℕ) (u : Tree) (ts : List Task) (named : List Bool) → named ≡ named_left denotes ts ++ named_last (denotes t) → denotes t ≡ u → named_last u ≡ [] → named ≡ named_left denotes ts
  named_leaf t u ts named h e i = h ∙ (ap (λ v. named_left denotes ts ++ named_last v) e ∙ (ap (λ xs. named_left denotes ts ++ xs) i ∙ append_nothing (named_left denotes ts)))

  below_application : (t f a d : ℕ) (old new : List Task) (named : List Bool) → named ≡ named_left denotes old ++ named_last (denotes t) → denotes t ≡ apply (denotes f) (denotes a)
      → named_left denotes new ≡ named_left denotes old ++ named_behind denotes (task.Term (record { term = f; depth = d; place = place.Application }) ∷ task.Term (record { term = a; depth = d; place = place.Atom }) ∷ [])
      → named ≡ named_left denotes new
  below_application t f a d old new named h e n = named_turn t _ old new named _ h e n refl

  below_bare : (t b d u : ℕ) (old new : List Task) (named : List Bool) → named ≡ named_left denotes old ++ named_last (denotes t) → denotes t ≡ bare (denotes b)
      → named_left denotes new ≡ named_left denotes old ++ named_behind denotes (task.Binder d ∷ task.Mark mark.DoubleArrow ∷ task.Term (record { term = b; depth = u; place = place.Term }) ∷ [])
      → named ≡ named_left denotes new
  below_bare t b d u old new named h e n = named_turn t _ old new named _ h e n (append_nothing (named_last (denotes b) ++ []) ∙ append_nothing (named_last (denotes b)))

  -- a part, a mark, a part
  three_behind : (xs ys : List Bool) → (xs ++ []) ++ ys ≡ xs ++ ys
  three_behind xs ys = ap (λ zs. zs ++ ys) (append_nothing xs)

  five_behind : (xs ys : List Bool) → (((xs ++ []) ++ ys) ++ []) ++ [] ≡ xs ++ ys
  five_behind xs ys = append_nothing (((xs ++ []) ++ ys) ++ []) ∙ (append_nothing ((xs ++ []) ++ ys) ∙ three_behind xs ys)

  below_annotated : (t c b d u : ℕ) (old new : List Task) (named : List Bool) → named ≡ named_left denotes old ++ named_last (denotes t) → denotes t ≡ annotated (denotes c) (denotes b)
      → named_left denotes new ≡ named_left denotes old ++ named_behind denotes (task.Binder d ∷ task.Mark mark.Colon ∷ task.Term (record { term = c; depth = d; place = place.Application }) ∷ task.Mark mark.DoubleArrow ∷ task.Term (record { term = b; depth = u; place = place.Term }) ∷ [])
      → named ≡ named_left denotes new
  below_annotated t c b d u old new named h e n = named_turn t _ old new named _ h e n (five_behind (named_last (denotes b)) (named_last (denotes c)))

  product_taken : (t a b : ℕ) (old new : List Task) (named named_then bs : List Bool) → named ≡ named_left denotes old ++ named_last (denotes t) → denotes t ≡ product (denotes a) (denotes b) → named_then ≡ front named
      → named_left denotes new ≡ named_left denotes old ++ bs → bs ≡ named_last (denotes b) ++ named_last (denotes a) → named_then ≡ named_left denotes new
  product_taken t a b old new named named_then bs h e f n i = f ∙ (ap front (ends_with t a b old named e h)
      ∙ (front_of (named_left denotes old ++ (named_last (denotes b) ++ named_last (denotes a))) (mentions 0 (denotes b)) ∙ (ap (λ xs. named_left denotes old ++ xs) (flip i) ∙ flip n)))

  below_product : (t a b d u : ℕ) (old new : List Task) (named named_then : List Bool) → named ≡ named_left denotes old ++ named_last (denotes t) → denotes t ≡ product (denotes a) (denotes b) → named_then ≡ front named
      → named_left denotes new ≡ named_left denotes old ++ named_behind denotes (task.Binder d ∷ task.Mark mark.Colon ∷ task.Term (record { term = a; depth = d; place = place.Application }) ∷ task.Mark mark.Arrow ∷ task.Term (record { term = b; depth = u; place = place.Term }) ∷ [])
      → named_then ≡ named_left denotes new
  below_product t a b d u old new named named_then h e f n = product_taken t a b old new named named_then _ h e f n (five_behind (named_last (denotes b)) (named_last (denotes a)))

  below_arrow : (t a b d u : ℕ) (old new : List Task) (named named_then : List Bool) → named ≡ named_left denotes old ++ named_last (denotes t) → denotes t ≡ product (denotes a) (denotes b) → named_then ≡ front named
      → named_left denotes new ≡ named_left denotes old ++ named_behind denotes (task.Term (record { term = a; depth = d; place = place.Application }) ∷ task.Mark mark.Arrow ∷ task.Term (record { term = b; depth = u; place = place.Term }) ∷ [])
      → named_then ≡ named_left denotes new
  below_arrow t a b d u old new named named_then h e f n = product_taken t a b old new named named_then _ h e f n (three_behind (named_last (denotes b)) (named_last (denotes a)))

  parts_below : (parts next old new : List Task) → parts ≡ next → named_left denotes new ≡ named_left denotes old ++ named_behind denotes parts → named_left denotes new ≡ named_left denotes old ++ named_behind denotes next
  parts_below parts next old new p n = n ∙ ap (λ ts. named_left denotes old ++ named_behind denotes ts) p

  pub named_application : (s : Subterm) (f a : ℕ) (parts old new : List Task) (named : List Bool) → named ≡ named_left denotes old ++ named_last (denotes s.term) → denotes s.term ≡ apply (denotes f) (denotes a) → parts ≡ application_parts s f a → named_left denotes new ≡ named_left denotes old ++ named_behind denotes parts → named ≡ named_left denotes new
  named_application s f a parts old new named h e p n = below_application s.term f a s.depth old new named h e (parts_below parts (application_parts s f a) old new p n)

  pub named_bare : (s : Subterm) (b u : ℕ) (parts old new : List Task) (named : List Bool) → named ≡ named_left denotes old ++ named_last (denotes s.term) → denotes s.term ≡ bare (denotes b) → parts ≡ bare_parts s u b → named_left denotes new ≡ named_left denotes old ++ named_behind denotes parts → named ≡ named_left denotes new
  named_bare s b u parts old new named h e p n = below_bare s.term b s.depth u old new named h e (parts_below parts (bare_parts s u b) old new p n)

  pub named_annotated : (s : Subterm) (c b u : ℕ) (parts old new : List Task) (named : List Bool) → named ≡ named_left denotes old ++ named_last (denotes s.term) → denotes s.term ≡ annotated (denotes c) (denotes b) → parts ≡ bound_parts s u c mark.DoubleArrow b → named_left denotes new ≡ named_left denotes old ++ named_behind denotes parts → named ≡ named_left denotes new
  named_annotated s c b u parts old new named h e p n = below_annotated s.term c b s.depth u old new named h e (parts_below parts (bound_parts s u c mark.DoubleArrow b) old new p n)

  pub named_product : (s : Subterm) (a b u : ℕ) (parts old new : List Task) (named named_then : List Bool) → named ≡ named_left denotes old ++ named_last (denotes s.term) → denotes s.term ≡ product (denotes a) (denotes b) → named_then ≡ front named → parts ≡ bound_parts s u a mark.Arrow b → named_left denotes new ≡ named_left denotes old ++ named_behind denotes parts → named_then ≡ named_left denotes new
  named_product s a b u parts old new named named_then h e f p n = below_product s.term a b s.depth u old new named named_then h e f (parts_below parts (bound_parts s u a mark.Arrow b) old new p n)

  pub named_arrow : (s : Subterm) (a b u : ℕ) (parts old new : List Task) (named named_then : List Bool) → named ≡ named_left denotes old ++ named_last (denotes s.term) → denotes s.term ≡ product (denotes a) (denotes b) → named_then ≡ front named → parts ≡ arrow_parts s u a b → named_left denotes new ≡ named_left denotes old ++ named_behind denotes parts → named_then ≡ named_left denotes new
  named_arrow s a b u parts old new named named_then h e f p n = below_arrow s.term a b s.depth u old new named named_then h e f (parts_below parts (arrow_parts s u a b) old new p n)

  -- ---- weights

  pub application_less : (s : Subterm) (f a : ℕ) (parts old new : List Task) → denotes s.term ≡ apply (denotes f) (denotes a) → parts ≡ application_parts s f a → weights denotes new ≤ weights denotes old + weights denotes parts + 2 → weights denotes new < weights denotes old + weight denotes (task.Term s)
  application_less s f a parts old new e p n =
      let i : size (denotes s.term) ≡ size (denotes f) + size (denotes a) + 1 = ap size e in
      let w : weights denotes parts ≡ 8 * size (denotes f) + (8 * size (denotes a) + 0) = ap (weights denotes) p in
      omega arith

  pub bare_less : (s : Subterm) (b u : ℕ) (parts old new : List Task) → denotes s.term ≡ bare (denotes b) → parts ≡ bare_parts s u b → weights denotes new ≤ weights denotes old + weights denotes parts + 2 → weights denotes new < weights denotes old + weight denotes (task.Term s)
  bare_less s b u parts old new e p n =
      let i : size (denotes s.term) ≡ size (denotes b) + 1 = ap size e in
      let w : weights denotes parts ≡ 1 + (1 + (8 * size (denotes b) + 0)) = ap (weights denotes) p in
      omega arith

  bound_less : (s : Subterm) (a b u : ℕ) (m : Mark) (parts old new : List Task) → size (denotes s.term) ≡ size (denotes a) + size (denotes b) + 1 → parts ≡ bound_parts s u a m b → weights denotes new ≤ weights denotes old + weights denotes parts + 2 → weights denotes new < weights denotes old + weight denotes (task.Term s)
  bound_less s a b u m parts old new i p n =
      let w : weights denotes parts ≡ 1 + (1 + (8 * size (denotes a) + (1 + (8 * size (denotes b) + 0)))) = ap (weights denotes) p in
      omega arith

  pub annotated_less : (s : Subterm) (c b u : ℕ) (parts old new : List Task) → denotes s.term ≡ annotated (denotes c) (denotes b) → parts ≡ bound_parts s u c mark.DoubleArrow b → weights denotes new ≤ weights denotes old + weights denotes parts + 2 → weights denotes new < weights denotes old + weight denotes (task.Term s)
  annotated_less s c b u parts old new e p n = bound_less s c b u mark.DoubleArrow parts old new (ap size e) p n

  pub product_less : (s : Subterm) (a b u : ℕ) (parts old new : List Task) → denotes s.term ≡ product (denotes a) (denotes b) → parts ≡ bound_parts s u a mark.Arrow b → weights denotes new ≤ weights denotes old + weights denotes parts + 2 → weights denotes new < weights denotes old + weight denotes (task.Term s)
  product_less s a b u parts old new e p n = bound_less s a b u mark.Arrow parts old new (ap size e) p n

  pub arrow_less : (s : Subterm) (a b u : ℕ) (parts old new : List Task) → denotes s.term ≡ product (denotes a) (denotes b) → parts ≡ arrow_parts s u a b → weights denotes new ≤ weights denotes old + weights denotes parts + 2 → weights denotes new < weights denotes old + weight denotes (task.Term s)
  arrow_less s a b u parts old new e p n =
      let i : size (denotes s.term) ≡ size (denotes a) + size (denotes b) + 1 = ap size e in
      let w : weights denotes parts ≡ 8 * size (denotes a) + (1 + (8 * size (denotes b) + 0)) = ap (weights denotes) p in
      omega arith

module _ (denotes : ℕ → Tree) (words : ℕ → Word) (used : List Spelling) where
  -- one terminal is put, and the stack stays
  pub one_put : (old new : Text) (x : Terminal) (ts : List Task) → Puts old x new → text_with old ((x ∷ []) ++ left_of denotes words used ts) ≡ text_with new (left_of denotes words used ts)
  one_put old new x ts p = p (left_of denotes words used ts)

  word_spelled : (w : Word) (p : Place) → spelled.spelled p (written_word w) ≡ word_terminal w ∷ []
  word_spelled w p = by w.module_name
    where
      by : (m : Option Spelling) → spelled.spelled p (written_word (record { module_name = m; spelling = w.spelling })) ≡ word_terminal (record { module_name = m; spelling = w.spelling }) ∷ []
      by None = refl
      by (Some n) = refl

  pub word_turn : (old new : Text) (t : ℕ) (k d : ℕ) (p : Place) (ts : List Task) → denotes t ≡ symbol k → Puts old (word_terminal (words k)) new
      → text_with old (terminals denotes words used (task.Term (record { term = t; depth = d; place = p })) ++ left_of denotes words used ts) ≡ text_with new (left_of denotes words used ts)
  word_turn old new t k d p ts e put = ap (λ u. text_with old (spelled.spelled p (written_at words used d u) ++ left_of denotes words used ts)) e
      ∙ (ap (λ xs. text_with old (xs ++ left_of denotes words used ts)) (word_spelled (words k) p) ∙ put (left_of denotes words used ts))

  -- a term of one terminal
  pub leaf_turn : (old new : Text) (t : ℕ) (u : Tree) (x : Terminal) (d : ℕ) (p : Place) (ts : List Task) → denotes t ≡ u → spelled.spelled p (written_at words used d u) ≡ x ∷ [] → Puts old x new
      → text_with old (terminals denotes words used (task.Term (record { term = t; depth = d; place = p })) ++ left_of denotes words used ts) ≡ text_with new (left_of denotes words used ts)
  leaf_turn old new t u x d p ts e is put = ap (λ v. text_with old (spelled.spelled p (written_at words used d v) ++ left_of denotes words used ts)) e
      ∙ (ap (λ xs. text_with old (xs ++ left_of denotes words used ts)) is ∙ put (left_of denotes words used ts))

  -- tasks in the place of a term
  tasks_turn : (text : Text) (t : ℕ) (d : ℕ) (p : Place) (old new : List Task) (xs : List Terminal) → terminals denotes words used (task.Term (record { term = t; depth = d; place = p })) ≡ xs → left_of denotes words used new ≡ xs ++ left_of denotes words used old
      → text_with text (terminals denotes words used (task.Term (record { term = t; depth = d; place = p })) ++ left_of denotes words used old) ≡ text_with text (left_of denotes words used new)
  tasks_turn text t d p old new xs e n = ap (λ ys. text_with text (ys ++ left_of denotes words used old)) e ∙ flip (ap (text_with text) n)

  application_put : (text : Text) (t f a : ℕ) (d : ℕ) (p : Place) (old new : List Task) → denotes t ≡ apply (denotes f) (denotes a)
      → left_of denotes words used new ≡ bracketed_if (is_narrow p) (before denotes words used (task.Term (record { term = f; depth = d; place = place.Application }) ∷ task.Term (record { term = a; depth = d; place = place.Atom }) ∷ [])) ++ left_of denotes words used old
      → text_with text (terminals denotes words used (task.Term (record { term = t; depth = d; place = p })) ++ left_of denotes words used old) ≡ text_with text (left_of denotes words used new)
  application_put text t f a d p old new e n = tasks_turn text t d p old new _
      (ap (λ u. spelled.spelled p (written_at words used d u)) e
      ∙ (flip (narrow_is p _) ∙ ap (λ xs. bracketed_if (is_narrow p) (terminals denotes words used (task.Term (record { term = f; depth = d; place = place.Application })) ++ xs)) (flip (append_nothing (terminals denotes words used (task.Term (record { term = a; depth = d; place = place.Atom }))))))) n

  bare_put : (text : Text) (t b : ℕ) (d u : ℕ) (p : Place) (old new : List Task) → denotes t ≡ bare (denotes b) → u ≡ d + 1
      → left_of denotes words used new ≡ bracketed_if (is_wide p) (before denotes words used (task.Binder d ∷ task.Mark mark.DoubleArrow ∷ task.Term (record { term = b; depth = u; place = place.Term }) ∷ [])) ++ left_of denotes words used old
      → text_with text (terminals denotes words used (task.Term (record { term = t; depth = d; place = p })) ++ left_of denotes words used old) ≡ text_with text (left_of denotes words used new)
  bare_put text t b d u p old new e s n = tasks_turn text t d p old new _
      (ap (λ v. spelled.spelled p (written_at words used d v)) e
      ∙ (ap (λ k. spelled.wide p (terminal.Name (binder_name used d) ∷ terminal.Sign sign.DoubleArrow ∷ spelled.spelled place.Term (written_at words used k (denotes b)))) (flip s)
      ∙ (flip (wide_is p _) ∙ ap (λ xs. bracketed_if (is_wide p) (terminal.Name (binder_name used d) ∷ terminal.Sign sign.DoubleArrow ∷ xs)) (flip (append_nothing (terminals denotes words used (task.Term (record { term = b; depth = u; place = place.Term })))))))) n

  annotated_put : (text : Text) (t c b : ℕ) (d u : ℕ) (p : Place) (old new : List Task) → denotes t ≡ annotated (denotes c) (denotes b) → u ≡ d + 1
      → left_of denotes words used new ≡ bracketed_if (is_wide p) (before denotes words used (task.Binder d ∷ task.Mark mark.Colon ∷ task.Term (record { term = c; depth = d; place = place.Application }) ∷ task.Mark mark.DoubleArrow ∷ task.Term (record { term = b; depth = u; place = place.Term }) ∷ [])) ++ left_of denotes words used old
      → text_with text (terminals denotes words used (task.Term (record { term = t; depth = d; place = p })) ++ left_of denotes words used old) ≡ text_with text (left_of denotes words used new)
  annotated_put text t c b d u p old new e s n = tasks_turn text t d p old new _
      (ap (λ v. spelled.spelled p (written_at words used d v)) e
      ∙ (ap (λ k. spelled.wide p (terminal.Name (binder_name used d) ∷ terminal.Sign sign.Colon ∷ (terminals denotes words used (task.Term (record { term = c; depth = d; place = place.Application })) ++ terminal.Sign sign.DoubleArrow ∷ spelled.spelled place.Term (written_at words used k (denotes b))))) (flip s)
      ∙ (flip (wide_is p _) ∙ ap (λ xs. bracketed_if (is_wide p) (terminal.Name (binder_name used d) ∷ terminal.Sign sign.Colon ∷ (terminals denotes words used (task.Term (record { term = c; depth = d; place = place.Application })) ++ terminal.Sign sign.DoubleArrow ∷ xs))) (flip (append_nothing (terminals denotes words used (task.Term (record { term = b; depth = u; place = place.Term })))))))) n

  -- whether the codomain mentions the variable is the last one of those found
  bit_is : (t a b : ℕ) (ts : List Task) (named : List Bool) (bit : Bool) → denotes t ≡ product (denotes a) (denotes b) → named ≡ named_left denotes ts ++ named_last (denotes t) → bit ≡ last_one named → (c : Bool) → bit ≡ c → mentions 0 (denotes b) ≡ c
  bit_is t a b ts named bit e h l c i =
      flip (l ∙ (ap last_one (ends_with denotes t a b ts named e h) ∙ last_of (named_left denotes ts ++ (named_last (denotes b) ++ named_last (denotes a))) (mentions 0 (denotes b)))) ∙ i

  named_spelled : (a b : Tree) (d : ℕ) (p : Place) → mentions 0 b ≡ true
      → spelled.spelled p (written_at words used d (product a b)) ≡ spelled.wide p (terminal.Name (binder_name used d) ∷ terminal.Sign sign.Colon ∷ (spelled.spelled place.Application (written_at words used d a) ++ terminal.Sign sign.Arrow ∷ spelled.spelled place.Term (written_at words used (d + 1) b)))
  named_spelled a b d p m = ap (λ c. spelled.spelled p (if c then written_product (Some (binder_name used d)) (written_at words used d a) (written_at words used (d + 1) b) else written_arrow (written_at words used d a) (written_at words used (d + 1) b))) m

  plain_spelled : (a b : Tree) (d : ℕ) (p : Place) → mentions 0 b ≡ false
      → spelled.spelled p (written_at words used d (product a b)) ≡ spelled.wide p (spelled.spelled place.Application (written_at words used d a) ++ terminal.Sign sign.Arrow ∷ spelled.spelled place.Term (written_at words used (d + 1) b))
  plain_spelled a b d p m = ap (λ c. spelled.spelled p (if c then written_product (Some (binder_name used d)) (written_at words used d a) (written_at words used (d + 1) b) else written_arrow (written_at words used d a) (written_at words used (d + 1) b))) m

  product_put : (text : Text) (t a b : ℕ) (d u : ℕ) (p : Place) (old new : List Task) (named : List Bool) (bit : Bool) → denotes t ≡ product (denotes a) (denotes b) → u ≡ d + 1 → named ≡ named_left denotes old ++ named_last (denotes t) → bit ≡ last_one named → bit ≡ true
      → left_of denotes words used new ≡ bracketed_if (is_wide p) (before denotes words used (task.Binder d ∷ task.Mark mark.Colon ∷ task.Term (record { term = a; depth = d; place = place.Application }) ∷ task.Mark mark.Arrow ∷ task.Term (record { term = b; depth = u; place = place.Term }) ∷ [])) ++ left_of denotes words used old
      → text_with text (terminals denotes words used (task.Term (record { term = t; depth = d; place = p })) ++ left_of denotes words used old) ≡ text_with text (left_of denotes words used new)
  product_put text t a b d u p old new named bit e s h l c n = tasks_turn text t d p old new _
      (ap (λ v. spelled.spelled p (written_at words used d v)) e
      ∙ (named_spelled (denotes a) (denotes b) d p (bit_is t a b old named bit e h l true c)
      ∙ (ap (λ k. spelled.wide p (terminal.Name (binder_name used d) ∷ terminal.Sign sign.Colon ∷ (terminals denotes words used (task.Term (record { term = a; depth = d; place = place.Application })) ++ terminal.Sign sign.Arrow ∷ spelled.spelled place.Term (written_at words used k (denotes b))))) (flip s)
      ∙ (flip (wide_is p _) ∙ ap (λ xs. bracketed_if (is_wide p) (terminal.Name (binder_name used d) ∷ terminal.Sign sign.Colon ∷ (terminals denotes words used (task.Term (record { term = a; depth = d; place = place.Application })) ++ terminal.Sign sign.Arrow ∷ xs))) (flip (append_nothing (terminals denotes words used (task.Term (record { term = b; depth = u; place = place.Term }))))))))) n

  arrow_put : (text : Text) (t a b : ℕ) (d u : ℕ) (p : Place) (old new : List Task) (named : List Bool) (bit : Bool) → denotes t ≡ product (denotes a) (denotes b) → u ≡ d + 1 → named ≡ named_left denotes old ++ named_last (denotes t) → bit ≡ last_one named → bit ≡ false
      → left_of denotes words used new ≡ bracketed_if (is_wide p) (before denotes words used (task.Term (record { term = a; depth = d; place = place.Application }) ∷ task.Mark mark.Arrow ∷ task.Term (record { term = b; depth = u; place = place.Term }) ∷ [])) ++ left_of denotes words used old
      → text_with text (terminals denotes words used (task.Term (record { term = t; depth = d; place = p })) ++ left_of denotes words used old) ≡ text_with text (left_of denotes words used new)
  arrow_put text t a b d u p old new named bit e s h l c n = tasks_turn text t d p old new _
      (ap (λ v. spelled.spelled p (written_at words used d v)) e
      ∙ (plain_spelled (denotes a) (denotes b) d p (bit_is t a b old named bit e h l false c)
      ∙ (ap (λ k. spelled.wide p (terminals denotes words used (task.Term (record { term = a; depth = d; place = place.Application })) ++ terminal.Sign sign.Arrow ∷ spelled.spelled place.Term (written_at words used k (denotes b)))) (flip s)
      ∙ (flip (wide_is p _) ∙ ap (λ xs. bracketed_if (is_wide p) (terminals denotes words used (task.Term (record { term = a; depth = d; place = place.Application })) ++ terminal.Sign sign.Arrow ∷ xs)) (flip (append_nothing (terminals denotes words used (task.Term (record { term = b; depth = u; place = place.Term }))))))))) n

  -- parts that were put, in brackets or not
  parts_put : (k l : Bool) (parts next old new : List Task) → k ≡ l → parts ≡ next → left_of denotes words used new ≡ bracketed_if k (before denotes words used parts) ++ left_of denotes words used old
      → left_of denotes words used new ≡ bracketed_if l (before denotes words used next) ++ left_of denotes words used old
  parts_put k l parts next old new e p n = n ∙ (ap (λ c. bracketed_if c (before denotes words used parts) ++ left_of denotes words used old) e ∙ ap (λ ts. bracketed_if l (before denotes words used ts) ++ left_of denotes words used old) p)

  pub application_turn : (text : Text) (s : Subterm) (f a : ℕ) (k : Bool) (parts old new : List Task) → denotes s.term ≡ apply (denotes f) (denotes a) → k ≡ is_narrow s.place → parts ≡ application_parts s f a → left_of denotes words used new ≡ bracketed_if k (before denotes words used parts) ++ left_of denotes words used old → text_with text (terminals denotes words used (task.Term s) ++ left_of denotes words used old) ≡ text_with text (left_of denotes words used new)
  application_turn text s f a k parts old new e i p n = application_put text s.term f a s.depth s.place old new e (parts_put k (is_narrow s.place) parts (application_parts s f a) old new i p n)

  pub bare_turn : (text : Text) (s : Subterm) (b u : ℕ) (k : Bool) (parts old new : List Task) → denotes s.term ≡ bare (denotes b) → u ≡ s.depth + 1 → k ≡ is_wide s.place → parts ≡ bare_parts s u b → left_of denotes words used new ≡ bracketed_if k (before denotes words used parts) ++ left_of denotes words used old → text_with text (terminals denotes words used (task.Term s) ++ left_of denotes words used old) ≡ text_with text (left_of denotes words used new)
  bare_turn text s b u k parts old new e d i p n = bare_put text s.term b s.depth u s.place old new e d (parts_put k (is_wide s.place) parts (bare_parts s u b) old new i p n)

  pub annotated_turn : (text : Text) (s : Subterm) (c b u : ℕ) (k : Bool) (parts old new : List Task) → denotes s.term ≡ annotated (denotes c) (denotes b) → u ≡ s.depth + 1 → k ≡ is_wide s.place → parts ≡ bound_parts s u c mark.DoubleArrow b → left_of denotes words used new ≡ bracketed_if k (before denotes words used parts) ++ left_of denotes words used old → text_with text (terminals denotes words used (task.Term s) ++ left_of denotes words used old) ≡ text_with text (left_of denotes words used new)
  annotated_turn text s c b u k parts old new e d i p n = annotated_put text s.term c b s.depth u s.place old new e d (parts_put k (is_wide s.place) parts (bound_parts s u c mark.DoubleArrow b) old new i p n)

  pub product_turn : (text : Text) (s : Subterm) (a b u : ℕ) (k : Bool) (parts old new : List Task) (named : List Bool) (bit : Bool) → denotes s.term ≡ product (denotes a) (denotes b) → u ≡ s.depth + 1 → named ≡ named_left denotes old ++ named_last (denotes s.term) → bit ≡ last_one named → bit ≡ true
      → k ≡ is_wide s.place → parts ≡ bound_parts s u a mark.Arrow b → left_of denotes words used new ≡ bracketed_if k (before denotes words used parts) ++ left_of denotes words used old → text_with text (terminals denotes words used (task.Term s) ++ left_of denotes words used old) ≡ text_with text (left_of denotes words used new)
  product_turn text s a b u k parts old new named bit e d h l c i p n = product_put text s.term a b s.depth u s.place old new named bit e d h l c (parts_put k (is_wide s.place) parts (bound_parts s u a mark.Arrow b) old new i p n)

  pub arrow_turn : (text : Text) (s : Subterm) (a b u : ℕ) (k : Bool) (parts old new : List Task) (named : List Bool) (bit : Bool) → denotes s.term ≡ product (denotes a) (denotes b) → u ≡ s.depth + 1 → named ≡ named_left denotes old ++ named_last (denotes s.term) → bit ≡ last_one named → bit ≡ false
      → k ≡ is_wide s.place → parts ≡ arrow_parts s u a b → left_of denotes words used new ≡ bracketed_if k (before denotes words used parts) ++ left_of denotes words used old → text_with text (terminals denotes words used (task.Term s) ++ left_of denotes words used old) ≡ text_with text (left_of denotes words used new)
  arrow_turn text s a b u k parts old new named bit e d h l c i p n = arrow_put text s.term a b s.depth u s.place old new named bit e d h l c (parts_put k (is_wide s.place) parts (arrow_parts s u a b) old new i p n)

  -- the task on top is taken
  pub popped : (old new : List Task) (t : Task) → old ≡ new ++ t ∷ [] → left_of denotes words used old ≡ terminals denotes words used t ++ left_of denotes words used new
  popped old new t e = ap (left_of denotes words used) e ∙ pushed denotes words used new t

pub begins : (denotes : ℕ → Tree) (words : ℕ → Word) (used : List Spelling) (whole : ℕ) (text : Text) (tasks : List Task) → SameSpellings used (spellings words (denotes whole)) → text.bytes.items ≡ [] → text.joined ≡ true
    → tasks ≡ [] ++ task.Term (record { term = whole; depth = 0; place = place.Term }) ∷ [] → printed words (denotes whole) ≡ text_with text (left_of denotes words used tasks)
begins denotes words used whole text tasks u b j e =
    ap (λ w. text_of (spelled.spelled place.Term w)) (flip (written_same words used (spellings words (denotes whole)) u 0 (denotes whole)))
    ∙ (ap (λ bs. bs ++ text_behind true (spelled.spelled place.Term (written_at words used 0 (denotes whole)))) (flip b)
    ∙ (ap (λ c. text.bytes.items ++ text_behind c (spelled.spelled place.Term (written_at words used 0 (denotes whole)))) (flip j)
    ∙ ap (λ ts. text_with text (left_of denotes words used ts)) (flip e)))

pub ends : (text : Text) (p : List ℕ) → p ≡ text_with text [] → p ≡ text.bytes.items
ends text p e = e ∙ append_nothing text.bytes.items
