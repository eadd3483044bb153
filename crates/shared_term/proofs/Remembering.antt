-- What is remembered stays right as the pool grows, and with a result more.
use Rattle.std.proofs.Common.{◌≡◌, ℕ, ◌<◌, ◌≤◌, List, [], ◌∷◌, length, map, Option, Some, None, refl, ap, sym, subst, ◌∙◌, ◌⊎◌, inl, inr, arith}
use Rattle.dk_model.specs.Trees.{Tree}
use Rattle.dk_model.specs.Substitution.{substitute}
use Rattle.dk_model.specs.Captures.{filled}
use Rattle.shared_term.specs.declared.id.TermId.{TermId}
use Rattle.shared_term.specs.declared.change.Change.{Change}
use Rattle.shared_term.specs.declared.change.Change.TheVariants.{Shift, Substitute, SubstituteAll, Erase, Fill, Rename, Raise}
use Rattle.shared_term.specs.declared.change.Goal.{Goal}
use Rattle.shared_term.specs.declared.change.Given.{Given}
use Rattle.shared_term.specs.declared.memo.Done.{Done}
use Rattle.shared_term.specs.declared.memo.Memo.{Memo}
use Rattle.shared_term.specs.Pools.{Node, term, Extends}
use Rattle.shared_term.specs.Changes.{AreCaptures, captured_terms, AreTerms, substitute_all, changed, wanted, IsKnown, IsLasting, IsAsked}
use Rattle.shared_term.specs.Memos.{Remembers, IsBlank, Is, IsDone, AreDone, AreLasting}

captures_grown : (old new : List Node) (cs : List (Option TermId)) → Extends old new → AreCaptures (length old) cs → captured_terms new cs ≡ captured_terms old cs
captures_grown old new [] e h = refl
captures_grown old new (None ∷ cs) e h = ap (λ (xs : List (Option Tree)). None ∷ xs) (captures_grown old new cs e h)
captures_grown old new (Some x ∷ cs) e h = λ i. Some (e.keeps x.0 h.0 i) ∷ captures_grown old new cs e h.1 i

captures_known : (m n : ℕ) (cs : List (Option TermId)) → m ≤ n → AreCaptures m cs → AreCaptures n cs
captures_known m n [] l h = tt
captures_known m n (None ∷ cs) l h = captures_known m n cs l h
captures_known m n (Some x ∷ cs) l h = (omega (arith, h.0), captures_known m n cs l h.1)

terms_known : (m n : ℕ) (us : List TermId) → m ≤ n → AreTerms m us → AreTerms n us
terms_known m n [] l h = tt
terms_known m n (u ∷ us) l h = (omega (arith, h.0), terms_known m n us l h.1)

terms_grown : (old new : List Node) (us : List TermId) → Extends old new → AreTerms (length old) us → map (term new) us ≡ map (term old) us
terms_grown old new [] e h = refl
terms_grown old new (u ∷ us) e h = λ i. e.keeps u.0 h.0 i ∷ terms_grown old new us e h.1 i

pub known_grown : (m n : ℕ) (g : Given) (c : Change) → m ≤ n → IsKnown m g c → IsKnown n g c
known_grown m n g (Shift by) l h = tt
known_grown m n g (Substitute u) l h = omega (arith, h)
known_grown m n g SubstituteAll l h = terms_known m n g.terms.now l h
known_grown m n g Erase l h = tt
known_grown m n g Fill l h = captures_known m n g.captures.now l h
known_grown m n g Rename l h = tt
known_grown m n g Raise l h = tt

pub asked_grown : (old new : List Node) (g : Given) (goal : Goal) → Extends old new → IsAsked (length old) g goal → IsAsked (length new) g goal
asked_grown old new g goal e h = (omega (arith, e.longer, h.0), known_grown (length old) (length new) g goal.change e.longer h.1)

pub changed_grown : (old new : List Node) (g : Given) (c : Change) (d : ℕ) (t : Tree) → Extends old new → IsKnown (length old) g c → changed new g c d t ≡ changed old g c d t
changed_grown old new g (Shift by) d t e h = refl
changed_grown old new g (Substitute u) d t e h = ap (λ x. substitute d x t) (e.keeps u.0 h)
changed_grown old new g SubstituteAll d t e h = ap (λ us. substitute_all d us t) (terms_grown old new g.terms.now e h)
changed_grown old new g Erase d t e h = refl
changed_grown old new g Fill d t e h = ap (λ cs. filled cs d t) (captures_grown old new g.captures.now e h)
changed_grown old new g Rename d t e h = refl
changed_grown old new g Raise d t e h = refl

-- a goal asks for what it did
pub wanted_grown : (old new : List Node) (g : Given) (goal : Goal) → Extends old new → IsAsked (length old) g goal → wanted new g goal ≡ wanted old g goal
wanted_grown old new g goal e h =
    changed_grown old new g goal.change goal.depth (term new goal.id) e h.1 ∙ ap (changed old g goal.change goal.depth) (e.keeps goal.id.0 h.0)

done_grown : (old new : List Node) (g : Given) (d : Done) → Extends old new → IsDone old g d → IsDone new g d
done_grown old new g d e h = record {
  asked = asked_grown old new g d.goal e h.asked;
  gives = omega (arith, e.longer, h.gives);
  is = e.keeps d.result.0 h.gives ∙ h.is ∙ sym (wanted_grown old new g d.goal e h.asked);
}

pub passing_grown : (old new : List Node) (g : Given) (m : Memo) → Extends old new → AreDone old g m → AreDone new g m
passing_grown old new g m e h = record { each = λ d r. done_grown old new g d e (h.each d r) }

pub lasting_grown : (old new : List Node) (m : Memo) → Extends old new → AreLasting old m → AreLasting new m
lasting_grown old new m e h = record { lasts = h.lasts; each = λ d r g. done_grown old new g d e (h.each d r g) }

pub passing_blank : (ns : List Node) (g : Given) (m : Memo) → IsBlank m → AreDone ns g m
passing_blank ns g m h = record { each = λ d r. absurd (h d r) }

pub lasting_blank : (ns : List Node) (m : Memo) → IsBlank m → AreLasting ns m
lasting_blank ns m h = record { lasts = λ d r. absurd (h d r); each = λ d r g. absurd (h d r) }

pub passing_put : (ns : List Node) (g : Given) (old new : Memo) (done : Done) → AreDone ns g old → IsDone ns g done
    → ((d : Done) → Remembers new d → (d ≡ done) ⊎ Remembers old d) → AreDone ns g new
passing_put ns g old new done h s put = record {
  each = λ d r. elim (put d r) [ inl e ↦ subst (IsDone ns g) (sym e) s | inr k ↦ h.each d k ];
}

lasting_changed : (ns : List Node) (g h : Given) (c : Change) (d : ℕ) (t : Tree) → IsLasting c → changed ns g c d t ≡ changed ns h c d t
lasting_changed ns g h (Shift by) d t l = refl
lasting_changed ns g h (Substitute u) d t l = refl
lasting_changed ns g h SubstituteAll d t l = absurd l
lasting_changed ns g h Erase d t l = refl
lasting_changed ns g h Fill d t l = absurd l
lasting_changed ns g h Rename d t l = absurd l
lasting_changed ns g h Raise d t l = absurd l

lasting_known : (n : ℕ) (g h : Given) (c : Change) → IsLasting c → IsKnown n g c → IsKnown n h c
lasting_known n g h (Shift by) l k = tt
lasting_known n g h (Substitute u) l k = k
lasting_known n g h SubstituteAll l k = absurd l
lasting_known n g h Erase l k = tt
lasting_known n g h Fill l k = absurd l
lasting_known n g h Rename l k = absurd l
lasting_known n g h Raise l k = absurd l

-- the result of a lasting change is right whatever is looked up
lasting_done : (ns : List Node) (g h : Given) (d : Done) → IsLasting d.goal.change → IsDone ns g d → IsDone ns h d
lasting_done ns g h d l s = record {
  asked = (s.asked.0, lasting_known (length ns) g h d.goal.change l s.asked.1);
  gives = s.gives;
  is = s.is ∙ lasting_changed ns g h d.goal.change d.goal.depth (term ns d.goal.id) l;
}

pub lasting_put : (ns : List Node) (g : Given) (old new : Memo) (done : Done) → AreLasting ns old → IsDone ns g done
    → ((d : Done) → Remembers new d → ((d ≡ done) × IsLasting done.goal.change) ⊎ Remembers old d) → AreLasting ns new
lasting_put ns g old new done h s put = record {
  lasts = λ d r. elim (put d r) [ inl e ↦ subst (λ (x : Done). IsLasting x.goal.change) (sym e.0) e.1 | inr k ↦ h.lasts d k ];
  each = λ d r f. elim (put d r) [ inl e ↦ subst (IsDone ns f) (sym e.0) (lasting_done ns g f done e.1 s) | inr k ↦ h.each d k f ];
}

-- what is found is what was asked for
pub found_done : (ns : List Node) (g : Given) (lasting passing : Memo) (goal : Goal) (r : TermId) → AreLasting ns lasting → AreDone ns g passing
    → Remembers lasting (Is goal r) ⊎ Remembers passing (Is goal r) → (r.0 < length ns) × (term ns r ≡ wanted ns g goal)
found_done ns g lasting passing goal r h k (inl m) = let d = h.each (Is goal r) m g in (d.gives, d.is)
found_done ns g lasting passing goal r h k (inr m) = let d = k.each (Is goal r) m in (d.gives, d.is)
