-- Putting a terminal.
use Rattle.std.specs.Prelude.{codes}
use Rattle.std.proofs.Common.{List, [], ◌∷◌, ◌++◌, ℕ, ◌≡◌, Bool, true, false, ◌||◌, refl, ap, sym as flip, ◌∙◌, if◌then◌else◌, append_assoc}
use Rattle.dk_lexer.specs.declared.token.Sign.TheVariants as sign
use Rattle.dk_terms.specs.declared.terminal.Terminal.{Terminal}
use Rattle.dk_terms.specs.declared.terminal.Terminal.TheVariants as terminal
use Rattle.term_print.specs.Text.{sign_text, terminal_text, opens, closes, text_behind}
use Rattle.term_print.specs.declared.text.Mark.{Mark}
use Rattle.term_print.specs.declared.text.Mark.TheVariants as mark
use Rattle.term_print.specs.declared.text.Text.{Text}
use Rattle.term_print.specs.Tasks.{Puts, mark_sign}

or_false : (b : Bool) → (b || false) ≡ b
or_false true = refl
or_false false = refl

or_true : (b : Bool) → (b || true) ≡ true
or_true true = refl
or_true false = refl

-- a terminal that closes nothing
put : (old new : Text) (x : Terminal) (text : List ℕ) (o : Bool) → closes x ≡ false → opens x ≡ o → terminal_text x ≡ text → new.bytes.items ≡ (old.bytes.items ++ (if old.joined then [] else (32 ∷ []))) ++ text → new.joined ≡ o → Puts old x new
put old new x text o c p t e j rest =
    ap (λ b. old.bytes.items ++ ((if b then [] else (32 ∷ [])) ++ (terminal_text x ++ text_behind (opens x) rest))) (ap (λ b. old.joined || b) c ∙ or_false old.joined)
    ∙ (ap (λ w. old.bytes.items ++ ((if old.joined then [] else (32 ∷ [])) ++ (w ++ text_behind (opens x) rest))) t
    ∙ (ap (λ b. old.bytes.items ++ ((if old.joined then [] else (32 ∷ [])) ++ (text ++ text_behind b rest))) (p ∙ flip j)
    ∙ (flip (append_assoc old.bytes.items (if old.joined then [] else (32 ∷ [])) (text ++ text_behind new.joined rest))
    ∙ (flip (append_assoc (old.bytes.items ++ (if old.joined then [] else (32 ∷ []))) text (text_behind new.joined rest))
    ∙ ap (λ bs. bs ++ text_behind new.joined rest) (flip e)))))

pub name_put : (old new : Text) (name mid : List ℕ) → mid ≡ old.bytes.items ++ (if old.joined then [] else (32 ∷ [])) → new.bytes.items ≡ mid ++ name → new.joined ≡ false → Puts old (terminal.Name name) new
name_put old new name mid m e j = put old new (terminal.Name name) name false refl refl refl (e ∙ ap (λ b. b ++ name) m) j

pub qualified_put : (old new : Text) (module_name name mid next dotted : List ℕ) → mid ≡ old.bytes.items ++ (if old.joined then [] else (32 ∷ [])) → next ≡ mid ++ module_name → dotted ≡ next ++ 46 ∷ [] → new.bytes.items ≡ dotted ++ name → new.joined ≡ false
    → Puts old (terminal.Qualified module_name name) new
qualified_put old new module_name name mid next dotted m n d e j =
    put old new (terminal.Qualified module_name name) (module_name ++ 46 ∷ name) false refl refl refl
    (e ∙ (ap (λ b. b ++ name) (d ∙ ap (λ b. b ++ 46 ∷ []) (n ∙ ap (λ b. b ++ module_name) m)) ∙ joined_up (old.bytes.items ++ (if old.joined then [] else (32 ∷ []))))) j
  where
    joined_up : (xs : List ℕ) → ((xs ++ module_name) ++ 46 ∷ []) ++ name ≡ xs ++ (module_name ++ 46 ∷ name)
    joined_up xs = append_assoc (xs ++ module_name) (46 ∷ []) name ∙ append_assoc xs module_name (46 ∷ name)

pub star_put : (old new : Text) (mid : List ℕ) → mid ≡ old.bytes.items ++ (if old.joined then [] else (32 ∷ [])) → new.bytes.items ≡ mid ++ codes "Type" → new.joined ≡ false → Puts old terminal.Star new
star_put old new mid m e j = put old new terminal.Star (codes "Type") false refl refl refl (e ∙ ap (λ b. b ++ codes "Type") m) j

pub wildcard_put : (old new : Text) (mid : List ℕ) → mid ≡ old.bytes.items ++ (if old.joined then [] else (32 ∷ [])) → new.bytes.items ≡ mid ++ 95 ∷ [] → new.joined ≡ false → Puts old terminal.Wildcard new
wildcard_put old new mid m e j = put old new terminal.Wildcard (95 ∷ []) false refl refl refl (e ∙ ap (λ b. b ++ 95 ∷ []) m) j

pub open_put : (old new : Text) (mid : List ℕ) → mid ≡ old.bytes.items ++ (if old.joined then [] else (32 ∷ [])) → new.bytes.items ≡ mid ++ 40 ∷ [] → new.joined ≡ true → Puts old (terminal.Sign sign.OpenBracket) new
open_put old new mid m e j = put old new (terminal.Sign sign.OpenBracket) (40 ∷ []) true refl refl refl (e ∙ ap (λ b. b ++ 40 ∷ []) m) j

pub mark_put : (old new : Text) (m : Mark) (text mid : List ℕ) → text ≡ sign_text (mark_sign m) → mid ≡ old.bytes.items ++ (if old.joined then [] else (32 ∷ [])) → new.bytes.items ≡ mid ++ text → new.joined ≡ false → Puts old (terminal.Sign (mark_sign m)) new
mark_put old new m text mid t i e j = put old new (terminal.Sign (mark_sign m)) text false (closes_not m) (opens_not m) (flip t) (e ∙ ap (λ b. b ++ text) i) j
  where
    closes_not : (m : Mark) → closes (terminal.Sign (mark_sign m)) ≡ false
    closes_not mark.Colon = refl
    closes_not mark.Arrow = refl
    closes_not mark.DoubleArrow = refl

    opens_not : (m : Mark) → opens (terminal.Sign (mark_sign m)) ≡ false
    opens_not mark.Colon = refl
    opens_not mark.Arrow = refl
    opens_not mark.DoubleArrow = refl

pub close_put : (old new : Text) → new.bytes.items ≡ old.bytes.items ++ 41 ∷ [] → new.joined ≡ false → Puts old (terminal.Sign sign.CloseBracket) new
close_put old new e j rest =
    ap (λ b. old.bytes.items ++ ((if b then [] else (32 ∷ [])) ++ (41 ∷ text_behind false rest))) (or_true old.joined)
    ∙ (ap (λ b. old.bytes.items ++ (41 ∷ text_behind b rest)) (flip j)
    ∙ (flip (append_assoc old.bytes.items (41 ∷ []) (text_behind new.joined rest)) ∙ ap (λ bs. bs ++ text_behind new.joined rest) (flip e)))
