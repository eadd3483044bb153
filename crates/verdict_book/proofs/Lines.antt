-- The lines of a report, one after another.
use Rattle.std.proofs.Common.{◌≡◌, ◌<◌, ◌+◌, ℕ, Bool, List, [], ◌++◌, length, get_or, take, drop, sym, ap, subst, ◌∙◌}
use Rattle.std.proofs.lemmas.List.{append-nil, append_assoc}
use Rattle.std.specs.Prelude.{Option, Err, codes, decimal}
use Rattle.dk_io.specs.Gathered.{Gathers, Moves}
use Rattle.dk_io.proofs.Gather.{gathers_stop, gathers_then}
use Rattle.verdict_book.specs.Report.{PlainShown, in_book, last_line, line_of, lines_of, stop_text}
use Rattle.verdict_book.specs.Titles.{lines_in, shown_by, shown_in}
use Rattle.verdict_book.specs.Places.{titled}
use Rattle.verdict_book.specs.declared.title.Spot.{Spot}
use Rattle.verdict_book.specs.declared.outcome.Outcome.{Outcome}
use Rattle.verdict_book.specs.declared.outcome.Outcome.TheVariants.{Stopped, Unread}
use Rattle.board_core.specs.declared.event.Place.{Place}
use Rattle.dk_model.specs.declared.code.Verdict.{Verdict}
use Rattle.verdict_book.proofs.Naming.{titled_next}

-- what the title of this spot shows, whose text and module are these
abbrev pub spot_shown : Spot → List ℕ → List ℕ → PlainShown
spot_shown s text home = shown_in home (shown_by s.kind text)

-- the next line, in front of what is left of the text
pub lines_next : (modules : List (List ℕ)) (quiet : Bool) (done whole : List ℕ) (n i : ℕ) (texts text behind home : List ℕ) (ps : List Spot) (d : Spot) → i < length ps → text ≡ take (get_or ps i d).length texts
    → behind ≡ drop (get_or ps i d).length texts → home ≡ get_or modules (get_or ps i d).module_at [] → n ≡ i + 1
    → whole ≡ done ++ lines_of quiet (i + 1) (lines_in (titled modules texts (drop i ps)))
    → whole ≡ (done ++ line_of quiet n (spot_shown (get_or ps i d) text home)) ++ lines_of quiet (i + 1 + 1) (lines_in (titled modules behind (drop (i + 1) ps)))
lines_next modules quiet done whole n i texts text behind home ps d lt text_is behind_is home_is number before =
    before
    ∙ ap (λ ts. done ++ lines_of quiet (i + 1) (lines_in ts)) (titled_next modules texts ps i d lt)
    ∙ ap (λ x. done ++ (line_of quiet (i + 1) (spot_shown s x (get_or modules s.module_at [])) ++ rest (drop s.length texts))) (sym text_is)
    ∙ ap (λ x. done ++ (line_of quiet (i + 1) (spot_shown s text x) ++ rest (drop s.length texts))) (sym home_is)
    ∙ ap (λ x. done ++ (line_of quiet (i + 1) (spot_shown s text home) ++ rest x)) (sym behind_is)
    ∙ ap (λ m. done ++ (line_of quiet m (spot_shown s text home) ++ rest behind)) (sym number)
    ∙ sym (append_assoc done (line_of quiet n (spot_shown s text home)) (rest behind))
  where
    s : Spot
    s = get_or ps i d

    rest : List ℕ → List ℕ
    rest texts = lines_of quiet (i + 1 + 1) (lines_in (titled modules texts (drop (i + 1) ps)))

-- a line that is cut short
pub lines_cut : {E : Type 0} {e : E} {a b c : Option (List ℕ)} {w x y : List ℕ} (done line rest whole : List ℕ) → Moves a w b x done → Gathers {E = E} b x c y line (Err e) → whole ≡ (done ++ line) ++ rest → Gathers a w c y whole (Err e)
lines_cut {E = E} {e = e} {a = a} {c = c} {w = w} {y = y} done line rest whole before cut is =
    subst (λ (t : List ℕ). Gathers {E = E} a w c y t (Err e)) (sym is) (gathers_stop rest (gathers_then (record { whole = before; front = tt }) cut))

-- the last line in its two parts
pub stop_is : (o : Outcome) (n l : ℕ) (p : Place) (v : Verdict) (home : List ℕ) (budget : ℕ) (folder : List ℕ) → o ≡ Stopped n p v → l ≡ p.line → home ≡ p.«module»
    → stop_text n l v budget ++ (in_book folder home ++ codes "\n") ≡ last_line o budget folder
stop_is o n l p v home budget folder is line_is home_is =
    ap (λ k. stop_text n k v budget ++ (in_book folder home ++ codes "\n")) line_is
    ∙ ap (λ m. stop_text n p.line v budget ++ (in_book folder m ++ codes "\n")) home_is
    ∙ ap (λ x. last_line x budget folder) (sym is)

pub unread_is : (o : Outcome) (n : ℕ) (p : Place) (home : List ℕ) (budget : ℕ) (folder : List ℕ) → o ≡ Unread n p → home ≡ p.«module»
    → (codes "unread " ++ (decimal n ++ [])) ++ (in_book folder home ++ codes "\n") ≡ last_line o budget folder
unread_is o n p home budget folder is home_is =
    ap (λ number. (codes "unread " ++ number) ++ (in_book folder home ++ codes "\n")) (append-nil (decimal n))
    ∙ ap (λ m. (codes "unread " ++ decimal n) ++ (in_book folder m ++ codes "\n")) home_is
    ∙ ap (λ x. last_line x budget folder) (sym is)
