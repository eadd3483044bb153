-- Results that are due, want of memory aside.
use Rattle.std.specs.Prelude.{map, Result, Ok, Err, IfOk}
use Rattle.std.proofs.Common.{inl, inr, List, [], ◌∷◌, ◌++◌, ℕ, ◌≡◌, ◌≤◌, ◌+◌, ◌-◌, refl, ap, sym as flip, subst as along_path, ◌∙◌, arith}
use Rattle.split_parts.specs.Parts.{combined, combined_behind, units_by, units_of}
use Rattle.split_parts.specs.declared.part.PartOut.{PartOut}
use Rattle.split_parts.specs.declared.part.PartOut.TheVariants.{Fine, Refused, Ended, Memory}
use Rattle.split_parts.specs.declared.part.PartResult.{PartResult}
use Rattle.split_parts.proofs.Combining.{behind_over, behind_fine, behind_ended, behind_fault, behind_nothing}
use Rattle.dk_model.proofs.CountedTyping.{below_or_from}
use Rattle.split_check.specs.Due.{IsDue, AreDue}

pub due_none : AreDue [] []
due_none = tt

pub due_one : (d r : PartResult) → IsDue d r → AreDue (d ∷ []) (r ∷ [])
due_one d r h = (h, tt)

due_append : (ds es rs ss : List PartResult) → AreDue ds rs → AreDue es ss → AreDue (ds ++ es) (rs ++ ss)
due_append [] es [] ss h k = k
due_append [] es (r ∷ rs) ss h k = absurd h
due_append (d ∷ ds) es [] ss h k = absurd h
due_append (d ∷ ds) es (r ∷ rs) ss h k = (h.0, due_append ds es rs ss h.1 k)

map_append : {A : Type 0} (f : A → PartResult) (xs ys : List A) → map f (xs ++ ys) ≡ map f xs ++ map f ys
map_append f [] ys = refl
map_append f (x ∷ xs) ys = ap (λ z. f x ∷ z) (map_append f xs ys)

pub due_both : (ds es rs ss all : List PartResult) → AreDue ds rs → AreDue es ss → all ≡ rs ++ ss → AreDue (ds ++ es) all
due_both ds es rs ss all h k a = along_path (AreDue (ds ++ es)) (flip a) (due_append ds es rs ss h k)

-- of both halves, of the whole
pub due_whole : {A E V : Type 0} (items : V → List PartResult) (f : A → PartResult) (whole front back : List A) (o : Result V E) → whole ≡ front ++ back
    → IfOk o (λ v. AreDue (map f front ++ map f back) (items v)) → IfOk o (λ v. AreDue (map f whole) (items v))
due_whole items f whole front back (Err e) w h = tt
due_whole items f whole front back (Ok v) w h = along_path (λ z. AreDue (map f z) (items v)) (flip w) (along_path (λ z. AreDue z (items v)) (flip (map_append f front back)) h)

-- behind one result, which is neither fine nor ended, nothing counts
same_fault : (u T : ℕ) (d : PartResult) (ds rs : List PartResult) → ¬ (d.out ≡ Fine) → ¬ (d.out ≡ Ended) → u + units_of d ≤ T → combined_behind u (d ∷ rs) T ≡ combined_behind u (d ∷ ds) T
same_fault u T d ds rs f e l = behind_fault u T d rs f e l ∙ flip (behind_fault u T d ds f e l)

-- the same result first, and those behind it are due
same_first : (u T : ℕ) (d : PartResult) (ds rs : List PartResult) → u ≤ T → ((v : ℕ) → v ≤ T → IsDue (combined_behind v ds T) (combined_behind v rs T))
    → IsDue (combined_behind u (d ∷ ds) T) (combined_behind u (d ∷ rs) T)
same_first u T d ds rs l later = below_or_from (T - u) (units_of d) (IsDue (combined_behind u (d ∷ ds) T) (combined_behind u (d ∷ rs) T))
    (λ few. inl (behind_over u T d rs l few ∙ flip (behind_over u T d ds l few)))
    (λ enough. by d.out refl enough)
  where
    by : (o : PartOut) → d.out ≡ o → units_of d ≤ T - u → IsDue (combined_behind u (d ∷ ds) T) (combined_behind u (d ∷ rs) T)
    by Fine e m = along_path (λ x. IsDue x (combined_behind u (d ∷ rs) T)) (flip (behind_fine u T d ds e))
        (along_path (λ x. IsDue (combined_behind (u + units_of d) ds T) x) (flip (behind_fine u T d rs e)) (later (u + units_of d) (omega arith)))
    by Ended e m = inl (behind_ended u T d rs e ∙ flip (behind_ended u T d ds e))
    by (Refused c) e m = inl (same_fault u T d ds rs (λ f. not_fine (flip e ∙ f)) (λ f. not_ended (flip e ∙ f)) (omega arith))
      where
        not_fine : Refused c ≡ Fine → ⊥
        not_fine f = cc

        not_ended : Refused c ≡ Ended → ⊥
        not_ended f = cc
    by Memory e m = inl (same_fault u T d ds rs (λ f. not_fine (flip e ∙ f)) (λ f. not_ended (flip e ∙ f)) (omega arith))
      where
        not_fine : Memory ≡ Fine → ⊥
        not_fine f = cc

        not_ended : Memory ≡ Ended → ⊥
        not_ended f = cc

-- want of memory first
memory_first : (u T : ℕ) (r : PartResult) (rs : List PartResult) → u ≤ T → r.out ≡ Memory → (combined_behind u (r ∷ rs) T).out ≡ Memory
memory_first u T r rs l e = ap (λ (x : PartResult). x.out) (behind_fault u T r rs (λ f. not_fine (flip e ∙ f)) (λ f. not_ended (flip e ∙ f)) none_more) ∙ e
  where
    not_fine : Memory ≡ Fine → ⊥
    not_fine f = cc

    not_ended : Memory ≡ Ended → ⊥
    not_ended f = cc

    none_more : u + units_of r ≤ T
    none_more = along_path (λ o. u + units_by o r.units ≤ T) (flip e) (omega arith)

-- together, with so many units taken before: what is due, or want of memory
behind_due : (T : ℕ) (ds rs : List PartResult) → AreDue ds rs → (u : ℕ) → u ≤ T → IsDue (combined_behind u ds T) (combined_behind u rs T)
behind_due T [] [] h u l = inl refl
behind_due T [] (r ∷ rs) h u l = absurd h
behind_due T (d ∷ ds) [] h u l = absurd h
behind_due T (d ∷ ds) (r ∷ rs) h u l = by h.0 (behind_due T ds rs h.1)
  where
    by : IsDue d r → ((v : ℕ) → v ≤ T → IsDue (combined_behind v ds T) (combined_behind v rs T)) → IsDue (combined_behind u (d ∷ ds) T) (combined_behind u (r ∷ rs) T)
    by (inl e) later = along_path (λ x. IsDue (combined_behind u (d ∷ ds) T) (combined_behind u (x ∷ rs) T)) (flip e) (same_first u T d ds rs l later)
    by (inr e) later = inr (memory_first u T r rs l e)

pub combined_due : (T : ℕ) (ds rs : List PartResult) (r : PartResult) → AreDue ds rs → r ≡ combined rs T → IsDue (combined ds T) r
combined_due T ds rs r h e = along_path (IsDue (combined ds T)) (flip e)
    (along_path (λ z. IsDue z (combined rs T)) (flip (behind_nothing ds T)) (along_path (λ z. IsDue (combined_behind 0 ds T) z) (flip (behind_nothing rs T)) (behind_due T ds rs h 0 (omega arith))))
