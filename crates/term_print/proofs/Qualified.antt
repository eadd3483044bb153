-- Qualified names are read back.
use Rattle.std.proofs.Common.{inl, inr, List, [], ◌∷◌, ◌++◌, ℕ, suc, ◌≡◌, ◌≤◌, ◌+◌, Bool, true, false, ◌==◌, nat_lt, ◌-◌, length, refl, ap, sym as flip, ◌∙◌, arith, append_assoc, length-append, if◌then◌else◌}
use Rattle.std.specs.Prelude.{Some, None, codes, drop, not, take, unwrap_or}
use Rattle.std.specs.List.{position_or_len}
use Rattle.std.proofs.lemmas.Bool.Decides.{nat_tests}
use Rattle.dk_model.specs.declared.code.Code.TheVariants.{E05}
use Rattle.dk_lexer.specs.declared.class.Class.{Class}
use Rattle.dk_lexer.specs.declared.class.Class.TheVariants as class
use Rattle.dk_lexer.specs.declared.token.TokenKind.TheVariants as kind
use Rattle.dk_lexer.specs.Classes.{begins_name, class_of, in_name}
use Rattle.dk_lexer.specs.Spelling.{Spelling, token, late, quoted, quoted_spelled, wrong, run_of, behind_run, kind_of, is_wildcard, spelled, spelled_by, name_spelled, behind_name, behind_dot, dot_before, second_spelled, second_settled, up_to}
use Rattle.dk_lexer.proofs.Outcomes.{le_true, lt_true}
use Rattle.dk_terms.specs.declared.terminal.Terminal.TheVariants as terminal
use Rattle.dk_terms.specs.Terminals.{dot_role, is_dot, module_part, name_part}
use Rattle.term_print.specs.Readable.{Ends, IsPart, IsRun, IsSpelt, Quotable, StandInName, in_quotes}
use Rattle.term_print.proofs.Texts.{no_semicolon, run_behind}
use Rattle.term_print.proofs.Quoted.{body_quoted}

-- ---- the two parts of a spelling

no_dot : (b : ℕ) → in_name (class_of b) ≡ true → is_dot b ≡ false
unfolding class_of
no_dot b h = by (b == 46) refl
  where
    clash : in_name (class_of 46) ≡ true → ⊥
    clash e = cc

    by : (c : Bool) → (b == 46) ≡ c → (b == 46) ≡ false
    by true e = let q : b ≡ 46 = grind (arith, nat_tests) in absurd (clash (flip (ap (λ i. in_name (class_of i)) q) ∙ h))
    by false e = e

first_dot : (w rest : List ℕ) → StandInName w → position_or_len is_dot (w ++ 46 ∷ rest) ≡ length w
first_dot [] rest h = refl
first_dot (b ∷ w) rest h =
    ap (λ c. if not c then 1 + position_or_len is_dot (w ++ 46 ∷ rest) else 0) (no_dot b h.0)
    ∙ (ap (λ n. 1 + n) (first_dot w rest h.1) ∙ (let e : 1 + length w ≡ suc (length w) = omega arith in e))

role_of_dot : (w rest : List ℕ) → StandInName w → dot_role (w ++ 46 ∷ rest) ≡ length w
role_of_dot w rest h =
    ap (λ n. unwrap_or (if nat_lt n (length (w ++ 46 ∷ rest)) then Some n else None) (length (w ++ 46 ∷ rest))) (first_dot w rest h)
    ∙ ap (λ b. unwrap_or (if b then Some (length w) else None) (length (w ++ 46 ∷ rest))) (lt_true (length w) (length (w ++ 46 ∷ rest)) (omega (arith, length-append w (46 ∷ rest))))

taken : (w rest : List ℕ) → take (length w) (w ++ rest) ≡ w
taken [] rest = refl
taken (b ∷ w) rest = ap (λ xs. b ∷ xs) (taken w rest)

dropped : (w rest : List ℕ) → drop (suc (length w)) (w ++ 46 ∷ rest) ≡ rest
dropped [] rest = refl
dropped (b ∷ w) rest = dropped w rest

stands : (m : List ℕ) → IsRun m → StandInName m
stands [] h = absurd h
stands (b ∷ w) h = (begun (class_of b) h.0, h.1)
  where
    begun : (c : Class) → begins_name c ≡ true → in_name c ≡ true
    begun class.Letter e = refl
    begun class.Digit e = refl
    begun class.Underscore e = refl
    begun c e = cc

module_is : (m n : List ℕ) → StandInName m → module_part (m ++ 46 ∷ n) ≡ m
module_is m n h = ap (λ k. take k (m ++ 46 ∷ n)) (role_of_dot m n h) ∙ taken m (46 ∷ n)

name_is : (m n : List ℕ) → StandInName m → name_part (m ++ 46 ∷ n) ≡ n
name_is m n h = ap (λ k. drop (k + 1) (m ++ 46 ∷ n)) (role_of_dot m n h) ∙ (ap (λ k. drop k (m ++ 46 ∷ n)) (let e : length m + 1 ≡ suc (length m) = omega arith in e) ∙ dropped m n)

-- ---- the token

run_to_dot : (w rest : List ℕ) → StandInName w → (run_of (w ++ 46 ∷ rest) ≡ w) × (behind_run (w ++ 46 ∷ rest) ≡ 46 ∷ rest)
unfolding class_of
run_to_dot [] rest n = (refl, refl)
run_to_dot (b ∷ w) rest n =
    let more = run_to_dot w rest n.1 in (
      ap (λ c. if c then b ∷ run_of (w ++ 46 ∷ rest) else []) n.0 ∙ ap (λ r. b ∷ r) more.0,
      ap (λ c. if c then behind_run (w ++ 46 ∷ rest) else (b ∷ (w ++ 46 ∷ rest))) n.0 ∙ more.1,
    )

dot_behind : (limit : ℕ) (text rest : List ℕ) → is_wildcard text ≡ false → behind_name limit text (46 ∷ rest) ≡ behind_dot limit text rest
unfolding class_of
dot_behind limit text rest h = ap (λ b. if b then token (kind_of text) text (suc (length rest)) else behind_dot limit text rest) h

-- a run, a dot, and what stands behind it
pub run_and_more : (limit b : ℕ) (w rest : List ℕ) → begins_name (class_of b) ≡ true → StandInName w → is_wildcard (b ∷ w) ≡ false → length (b ∷ w) ≤ limit
    → spelled limit b (w ++ 46 ∷ rest) ≡ behind_dot limit (b ∷ w) rest
run_and_more limit b w rest h n o l =
    by (class_of b) h
    ∙ (ap (λ r. name_spelled limit (b ∷ r) (behind_run (w ++ 46 ∷ rest))) (run_to_dot w rest n).0
    ∙ (ap (λ r. name_spelled limit (b ∷ w) r) (run_to_dot w rest n).1
    ∙ (ap (λ t. if t then behind_name limit (b ∷ w) (46 ∷ rest) else wrong E05 ((length (b ∷ w) - limit) + length (46 ∷ rest))) (le_true (length (b ∷ w)) limit l)
    ∙ dot_behind limit (b ∷ w) rest o)))
  where
    by : (c : Class) → begins_name c ≡ true → spelled_by limit c b (w ++ 46 ∷ rest) ≡ name_spelled limit (b ∷ run_of (w ++ 46 ∷ rest)) (behind_run (w ++ 46 ∷ rest))
    by class.Letter g = refl
    by class.Digit g = refl
    by class.Underscore g = refl
    by c g = cc

-- there is a byte behind it
settled : (x : Spelling) (rest : List ℕ) → Ends rest → up_to x (length rest) ≡ x
settled x [] e = absurd e
settled x (b ∷ bs) e = refl

second_read : (limit : ℕ) (text : List ℕ) (c : ℕ) (v rest : List ℕ) → begins_name (class_of c) ≡ true → StandInName v → is_wildcard (c ∷ v) ≡ false → length (c ∷ v) ≤ limit → Ends rest
    → behind_dot limit text (c ∷ (v ++ rest)) ≡ token kind.Qualified (text ++ 46 ∷ c ∷ v) (length rest)
second_read limit text c v rest h n o l e =
    by (class_of c) h
    ∙ (ap (λ r. second_spelled limit text (c ∷ r) (length (behind_run (v ++ rest)))) (run_behind v rest n e).0
    ∙ (ap (λ r. second_spelled limit text (c ∷ v) (length r)) (run_behind v rest n e).1
    ∙ (ap (λ t. if t then up_to (second_settled (is_wildcard (c ∷ v)) text (c ∷ v) (length rest)) (length rest) else wrong E05 ((length (c ∷ v) - limit) + length rest)) (le_true (length (c ∷ v)) limit l)
    ∙ (settled (second_settled (is_wildcard (c ∷ v)) text (c ∷ v) (length rest)) rest e ∙ ap (λ t. second_settled t text (c ∷ v) (length rest)) o))))
  where
    by : (k : Class) → begins_name k ≡ true → dot_before limit text k c (v ++ rest) ≡ second_spelled limit text (c ∷ run_of (v ++ rest)) (length (behind_run (v ++ rest)))
    by class.Letter g = refl
    by class.Digit g = refl
    by class.Underscore g = refl
    by k g = cc

pub qualified_spelt : (limit : ℕ) (m n : List ℕ) → IsPart limit m → IsPart limit n → IsSpelt limit (terminal.Qualified m n)
qualified_spelt limit [] n h g = absurd h.run
qualified_spelt limit (b ∷ w) [] h g = absurd g.run
qualified_spelt limit (b ∷ w) (c ∷ v) h g = record {
  first = b;
  others = w ++ 46 ∷ c ∷ v;
  text = refl;
  no_comment = no_semicolon (class_of b) h.run.0;
  reads = λ rest e. (
    kind.Qualified,
    (b ∷ w) ++ 46 ∷ c ∷ v,
    inl (ap (spelled limit b) (append_assoc w (46 ∷ c ∷ v) rest)
        ∙ (run_and_more limit b w (c ∷ (v ++ rest)) h.run.0 h.run.1 h.no_wildcard h.short
        ∙ second_read limit (b ∷ w) c v rest g.run.0 g.run.1 g.no_wildcard g.short e)),
    ap (λ x. terminal.Qualified x (name_part ((b ∷ w) ++ 46 ∷ c ∷ v))) (module_is (b ∷ w) (c ∷ v) (stands (b ∷ w) h.run))
        ∙ ap (λ x. terminal.Qualified (b ∷ w) x) (name_is (b ∷ w) (c ∷ v) (stands (b ∷ w) h.run)),
  );
}

-- ---- a quoted name behind a module's

brace_here : (limit : ℕ) (text ds : List ℕ) → behind_dot limit text (123 ∷ 124 ∷ ds) ≡ late (suc (suc (length ds))) (quoted_spelled kind.Qualified (text ++ codes ".{|") (quoted limit ds))
unfolding class_of
brace_here limit text ds = refl

pub qualified_quoted_spelt : (limit : ℕ) (m body : List ℕ) → IsPart limit m → Quotable body → length body ≤ limit → IsSpelt limit (terminal.Qualified m (in_quotes body))
qualified_quoted_spelt limit [] body h q l = absurd h.run
qualified_quoted_spelt limit (b ∷ w) body h q l = record {
  first = b;
  others = w ++ 46 ∷ in_quotes body;
  text = refl;
  no_comment = no_semicolon (class_of b) h.run.0;
  reads = λ rest e. (
    kind.Qualified,
    (b ∷ w) ++ 46 ∷ in_quotes body,
    inr (suc (length (body ++ 124 ∷ 125 ∷ rest)), read rest),
    ap (λ x. terminal.Qualified x (name_part ((b ∷ w) ++ 46 ∷ in_quotes body))) (module_is (b ∷ w) (in_quotes body) (stands (b ∷ w) h.run))
        ∙ ap (λ x. terminal.Qualified (b ∷ w) x) (name_is (b ∷ w) (in_quotes body) (stands (b ∷ w) h.run)),
  );
}
  where
    read : (rest : List ℕ) → spelled limit b ((w ++ 46 ∷ in_quotes body) ++ rest) ≡ late (suc (suc (length (body ++ 124 ∷ 125 ∷ rest)))) (token kind.Qualified ((b ∷ w) ++ 46 ∷ in_quotes body) (length rest))
    read rest =
        ap (spelled limit b) (append_assoc w (46 ∷ in_quotes body) rest)
        ∙ (ap (λ bs. spelled limit b (w ++ 46 ∷ 123 ∷ 124 ∷ bs)) (append_assoc body (124 ∷ 125 ∷ []) rest)
        ∙ (run_and_more limit b w (123 ∷ 124 ∷ (body ++ 124 ∷ 125 ∷ rest)) h.run.0 h.run.1 h.no_wildcard h.short
        ∙ (brace_here limit (b ∷ w) (body ++ 124 ∷ 125 ∷ rest)
        ∙ (ap (λ y. late (suc (suc (length (body ++ 124 ∷ 125 ∷ rest)))) (quoted_spelled kind.Qualified ((b ∷ w) ++ codes ".{|") y)) (body_quoted limit body rest q l)
        ∙ ap (λ text. late (suc (suc (length (body ++ 124 ∷ 125 ∷ rest)))) (token kind.Qualified text (length rest))) (append_assoc (b ∷ w) (codes ".{|") (body ++ codes "|}"))))))
