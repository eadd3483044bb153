-- What is read the short way comes next.
use Rattle.std.proofs.Common.{◌≡◌, ◌≤◌, ◌<◌, ℕ, ◌+◌, ◌-◌, Bool, true, List, [], ◌∷◌, ◌++◌, length, take, refl, sym, ap, subst, ◌∙◌, arith}
use Rattle.std.specs.Prelude.{IfSome, Option, Some, None}
use Rattle.dk_model.specs.declared.limits.Limits.{Limits}
use Rattle.dk_lexer.specs.declared.place.Place.{Place}
use Rattle.dk_lexer.specs.declared.token.Token.{Token}
use Rattle.dk_lexer.specs.declared.token.TokenKind.{TokenKind}
use Rattle.dk_lexer.specs.Spelling.{kind_of, run_and_dot, token}
use Rattle.dk_lexer.specs.Tokens.{begin_of, bound, command_after, command_limit, input_limit, nearer, token_at}
use Rattle.dk_lexer.proofs.Bounds.{nearer_command, nearer_input, nearer_within}
use Rattle.one_lexer.specs.declared.lexer.Lexer.{Lexer}
use Rattle.one_lexer.specs.declared.lexer.State.TheVariants as state
use Rattle.one_lexer.specs.declared.next.Standing.{Standing}
use Rattle.one_lexer.specs.declared.quick.Short.{Short}
use Rattle.one_lexer.specs.Blanks.{GoesOver}
use Rattle.one_lexer.specs.Lexers.{KnowsBy, standing_at}
use Rattle.one_lexer.specs.Places.{place_behind}
use Rattle.one_lexer.specs.Quick.{ComesNext, IsSpelt, KnowsNext, along}
use Rattle.one_lexer.specs.Reading.{Reads, last_of}
use Rattle.one_lexer.specs.Steps.{token_of}
use Rattle.one_lexer.proofs.Lexers.{knows, reads_between}
use Rattle.one_lexer.proofs.Nexts.{Meets, run_next, token_next}
use Rattle.one_lexer.proofs.Places.{last_last, last_length}

-- ---- a token within the bound

-- the place behind it
place_is : (limit : ℕ) (bytes : List ℕ) (here : Place) (left end : ℕ) → left < length bytes → end + left ≡ here.offset + length bytes
    → place_behind here (take (length bytes - left) bytes) ≡ along here (length bytes - left) → place_behind here (take (length bytes - left) bytes) ≡ record { offset = end; line = here.line }
place_is limit bytes here left end lt size line =
    let n : here.offset + (length bytes - left) ≡ end = omega arith in
    line ∙ ap (λ (k : ℕ). let q : Place = record { offset = k; line = here.line } in q) n

pub token_short : (limits : Limits) (at : Standing) (bytes text : List ℕ) (kind : TokenKind) (behind : Option ℕ) (left last end begin : ℕ) → last ≤ (bound limits (Some (begin_of at.command at.here.offset))).last
    → IsSpelt limits.name_bytes bytes (token kind text left) left → end + left ≡ at.here.offset + length bytes → end ≤ last → begin ≡ begin_of at.command at.here.offset → behind ≡ command_after kind begin
    → (over : Bool) (before : List ℕ) (ts : List Token) → Reads over limits before ts at.here at.command bytes
    → Reads over limits before (ts ++ token_at at.here kind text ∷ []) (record { offset = end; line = at.here.line }) behind (last_of left bytes)
token_short limits at bytes text kind behind left last end begin near spelt size within begin_is behind_is over before ts r =
    let total = r.total in
    let m : Meets over limits before ts at.here at.command bytes None (token kind text left) = record { settled = true; reads = r; is = sym spelt.is; met = tt; known = refl; fits = tt } in
    subst (λ (o : Option ℕ). Reads over limits before (ts ++ token_at at.here kind text ∷ []) (record { offset = end; line = at.here.line }) o (last_of left bytes))
    (sym (behind_is ∙ ap (command_after kind) begin_is))
    (subst (λ (p : Place). Reads over limits before (ts ++ token_at at.here kind text ∷ []) p (command_after kind (begin_of at.command at.here.offset)) (last_of left bytes))
    (place_is limits.name_bytes bytes at.here left end spelt.leaves size (spelt.line at.here))
    (token_next over limits before ts at.here at.command bytes None kind text left m spelt.leaves (omega (arith, near, size, within, total))))

pub run_short : (limits : Limits) (at : Standing) (bytes text : List ℕ) (kind : TokenKind) (left last end dot begin : ℕ) → last ≤ (bound limits (Some (begin_of at.command at.here.offset))).last
    → IsSpelt limits.name_bytes bytes (run_and_dot text left) (left + 1) → end + left ≡ at.here.offset + length bytes → end ≤ last → dot + (left + 1) ≡ at.here.offset + length bytes
    → begin ≡ begin_of at.command at.here.offset → kind ≡ kind_of text
    → (over : Bool) (before : List ℕ) (ts : List Token) → Reads over limits before ts at.here at.command bytes
    → Reads over limits before (ts ++ token_at at.here kind text ∷ []) (record { offset = dot; line = at.here.line }) (Some begin) (last_of (left + 1) bytes)
run_short limits at bytes text kind left last end dot begin near spelt size within dot_size begin_is kind_is over before ts r =
    let total = r.total in
    let leaves : left + 1 < length bytes = spelt.leaves in
    let m : Meets over limits before ts at.here at.command bytes None (run_and_dot text left) = record { settled = true; reads = r; is = sym spelt.is; met = tt; known = refl; fits = tt } in
    subst (λ (k : TokenKind). Reads over limits before (ts ++ token_at at.here k text ∷ []) (record { offset = dot; line = at.here.line }) (Some begin) (last_of (left + 1) bytes)) (sym kind_is)
    (subst (λ (n : ℕ). Reads over limits before (ts ++ token_at at.here (kind_of text) text ∷ []) (record { offset = dot; line = at.here.line }) (Some n) (last_of (left + 1) bytes)) (sym begin_is)
    (subst (λ (p : Place). Reads over limits before (ts ++ token_at at.here (kind_of text) text ∷ []) p (Some (begin_of at.command at.here.offset)) (last_of (left + 1) bytes))
    (place_is limits.name_bytes bytes at.here (left + 1) dot spelt.leaves dot_size (spelt.line at.here))
    (run_next over limits before ts at.here at.command bytes None text left m (omega (arith, leaves)) (omega (arith, near, size, within, total)))))

-- ---- behind blanks

-- the bound of a command that is open or begins here is no farther than that of what stands here
pub bound_open : (limits : Limits) (command : Option ℕ) (offset : ℕ) → (bound limits (Some (begin_of command offset))).last ≤ (bound limits command).last
unfolding bound
bound_open limits None offset = nearer_input (offset + command_limit limits) (input_limit limits) (nearer (offset + command_limit limits) (input_limit limits)).last (omega arith)
bound_open limits (Some begin) offset = omega arith

-- nor than that of a command that begins farther on
bound_on : (limits : Limits) (command : Option ℕ) (o p : ℕ) → o ≤ p → (bound limits (Some (begin_of command o))).last ≤ (bound limits (Some (begin_of command p))).last
unfolding bound
bound_on limits (Some begin) o p le = omega arith
bound_on limits None o p le =
    let c = o + command_limit limits in
    let i = input_limit limits in
    let near = nearer_command c i (nearer c i).last (omega arith) in
    nearer_within (p + command_limit limits) i (nearer c i).last (omega (arith, near, le)) (nearer_input c i (nearer c i).last (omega arith))

pub near_on : (limits : Limits) (command : Option ℕ) (begin o p last : ℕ) → begin ≡ begin_of command o → last ≡ (bound limits (Some begin)).last → o ≤ p → last ≤ (bound limits (Some (begin_of command p))).last
near_on limits command begin o p last begin_is last_is le =
    let on = bound_on limits command o p le in
    let l : last ≡ (bound limits (Some (begin_of command o))).last = last_is ∙ ap (λ (n : ℕ). (bound limits (Some n)).last) begin_is in
    omega (arith, on, l)

near_open : (limits : Limits) (command : Option ℕ) (begin o last : ℕ) → begin ≡ begin_of command o → last ≡ (bound limits (Some begin)).last → last ≤ (bound limits command).last
near_open limits command begin o last begin_is last_is =
    let within = bound_open limits command o in
    let l : last ≡ (bound limits (Some (begin_of command o))).last = last_is ∙ ap (λ (n : ℕ). (bound limits (Some n)).last) begin_is in
    omega (arith, within, l)

-- the token that comes next behind blanks
pub comes_behind : (limits : Limits) (at : Standing) (place : Place) (bytes rest : List ℕ) (begin last left : ℕ) (short : Short) → begin ≡ begin_of at.command at.here.offset → last ≡ (bound limits (Some begin)).last
    → left ≤ length bytes → rest ≡ last_of left bytes → GoesOver last at.here bytes place (last_of left bytes)
    → ComesNext limits (record { here = place; command = at.command }) rest short → ComesNext limits at bytes short
comes_behind limits at place bytes rest begin last left short begin_is last_is le rest_is goes next =
    let n : length rest ≡ left = ap length rest_is ∙ last_length left bytes le in
    let leaves = next.leaves in
    let same : last_of short.left rest ≡ last_of short.left bytes = ap (last_of short.left) rest_is ∙ last_last short.left left bytes (omega (arith, n, leaves)) le in
    record {
      leaves = omega (arith, n, leaves, le);
      comes = λ over before ts r.
          let there = goes over limits before ts at.command (near_open limits at.command begin at.here.offset last begin_is last_is) r in
          subst (λ (x : List ℕ). Reads over limits before (ts ++ token_of short.spelt ∷ []) short.behind.here short.behind.command x) same
          (next.comes over before ts (subst (λ (x : List ℕ). Reads over limits before ts place at.command x) (sym rest_is) there));
    }

pub comes_if : (limits : Limits) (at : Standing) (place : Place) (bytes rest : List ℕ) (begin last left : ℕ) (found : Option Short) → begin ≡ begin_of at.command at.here.offset → last ≡ (bound limits (Some begin)).last
    → left ≤ length bytes → rest ≡ last_of left bytes → GoesOver last at.here bytes place (last_of left bytes)
    → IfSome found (ComesNext limits (record { here = place; command = at.command }) rest) → IfSome found (ComesNext limits at bytes)
comes_if limits at place bytes rest begin last left None begin_is last_is le rest_is goes next = tt
comes_if limits at place bytes rest begin last left (Some short) begin_is last_is le rest_is goes next = comes_behind limits at place bytes rest begin last left short begin_is last_is le rest_is goes next

-- ---- between tokens

knows_short : (lexer : Lexer) (bytes : List ℕ) (short : Short) → lexer.state ≡ state.Between → ComesNext lexer.limits lexer.at bytes short → KnowsNext bytes short lexer
knows_short lexer bytes short is next = record {
  leaves = next.leaves;
  knows = λ over before ts k.
      knows over before (last_of short.left bytes) (ts ++ token_of short.spelt ∷ []) (standing_at short.behind lexer)
      (subst (KnowsBy over lexer.limits before (ts ++ token_of short.spelt ∷ []) (last_of short.left bytes) short.behind) (sym is) (next.comes over before ts (reads_between over before bytes ts lexer k is)));
}

pub knows_next : (lexer : Lexer) (bytes : List ℕ) (found : Option Short) → lexer.state ≡ state.Between → IfSome found (ComesNext lexer.limits lexer.at bytes) → IfSome found (λ short. KnowsNext bytes short lexer)
knows_next lexer bytes None is next = tt
knows_next lexer bytes (Some short) is next = knows_short lexer bytes short is next
