-- What a lexer knows, when more bytes come, when the end is met, and behind each call.
use Rattle.std.proofs.Common.{◌≡◌, ◌≤◌, ◌<◌, ℕ, Bool, true, false, List, [], ◌∷◌, ◌++◌, length, refl, sym, ap, subst, ◌∙◌, arith, length-append, append_assoc}
use Rattle.std.proofs.lemmas.List.{append-nil}
use Rattle.std.specs.Prelude.{Option, None}
use Rattle.dk_model.specs.declared.code.Code.{Code}
use Rattle.dk_model.specs.declared.code.Code.TheVariants.{E03}
use Rattle.dk_model.specs.declared.limits.Limits.{Limits}
use Rattle.dk_lexer.specs.declared.class.Class.{Class}
use Rattle.dk_lexer.specs.declared.token.Token.{Token}
use Rattle.dk_lexer.specs.declared.place.Place.{Place}
use Rattle.dk_lexer.specs.Spelling.{comment}
use Rattle.dk_lexer.specs.Tokens.{outcome_at, tokens, tokens_from}
use Rattle.one_lexer.specs.declared.lexer.Lexer.{Lexer}
use Rattle.one_lexer.specs.declared.lexer.State.{State}
use Rattle.one_lexer.specs.declared.lexer.State.TheVariants as state
use Rattle.one_lexer.specs.declared.lexer.Taken.{Taken}
use Rattle.one_lexer.specs.declared.lexer.Taken.TheVariants as taken
use Rattle.one_lexer.specs.declared.next.Inside.{Inside}
use Rattle.one_lexer.specs.declared.next.Standing.{Standing}
use Rattle.one_lexer.specs.Lexers.{BeginsWord, HasAll, HasFault, IsLeft, Knows, KnowsBy, Takes, ending_of}
use Rattle.one_lexer.specs.Reading.{Fails, Reads, ReadsComment, adds, last_of, setting_at}
use Rattle.one_lexer.specs.Steps.{GivesNothing, token_of}
use Rattle.one_lexer.proofs.Carries.{may_end}
use Rattle.one_lexer.proofs.InComments.{comment_unended, comment_waits}
use Rattle.one_lexer.proofs.Places.{last_last, last_length, last_none}
use Rattle.one_lexer.proofs.Reading.{adds_fault, adds_nothing}
use Rattle.one_lexer.proofs.Words.{letters_longer}

-- ---- more bytes come

reads_more : (limits : Limits) (bytes piece : List ℕ) (ts : List Token) (here : Place) (command : Option ℕ) (rest : List ℕ) → Reads false limits bytes ts here command rest → Reads false limits (bytes ++ piece) ts here command (rest ++ piece)
reads_more limits bytes piece ts here command rest r =
    let size = r.total in
    let n = length-append bytes piece in
    let m = length-append rest piece in
    record {
      total = omega arith;
      onward = λ more e may.
          ap (λ (x : List ℕ). tokens limits x e) (append_assoc bytes piece more) ∙ r.onward (piece ++ more) e tt
          ∙ ap (λ (k : ℕ). adds ts (tokens_from limits e k here command (length (rest ++ (piece ++ more))) (rest ++ (piece ++ more)))) (ap length (sym (append_assoc bytes piece more)))
          ∙ ap (λ (x : List ℕ). adds ts (tokens_from limits e (length ((bytes ++ piece) ++ more)) here command (length x) x)) (sym (append_assoc rest piece more));
    }

comment_more : (limits : Limits) (bytes piece : List ℕ) (ts : List Token) (here : Place) (command : Option ℕ) (next : Place) (depth : ℕ) (last : Class) (rest : List ℕ)
    → ReadsComment false limits bytes ts here command next depth last rest → ReadsComment false limits (bytes ++ piece) ts here command next depth last (rest ++ piece)
comment_more limits bytes piece ts here command next depth last rest r =
    let size = r.total in
    let n = length-append bytes piece in
    let m = length-append rest piece in
    record {
      total = omega arith;
      deep = r.deep;
      fits = r.fits;
      onward = λ more e may.
          ap (λ (x : List ℕ). tokens limits x e) (append_assoc bytes piece more) ∙ r.onward (piece ++ more) e tt
          ∙ ap (λ (k : ℕ). adds ts (outcome_at (setting_at limits e k here command) (comment depth last (rest ++ (piece ++ more))) (λ c left. tokens_from limits e k next c left (rest ++ (piece ++ more)))))
          (ap length (sym (append_assoc bytes piece more)))
          ∙ ap (λ (x : List ℕ). adds ts (outcome_at (setting_at limits e (length ((bytes ++ piece) ++ more)) here command) (comment depth last x) (λ c left. tokens_from limits e (length ((bytes ++ piece) ++ more)) next c left x)))
          (sym (append_assoc rest piece more));
    }

fails_more : (limits : Limits) (bytes piece : List ℕ) (ts : List Token) (here : Place) (code : Code) → Fails false limits bytes ts here code → Fails false limits (bytes ++ piece) ts here code
fails_more limits bytes piece ts here code f = record { stands = λ more e may. ap (λ (x : List ℕ). tokens limits x e) (append_assoc bytes piece more) ∙ f.stands (piece ++ more) e tt }

word_more : (known : ℕ) (rest piece : List ℕ) → BeginsWord known rest → BeginsWord known (rest ++ piece)
word_more known [] piece h = absurd h
word_more known (b ∷ bs) piece h = (h.0, letters_longer known bs piece h.1)

more_by : (limits : Limits) (before rest piece : List ℕ) (ts : List Token) (at : Standing) (s : State) → KnowsBy false limits before ts rest at s → KnowsBy false limits (before ++ piece) ts (rest ++ piece) at s
more_by limits before rest piece ts at state.Between k = reads_more limits before piece ts at.here at.command rest k
more_by limits before rest piece ts at (state.Word known) k = (reads_more limits before piece ts at.here at.command rest k.0, word_more known rest piece k.1)
more_by limits before rest piece ts at (state.Comment inside) k = comment_more limits before piece ts at.here at.command inside.next inside.depth inside.last rest k
more_by limits before rest piece ts at (state.Failed code) k = fails_more limits before piece ts at.here code k

pub knows_more : (before rest piece : List ℕ) (ts : List Token) (lexer : Lexer) → Knows false before ts rest lexer → Knows false (before ++ piece) ts (rest ++ piece) lexer
unfolding Knows
knows_more before rest piece ts lexer k = more_by lexer.limits before rest piece ts lexer.at lexer.state k

-- ---- the end is met

over_by : (limits : Limits) (before rest : List ℕ) (ts : List Token) (at : Standing) (s : State) → KnowsBy false limits before ts rest at s → KnowsBy true limits before ts rest at s
over_by limits before rest ts at state.Between k = record { total = k.total; onward = λ more e may. k.onward more e tt }
over_by limits before rest ts at (state.Word known) k = (record { total = k.0.total; onward = λ more e may. k.0.onward more e tt }, k.1)
over_by limits before rest ts at (state.Comment inside) k = record { total = k.total; deep = k.deep; fits = k.fits; onward = λ more e may. k.onward more e tt }
over_by limits before rest ts at (state.Failed code) k = record { stands = λ more e may. k.stands more e tt }

pub knows_over : (before rest : List ℕ) (ts : List Token) (lexer : Lexer) → Knows false before ts rest lexer → Knows true before ts rest lexer
unfolding Knows
knows_over before rest ts lexer k = over_by lexer.limits before rest ts lexer.at lexer.state k

-- ---- what is known

pub reads_start : (limits : Limits) (bytes : List ℕ) → Reads false limits bytes [] (record { offset = 0; line = 1 }) None bytes
unfolding tokens
reads_start limits bytes = record { total = omega arith; onward = λ more e may. refl }

pub known : (over : Bool) (before rest : List ℕ) (ts : List Token) (lexer : Lexer) → Knows over before ts rest lexer → KnowsBy over lexer.limits before ts rest lexer.at lexer.state
unfolding Knows
known over before rest ts lexer k = k

pub knows : (over : Bool) (before rest : List ℕ) (ts : List Token) (lexer : Lexer) → KnowsBy over lexer.limits before ts rest lexer.at lexer.state → Knows over before ts rest lexer
unfolding Knows
knows over before rest ts lexer k = k

pub has_fault : (over : Bool) (limits : Limits) (before : List ℕ) (ts : List Token) (here : Place) (code : Code) → Fails over limits before ts here code → HasFault over limits before ts code here.line
has_fault over limits before ts here code f = record { stands = λ more e may. f.stands more e may ∙ adds_fault ts here code }

-- nothing is begun and none is left
pub none_begun : (over : Bool) (limits : Limits) (before : List ℕ) (ts : List Token) (here : Place) (command : Option ℕ) → Reads over limits before ts here command [] → HasAll over limits before ts here.line
none_begun over limits before ts here command r =
    ap (λ (x : List ℕ). tokens limits x (ending_of over)) (sym (append-nil before)) ∙ r.onward [] (ending_of over) (may_end over) ∙ adds_nothing ts here

pub comment_begun : (over : Bool) (limits : Limits) (before : List ℕ) (ts : List Token) (here : Place) (command : Option ℕ) (inside : Inside) → over ≡ false
    → ReadsComment over limits before ts here command inside.next inside.depth inside.last [] → HasAll over limits before ts here.line
comment_begun false limits before ts here command inside is r = comment_waits limits before ts here command inside.next inside.depth inside.last r ∙ adds_nothing ts here
comment_begun true limits before ts here command inside is r = absurd cc

pub comment_over : (over : Bool) (limits : Limits) (before : List ℕ) (ts : List Token) (here : Place) (command : Option ℕ) (inside : Inside) → over ≡ true
    → ReadsComment over limits before ts here command inside.next inside.depth inside.last [] → Fails over limits before ts here E03
comment_over true limits before ts here command inside is r = comment_unended limits before ts here command inside.next inside.depth inside.last r
comment_over false limits before ts here command inside is r = absurd cc

pub token_begun : (over : Bool) (limits : Limits) (before : List ℕ) (ts : List Token) (here : Place) → over ≡ false → GivesNothing limits before ts here → HasAll over limits before ts here.line
token_begun false limits before ts here is g = g ∙ adds_nothing ts here
token_begun true limits before ts here is g = absurd cc

-- ---- what is taken of the last ones is taken of all

more_left : (over : Bool) (n left : ℕ) → IsLeft over n (taken.More left) → left ≤ n
more_left false n left h = h
more_left true n left h = omega arith

pub takes_last : (over : Bool) (before bytes : List ℕ) (ts : List Token) (n : ℕ) (new : Lexer) (t : Taken) → n ≤ length bytes → IsLeft over n t → Takes over before ts (last_of n bytes) new t → Takes over before ts bytes new t
takes_last over before bytes ts n new (taken.Token spelt left) le h k =
    subst (λ (x : List ℕ). Knows over before (ts ++ token_of spelt ∷ []) x new) (last_last left n bytes (let lt : left < n = h in omega arith) le) k
takes_last over before bytes ts n new (taken.More left) le h k =
    (subst (λ (x : List ℕ). Knows over before ts x new) (last_last left n bytes (more_left over n left h) le) k.0, k.1)
takes_last over before bytes ts n new (taken.Failed code) le h k = k

left_more : (over : Bool) (n m left : ℕ) → n ≤ m → IsLeft over n (taken.More left) → IsLeft over m (taken.More left)
left_more false n m left le h = omega arith
left_more true n m left le h = h

pub is_left : (over : Bool) (n m : ℕ) (t : Taken) → n ≤ m → IsLeft over n t → IsLeft over m t
is_left over n m (taken.Token spelt left) le h = omega arith
is_left over n m (taken.More left) le h = left_more over n m left le h
is_left over n m (taken.Failed code) le h = tt

pub knows_new : (limits : Limits) (bytes : List ℕ) → Knows false bytes [] bytes (record { limits = limits; at = record { here = record { offset = 0; line = 1 }; command = None }; state = state.Between })
unfolding Knows
knows_new limits bytes = reads_start limits bytes

pub reads_between : (over : Bool) (before rest : List ℕ) (ts : List Token) (lexer : Lexer) → Knows over before ts rest lexer → lexer.state ≡ state.Between → Reads over lexer.limits before ts lexer.at.here lexer.at.command rest
reads_between over before rest ts lexer k is = subst (KnowsBy over lexer.limits before ts rest lexer.at) is (known over before rest ts lexer k)

pub reads_word : (over : Bool) (before rest : List ℕ) (ts : List Token) (lexer : Lexer) (n : ℕ) → Knows over before ts rest lexer → lexer.state ≡ state.Word n
    → Reads over lexer.limits before ts lexer.at.here lexer.at.command rest × BeginsWord n rest
reads_word over before rest ts lexer n k is = subst (KnowsBy over lexer.limits before ts rest lexer.at) is (known over before rest ts lexer k)

pub reads_inside : (over : Bool) (before rest : List ℕ) (ts : List Token) (lexer : Lexer) (inside : Inside) → Knows over before ts rest lexer → lexer.state ≡ state.Comment inside
    → ReadsComment over lexer.limits before ts lexer.at.here lexer.at.command inside.next inside.depth inside.last rest
reads_inside over before rest ts lexer inside k is = subst (KnowsBy over lexer.limits before ts rest lexer.at) is (known over before rest ts lexer k)

pub fails_before : (over : Bool) (before rest : List ℕ) (ts : List Token) (lexer : Lexer) (code : Code) → Knows over before ts rest lexer → lexer.state ≡ state.Failed code → Fails over lexer.limits before ts lexer.at.here code
fails_before over before rest ts lexer code k is = subst (KnowsBy over lexer.limits before ts rest lexer.at) is (known over before rest ts lexer k)

pub knows_between : (over : Bool) (limits : Limits) (before rest : List ℕ) (ts : List Token) (at : Standing) → Reads over limits before ts at.here at.command rest → Knows over before ts rest (record { limits = limits; at = at; state = state.Between })
unfolding Knows
knows_between over limits before rest ts at r = r

pub knows_inside : (over : Bool) (limits : Limits) (before bytes : List ℕ) (ts : List Token) (at : Standing) (inside : Inside) → ReadsComment over limits before ts at.here at.command inside.next inside.depth inside.last []
    → Knows over before ts (last_of 0 bytes) (record { limits = limits; at = at; state = state.Comment inside })
unfolding Knows
knows_inside over limits before bytes ts at inside r =
    subst (λ (x : List ℕ). ReadsComment over limits before ts at.here at.command inside.next inside.depth inside.last x) (sym (last_none bytes)) r

pub knows_failed : (over : Bool) (limits : Limits) (before : List ℕ) (ts : List Token) (at : Standing) (code : Code) → Fails over limits before ts at.here code → Knows over before ts [] (record { limits = limits; at = at; state = state.Failed code })
unfolding Knows
knows_failed over limits before ts at code f = f

-- ---- one spelling after the other

-- the rest, of which this is known
pub takes_rest : (over : Bool) (before bytes rest : List ℕ) (ts : List Token) (new : Lexer) (t : Taken) → rest ≡ last_of (length rest) bytes → length rest ≤ length bytes → IsLeft over (length rest) t
    → Takes over before ts rest new t → Takes over before ts bytes new t
takes_rest over before bytes rest ts new t is le h k = takes_last over before bytes ts (length rest) new t le h (subst (λ (x : List ℕ). Takes over before ts x new t) is k)

pub takes_none : (over : Bool) (before bytes : List ℕ) (ts : List Token) (new : Lexer) (t : Taken) → IsLeft over 0 t → Takes over before ts [] new t → Takes over before ts bytes new t
takes_none over before bytes ts new t h k = takes_last over before bytes ts 0 new t (omega arith) h (subst (λ (x : List ℕ). Takes over before ts x new t) (sym (last_none bytes)) k)

pub rest_of_rest : (bytes rest after : List ℕ) (left : ℕ) → rest ≡ last_of (length rest) bytes → length rest ≤ length bytes → left < length rest → after ≡ last_of left rest → (after ≡ last_of (length after) bytes) × (length after ≡ left)
rest_of_rest bytes rest after left is le lt after_is =
    let n : length after ≡ left = ap length after_is ∙ last_length left rest (omega arith) in
    (after_is ∙ ap (last_of left) is ∙ last_last left (length rest) bytes (omega arith) le ∙ ap (λ (k : ℕ). last_of k bytes) (sym n), n)
