-- What the next piece of the book, or its end, comes to.
use Rattle.std.proofs.Common.{◌≡◌, ◌<◌, ◌≤◌, ◌+◌, arith, ℕ, Bool, true, false, List, [], ◌++◌, length, take, drop, refl, sym, ap, subst, ◌∙◌, length-append}
use Rattle.std.proofs.lemmas.List.{append-nil, length-take-le, take-append-drop}
use Rattle.std.specs.Prelude.{Option, Some, None, min}
use Rattle.dk_io.specs.Bytes.{TakesFront}
use Rattle.dk_model.specs.declared.limits.Limits.{Limits}
use Rattle.dk_lexer.specs.declared.token.Token.{Token}
use Rattle.one_lexer.specs.declared.lexer.Lexer.{Lexer}
use Rattle.one_lexer.specs.Lexers.{Knows, limits_of}
use Rattle.one_lexer.proofs.Lexers.{knows_more, knows_over}
use Rattle.dk_parser.specs.Views.{HasRead}
use Rattle.dk_parser.specs.Written.{WrittenCommand}
use Rattle.file_reader.specs.declared.reader.Reader.{Reader}
use Rattle.file_reader.specs.Held.{Holds, IsDry, IsEmpty, TakesPiece}

empty_none : (after : Option (List ℕ)) → after ≡ None → IsEmpty after
empty_none None is = tt
empty_none (Some rest) is = absurd (let bad : Some rest ≡ None = is in cc)

-- at the end nothing more comes
ended : (over : Bool) (given rest : List ℕ) (ts : List Token) (lexer : Lexer) → over ≡ false → Knows over given ts rest lexer → Knows true given ts rest lexer
ended over given rest ts lexer is k = knows_over given rest ts lexer (subst (λ (b : Bool). Knows b given ts rest lexer) is k)

-- a piece comes behind
joined : (over : Bool) (given rest piece : List ℕ) (ts : List Token) (lexer : Lexer) → over ≡ false → Knows over given ts rest lexer → Knows over (given ++ piece) ts (rest ++ piece) lexer
joined over given rest piece ts lexer is k =
    subst (λ (b : Bool). Knows b (given ++ piece) ts (rest ++ piece) lexer) (sym is) (knows_more given rest piece ts lexer (subst (λ (b : Bool). Knows b given ts rest lexer) is k))

module _ {limits : Limits} {given : List ℕ} {done : List WrittenCommand} {r : Reader} (d : IsDry limits given done r) where
  end_holds : Holds limits (given ++ []) done (record r { over = true })
  end_holds =
      let h = d.0.holds in
      record {
        taken = h.taken;
        parsed = h.parsed;
        lexed = record {
          limits_are = h.lexed.limits_are;
          knows = subst (λ bs. Knows true bs h.taken r.carried r.lexer) (sym (append-nil given)) (ended r.over given r.carried h.taken r.lexer d.1 h.lexed.knows);
        };
      }

  piece_holds : (piece : List ℕ) (count : ℕ) → Holds limits (given ++ piece) done (record r { carried = r.carried ++ piece; given = count })
  piece_holds piece count =
      let h = d.0.holds in
      record {
        taken = h.taken;
        parsed = h.parsed;
        lexed = record {
          limits_are = h.lexed.limits_are;
          knows = joined r.over given r.carried piece h.taken r.lexer d.1 h.lexed.knows;
        };
      }

  pub loads_end : (left after : Option (List ℕ)) (buf : List ℕ) → TakesFront left after 0 buf → TakesPiece limits given done left after r (record r { over = true })
  loads_end None after buf takes = record {
    piece = [];
    took = takes;
    few = omega arith;
    some = λ is. absurd (let bad : true ≡ false = is in cc);
    last = λ is. empty_none after takes;
    holds = end_holds;
    counted = omega arith;
    grown = omega arith;
    carried = omega arith;
  }
  loads_end (Some bytes) after buf takes = record {
    piece = [];
    took = (bytes, refl, takes.2);
    few = omega arith;
    some = λ is. absurd (let bad : true ≡ false = is in cc);
    last = λ is. subst IsEmpty (sym takes.2) (takes.3 refl);
    holds = end_holds;
    counted = omega arith;
    grown = omega arith;
    carried = omega arith;
  }

  not_over : (r.over ≡ true) → ⊥
  not_over is = let e : true ≡ false = sym is ∙ d.1 in absurd cc

  pub loads_piece : (left after : Option (List ℕ)) (n count : ℕ) (buf : List ℕ) → 0 < n → n ≤ length buf → length buf ≡ 4096 → TakesFront left after n buf → count ≡ min (r.given + n) 18446744073709551615
      → TakesPiece limits given done left after r (record r { carried = r.carried ++ take n buf; given = count })
  loads_piece None after n count buf some within size takes counted =
      let few = length-take-le n buf within in
      record {
        piece = take n buf;
        took = takes;
        few = omega (arith, few, within, size);
        some = λ is. omega (arith, few, some);
        last = λ is. absurd (not_over is);
        holds = piece_holds (take n buf) count;
        counted = omega (arith, few, counted);
        grown = omega (arith, few, counted);
        carried = length-append r.carried (take n buf);
      }
  loads_piece (Some bytes) after n count buf some within size takes counted =
      let few = length-take-le n buf within in
      record {
        piece = take n buf;
        took = (drop n bytes, sym (take-append-drop n bytes) ∙ ap (λ bs. bs ++ drop n bytes) (sym takes.1), takes.2);
        few = omega (arith, few, within, size);
        some = λ is. omega (arith, few, some);
        last = λ is. absurd (not_over is);
        holds = piece_holds (take n buf) count;
        counted = omega (arith, few, counted);
        grown = omega (arith, few, counted);
        carried = length-append r.carried (take n buf);
      }

-- ---- before the first byte

pub starts : (limits : Limits) (r : Reader) → limits_of r.lexer ≡ limits → Knows false [] [] [] r.lexer → HasRead limits [] r.parser → r.carried ≡ [] → r.over ≡ false → Holds limits [] [] r
starts limits r limits_are k has_read none at = record {
  taken = [];
  parsed = record { has_read = has_read; no_fault = refl; done_are = refl };
  lexed = record {
    limits_are = limits_are;
    knows = subst (λ (x : List ℕ). Knows r.over [] [] x r.lexer) (sym none) (subst (λ (b : Bool). Knows b [] [] [] r.lexer) (sym at) k);
  };
}
