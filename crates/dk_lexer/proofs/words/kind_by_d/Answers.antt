use Rattle.std.proofs.Common.{◌≡◌, Bool, List, ℕ, true, false, codes, sym, ap, ◌∙◌, if◌then◌else◌}
use Rattle.std.specs.Str.{bytes_eq}
use Rattle.dk_lexer.specs.declared.token.TokenKind.{TokenKind}
use Rattle.dk_lexer.specs.declared.token.TokenKind.TheVariants as kind
use Rattle.dk_lexer.proofs.FirstBytes.{begins_d}
use Rattle.dk_lexer.proofs.words.kind_by_d.Goals as goal

-- whether it is the word, as the test found it
tested : (e answer : Bool) (text word literal : List ℕ) → answer ≡ e → answer ≡ bytes_eq text word → word ≡ literal → e ≡ bytes_eq text literal
tested e answer text word literal is answer_is word_is = sym is ∙ answer_is ∙ ap (bytes_eq text) word_is

-- what it is where it isn't `def`, and where it isn't `defac` either
abbrev last_of : List ℕ → TokenKind
last_of text = if bytes_eq text (codes "defacu") then kind.Profile else kind.Plain

abbrev rest_of : List ℕ → TokenKind
rest_of text = if bytes_eq text (codes "defac") then kind.Profile else last_of text

pub returns-then-eq : goal.returns-then-eq
returns-then-eq c =
    let text = c.args.text.now in
    ap (λ (d : Bool). if d then kind.Def else rest_of text) (tested true c.eq.result text c.as_slice.result.now (codes "def") c.if-eq.true c.eq.ensures c.as_slice.ensures)
    ∙ begins_d text c.requires

pub returns-then-eq-2 : goal.returns-then-eq-2
returns-then-eq-2 c =
    let text = c.args.text.now in
    ap (λ (a : Bool). if a then kind.Profile else last_of text) (tested true c.eq-else-eq.result text c.as_slice-else-eq.result.now (codes "defac") c.if-eq-2.true c.eq-else-eq.ensures c.as_slice-else-eq.ensures)
    ∙ ap (λ (d : Bool). if d then kind.Def else rest_of text) (tested false c.eq.result text c.as_slice.result.now (codes "def") c.if-eq.false c.eq.ensures c.as_slice.ensures)
    ∙ begins_d text c.requires

pub returns-else-eq-2 : goal.returns-else-eq-2
returns-else-eq-2 c =
    let text = c.args.text.now in
    c.kind_if.ensures
    ∙ ap (λ (word : List ℕ). if bytes_eq text word then kind.Profile else kind.Plain) c.as_slice-else-eq-2.ensures
    ∙ ap (λ (a : Bool). if a then kind.Profile else last_of text) (tested false c.eq-else-eq.result text c.as_slice-else-eq.result.now (codes "defac") c.if-eq-2.false c.eq-else-eq.ensures c.as_slice-else-eq.ensures)
    ∙ ap (λ (d : Bool). if d then kind.Def else rest_of text) (tested false c.eq.result text c.as_slice.result.now (codes "def") c.if-eq.false c.eq.ensures c.as_slice.ensures)
    ∙ begins_d text c.requires
