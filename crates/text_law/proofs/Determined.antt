-- The tokens of a file have one cut into texts.
use Rattle.std.proofs.Common.{List, [], ◌∷◌, ◌++◌, ℕ, ◌≡◌, refl, ap, sym, subst, ◌∙◌}
use Rattle.dk_lexer.specs.declared.token.Token.{Token}
use Rattle.dk_parser.specs.Written.{WrittenCommand}
use Rattle.text_law.specs.Cuts.{text_of, AreCut, cut_none, cut_command, TextsAreDetermined}
use Rattle.text_law.proofs.Firsts.{EndsAtDot, nothing_there, spelt_dot, same_dot}

-- the cut of tokens that begin with those of a command
record FirstCut (bytes : List ℕ) (ts us : List Token) (texts : List (List ℕ)) : Type 0 where
  pub commands : List WrittenCommand
  pub rest : List (List ℕ)
  pub texts_are : texts ≡ text_of bytes ts ∷ rest
  pub later : AreCut bytes us commands rest

first_cut : {bytes : List ℕ} {all : List Token} {cs : List WrittenCommand} {texts : List (List ℕ)} (ts us : List Token) → AreCut bytes all cs texts → all ≡ ts ++ us → EndsAtDot ts → FirstCut bytes ts us texts
first_cut ts us cut_none e d = absurd (nothing_there d us e)
first_cut {bytes} ts us (cut_command {ts = vs} {us = ws} {cs} {texts} s rest) e d =
    let same : (vs ≡ ts) × (ws ≡ us) = same_dot (spelt_dot s.form) d e in
    record { commands = cs; rest = texts; texts_are = ap (λ z. text_of bytes z ∷ texts) same.0; later = subst (λ z. AreCut bytes z cs texts) same.1 rest }

nothing_cut : {bytes : List ℕ} {all : List Token} {cs : List WrittenCommand} {texts : List (List ℕ)} → AreCut bytes all cs texts → [] ≡ all → [] ≡ texts
nothing_cut cut_none e = refl
nothing_cut (cut_command {us} s rest) e = absurd (nothing_there (spelt_dot s.form) us e)

determined : {bytes : List ℕ} {ts : List Token} {cs : List WrittenCommand} {texts : List (List ℕ)} → AreCut bytes ts cs texts → (ds : List WrittenCommand) (others : List (List ℕ)) → AreCut bytes ts ds others → texts ≡ others
determined cut_none ds others b = nothing_cut b refl
determined {bytes} (cut_command {ts} {us} {texts} s rest) ds others b =
    let f : FirstCut bytes ts us others = first_cut ts us b refl (spelt_dot s.form) in
    ap (λ zs. text_of bytes ts ∷ zs) (determined rest f.commands f.rest f.later) ∙ sym f.texts_are

pub cut_once : TextsAreDetermined
cut_once bytes ts cs ds texts others a b = determined a ds others b
