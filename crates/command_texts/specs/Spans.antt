-- For callers: the bytes at some places of a file.
use Rattle.std.specs.Prelude.{ℕ, List, map}
use Rattle.text_law.specs.Cuts.{between}
use Rattle.command_texts.specs.declared.span.Span.{Span}

-- the bytes at each of these places
abbrev pub cut : List ℕ → List Span → List (List ℕ)
cut bytes spans = map (λ (s : Span). between bytes s.begin s.end) spans
