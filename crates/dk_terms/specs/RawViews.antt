-- For proofs: the plain data of terms and patterns as read.
use Rattle.std.specs.Prelude.{Option, Some, None}
use Rattle.dk_terms.specs.declared.raw.RawTerm.{RawTerm}
use Rattle.dk_terms.specs.declared.raw.RawPat.{RawPat}
use Rattle.dk_terms.specs.declared.raw.RawPat as Pattern
use Rattle.dk_terms.specs.Postfix.{term_made}
use Rattle.dk_terms.specs.Written.{Written, WrittenPattern, pattern_name, pattern_qualified, pattern_wild, pattern_guard, pattern_apply, pattern_bare}

abbrev pub written : RawTerm → Written
written t = term_made t.letters t.operations

-- a term that may be absent
abbrev pub maybe_written : Option RawTerm → Option Written
maybe_written None = None
maybe_written (Some t) = Some (written t)

abbrev pub written_pattern : RawPat → WrittenPattern
written_pattern (Pattern.Name n) = pattern_name n
written_pattern (Pattern.Qualified m n) = pattern_qualified m n
written_pattern Pattern.Wild = pattern_wild
written_pattern (Pattern.Guard t) = pattern_guard (written t)
written_pattern (Pattern.App' p f q a) = pattern_apply (written_pattern f) (written_pattern a)
written_pattern (Pattern.Abs' x p b) = pattern_bare x (written_pattern b)
