-- The problem of a source, or its first line that breaks a rule.
use Rattle.std.specs.Prelude.{ℕ, ◌+◌, List, [], ◌∷◌, map, unwrap_or, Result, Ok, Err}
use Rattle.df_io.specs.Lines.{lines_of, tokens_of}
use Rattle.df_lang.specs.declared.fault.SourceFault.{SourceFault}
use Rattle.df_lang.specs.declared.fault.SourceError.{SourceError}
use Rattle.df_lang.specs.declared.pieces.Which.TheVariants as which
use Rattle.df_lang.specs.Rules.{◌>>=◌}
use Rattle.df_lang.specs.StandsAbove.{Above, nothing, group_of, sizes_of, lambda_of, fixed_of, version_of}
use Rattle.df_lang.specs.Problems.{Stated}
use Rattle.df_lang.specs.Statements.{step}

-- a fault, with the number of its line
abbrev pub at_line : {A : Type 0} → ℕ → Result A SourceFault → Result A SourceError
at_line number (Ok x) = Ok x
at_line number (Err fault) = Err record { line = number; fault = fault }

-- the end of a source: what is needed has to stand above, and what isn't stated is as usual
unfoldable pub whole : Above → Result Stated SourceFault
whole a = group_of a >>= λ fs. sizes_of a >>= λ ks. lambda_of a >>= λ target. Ok record {
  version = version_of a;
  group = fs;
  fixed = fixed_of a;
  names = a.names;
  shift = unwrap_or a.shift which.All;
  mults = unwrap_or a.mults [];
  sizes = ks;
  lambda = target;
  inside = a.inside;
  hole = unwrap_or a.hole target;
  family = a.family;
  required = a.required;
  forbidden = a.forbidden;
}

-- the problem, where this stands above the line of this number and these are the tokens of the lines from it on
unfoldable pub from_line : ℕ → Above → List (List (List ℕ)) → Result Stated SourceError
from_line number a [] = at_line 0 (whole a)
from_line number a (tokens ∷ lines) = at_line number (step a tokens) >>= λ more. from_line (number + 1) more lines

-- the problem that the bytes state
unfoldable pub source : List ℕ → Result Stated SourceError
source bytes = from_line 1 nothing (map tokens_of (lines_of bytes))
