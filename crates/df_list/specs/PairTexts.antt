-- The lines of the table of pairs of points.
use Rattle.std.specs.Prelude.{ℕ, List, ◌++◌, codes}
use Rattle.std.specs.Fmt.{decimal}
use Rattle.df_lang.specs.Problems.{Stated}
use Rattle.df_lang.specs.Canonical.{point_text}

-- which pair a row is of
abbrev pub pair_name : Stated → ℕ → ℕ → List ℕ
pair_name s p q = ((codes "pair " ++ point_text s.group p) ++ codes " ") ++ point_text s.group q

-- a row with how often its pair is found and how often that is stated, without a line feed
abbrev pub pair_row_text : Stated → ℕ → ℕ → ℕ → ℕ → List ℕ
pair_row_text s p q found stated = (((pair_name s p q ++ codes " found ") ++ decimal found) ++ codes " stated ") ++ decimal stated
