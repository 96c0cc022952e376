-- The lines of the difference table.
use Rattle.std.specs.Prelude.{ℕ, List, ◌++◌, codes}
use Rattle.std.specs.Fmt.{decimal}
use Rattle.df_lang.specs.Problems.{Stated}
use Rattle.df_lang.specs.Canonical.{point_text}
use Rattle.df_family.specs.Tables.{fixed_point}
use Rattle.df_family.specs.declared.table.Row.{Row}
use Rattle.df_family.specs.declared.table.Row.TheVariants.{Diff, WithFixed, TwoFixed}

-- what a row counts: the pairs of this difference, those with this fixed point, or those of these two
abbrev pub row_name : Stated → Row → List ℕ
row_name s (Diff d) = codes "diff " ++ point_text s.group d
row_name s (WithFixed i) = codes "fixed " ++ point_text s.group (fixed_point s i)
row_name s (TwoFixed i j) = ((codes "fixed " ++ point_text s.group (fixed_point s i)) ++ codes " ") ++ point_text s.group (fixed_point s j)

-- a row with how often it is found and how often that is stated, without a line feed
abbrev pub row_text : Stated → Row → ℕ → ℕ → List ℕ
row_text s row found stated = (((row_name s row ++ codes " found ") ++ decimal found) ++ codes " stated ") ++ decimal stated
