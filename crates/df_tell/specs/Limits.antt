-- What is printed of a problem that is above a limit.
use Rattle.std.specs.Prelude.{ℕ, List, [], ◌∷◌, ◌++◌, codes}
use Rattle.std.specs.Fmt.{decimal}
use Rattle.df_tell.specs.declared.limits.Limit.{Limit}
use Rattle.df_tell.specs.declared.limits.Limit.TheVariants.{Subsets, SizedSubsets, Columns, Entries}
use Rattle.df_matrix.specs.declared.matrix.TheConstants.{MOST_COLUMNS, MOST_ENTRIES}
use Rattle.df_orbits.specs.declared.orbits.TheConstants.{MOST_SUBSETS, MOST_SUMMED}

-- the limit itself
unfoldable pub bound_text : ℕ → List ℕ
bound_text most = codes " above " ++ (decimal most ++ 10 ∷ [])

-- what the problem has, and what it may have
unfoldable pub limit_text : Limit → List ℕ
limit_text (Subsets k v) = (((codes "limit subsets " ++ decimal k) ++ codes " of ") ++ decimal v) ++ bound_text MOST_SUBSETS
limit_text (SizedSubsets v) = (codes "limit subsets of " ++ decimal v) ++ bound_text MOST_SUMMED
limit_text (Columns columns) = (codes "limit columns " ++ decimal columns) ++ bound_text MOST_COLUMNS
limit_text (Entries entries) = (codes "limit entries " ++ decimal entries) ++ bound_text MOST_ENTRIES
