-- How the stored pieces of a problem are seen.
use Rattle.std.specs.Prelude.{ℕ, List}
use Rattle.arrayvec.specs.ArrayVec.{ArrayVec}
use Rattle.df_lang.specs.Problems.{Named}

abbrev pub named : ArrayVec ℕ × List ℕ → Named
named e = (e.0.items, e.1)

abbrev pub items_of : ArrayVec ℕ → List ℕ
items_of v = v.items
