-- Weighted sums of rows, and when they leave no solution.
use Rattle.std.specs.Prelude.{Bool, ◌||◌, List, [], ◌∷◌, map, ℤ, pos, ◌+ℤ◌, ◌*ℤ◌, int_lt}
use Rattle.std.specs.Int.{int_min, int_max}
use Rattle.df_walk.specs.declared.Cell.{Cell}
use Rattle.df_walk.specs.declared.CutRow.{CutRow}
use Rattle.df_walk.specs.Systems.{System, entry_of}
use Rattle.df_walk.specs.Assignments.{Decisions, open_values, need}

-- the weighted needs, added up
abbrev pub weighted_need : System → Decisions → List CutRow → ℤ
weighted_need s ds [] = pos 0
weighted_need s ds (w ∷ ws) = (w.weight *ℤ need s ds w.row) +ℤ weighted_need s ds ws

-- the weight of a column: its weighted entries, added up
abbrev pub weight_of : List CutRow → List Cell → ℤ
weight_of [] column = pos 0
weight_of (w ∷ ws) column = (w.weight *ℤ pos (entry_of column w.row)) +ℤ weight_of ws column

-- the sum of the negative ones
abbrev pub negatives : List ℤ → ℤ
negatives [] = pos 0
negatives (z ∷ zs) = int_min z (pos 0) +ℤ negatives zs

-- the sum of the positive ones
abbrev pub positives : List ℤ → ℤ
positives [] = pos 0
positives (z ∷ zs) = int_max z (pos 0) +ℤ positives zs

-- the weights of the undecided columns
abbrev pub open_weights : System → Decisions → List CutRow → List ℤ
open_weights s ds ws = open_values (map (weight_of ws) s.columns) ds

-- the least and the greatest sum that undecided columns can give
abbrev pub least_weight : System → Decisions → List CutRow → ℤ
least_weight s ds ws = negatives (open_weights s ds ws)

abbrev pub greatest_weight : System → Decisions → List CutRow → ℤ
greatest_weight s ds ws = positives (open_weights s ds ws)

-- the weighted need is below the least sum or above the greatest
abbrev pub is_cut : System → Decisions → List CutRow → Bool
is_cut s ds ws = int_lt (weighted_need s ds ws) (least_weight s ds ws) || int_lt (greatest_weight s ds ws) (weighted_need s ds ws)
