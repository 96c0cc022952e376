use Rattle.std.proofs.Common.{◌≡◌, drop, nat_le, get_or}
use Rattle.std.specs.List.{list_all}
use Rattle.df_matrix.proofs.cells.fit.Given as goal

abbrev pub invariant-loop-cell : goal.invariant-loop-cell
invariant-loop-cell l = list_all (λ cell. nat_le cell.value (get_or l.targets cell.row 0)) (drop l.cell-index l.cells) ≡ list_all (λ cell. nat_le cell.value (get_or l.targets cell.row 0)) l.cells
