use Rattle.std.proofs.Common.{◌≤◌, length}
use Rattle.df_subsets.specs.Subsets.{same_list}
use Rattle.df_kramer_mesner.specs.OrbitSystems.{column_at}
use Rattle.df_check.proofs.LeafLists.{AgreeTo}
use Rattle.df_check.proofs.design_checker.design_difference.Given as goal

abbrev pub invariant-loop-column : goal.invariant-loop-column
invariant-loop-column l = record {
  within : l.place ≤ length l.blocks;
  few : l.place ≤ l.column;
  agree : AgreeTo same_list (column_at l.matrix) l.blocks l.partial.decisions l.place l.column;
}
