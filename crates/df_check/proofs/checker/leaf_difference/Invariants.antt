use Rattle.std.proofs.Common.{ℕ, ◌≤◌, length, nat_eq}
use Rattle.df_check.proofs.LeafLists.{AgreeTo}
use Rattle.df_check.proofs.checker.leaf_difference.Given as goal

abbrev pub invariant-loop-column : goal.invariant-loop-column
invariant-loop-column l = record {
  within : l.place ≤ length l.columns;
  few : l.place ≤ l.column;
  agree : AgreeTo nat_eq (λ (column : ℕ). column) l.columns l.partial.decisions l.place l.column;
}
