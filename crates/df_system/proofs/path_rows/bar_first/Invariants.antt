use Rattle.df_system.proofs.BarredRows.{BarredFirst}
use Rattle.df_system.proofs.path_rows.bar_first.Given as goal

abbrev pub invariant-loop-row : goal.invariant-loop-row
invariant-loop-row l = BarredFirst l.initial.barred l.barred l.rows l.row
