use Rattle.df_system.proofs.BarredRows.{first_barred_more, first_barred_same}
use Rattle.df_system.proofs.path_rows.bar_first.Goals as goal
use Rattle.df_system.proofs.path_rows.bar_first.Goals.{then-now, else-now}

pub loop-row-preserved : goal.loop-row-preserved
loop-row-preserved c = elim c.if-now.branch [
  | then-now w ↦ rw w.barred-is (first_barred_more w.bar.new.self w.bar.ensures (rw c.get-now.ensures at w.if-now.true) c.loop-row.invariant)
  | else-now w ↦ rw w.barred-is (first_barred_same (rw c.get-now.ensures at w.if-now.false) c.loop-row.invariant)
]
