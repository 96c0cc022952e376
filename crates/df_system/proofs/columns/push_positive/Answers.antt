use Rattle.std.proofs.Common.{ap, ◌∙◌}
use Rattle.df_system.proofs.PositiveCells.{pushed_yes, positive_no}
use Rattle.df_system.proofs.columns.push_positive.Goals as goal
use Rattle.df_system.proofs.columns.push_positive.Goals.{then-value-gt0+in_ok-push, else-value-gt0}

pub loop-row-preserved : goal.loop-row-preserved
loop-row-preserved c =
    elim c.if-value-gt0.branch [
      | then-value-gt0+in_ok-push w ↦ pushed_yes c.args.cells.now.items c.loop-row.cells.items c.if-value-gt0.cells.items c.args.entries.now c.loop-row.row c.loop-row-test.true w.if-value-gt0.true c.loop-row.invariant (ap (λ v. v.items) w.cells-is ∙ w.in_ok-push.ensures.items)
      | else-value-gt0 w ↦ let more = positive_no c.args.entries.now c.loop-row.row c.loop-row-test.true w.if-value-gt0.false in ap (λ v. v.items) w.cells-is ∙ rw (c.loop-row.invariant, more)
    ]
