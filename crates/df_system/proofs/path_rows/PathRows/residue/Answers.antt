use Rattle.std.proofs.Common.{arith}
use Rattle.df_system.proofs.PathRowLaws.{row_residue, row_no_residue}
use Rattle.df_system.proofs.path_rows.PathRows.residue.Goals as goal
use Rattle.df_system.proofs.path_rows.PathRows.residue.Goals.{else-divisor-gt1-via-then-divisor-gt1+else-need-divisor-ne0, else-divisor-gt1-via-else-divisor-gt1}

pub returns-then-need-divisor-ne0-clause-some : goal.returns-then-need-divisor-ne0-clause-some
returns-then-need-divisor-ne0-clause-some c =
    rw (← c.self.view_is) (row_residue c.args.row c.args.from c.divisor-divisor.result c.get-row_now.result c.self.invariant.rows_are (rw (← c.self.view_is) at c.requires.row) c.get-row_now.ensures (rw (← c.self.view_is) at c.requires.not_over) c.divisor-divisor.ensures c.if-divisor-gt1.true c.if-need-divisor-ne0.true)

pub returns-else-divisor-gt1-clause-none : goal.returns-else-divisor-gt1-clause-none
returns-else-divisor-gt1-clause-none c = λ _.
    rw (← c.self.view_is) (row_no_residue c.args.row c.args.from c.divisor-divisor.result c.get-row_now.result c.self.invariant.rows_are (rw (← c.self.view_is) at c.requires.row) c.get-row_now.ensures (rw (← c.self.view_is) at c.requires.not_over) c.divisor-divisor.ensures (λ two. elim c.else-divisor-gt1.branch [
      | else-divisor-gt1-via-then-divisor-gt1+else-need-divisor-ne0 w ↦ w.if-need-divisor-ne0.false
      | else-divisor-gt1-via-else-divisor-gt1 w ↦ absurd (omega (arith, two, w.if-divisor-gt1.false))
    ]))
