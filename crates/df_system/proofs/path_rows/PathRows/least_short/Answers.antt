use Rattle.std.proofs.Common.{arith, ap, length, sym, ◌∙◌}
use Rattle.df_walk.proofs.RowTests.{least_row_is, least_row_none}
use Rattle.df_system.specs.PathRows.{is_short_from}
use Rattle.df_system.proofs.path_rows.PathRows.least_short.Goals as goal

pub returns-then-is_short : goal.returns-then-is_short
returns-then-is_short c = sym (least_row_is c.args.self.now.system (is_short_from c.args.self.now c.args.from) c.loop-row.row (omega (arith, c.loop-row-test.true, c.rows-row-end.ensures.value, ap (λ v. length v.system.targets) c.self.view_is)) (sym c.is_short.ensures ∙ c.if-is_short.true) c.loop-row.invariant)

pub returns : goal.returns
returns c = sym (least_row_none c.args.self.now.system (is_short_from c.args.self.now c.args.from) c.loop-row.row (omega (arith, c.loop-row-test.false, c.rows-row-end.ensures.value, ap (λ v. length v.system.targets) c.self.view_is)) c.loop-row.invariant)
