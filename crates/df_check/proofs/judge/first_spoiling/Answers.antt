use Rattle.std.proofs.Common.{◌≡◌, ◌∙◌, sym, arith}
use Rattle.df_check.proofs.ColumnTests.{first_is, none_spoils}
use Rattle.df_check.proofs.judge.first_spoiling.Goals as goal

pub returns-then-spoils : goal.returns-then-spoils
returns-then-spoils g c = sym (first_is c.args.system.now c.args.partial.now.decisions c.args.m c.args.row c.loop-column.column (omega (arith, c.columns-column-end.ensures.value)) (sym c.spoils.ensures ∙ c.if-spoils.true) c.loop-column.invariant)

pub returns : goal.returns
returns g c = sym (none_spoils c.args.system.now c.args.partial.now.decisions c.args.m c.args.row (λ k l. c.loop-column.invariant k (omega (arith, c.columns-column-end.ensures.value))))
