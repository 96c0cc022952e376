use Rattle.std.proofs.Common.{arith}
use Rattle.df_system.proofs.DeadlineTables.{ruled_none, ruled_all}
use Rattle.df_system.proofs.deadlines.ruled_deadlines.Goals as goal

pub loop-row-init : goal.loop-row-init
loop-row-init c = rw c.in_ok-dues.ensures.items (ruled_none c.args.system.now c.args.rules c.args.width)

pub returns : goal.returns
returns c = ruled_all c.requires.some (omega (arith, c.rows-row-end.ensures.value)) c.loop-row.invariant
