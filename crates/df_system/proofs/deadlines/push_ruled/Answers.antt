use Rattle.std.proofs.Common.{arith}
use Rattle.df_system.proofs.DeadlineTables.{part_begin, part_more, part_end}
use Rattle.df_system.proofs.deadlines.push_ruled.Goals as goal

pub loop-need-init : goal.loop-need-init
loop-need-init c = part_begin c.requires.dues

pub ruled_deadline-requires-clause-short : goal.ruled_deadline-requires-clause-short
ruled_deadline-requires-clause-short c = c.requires.shorts.each c.args.row c.loop-need.need c.requires.row c.loop-need-test.true

pub loop-need-preserved : goal.loop-need-preserved
loop-need-preserved c = part_more c.push.new.self.items c.ruled_deadline.result c.in_ok-push.ensures.items c.loop-need-test.true c.loop-need.invariant c.ruled_deadline.ensures

pub returns : goal.returns
returns c = part_end (omega arith) c.loop-need.invariant
