use Rattle.df_system.proofs.DeadlineTables.{RuledPart}
use Rattle.df_system.proofs.deadlines.push_ruled.Given as goal

abbrev pub invariant-loop-need : goal.invariant-loop-need
invariant-loop-need l = RuledPart l.system l.rules l.width l.row l.need l.dues.items
