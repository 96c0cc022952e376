use Rattle.df_system.specs.Deadlines.{AreRuled}
use Rattle.df_system.proofs.deadlines.ruled_deadlines.Given as goal

abbrev pub invariant-loop-row : goal.invariant-loop-row
invariant-loop-row l = AreRuled l.system l.rules l.width l.row l.dues.items
