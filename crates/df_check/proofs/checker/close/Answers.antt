use Rattle.std.proofs.Common.{◌∙◌, ap, arith}
use Rattle.df_check.specs.Checkers.{Logs}
use Rattle.df_check.proofs.Branches.{turned}
use Rattle.df_check.proofs.checker.close.Goals as goal

pub returns-then-flags-count-clause-wants : goal.returns-then-flags-count-clause-wants
returns-then-flags-count-clause-wants g c =
    let i = c.loop-count.invariant in
    ap Logs (turned c.loop-count.partial c.undo-column.new.self c.leave.new.self c.loop-count.flags c.loop-count.count c.undo-column.result (omega arith) i.flagged.within c.if-flags-count.true c.undo-column.ensures.last c.undo-column.ensures.decisions c.leave.ensures.value ∙ i.wants)
