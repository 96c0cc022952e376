use Rattle.df_check.proofs.JudgedMoves.{entry_moves}
use Rattle.df_check.proofs.running.Running.entry.Goals as goal

pub returns : goal.returns
returns c =
    entry_moves _ c.args.self.now c.feed-fed.new.self c.self.inside.checker.problem c.args.number c.args.entry c.feed-fed.result c.fault_of.result c.ruled.result
    c.self.view_is c.self.invariant c.feed-fed.ensures.answer c.feed-fed.ensures.value c.fault_of.ensures c.ruled.ensures
