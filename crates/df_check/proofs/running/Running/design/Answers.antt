use Rattle.std.proofs.Common.{Some, sym, ap, ◌∙◌}
use Rattle.df_check.proofs.JudgedMoves.{design_moves}
use Rattle.df_check.proofs.running.Running.design.Goals as goal

pub returns : goal.returns
returns c =
    design_moves _ c.args.self.now c.feed_design-fed.new.self c.self.inside.checker.problem c.problem.result.now c.args.number c.args.line.now c.deref.result.now c.feed_design-fed.result c.fault_of.result c.ruled.result
    c.self.view_is c.self.invariant c.problem.ensures (c.in_ok-blocks.ensures.ok ∙ ap Some (sym c.deref.ensures.value)) c.feed_design-fed.ensures.answer c.feed_design-fed.ensures.value c.fault_of.ensures c.ruled.ensures
