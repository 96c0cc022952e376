use Rattle.df_check.proofs.OpeningSteps.{limits_state}
use Rattle.df_check.proofs.opening.Opening.matrix.Goals as goal

pub returns-in-Ok : goal.returns-in-Ok
returns-in-Ok c = limits_state c.args.self.now c.args.number c.in-Ok.problem c.matrix_of.result c.in-Ok.ensures c.matrix_of.ensures
