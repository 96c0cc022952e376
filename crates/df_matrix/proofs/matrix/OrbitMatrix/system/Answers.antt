use Rattle.std.proofs.Common.{ap, ◌∙◌}
use Rattle.df_kramer_mesner.specs.OrbitSystems.{orbit_system}
use Rattle.df_matrix.proofs.matrix.OrbitMatrix.system.Goals as goal

pub returns : goal.returns
returns c = c.self.invariant.system_is ∙ ap orbit_system c.self.view_is
