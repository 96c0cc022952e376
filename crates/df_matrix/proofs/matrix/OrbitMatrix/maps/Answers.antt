use Rattle.std.proofs.Common.{ap, ◌∙◌}
use Rattle.df_kramer_mesner.specs.OrbitSystems.{maps_of_problem}
use Rattle.df_matrix.proofs.matrix.OrbitMatrix.maps.Goals as goal

pub returns : goal.returns
returns c = c.maps.ensures ∙ ap maps_of_problem c.self.view_is
