use Rattle.std.proofs.Common.{length, ap, ◌∙◌}
use Rattle.df_kramer_mesner.specs.OrbitSystems.{orbits_of}
use Rattle.df_matrix.proofs.matrix.OrbitMatrix.orbit_count.Goals as goal

pub returns : goal.returns
returns c = c.orbit_count.ensures.count ∙ ap (λ s. length (orbits_of s)) c.self.view_is
