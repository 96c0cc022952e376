use Rattle.std.proofs.Common.{◌≡◌, ◌<◌, length, sym, subst}
use Rattle.df_kramer_mesner.specs.OrbitSystems.{orbits_of, orbit_at}
use Rattle.df_matrix.proofs.matrix.OrbitMatrix.orbit_block.Goals as goal

pub orbit-requires : goal.orbit-requires
orbit-requires c = subst (λ s. c.args.orbit < length (orbits_of s)) (sym c.self.view_is) c.requires

pub returns-clause-orbit : goal.returns-clause-orbit
returns-clause-orbit c = subst (λ s. c.orbit.result ≡ orbit_at s c.args.orbit) c.self.view_is c.orbit.ensures.orbit
