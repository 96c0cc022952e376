use Rattle.std.proofs.Common.{◌≡◌, ◌<◌, length, sym, subst, ◌∙◌}
use Rattle.df_kramer_mesner.specs.OrbitSystems.{orbits_of, orbit_at, cells_of}
use Rattle.df_matrix.proofs.matrix.OrbitMatrix.orbit_cells.Goals as goal

pub orbit_cells-requires-clause-orbit : goal.orbit_cells-requires-clause-orbit
orbit_cells-requires-clause-orbit c = subst (λ s. c.args.orbit < length (orbits_of s)) (sym c.self.view_is) c.requires

pub orbit_cells-requires-clause-needed : goal.orbit_cells-requires-clause-needed
orbit_cells-requires-clause-needed c = c.deref.ensures.value ∙ c.self.invariant.needed_are

pub returns : goal.returns
returns c = subst (λ s. c.orbit_cells.result.items ≡ cells_of s (orbit_at s c.args.orbit)) c.self.view_is c.orbit_cells.ensures.cells
