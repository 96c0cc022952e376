use Rattle.df_matrix.specs.MatrixParts.{AreOrbits}
use Rattle.df_matrix.proofs.OrbitParts.{shown}
use Rattle.df_matrix.proofs.orbits.ProblemOrbits.maps.Goals as goal

pub returns : goal.returns
returns c = let K : AreOrbits c.args.self.now c.self.inside.maps c.self.inside.pairs c.self.inside.numbers c.self.inside.blocks = shown c.self.view_is c.self.invariant in K.maps_are
