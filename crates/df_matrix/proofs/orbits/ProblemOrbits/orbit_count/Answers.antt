use Rattle.std.proofs.Common.{arith, ◌∙◌}
use Rattle.df_matrix.specs.MatrixParts.{AreOrbits}
use Rattle.df_matrix.proofs.OrbitParts.{shown, blocks_long, orbits_few}
use Rattle.df_matrix.proofs.orbits.ProblemOrbits.orbit_count.Goals as goal

are : (c : goal.After-len) → AreOrbits c.args.self.now c.self.inside.maps c.self.inside.pairs c.self.inside.numbers c.self.inside.blocks
are c = shown c.self.view_is c.self.invariant

pub returns-clause-count : goal.returns-clause-count
returns-clause-count c = c.len.ensures ∙ blocks_long c.args.self.now (are c)

pub returns-clause-few : goal.returns-clause-few
returns-clause-few c = omega (arith, c.len.ensures, blocks_long c.args.self.now (are c), orbits_few c.args.self.now (are c))

pub returns-clause-blocks : goal.returns-clause-blocks
returns-clause-blocks c = (are c).few

pub returns-clause-stated : goal.returns-clause-stated
returns-clause-stated c = (are c).stated
