use Rattle.std.proofs.Common.{arith}
use Rattle.df_matrix.specs.MatrixParts.{AreOrbits}
use Rattle.df_matrix.proofs.OrbitParts.{shown, pairs_long, row_sized, row_some}
use Rattle.df_matrix.proofs.orbits.ProblemOrbits.row_size.Goals as goal

are : (c : goal.After-size) → AreOrbits c.args.self.now c.self.inside.maps c.self.inside.pairs c.self.inside.numbers c.self.inside.blocks
are c = shown c.self.view_is c.self.invariant

pub returns-clause-size : goal.returns-clause-size
returns-clause-size c = row_sized c.args.self.now (are c) c.args.row c.size.result c.size.ensures c.requires.row

pub returns-clause-some : goal.returns-clause-some
returns-clause-some c = row_some c.args.self.now (are c) c.entries_are_quotients.ensures c.args.row c.size.result c.requires.row (row_sized c.args.self.now (are c) c.args.row c.size.result c.size.ensures c.requires.row) c.requires.orbits

pub size-requires : goal.size-requires
size-requires c = omega (arith, c.requires.row, pairs_long c.args.self.now (shown c.self.view_is c.self.invariant))
