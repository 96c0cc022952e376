use Rattle.std.proofs.Common.{◌≡◌, arith}
use Rattle.df_kramer_mesner.specs.OrbitSystems.{orbit_at, orbit_size}
use Rattle.df_matrix.specs.MatrixParts.{AreOrbits}
use Rattle.df_matrix.proofs.OrbitParts.{shown, blocks_long, orbit_sized, orbit_some}
use Rattle.df_matrix.proofs.orbits.ProblemOrbits.orbit_size.Goals as goal

are : (c : goal.After-size) → AreOrbits c.args.self.now c.self.inside.maps c.self.inside.pairs c.self.inside.numbers c.self.inside.blocks
are c = shown c.self.view_is c.self.invariant

is : (c : goal.After-size) → c.size.result ≡ orbit_size c.args.self.now (orbit_at c.args.self.now c.args.orbit)
is c = orbit_sized c.args.self.now (are c) c.args.orbit c.size.result c.size.ensures c.requires

pub returns-clause-size : goal.returns-clause-size
returns-clause-size c = is c

pub returns-clause-few : goal.returns-clause-few
returns-clause-few c =
    let f = c.numbers_are_few.ensures c.args.self.now (are c).stated in
    let k = are c in
    omega (arith, is c, f.size (orbit_at c.args.self.now c.args.orbit), k.few)

pub size-requires : goal.size-requires
size-requires c = omega (arith, c.requires, blocks_long c.args.self.now (shown c.self.view_is c.self.invariant))

pub returns-clause-some : goal.returns-clause-some
returns-clause-some c = omega (arith, is c, orbit_some c.args.self.now (are c) c.numbers_are_few.ensures c.args.orbit c.requires)
