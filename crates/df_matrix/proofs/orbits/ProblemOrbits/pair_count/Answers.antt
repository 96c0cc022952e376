use Rattle.std.proofs.Common.{◌≡◌, ◌≤◌, length, arith, ◌∙◌}
use Rattle.df_kramer_mesner.specs.OrbitSystems.{pairs_of}
use Rattle.df_matrix.specs.MatrixParts.{AreOrbits}
use Rattle.df_matrix.proofs.OrbitParts.{shown, pairs_long}
use Rattle.df_matrix.proofs.orbits.ProblemOrbits.pair_count.Goals as goal

are : (c : goal.After-len) → AreOrbits c.args.self.now c.self.inside.maps c.self.inside.pairs c.self.inside.numbers c.self.inside.blocks
are c = shown c.self.view_is c.self.invariant

counted : (c : goal.After-len) → c.len.result ≡ length (pairs_of c.args.self.now)
counted c = c.len.ensures ∙ pairs_long c.args.self.now (are c)

few : (c : goal.After-len) → c.len.result ≤ 8128
few c = let f = c.numbers_are_few.ensures c.args.self.now (are c).stated in omega (arith, counted c, f.pairs)

pub overflow_cast-result : goal.overflow_cast-result
overflow_cast-result c = omega (arith, few c)

pub returns-clause-count : goal.returns-clause-count
returns-clause-count c = counted c

pub returns-clause-small : goal.returns-clause-small
returns-clause-small c = few c

pub returns-clause-stated : goal.returns-clause-stated
returns-clause-stated c = (are c).stated
