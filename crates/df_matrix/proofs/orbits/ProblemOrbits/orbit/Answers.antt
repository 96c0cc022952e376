use Rattle.std.proofs.Common.{◌≡◌, [], get_or, sym, ap, subst, arith, ◌∙◌}
use Rattle.df_lists.specs.Membership.{In}
use Rattle.df_lists.proofs.ListPlaces.{In-get_or}
use Rattle.df_lang.specs.Problems.{point_count}
use Rattle.df_kramer_mesner.specs.OrbitSystems.{orbits_of, orbit_at, all_blocks}
use Rattle.df_matrix.specs.MatrixParts.{AreOrbits}
use Rattle.df_matrix.proofs.OrbitParts.{shown, blocks_long, blocks_listed, orbit_member}
use Rattle.df_matrix.proofs.orbits.ProblemOrbits.orbit.Goals as goal

are : (c : goal.After-rep) → AreOrbits c.args.self.now c.self.inside.maps c.self.inside.pairs c.self.inside.numbers c.self.inside.blocks
are c = shown c.self.view_is c.self.invariant

at : (c : goal.After-rep) → c.rep.result ≡ orbit_at c.args.self.now c.args.orbit
at c = c.rep.ensures ∙ ap (λ l. get_or l c.args.orbit []) (blocks_listed c.args.self.now (are c))

member : (c : goal.After-rep) → In (orbits_of c.args.self.now) c.rep.result
member c = subst (In (orbits_of c.args.self.now)) (sym (at c)) (In-get_or (orbits_of c.args.self.now) c.args.orbit [] c.requires)

pub returns-clause-orbit : goal.returns-clause-orbit
returns-clause-orbit c = at c

pub returns-clause-block : goal.returns-clause-block
returns-clause-block c =
    let f = c.numbers_are_few.ensures c.args.self.now (are c).stated in
    let sets = c.blocks_are_sets.ensures in
    (f.orbit c.rep.result (member c)).set

pub returns-clause-size : goal.returns-clause-size
returns-clause-size c =
    let f = c.numbers_are_few.ensures c.args.self.now (are c).stated in
    f.orbit_high c.rep.result (member c)

pub rep-requires : goal.rep-requires
rep-requires c = omega (arith, c.requires, blocks_long c.args.self.now (shown c.self.view_is c.self.invariant))

pub returns-clause-member : goal.returns-clause-member
returns-clause-member c = subst (In (all_blocks c.args.self.now)) (sym (at c)) (orbit_member c.args.self.now (are c) c.args.orbit c.requires)

pub returns-clause-stated : goal.returns-clause-stated
returns-clause-stated c = (are c).stated
