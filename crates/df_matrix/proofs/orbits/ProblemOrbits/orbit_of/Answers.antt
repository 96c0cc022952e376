use Rattle.std.proofs.Common.{◌≡◌, length, subst, sym, ap, ap₂, arith, ◌∙◌, slice_get, eqb}
use Rattle.df_lists.specs.NumberSets.{IsSet}
use Rattle.df_subsets.specs.Subsets.{place_of}
use Rattle.df_lists.proofs.TestLaws.{has_gives}
use Rattle.df_lang.specs.Problems.{point_count}
use Rattle.df_maps.specs.FullMaps as maps
use Rattle.df_orbits.specs.Orbits.{block_orbits, are_in_one_orbit, representative_of}
use Rattle.df_matrix.specs.MatrixParts.{AreOrbits}
use Rattle.df_matrix.proofs.OrbitParts.{shown, blocks_long, blocks_listed}
use Rattle.df_matrix.proofs.orbits.ProblemOrbits.orbit_of.Goals as goal

are : (c : goal.After-number_of) → AreOrbits c.args.self.now c.self.inside.maps c.self.inside.pairs c.self.inside.numbers c.self.inside.blocks
are c = shown c.self.view_is c.self.invariant

pub returns-clause-number : goal.returns-clause-number
returns-clause-number c = c.number_of.ensures.number ∙ ap₂ (λ M l. place_of (representative_of M c.args.block.now) l) (are c).maps_are (blocks_listed c.args.self.now (are c))

pub returns-clause-within : goal.returns-clause-within
returns-clause-within c = omega (arith, c.number_of.ensures.within, blocks_long c.args.self.now (are c))

pub returns-clause-orbit : goal.returns-clause-orbit
returns-clause-orbit c = λ i b h.
    subst (λ M. are_in_one_orbit M c.args.block.now b ≡ eqb i c.number_of.result) (are c).maps_are (c.number_of.ensures.orbit i b (ap (λ l. slice_get l i) (blocks_listed c.args.self.now (are c)) ∙ h))

pub number_of-requires-clause-making : goal.number_of-requires-clause-making
number_of-requires-clause-making c =
    let K : AreOrbits c.args.self.now c.self.inside.maps c.self.inside.pairs c.self.inside.numbers c.self.inside.blocks = shown c.self.view_is c.self.invariant in
    (c.args.self.now.sizes, K.orbits_are ∙ ap (λ M. block_orbits M c.args.self.now.sizes) (sym K.maps_are), has_gives c.args.self.now.sizes (length c.args.block.now) c.requires.size)

pub number_of-requires-clause-block : goal.number_of-requires-clause-block
number_of-requires-clause-block c =
    let K : AreOrbits c.args.self.now c.self.inside.maps c.self.inside.pairs c.self.inside.numbers c.self.inside.blocks = shown c.self.view_is c.self.invariant in
    let sets = c.blocks_are_sets.ensures in
    subst (λ M. IsSet (maps.point_count M) c.args.block.now) (sym K.maps_are) c.requires.set
