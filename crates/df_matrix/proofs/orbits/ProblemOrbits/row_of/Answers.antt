use Rattle.std.proofs.Common.{◌≡◌, ◌<◌, [], ◌∷◌, length, subst, sym, ap, ap₂, arith, ◌∙◌, slice_get, eqb}
use Rattle.df_subsets.specs.Subsets.{place_of}
use Rattle.df_orbits.specs.Orbits.{listed_representatives, pair_orbits, are_in_one_orbit, representative_of}
use Rattle.df_kramer_mesner.specs.OrbitSystems.{pairs_of}
use Rattle.df_matrix.specs.MatrixParts.{AreOrbits}
use Rattle.df_matrix.proofs.OrbitParts.{shown, pairs_long, pairs_listed}
use Rattle.df_matrix.proofs.orbits.ProblemOrbits.row_of.Goals as goal

are : (c : goal.After-number_of) → AreOrbits c.args.self.now c.self.inside.maps c.self.inside.pairs c.self.inside.numbers c.self.inside.blocks
are c = shown c.self.view_is c.self.invariant

listed : (c : goal.After-number_of) → listed_representatives (pair_orbits c.self.inside.numbers) ≡ pairs_of c.args.self.now
listed c = ap (λ M. listed_representatives (pair_orbits M)) (are c).numbers_are ∙ ap listed_representatives (sym (are c).pairs_are) ∙ pairs_listed c.args.self.now (are c)

within : (c : goal.After-number_of) → c.number_of.result < length (pairs_of c.args.self.now)
within c = omega (arith, c.number_of.ensures.within, ap (λ M. length (pair_orbits M)) (are c).numbers_are, ap length (are c).pairs_are, pairs_long c.args.self.now (are c))

pub overflow_cast-result : goal.overflow_cast-result
overflow_cast-result c = let f = c.numbers_are_few.ensures c.args.self.now (are c).stated in omega (arith, within c, f.pairs)

pub returns-clause-number : goal.returns-clause-number
returns-clause-number c = c.number_of.ensures.number ∙ ap₂ (λ M l. place_of (representative_of M (c.args.p ∷ c.args.q ∷ [])) l) (are c).numbers_are (listed c)

pub returns-clause-within : goal.returns-clause-within
returns-clause-within c = within c

pub returns-clause-orbit : goal.returns-clause-orbit
returns-clause-orbit c = λ i pair h.
    subst (λ M. are_in_one_orbit M (c.args.p ∷ c.args.q ∷ []) pair ≡ eqb i c.number_of.result) (are c).numbers_are (c.number_of.ensures.orbit i pair (ap (λ l. slice_get l i) (listed c) ∙ h))
