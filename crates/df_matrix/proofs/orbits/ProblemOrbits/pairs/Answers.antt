use Rattle.std.proofs.Common.{◌≡◌, ◌≤◌, ℕ, List, length, ap, sym, subst, arith, All}
use Rattle.df_lists.proofs.ListPlaces.{All-from_members}
use Rattle.df_kramer_mesner.specs.OrbitSystems.{pairs_of}
use Rattle.df_matrix.specs.MatrixParts.{AreOrbits}
use Rattle.df_matrix.proofs.OrbitParts.{shown, pairs_listed}
use Rattle.df_matrix.proofs.orbits.ProblemOrbits.pairs.Goals as goal

pub returns-clause-orbits : goal.returns-clause-orbits
returns-clause-orbits c = let K : AreOrbits c.args.self.now c.self.inside.maps c.self.inside.pairs c.self.inside.numbers c.self.inside.blocks = shown c.self.view_is c.self.invariant in K.pairs_are

pub returns-clause-short : goal.returns-clause-short
returns-clause-short c =
    let s = c.args.self.now in
    let K : AreOrbits c.args.self.now c.self.inside.maps c.self.inside.pairs c.self.inside.numbers c.self.inside.blocks = shown c.self.view_is c.self.invariant in
    let few = c.numbers_are_few.ensures s K.stated in
    subst (All (λ (pair : List ℕ). length pair ≤ 16)) (sym (pairs_listed s K)) (All-from_members (λ (pair : List ℕ). length pair ≤ 16) (pairs_of s) (λ pair i. let P = few.pair pair i in omega (arith, ap length P.points)))
