use Rattle.std.proofs.Common.{◌≡◌, ◌∷◌, [], subst, IfOk}
use Rattle.df_orbits.specs.Orbits.{pair_orbits, block_orbits}
use Rattle.df_orbits.proofs.orbits.pair_orbits.Goals as goal

pub returns-clause-pairs : goal.returns-clause-pairs
returns-clause-pairs c = subst (λ M. IfOk c.orbits_of_pairs.result (λ orbits. orbits ≡ pair_orbits M)) c.in_ok-images.ensures c.orbits_of_pairs.ensures.pairs

pub returns-clause-sized : goal.returns-clause-sized
returns-clause-sized c = subst (λ M. IfOk c.orbits_of_pairs.result (λ orbits. orbits ≡ block_orbits M (2 ∷ []))) c.in_ok-images.ensures c.orbits_of_pairs.ensures.sized
