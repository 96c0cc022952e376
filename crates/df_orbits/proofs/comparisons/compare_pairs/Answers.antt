use Rattle.std.proofs.Common.{◌∷◌, [], inl, sym, rules}
use Rattle.df_orbits.proofs.comparisons.compare_pairs.Goals as goal

-- these are the orbits of the blocks of two points, and the block is one
pub number_of-requires-in-loop-place-clause-making : goal.number_of-requires-in-loop-place-clause-making
number_of-requires-in-loop-place-clause-making g c = (2 ∷ [], search rules, inl (sym c.placed-block.ensures.size))
