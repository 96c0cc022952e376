use Rattle.df_subsets.proofs.block.Block.from_bits.Goals as goal

pub invariant_of-result : goal.invariant_of-result
invariant_of-result c = c.from_bits.ensures.set
