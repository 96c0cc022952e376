use Rattle.std.proofs.Common.{arith}
use Rattle.df_lists.proofs.RisingLists.{Rises-more, has_more}
use Rattle.df_subsets.proofs.BlockLaws.{length_more}
use Rattle.df_subsets.proofs.laws.blocks_are_extended.Goals as goal

pub returns : goal.returns
returns c = record { block = λ v p b h r. Rises-more 0 v p b (omega arith) h r; has = has_more; size = length_more 0 }
