use Rattle.std.proofs.Common.{nat_eq}
use Rattle.df_lists.proofs.SetLaws.{numbers_equal}
use Rattle.df_subsets.specs.Subsets.{same_list}
use Rattle.df_check.proofs.LeafLists.{differences_told}
use Rattle.df_check.proofs.laws.differences_tell.Goals as goal

pub returns : goal.returns
returns c = record { numbers = differences_told nat_eq numbers_equal; blocks = differences_told same_list c.blocks_are_ordered.ensures.equality }
