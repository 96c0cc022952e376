use Rattle.df_subsets.proofs.SubsetLists.{same_list-gives, same_list-self}
use Rattle.df_subsets.proofs.BlockOrders.{lists_ordered, before_is}
use Rattle.df_subsets.proofs.laws.blocks_are_ordered.Goals as goal

pub returns : goal.returns
returns c = record { equality = record { same = same_list-gives; self = same_list-self }; order = lists_ordered; of_lists = before_is }
