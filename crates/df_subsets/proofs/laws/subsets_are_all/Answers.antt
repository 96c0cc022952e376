use Rattle.df_subsets.proofs.SubsetLists.{subsets_long, subsets_inside, subsets_have, subsets_once}
use Rattle.df_subsets.proofs.BlockOrders.{subsets_sorted}
use Rattle.df_subsets.proofs.laws.subsets_are_all.Goals as goal

pub returns : goal.returns
returns c = λ v k. record { long = subsets_long v k; sorted = subsets_sorted v k; inside = subsets_inside v k; have = subsets_have v k; once = subsets_once v k }
