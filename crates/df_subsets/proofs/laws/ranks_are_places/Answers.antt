use Rattle.df_subsets.proofs.Places.{rank_below, at_rank, rank_of}
use Rattle.df_subsets.proofs.laws.ranks_are_places.Goals as goal

pub returns : goal.returns
returns c = λ v k. record { below = rank_below v k; at = at_rank v k; of = rank_of v k }
