use Rattle.df_kramer_mesner.proofs.ProblemMaps.{problem_group}
use Rattle.df_kramer_mesner.proofs.SparseColumns.{are_sparse}
use Rattle.df_kramer_mesner.proofs.columns_are_sparse.Goals as goal

pub returns : goal.returns
returns c = λ s is. are_sparse c.blocks_are_sets.ensures c.blocks_are_ordered.ensures c.subsets_are_all.ensures c.candidates_are_all.ensures s is (problem_group c.maps_are_made.ensures c.maps_are_groups.ensures s is)
