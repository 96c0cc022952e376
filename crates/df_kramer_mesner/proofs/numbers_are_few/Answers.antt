use Rattle.df_kramer_mesner.proofs.FewBlocks.{are_few}
use Rattle.df_kramer_mesner.proofs.numbers_are_few.Goals as goal

pub returns : goal.returns
returns c = are_few c.blocks_are_sets.ensures c.subsets_are_all.ensures c.candidates_are_all.ensures
