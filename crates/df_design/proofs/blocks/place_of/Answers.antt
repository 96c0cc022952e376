use Rattle.df_design.proofs.BlockPlaces.{block_found}
use Rattle.df_design.proofs.blocks.place_of.Goals as goal

pub returns : goal.returns
returns c = block_found c.blocks_are_ordered.ensures c.args.ready.now c.args.block.now c.binary_search.result c.requires c.binary_search.ensures.bound c.binary_search.ensures.position
