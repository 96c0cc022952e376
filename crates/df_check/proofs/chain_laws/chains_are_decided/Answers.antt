use Rattle.df_check.proofs.ChainVerdicts.{chains_decided}
use Rattle.df_check.proofs.chain_laws.chains_are_decided.Goals as goal

pub returns : goal.returns
returns c = chains_decided c.blocks_are_ordered.ensures.equality c.design_lines_close_proofs.ensures
