use Rattle.df_check.proofs.DesignLeaves.{columns_told}
use Rattle.df_check.proofs.design_laws.designs_tell_columns.Goals as goal

pub returns : goal.returns
returns c = λ s is columns ds all few. columns_told c.blocks_are_ordered.ensures.equality s (c.orbits_are_numbered.ensures s is) columns ds all few
