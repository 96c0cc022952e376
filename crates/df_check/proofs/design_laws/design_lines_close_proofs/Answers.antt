use Rattle.df_check.proofs.DesignLeaves.{lines_prove}
use Rattle.df_check.proofs.design_laws.design_lines_close_proofs.Goals as goal

pub returns : goal.returns
returns c = λ s lines. lines_prove c.blocks_are_ordered.ensures.equality s c.lines_close_proofs.ensures lines
