use Rattle.std.proofs.Common.{◌≡◌, [], length}
use Rattle.df_io.specs.Lines.{left}
use Rattle.df_lang.specs.Values.{points_from}
use Rattle.df_lang.proofs.blocks.block.Given as goal

abbrev pub invariant-loop-token : goal.invariant-loop-token
invariant-loop-token l = points_from l.shape l.fixed l.sizes l.block (left l.tokens) ≡ points_from l.shape l.fixed l.sizes [] (left l.fn.tokens)

abbrev pub decreases-loop-token : goal.decreases-loop-token
decreases-loop-token l = length (left l.tokens)
