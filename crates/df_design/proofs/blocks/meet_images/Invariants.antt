use Rattle.df_design.specs.LeftBlocks.{AreMet}
use Rattle.df_design.proofs.blocks.meet_images.Given as goal

abbrev pub invariant-loop-i : goal.invariant-loop-i
invariant-loop-i l = AreMet l.images l.base l.last l.initial.ready.items l.ready.items l.i
