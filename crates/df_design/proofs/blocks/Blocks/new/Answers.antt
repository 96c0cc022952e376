use Rattle.std.proofs.Common.{◌<◌, arith}
use Rattle.df_correspondence.specs.Designs.{design}
use Rattle.df_design.proofs.FirstBlocks.{after_none}
use Rattle.df_design.proofs.blocks.Blocks.new.Goals as goal

pub invariant_of-result : goal.invariant_of-result
invariant_of-result c =
    let begins = c.earliest_after.ensures in
    record { long = c.requires.long; maps_are = c.requires.maps; within = omega arith; rest = begins.rest; joined = begins.joined; whole = begins.whole }

pub returns : goal.returns
returns c = after_none (design c.args.matrix.now c.args.chosen.now)
