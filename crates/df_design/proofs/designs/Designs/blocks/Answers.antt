use Rattle.std.proofs.Common.{◌≡◌, sym, subst}
use Rattle.df_correspondence.specs.Designs.{design}
use Rattle.df_design.proofs.RemainingLaws.{blocks_listed}
use Rattle.df_design.proofs.designs.Designs.blocks.Goals as goal

pub returns : goal.returns
returns c =
    let x = c.chosen.result.now in
    blocks_listed c.args.self.now x c.new.result c.chosen.ensures.value (subst (λ r. design r.problem x ≡ c.new.result) c.self.view_is (sym c.new.ensures))
