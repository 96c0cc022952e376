use Rattle.std.proofs.Common.{subst}
use Rattle.df_design.specs.RemainingDesigns.{AdvancesDesigns}
use Rattle.df_design.proofs.RemainingLaws.{seen, advances}
use Rattle.df_design.proofs.designs.Designs.advance.Goals as goal

pub returns-clause-designs : goal.returns-clause-designs
returns-clause-designs g c =
    let s = c.self.inside.matrix.now in
    subst (λ r. AdvancesDesigns r c.advance.result (seen s c.advance.new.self)) c.self.view_is (advances s c.self.inside.search c.advance.new.self c.args.budget.now c.advance.new.budget c.advance.result c.self.invariant.system_is c.advance.ensures.answer)
