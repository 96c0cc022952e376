use Rattle.std.proofs.Common.{subst}
use Rattle.df_design.specs.RemainingDesigns.{TurnsDesigns}
use Rattle.df_design.proofs.RemainingLaws.{seen, turns}
use Rattle.df_design.proofs.designs.Designs.next.Goals as goal

pub returns-clause-designs : goal.returns-clause-designs
returns-clause-designs g c =
    let s = c.self.inside.matrix.now in
    subst (λ r. TurnsDesigns r c.next.result (seen s c.next.new.self)) c.self.view_is (turns s c.self.inside.search c.next.new.self c.args.budget.now c.next.new.budget c.next.result c.self.invariant.system_is c.next.ensures.turn)
