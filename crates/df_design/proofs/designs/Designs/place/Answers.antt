use Rattle.std.proofs.Common.{subst}
use Rattle.df_design.specs.RemainingDesigns.{StandsAt}
use Rattle.df_design.proofs.RemainingLaws.{stands_at}
use Rattle.df_design.proofs.designs.Designs.place.Goals as goal

pub returns-clause-stands : goal.returns-clause-stands
returns-clause-stands c = subst (λ r. StandsAt r c.place.result.decisions.now) c.self.view_is (stands_at c.self.inside.matrix.now c.self.inside.search c.place.result.decisions.now c.self.invariant.system_is c.place.ensures.stands)
