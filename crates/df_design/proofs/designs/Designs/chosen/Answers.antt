use Rattle.std.proofs.Common.{length, ap, ◌∙◌}
use Rattle.df_kramer_mesner.specs.OrbitSystems.{columns_of}
use Rattle.df_design.proofs.RemainingLaws.{columns_long}
use Rattle.df_design.proofs.designs.Designs.chosen.Goals as goal

pub returns-clause-long : goal.returns-clause-long
returns-clause-long c = c.chosen.ensures.long ∙ ap (λ s. length s.columns) c.self.invariant.system_is ∙ columns_long c.self.inside.matrix.now ∙ ap (λ r. length (columns_of r.problem)) c.self.view_is
