use Rattle.std.proofs.Common.{subst}
use Rattle.df_maps.specs.FullMaps.{IsMaps}
use Rattle.df_maps.proofs.MapsFacts.{are_group}
use Rattle.df_maps.proofs.maps.Maps.points.Goals as goal

pub returns-clause-maps : goal.returns-clause-maps
returns-clause-maps c = are_group c.args.self.now (subst IsMaps c.self.view_is c.self.invariant)
