use Rattle.std.proofs.Common.{length, sym, ap, ◌∙◌, ap₂, ◌*◌, subst}
use Rattle.df_maps.specs.FullMaps.{full_maps, IsMaps}
use Rattle.df_maps.proofs.MapsFacts.{are_group}
use Rattle.df_maps.proofs.NumberLaws.{length-pairs}
use Rattle.df_maps.proofs.maps.Maps.count.Goals as goal

pub returns-clause-count : goal.returns-clause-count
returns-clause-count c = ap₂ (λ a b. a * b) c.len.ensures.value c.len-2.ensures.value ∙ sym (length-pairs c.self.inside.products.items c.self.inside.shifts.items) ∙ ap (λ M. length (full_maps M)) c.self.view_is

pub returns-clause-maps : goal.returns-clause-maps
returns-clause-maps c = are_group c.args.self.now (subst IsMaps c.self.view_is c.self.invariant)
