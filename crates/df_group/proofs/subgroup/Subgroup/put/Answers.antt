use Rattle.std.proofs.Common.{ap, ◌∙◌}
use Rattle.df_lists.specs.NumberSets.{with_member}
use Rattle.df_group.specs.Subgroups.{IsStored}
use Rattle.df_group.proofs.subgroup.Subgroup.put.Goals as goal

pub returns-clause-member : goal.returns-clause-member
returns-clause-member c = c.insert.ensures.list ∙ ap (λ n. with_member n c.self.inside.members) c.e.view_is ∙ ap (with_member c.args.e) c.self.view_is

pub returns-clause-stored : goal.returns-clause-stored
unfolding IsStored
returns-clause-stored c = c.insert.ensures.set
