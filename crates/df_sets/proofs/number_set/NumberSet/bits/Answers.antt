use Rattle.std.proofs.Common.{sym}
use Rattle.df_lists.proofs.BitLaws.{weight_view}
use Rattle.df_sets.proofs.number_set.NumberSet.bits.Goals as goal

pub returns : goal.returns
returns c = sym (weight_view c.self.inside.bits c.args.self.now c.self.view_is c.self.invariant)
