use Rattle.df_sets.proofs.MemberBits.{members_set}
use Rattle.df_sets.proofs.number_set.NumberSet.from_bits.Goals as goal

pub returns-clause-set : goal.returns-clause-set
returns-clause-set c = members_set c.args.bits
