use Rattle.df_sets.proofs.MemberBits.{members_set, no_members}
use Rattle.df_sets.proofs.number_set.NumberSet.empty.Goals as goal

pub returns-clause-list : goal.returns-clause-list
returns-clause-list c = no_members

pub returns-clause-set : goal.returns-clause-set
returns-clause-set c = members_set 0
