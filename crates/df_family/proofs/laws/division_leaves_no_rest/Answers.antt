use Rattle.df_family.proofs.BalanceLaws.{division, pair_division}
use Rattle.df_family.proofs.laws.division_leaves_no_rest.Goals as goal

pub returns-clause-rows : goal.returns-clause-rows
returns-clause-rows c = division

pub returns-clause-pairs : goal.returns-clause-pairs
returns-clause-pairs c = pair_division
