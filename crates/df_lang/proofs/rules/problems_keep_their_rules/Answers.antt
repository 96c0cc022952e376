use Rattle.std.proofs.Common.{subst}
use Rattle.df_lang.specs.Problems.{IsStated}
use Rattle.df_lang.proofs.rules.problems_keep_their_rules.Goals as goal

pub returns : goal.returns
returns c = subst IsStated c.problem.view_is c.problem.invariant
