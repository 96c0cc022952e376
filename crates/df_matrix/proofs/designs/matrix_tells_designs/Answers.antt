use Rattle.std.proofs.Common.{subst}
use Rattle.df_lang.specs.Problems.{IsStated}
use Rattle.df_matrix.proofs.designs.matrix_tells_designs.Goals as goal

pub returns-clause-bases : goal.returns-clause-bases
returns-clause-bases c = c.base_is_chosen.ensures c.args.matrix.now (subst IsStated c.problem.ensures c.problems_keep_their_rules.ensures)
