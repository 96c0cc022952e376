use Rattle.std.proofs.Common.{subst}
use Rattle.df_lang.specs.Problems.{IsStated}
use Rattle.df_lang.proofs.round_trip.problem_is_read_back.Goals as goal

pub returns : goal.returns
returns c = c.canonical_lines_are_read_back.ensures c.args.problem.now (subst IsStated c.problem.view_is c.problem.invariant)
