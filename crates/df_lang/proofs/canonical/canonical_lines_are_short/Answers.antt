use Rattle.std.proofs.Common.{subst}
use Rattle.df_lang.specs.Problems.{IsStated}
use Rattle.df_lang.proofs.CanonicalShort.{canonical_short}
use Rattle.df_lang.proofs.canonical.canonical_lines_are_short.Goals as goal

pub returns : goal.returns
returns c = canonical_short c.args.problem.now (subst IsStated c.problem.view_is c.problem.invariant)
