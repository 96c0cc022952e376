use Rattle.std.proofs.Common.{subst, arith}
use Rattle.df_lang.specs.Problems.{IsStated}
use Rattle.df_lang.proofs.Lengths.{point_short}
use Rattle.df_lang.proofs.print_points.point_text_is_short.Goals as goal

pub returns : goal.returns
returns c =
    let stated = subst IsStated c.problem.view_is c.problem.invariant in
    point_short c.args.problem.now.group c.args.p stated.shape (omega (arith, c.p.view_is, c.p.invariant))
