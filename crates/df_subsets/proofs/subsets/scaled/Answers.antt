use Rattle.std.proofs.Common.{arith}
use Rattle.df_subsets.proofs.Binomials.{divided}
use Rattle.df_subsets.proofs.subsets.scaled.Goals as goal

pub overflow_mul-result-2 : goal.overflow_mul-result-2
overflow_mul-result-2 c = omega (arith, divided c.args.count c.args.share c.args.rest c.requires.some, c.requires.fits)

pub overflow_add-result : goal.overflow_add-result
overflow_add-result c = omega (arith, divided c.args.count c.args.share c.args.rest c.requires.some, c.requires.fits)

pub returns : goal.returns
returns c = divided c.args.count c.args.share c.args.rest c.requires.some
