use Rattle.std.proofs.Common.{arith, length, ap}
use Rattle.df_tell.proofs.RunTexts.{end_short}
use Rattle.df_tell.proofs.run.fill_end.Goals as goal

pub put_end-requires : goal.put_end-requires
put_end-requires c = omega (arith, ap length c.clear.ensures, end_short c.args.finished c.args.designs c.args.nodes (omega arith) (omega arith))

pub returns-clause-short : goal.returns-clause-short
returns-clause-short c = omega (arith, ap length c.clear.ensures, c.put_end.ensures.len, end_short c.args.finished c.args.designs c.args.nodes (omega arith) (omega arith))
