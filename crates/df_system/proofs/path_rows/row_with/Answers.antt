use Rattle.std.proofs.Common.{arith}
use Rattle.df_walk.specs.Systems.{entries}
use Rattle.df_system.proofs.RowNeeds.{deadline_by_need}
use Rattle.df_system.proofs.path_rows.row_with.Goals as goal

pub returns-in-Some-clause-due : goal.returns-in-Some-clause-due
returns-in-Some-clause-due c = deadline_by_need c.args.rules (entries c.args.system.now c.args.row) c.args.goal c.args.taken c.in-Some.need c.due-due.result (omega (arith, c.in-Some.ensures)) c.due-due.ensures
