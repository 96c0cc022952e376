use Rattle.std.proofs.Common.{sym}
use Rattle.df_system.proofs.PathRowLaws.{first_over_is, none_over_is}
use Rattle.df_system.proofs.path_rows.PathRows.first_over.Goals as goal

pub returns-in-Some : goal.returns-in-Some
returns-in-Some c = rw (← c.self.view_is) (sym (first_over_is c.self.invariant.rows_are c.in-Some.row c.in-Some.ensures))

pub returns-in-None : goal.returns-in-None
returns-in-None c = rw (← c.self.view_is) (sym (none_over_is c.self.invariant.rows_are c.in-None.ensures))
