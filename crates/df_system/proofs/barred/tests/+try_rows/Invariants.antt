use Rattle.std.proofs.Common.{◌-◌}
use Rattle.df_system.proofs.barred.tests.+try_rows.Given as goal

abbrev pub decreases-try_rows : goal.decreases-try_rows
decreases-try_rows g l = l.plain.rows - l.row
