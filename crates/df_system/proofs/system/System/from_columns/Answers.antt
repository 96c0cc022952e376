use Rattle.std.proofs.Common.{All, length, sym, ap, subst, arith}
use Rattle.df_walk.specs.Systems.{AreCells}
use Rattle.df_system.proofs.StoredColumns.{columns_count}
use Rattle.df_system.proofs.system.System.from_columns.Goals as goal

pub from_parts-requires-clause-columns : goal.from_parts-requires-clause-columns
from_parts-requires-clause-columns c = subst (All (AreCells (length c.args.targets.items))) (sym c.columns.view_is) c.requires.columns

pub from_parts-requires-clause-few_columns : goal.from_parts-requires-clause-few_columns
from_parts-requires-clause-few_columns c = omega (arith, columns_count c.columns.inside.starts.items c.columns.inside.cells.items, ap length c.columns.view_is, c.requires.few_columns, c.columns.inside.starts.ok.0)
