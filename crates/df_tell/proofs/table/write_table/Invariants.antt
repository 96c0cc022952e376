use Rattle.std.proofs.Common.{take, Ok}
use Rattle.std.specs.List.{flat_map}
use Rattle.df_io.specs.Writing.{Writes}
use Rattle.df_family.specs.Tables.{table}
use Rattle.df_tell.specs.Table.{row_line}
use Rattle.df_tell.proofs.table.write_table.Given as goal

abbrev pub invariant-loop-place : goal.invariant-loop-place
invariant-loop-place g l = Writes g.K.Sink.written g.K.Sink.faults l.fn.out l.out (flat_map (row_line l.fn.problem) (take l.place (table l.fn.problem))) (Ok tt)
