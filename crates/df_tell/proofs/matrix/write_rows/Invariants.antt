use Rattle.std.proofs.Common.{length, take, Ok}
use Rattle.std.specs.List.{flat_map, range_with_len}
use Rattle.df_io.specs.Writing.{Writes}
use Rattle.df_kramer_mesner.specs.OrbitSystems.{targets_of}
use Rattle.df_tell.specs.Matrix.{row_at}
use Rattle.df_tell.proofs.matrix.write_rows.Given as goal

abbrev pub invariant-loop-row : goal.invariant-loop-row
invariant-loop-row g l = Writes g.K.Sink.written g.K.Sink.faults l.fn.out l.out (flat_map (row_at l.fn.matrix) (take l.row (range_with_len 0 (length (targets_of l.fn.matrix))))) (Ok tt)
