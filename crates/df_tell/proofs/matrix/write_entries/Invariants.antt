use Rattle.std.proofs.Common.{◌≡◌, ◌≤◌, take, drop, Ok}
use Rattle.std.specs.List.{flat_map}
use Rattle.df_io.specs.Writing.{Writes}
use Rattle.df_system.specs.Storage.{positive_cells}
use Rattle.df_kramer_mesner.specs.OrbitSystems.{entries_of, orbit_at}
use Rattle.df_tell.specs.Matrix.{entry_text}
use Rattle.df_tell.proofs.matrix.write_entries.Given as goal

-- the entries of the rows so far are written, and the cells from `next` on are those of the other rows
abbrev pub invariant-loop-row : goal.invariant-loop-row
invariant-loop-row g l = record {
  written : Writes g.K.Sink.written g.K.Sink.faults l.fn.out l.out (flat_map entry_text (take l.row (entries_of l.fn.matrix (orbit_at l.fn.matrix l.fn.orbit)))) (Ok tt);
  rest : drop l.next l.cells.items ≡ positive_cells l.row (drop l.row (entries_of l.fn.matrix (orbit_at l.fn.matrix l.fn.orbit)));
  few : l.next ≤ l.row;
}
