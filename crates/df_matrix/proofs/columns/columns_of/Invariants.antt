use Rattle.std.proofs.Common.{◌≡◌, ◌*◌, ◌≤◌, map, take}
use Rattle.df_system.specs.Storage.{cell_count}
use Rattle.df_kramer_mesner.specs.OrbitSystems.{cells_of, orbit_at}
use Rattle.df_matrix.proofs.columns.columns_of.Given as goal

abbrev pub invariant-loop-number : goal.invariant-loop-number
invariant-loop-number l = record {
  columns : l.columns ≡ map (λ orbit. cells_of l.orbits (orbit_at l.orbits orbit)) (take l.number-index l.numbers);
  few : cell_count l.columns ≤ 121 * l.number-index;
}
