use Rattle.std.proofs.Common.{ℕ, ◌++◌, ◌∷◌, [], List, length, sym, ap, ap₂, arith, ◌∙◌}
use Rattle.std.proofs.lemmas.List.{map_more}
use Rattle.df_walk.specs.declared.Cell.{Cell}
use Rattle.df_system.specs.Storage.{cell_count}
use Rattle.df_system.proofs.CellCounts.{cell_count-more}
use Rattle.df_kramer_mesner.specs.OrbitSystems.{cells_of, orbit_at}
use Rattle.df_matrix.proofs.columns.columns_of.Goals as goal

pub loop-number-init : goal.loop-number-init
loop-number-init c = record { columns = c.in_ok-columns.ensures; few = omega (arith, ap cell_count c.in_ok-columns.ensures) }

pub push-requires : goal.push-requires
push-requires c = omega (arith, c.loop-number.invariant.few, ap length c.as_slice.ensures.value, c.orbit_cells.ensures.few, c.loop-number-test.true, c.requires.few)

pub loop-number-preserved : goal.loop-number-preserved
loop-number-preserved c =
    let s = c.args.orbits.now in
    let column : ℕ → List Cell = λ orbit. cells_of s (orbit_at s orbit) in
    let numbers = c.args.numbers.now in
    let k = c.loop-number.number-index in
    let more = cell_count-more c.loop-number.columns c.as_slice.result.now in
    record {
      columns = c.in_ok-push.ensures.pushed ∙ ap₂ (λ (l : List (List Cell)) (cells : List Cell). l ++ cells ∷ []) c.loop-number.invariant.columns (c.as_slice.ensures.value ∙ c.orbit_cells.ensures.cells) ∙ sym (map_more column numbers k 0 c.loop-number-test.true);
      few = omega (arith, ap cell_count c.in_ok-push.ensures.pushed, more, ap length c.as_slice.ensures.value, c.orbit_cells.ensures.few, c.loop-number.invariant.few);
    }
