use Rattle.std.proofs.Common.{◌≡◌, ◌+◌, ◌-◌, ◌*◌, ◌++◌, ◌∷◌, [], ℕ, List, drop, sym, ap, arith, ◌∙◌}
use Rattle.std.proofs.lemmas.List.{length-take}
use Rattle.std.proofs.lemmas.List.FromFn.{map-range_with_len_more}
use Rattle.df_walk.specs.declared.Cell.{Cell}
use Rattle.df_system.specs.Storage.{positive_cells, column_entries, cell_count}
use Rattle.df_system.proofs.DenseSystems.{dense_room}
use Rattle.df_system.proofs.system.dense_columns.Goals as goal

pub push_entries-requires-clause-few : goal.push_entries-requires-clause-few
push_entries-requires-clause-few c =
    let k = c.loop-column.column in
    let rows = c.args.rows in
    let all = c.args.entries.now in
    let room = dense_room rows all k c.loop-column-test.true in
    let size : k * rows + rows - k * rows ≡ rows = omega arith in
    omega (arith, room, ap cell_count c.loop-column.invariant, length-take (k * rows + rows - k * rows) (drop (k * rows) all), size, c.requires.few)

pub loop-column-preserved : goal.loop-column-preserved
loop-column-preserved c =
    let k = c.loop-column.column in
    let column : ℕ → List Cell = λ k. positive_cells 0 (column_entries c.args.rows c.args.entries.now k) in
    c.in_ok-push_entries.ensures.pushed ∙ ap (λ l. l ++ column k ∷ []) c.loop-column.invariant ∙ sym (map-range_with_len_more column 0 k k (omega arith))
