use Rattle.std.proofs.Common.{◌≡◌, ◌<◌, ◌+◌, ◌∙◌, get_or, length, drop, arith, rules, ap}
use Rattle.df_system.specs.declared.counted_rows.PathRow.{PathRow}
use Rattle.df_system.specs.BarredColumns.{Barring}
use Rattle.df_system.specs.CountedRows.{row_at, with_entry}
use Rattle.df_system.proofs.SortedCells.{blank}
use Rattle.df_system.proofs.RowChanges.{rows_more, deadlines_more, small_more}
use Rattle.df_system.proofs.BarredTrails.{length-with_row, drop-with_row}
use Rattle.df_system.proofs.BarredRows.{full_more, full_still, never_full}
use Rattle.df_system.proofs.path_rows.take_along.Goals as goal
use Rattle.df_system.proofs.path_rows.take_along.Goals.{then-before-target+then-target-taken, else-before-target, else-before-target-via-then-before-target+else-target-taken, else-before-target-via-else-before-target}

pub row_with-after-requires-clause-goal : goal.row_with-after-requires-clause-goal
row_with-after-requires-clause-goal g c =
    let column = c.column-cell-items.result.now in
    let k = c.loop-cell.cell-index in
    let cell = get_or column k blank in
    let within : cell.row < length c.args.rows.now = omega (arith, c.column-cell-items.ensures.sorted.in_range k blank c.loop-cell-test.true, c.requires.long) in
    ap (λ (r : PathRow). r.target) c.get-before.ensures ∙ c.loop-cell.invariant.along.same cell.row within ∙ c.requires.targets cell.row within

pub loop-cell-preserved : goal.loop-cell-preserved
loop-cell-preserved g c =
    let column = c.column-cell-items.result.now in
    let k = c.loop-cell.cell-index in
    let cell = get_or column k blank in
    let sorted = c.column-cell-items.ensures.sorted in
    let i = c.loop-cell.invariant in
    let row = c.row_with-after.result in
    let after = c.row_with-after.ensures in
    let small : cell.value < 4294967296 = search rules in
    let target : row.target ≡ (row_at c.loop-cell.rows cell.row).target = after.target ∙ ap (λ (r : PathRow). r.target) c.get-before.ensures in
    let taken : row.taken ≡ (row_at c.loop-cell.rows cell.row).taken + cell.value = after.taken ∙ ap (λ (r : PathRow). r.taken + cell.value) c.get-before.ensures in
    let before_target = ap (λ (r : PathRow). r.target) c.get-before.ensures in
    let before_taken = ap (λ (r : PathRow). r.taken) c.get-before.ensures in
    let within : cell.row < length c.loop-cell.rows = omega (arith, sorted.in_range k blank c.loop-cell-test.true, c.requires.long, i.along.long) in
    record {
      along = rw c.set.ensures (rows_more with_entry (λ t. omega arith) _ column k c.args.rows.now c.loop-cell.rows sorted c.loop-cell-test.true c.requires.long i.along row target taken);
      due = rw c.set.ensures (deadlines_more c.args.system.now c.args.rules c.loop-cell.rows cell.row row i.due (rw (after.target, after.taken) after.due));
      small = small_more _ column k sorted c.loop-cell-test.true small i.small;
      same = elim c.if-before-target.branch [
        | then-before-target+then-target-taken w ↦ ap (λ (b : Barring). b.system) (w.barred-is ∙ w.bar.ensures) ∙ i.same
        | else-before-target w ↦ ap (λ (b : Barring). b.system) w.barred-is ∙ i.same
      ];
      lower = elim c.if-before-target.branch [
        | then-before-target+then-target-taken w ↦ ap (λ (b : Barring). drop 1 b.levels) (w.barred-is ∙ w.bar.ensures) ∙ drop-with_row cell.row c.loop-cell.barred.levels ∙ i.lower
        | else-before-target w ↦ ap (λ (b : Barring). drop 1 b.levels) w.barred-is ∙ i.lower
      ];
      depth = elim c.if-before-target.branch [
        | then-before-target+then-target-taken w ↦ ap (λ (b : Barring). length b.levels) (w.barred-is ∙ w.bar.ensures) ∙ length-with_row cell.row c.loop-cell.barred.levels ∙ i.depth
        | else-before-target w ↦ ap (λ (b : Barring). length b.levels) w.barred-is ∙ i.depth
      ];
      bar = elim c.if-before-target.branch [
        | then-before-target+then-target-taken w ↦ rw (c.set.ensures, w.barred-is, w.bar.ensures) (full_more c.loop-cell.barred.levels c.loop-cell.rows cell.row row (omega (arith, i.depth, c.requires.some)) within i.bar (omega (arith, target, taken, before_target, before_taken, w.if-target-taken.true)))
        | else-before-target w ↦ elim w.else-before-target.branch [
          | else-before-target-via-then-before-target+else-target-taken v ↦ rw (c.set.ensures, w.barred-is) (never_full c.loop-cell.barred.levels c.loop-cell.rows cell.row row within i.bar (omega (arith, before_target, before_taken, v.if-before-target.true)) (omega (arith, target, taken, before_target, before_taken, v.if-target-taken.false)))
          | else-before-target-via-else-before-target v ↦ rw (c.set.ensures, w.barred-is) (full_still c.loop-cell.barred.levels c.loop-cell.rows cell.row row within i.bar (omega (arith, before_target, before_taken, v.if-before-target.false)) (omega (arith, target, taken, before_target, before_taken, v.if-before-target.false)))
        ]
      ];
      cost = omega (arith, c.tick.ensures, i.cost);
    }
