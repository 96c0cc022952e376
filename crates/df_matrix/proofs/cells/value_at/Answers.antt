use Rattle.std.proofs.Common.{sym, ap, ◌∙◌, arith}
use Rattle.std.proofs.lemmas.List.{drop_all}
use Rattle.df_walk.specs.declared.Cell.{Cell}
use Rattle.df_walk.specs.Systems.{entry_of}
use Rattle.df_matrix.proofs.CellEntries.{entry_at, entry_skips}
use Rattle.df_matrix.proofs.cells.value_at.Goals as goal

pub returns-then-cell-row : goal.returns-then-cell-row
returns-then-cell-row c =
    let blank : Cell = record { row = 0; value = 0 } in
    sym (entry_at c.requires.0 c.loop-cell.cell-index c.args.cells.now blank c.requires.1 c.loop-cell-test.true) ∙ ap (entry_of c.args.cells.now) c.if-cell-row.true

pub loop-cell-preserved : goal.loop-cell-preserved
loop-cell-preserved c =
    let blank : Cell = record { row = 0; value = 0 } in
    sym (entry_skips c.args.cells.now c.loop-cell.cell-index c.args.row blank c.loop-cell-test.true c.if-cell-row.false) ∙ c.loop-cell.invariant

pub returns : goal.returns
returns c = sym (ap (λ l. entry_of l c.args.row) (drop_all c.loop-cell.cell-index c.args.cells.now (omega (arith, c.loop-cell-test.false)))) ∙ c.loop-cell.invariant
