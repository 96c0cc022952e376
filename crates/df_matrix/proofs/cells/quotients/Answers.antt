use Rattle.std.proofs.Common.{◌*◌, ◌/◌, ◌++◌, ◌∷◌, [], length, get_or, take, sym, ap, ap₂, ◌∙◌, arith}
use Rattle.std.proofs.lemmas.List.{map_more, length-map, length-take-le}
use Rattle.df_walk.specs.declared.Cell.{Cell}
use Rattle.df_matrix.specs.MatrixParts.{quotient_cell}
use Rattle.df_matrix.proofs.cells.quotients.Goals as goal

pub push-requires : goal.push-requires
push-requires c =
    let k = c.loop-cell.cell-index in
    (omega arith, omega (arith, ap length c.loop-cell.invariant, length-map (take k c.args.tally.now) (quotient_cell c.args.orbits.now c.args.size), length-take-le k c.args.tally.now c.loop-cell.auto.cell-index-end, c.loop-cell-test.true, c.requires.few))

pub loop-cell-preserved : goal.loop-cell-preserved
loop-cell-preserved c =
    let k = c.loop-cell.cell-index in
    let blank : Cell = record { row = 0; value = 0 } in
    let cell = get_or c.args.tally.now k blank in
    let size = c.row_size.ensures.size in
    c.push.ensures.items ∙ ap₂ (λ l n. l ++ record { row = cell.row; value = (c.args.size * cell.value) / n } ∷ []) c.loop-cell.invariant size
    ∙ sym (map_more (quotient_cell c.args.orbits.now c.args.size) c.args.tally.now k blank c.loop-cell-test.true)

pub returns-clause-few : goal.returns-clause-few
returns-clause-few c =
    let k = c.loop-cell.cell-index in
    omega (arith, ap length c.loop-cell.invariant, length-map (take k c.args.tally.now) (quotient_cell c.args.orbits.now c.args.size), length-take-le k c.args.tally.now c.loop-cell.auto.cell-index-end, c.loop-cell.auto.cell-index-end, c.requires.few)
