use Rattle.std.proofs.Common.{◌≡◌, ◌<◌, ◌+◌, ◌∙◌, get_or, length, length-set, ap, arith, rules}
use Rattle.std.proofs.lemmas.List.{get_or_read}
use Rattle.df_system.specs.Reaches.{as_word}
use Rattle.df_system.proofs.SortedCells.{blank}
use Rattle.df_system.proofs.ReachLists.{totals_more, totals_are}
use Rattle.df_system.proofs.deadlines.row_totals.Goals as goal

pub loop-cell-preserved : goal.loop-cell-preserved
loop-cell-preserved c =
    let all = c.all_cells-cell-items.result.now in
    let k = c.loop-cell.cell-index in
    let cell = get_or all k blank in
    let totals = c.loop-cell.totals.items in
    let i = c.loop-cell.invariant in
    let within = c.all_cells-cell-items.ensures.rows k blank c.loop-cell-test.true in
    let inside : cell.row < length totals = omega (arith, i.long, within) in
    let read : c.index.result.now ≡ get_or totals cell.row 0 = get_or_read totals cell.row c.index.result.now inside c.index.ensures 0 in
    let sum : c.saturating_add.result ≡ as_word (c.index.result.now + cell.value) = search rules in
    record {
      long = length-set totals cell.row c.saturating_add.result ∙ i.long;
      each = totals_more _ totals all k c.saturating_add.result c.loop-cell-test.true i.long within (sum ∙ ap (λ n. as_word (n + cell.value)) read) i.each;
    }

pub returns : goal.returns
returns c = totals_are c.all_cells-cell-items.result.now c.loop-cell.cell-index c.loop-cell.invariant.long (omega (arith, c.loop-cell-test.false)) c.all_cells-cell-items.ensures.sums c.loop-cell.invariant.each
