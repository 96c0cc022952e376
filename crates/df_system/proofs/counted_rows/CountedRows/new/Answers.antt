use Rattle.std.proofs.Common.{◌≡◌, ◌<◌, length, arith, ap, ◌∙◌}
use Rattle.std.proofs.lemmas.List.{get_or_read}
use Rattle.df_system.specs.Tallies.{one_if}
use Rattle.df_system.specs.CountedRows.{blank_row, is_over_row, is_unmet_row, row_at}
use Rattle.df_system.proofs.CountedTallies.{one_if_few}
use Rattle.df_system.proofs.PassingRows.{rows_passing_more}
use Rattle.df_system.proofs.counted_rows.CountedRows.new.Goals as goal

pub loop-row-preserved : goal.loop-row-preserved
loop-row-preserved c =
    let rs = c.args.rows.items in
    let row = c.loop-row.row in
    let within : row < length rs = omega (arith, c.args.rows.ok.0, c.len-row-end.ensures) in
    let read = get_or_read rs row c.index.result.now within c.index.ensures blank_row in
    let again = get_or_read rs row c.index-in-loop-row.result.now within c.index-in-loop-row.ensures blank_row in
    let over : c.one_if-over.result ≡ one_if (is_over_row (row_at rs row)) = c.one_if-over.ensures ∙ ap one_if (c.is_over.ensures ∙ ap is_over_row read) in
    let unmet : c.one_if-unmet.result ≡ one_if (is_unmet_row (row_at rs row)) = c.one_if-unmet.ensures ∙ ap one_if (c.is_unmet.ensures ∙ ap is_unmet_row again) in
    record {
      over = omega (arith, rows_passing_more is_over_row rs row within, c.loop-row.invariant.over);
      unmet = omega (arith, rows_passing_more is_unmet_row rs row within, c.loop-row.invariant.unmet);
      over_few = omega (arith, one_if_few (is_over_row (row_at rs row)), c.loop-row.invariant.over_few);
      unmet_few = omega (arith, one_if_few (is_unmet_row (row_at rs row)), c.loop-row.invariant.unmet_few);
    }
