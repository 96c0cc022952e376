use Rattle.std.proofs.Common.{◌<◌, arith, length}
use Rattle.std.proofs.lemmas.List.{get_or_read}
use Rattle.df_system.specs.CountedRows.{is_over_row, is_unmet_row, blank_row}
use Rattle.df_system.proofs.PassingRows.{one_row_le, rows_passing_le, counted_write}
use Rattle.df_system.proofs.counted_rows.CountedRows.set.Goals as goal

pub recount-self-inside-requires-clause-some : goal.recount-self-inside-requires-clause-some
recount-self-inside-requires-clause-some c =
    let rs = c.self.inside.rows.items in
    let within : c.args.row < length rs = rw (← c.self.view_is) at c.requires in
    let read = get_or_read rs c.args.row c.index-before.result.now within c.index-before.ensures blank_row in
    rw (c.is_over.ensures, read, c.self.invariant.over_is) (one_row_le is_over_row rs c.args.row within)

pub recount-self-inside-requires-clause-few : goal.recount-self-inside-requires-clause-few
recount-self-inside-requires-clause-few c = omega (arith, c.self.invariant.over_is, c.self.invariant.few, rows_passing_le is_over_row c.self.inside.rows.items)

pub recount-self-inside-requires-2-clause-some : goal.recount-self-inside-requires-2-clause-some
recount-self-inside-requires-2-clause-some c =
    let rs = c.self.inside.rows.items in
    let within : c.args.row < length rs = rw (← c.self.view_is) at c.requires in
    let read = get_or_read rs c.args.row c.index-before.result.now within c.index-before.ensures blank_row in
    rw (c.is_unmet.ensures, read, c.self.invariant.unmet_is) (one_row_le is_unmet_row rs c.args.row within)

pub recount-self-inside-requires-2-clause-few : goal.recount-self-inside-requires-2-clause-few
recount-self-inside-requires-2-clause-few c = omega (arith, c.self.invariant.unmet_is, c.self.invariant.few, rows_passing_le is_unmet_row c.self.inside.rows.items)

pub invariant_of-self : goal.invariant_of-self
invariant_of-self c =
    let rs = c.self.inside.rows.items in
    let within : c.args.row < length rs = rw (← c.self.view_is) at c.requires in
    let read = get_or_read rs c.args.row c.index-before.result.now within c.index-before.ensures blank_row in
    let over = rw (c.is_over.ensures, c.is_over-2.ensures, read) at c.recount-self-inside.ensures in
    let unmet = rw (c.is_unmet.ensures, c.is_unmet-2.ensures, read) at c.recount-self-inside-2.ensures in
    counted_write rs c.args.row c.args.after c.self.inside.over c.self.inside.unmet c.recount-self-inside.result c.recount-self-inside-2.result c.self.invariant within over unmet
