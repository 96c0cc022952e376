use Rattle.std.proofs.Common.{length, ap, ◌∙◌, arith}
use Rattle.df_family.specs.Tables.{table, entry_at}
use Rattle.df_family.specs.declared.table.Row.TheVariants.{Diff}
use Rattle.df_tell.specs.Table.{row_line}
use Rattle.df_io.proofs.Writing.{writes_line_stopped}
use Rattle.df_tell.proofs.table.write_table.Goals as goal

pub returns-in_err-write_all : goal.returns-in_err-write_all
returns-in_err-write_all g c =
    let s = c.args.problem.now in
    let n = c.loop-place.place in
    writes_line_stopped (row_line s) (table s) n record { row = Diff 0; found = 0; stated = 0 } c.loop-place.invariant c.in_err-write_all.ensures
    (c.as_slice.ensures.value ∙ c.fill_row.ensures ∙ ap (λ l. row_line s (entry_at l n)) c.requires.table) (omega (arith, ap length c.requires.table)) c.from_residual.ensures.0
