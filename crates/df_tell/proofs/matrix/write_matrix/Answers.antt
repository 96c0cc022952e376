use Rattle.std.proofs.Common.{◌∙◌}
use Rattle.df_io.proofs.Writing.{writes_as, writes_then, writes_stopped, writes_stopped_then}
use Rattle.df_tell.proofs.matrix.write_matrix.Goals as goal

pub returns-in_err-write_all : goal.returns-in_err-write_all
returns-in_err-write_all g c =
    writes_stopped _ (writes_as (c.as_slice.ensures.value ∙ c.fill_counts.ensures) c.in_err-write_all.ensures) c.from_residual.ensures.0

pub returns-in_err-write_rows : goal.returns-in_err-write_rows
returns-in_err-write_rows g c =
    writes_stopped_then _ (writes_as (c.as_slice.ensures.value ∙ c.fill_counts.ensures) c.in_ok-write_all.ensures) c.in_err-write_rows.ensures c.from_residual-in_err-write_rows.ensures.0

pub returns : goal.returns
returns g c =
    writes_then (writes_as (c.as_slice.ensures.value ∙ c.fill_counts.ensures) c.in_ok-write_all.ensures) (writes_then c.in_ok-write_rows.ensures c.write_orbit_lines.ensures)
