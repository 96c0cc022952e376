use Rattle.std.proofs.Common.{◌∙◌}
use Rattle.df_tell.specs.Matrix.{orbit_line}
use Rattle.df_io.proofs.Writing.{writes_as, writes_then, writes_stopped, writes_stopped_then}
use Rattle.df_tell.proofs.matrix.write_orbit.Goals as goal

pub returns-in_err-write_all : goal.returns-in_err-write_all
unfolding orbit_line
returns-in_err-write_all g c =
    writes_stopped _ (writes_as (c.as_slice.ensures.value ∙ c.fill_head.ensures) c.in_err-write_all.ensures) c.from_residual.ensures.0

pub returns-in_err-write_entries : goal.returns-in_err-write_entries
unfolding orbit_line
returns-in_err-write_entries g c =
    writes_stopped_then _ (writes_as (c.as_slice.ensures.value ∙ c.fill_head.ensures) c.in_ok-write_all.ensures) c.in_err-write_entries.ensures c.from_residual-in_err-write_entries.ensures.0

pub returns : goal.returns
unfolding orbit_line
returns g c =
    writes_then (writes_as (c.as_slice.ensures.value ∙ c.fill_head.ensures) c.in_ok-write_all.ensures) (writes_then c.in_ok-write_entries.ensures (writes_as (c.as_slice-2.ensures.value ∙ c.fill_end.ensures) c.write_all-2.ensures))
