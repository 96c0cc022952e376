use Rattle.std.proofs.Common.{[], ap, ◌∙◌, arith}
use Rattle.df_tell.specs.Counts.{count_line}
use Rattle.df_tell.specs.Orbits.{orbit_line}
use Rattle.df_io.proofs.Writing.{writes_as, writes_then, writes_stopped, writes_line_stopped}
use Rattle.df_tell.proofs.orbits.write_orbit_lines.Goals as goal

pub returns-in_err-write_all : goal.returns-in_err-write_all
returns-in_err-write_all g c =
    writes_stopped _ (writes_as (c.as_slice.ensures.value ∙ c.fill_count.ensures ∙ ap (count_line c.args.many.now) c.len.ensures) c.in_err-write_all.ensures) c.from_residual.ensures.0

pub returns-in_err-write_all-2 : goal.returns-in_err-write_all-2
returns-in_err-write_all-2 g c =
    writes_then (writes_as (c.as_slice.ensures.value ∙ c.fill_count.ensures ∙ ap (count_line c.args.many.now) c.len.ensures) c.in_ok-write_all.ensures)
    (writes_line_stopped (orbit_line c.args.one.now c.args.problem.now) c.args.orbits.now c.loop-number.number ([], 0) c.loop-number.invariant c.in_err-write_all-2.ensures (c.as_slice-in-loop-number.ensures.value ∙ c.fill_orbit_at.ensures) (omega arith) c.from_residual-in_err-write_all-2.ensures.0)
