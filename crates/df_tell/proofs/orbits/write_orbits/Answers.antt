use Rattle.std.proofs.Common.{codes, ap₂}
use Rattle.df_tell.specs.Orbits.{orbit_lines}
use Rattle.df_io.proofs.Writing.{writes_as, writes_then, writes_stopped}
use Rattle.df_tell.proofs.orbits.write_orbits.Goals as goal

pub returns-in_err-write_orbit_lines : goal.returns-in_err-write_orbit_lines
returns-in_err-write_orbit_lines g c =
    writes_stopped _ (writes_as (ap₂ (orbit_lines (codes "pairs ") (codes "pair ")) c.problem-problem.ensures c.pairs.ensures.orbits) c.in_err-write_orbit_lines.ensures) c.from_residual.ensures.0

pub returns : goal.returns
returns g c =
    writes_then (writes_as (ap₂ (orbit_lines (codes "pairs ") (codes "pair ")) c.problem-problem.ensures c.pairs.ensures.orbits) c.in_ok-write_orbit_lines.ensures)
    (writes_as (ap₂ (orbit_lines (codes "blocks ") (codes "block ")) c.problem-problem.ensures c.blocks-2.ensures.orbits) c.write_orbit_lines-2.ensures)
