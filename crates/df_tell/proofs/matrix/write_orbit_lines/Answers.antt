use Rattle.std.proofs.Common.{[], refl, arith}
use Rattle.df_kramer_mesner.specs.OrbitSystems.{orbits_of}
use Rattle.df_tell.specs.Matrix.{orbit_line}
use Rattle.df_io.proofs.Writing.{writes_line_stopped}
use Rattle.df_tell.proofs.matrix.write_orbit_lines.Goals as goal

pub returns-in_err-write_orbit : goal.returns-in_err-write_orbit
returns-in_err-write_orbit g c =
    let s = c.args.matrix.now in
    writes_line_stopped (orbit_line s) (orbits_of s) c.loop-orbit.orbit [] c.loop-orbit.invariant c.in_err-write_orbit.ensures refl (omega arith) c.from_residual.ensures.0
