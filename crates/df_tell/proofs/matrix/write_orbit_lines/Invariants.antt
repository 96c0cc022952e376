use Rattle.std.proofs.Common.{take, Ok}
use Rattle.std.specs.List.{flat_map}
use Rattle.df_io.specs.Writing.{Writes}
use Rattle.df_kramer_mesner.specs.OrbitSystems.{orbits_of}
use Rattle.df_tell.specs.Matrix.{orbit_line}
use Rattle.df_tell.proofs.matrix.write_orbit_lines.Given as goal

abbrev pub invariant-loop-orbit : goal.invariant-loop-orbit
invariant-loop-orbit g l = Writes g.K.Sink.written g.K.Sink.faults l.fn.out l.out (flat_map (orbit_line l.fn.matrix) (take l.orbit (orbits_of l.fn.matrix))) (Ok tt)
