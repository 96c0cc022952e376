use Rattle.std.proofs.Common.{take, Ok}
use Rattle.std.specs.List.{flat_map}
use Rattle.df_io.specs.Writing.{Writes}
use Rattle.df_tell.specs.Orbits.{orbit_line}
use Rattle.df_tell.proofs.orbits.write_orbit_lines.Given as goal

abbrev pub invariant-loop-number : goal.invariant-loop-number
invariant-loop-number g l = Writes g.K.Sink.written g.K.Sink.faults l.initial.out l.out (flat_map (orbit_line l.fn.one l.fn.problem) (take l.number l.fn.orbits)) (Ok tt)
