use Rattle.std.proofs.Common.{◌≡◌, ◌++◌, List, ℕ, length, All, Ok}
use Rattle.df_io.specs.Writing.{Writes}
use Rattle.df_tell.specs.Orbits.{IsShort}
use Rattle.df_tell.specs.Verdict.{accepted_text, block_lines}
use Rattle.df_tell.proofs.verdict.write_accepted.Given as goal

abbrev pub invariant-loop-block : goal.invariant-loop-block
invariant-loop-block g l = record {
  written : (done : List ℕ) × (done ++ block_lines l.fn.problem l.rest ≡ accepted_text l.fn.problem l.fn.blocks) × Writes g.K.Sink.written g.K.Sink.faults l.fn.out l.out done (Ok tt);
  short : All IsShort l.rest;
}

abbrev pub decreases-loop-block : goal.decreases-loop-block
decreases-loop-block g l = length l.rest
