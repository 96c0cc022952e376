use Rattle.std.proofs.Common.{◌+◌, ◌-◌, ℕ, List}
use Rattle.df_io.specs.declared.bytes.TheConstants.{MOST_BYTES}
use Rattle.df_dossier.specs.StreamReads.{IsRead}
use Rattle.df_check.specs.Inputs.{Says}
use Rattle.df_check.specs.Openings.{standing_after, IsPlaced}
use Rattle.df_check.proofs.streams.open.Given as goal

-- some text was handed out, and what the lines to come say is what is meant of all bytes
abbrev pub invariant-loop-alloc : goal.invariant-loop-alloc
invariant-loop-alloc g l =
    (text : List ℕ)
    × IsRead g.S.Source.left g.S.Source.faults l.fn.input l.reading l.input text
    × Says (standing_after l.opening l.reading.number) l.reading text
    × IsPlaced l.opening (l.reading.number + 1)

abbrev pub decreases-loop-alloc : goal.decreases-loop-alloc
decreases-loop-alloc g l = MOST_BYTES + 1 - l.reading.number
