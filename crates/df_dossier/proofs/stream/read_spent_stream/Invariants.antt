use Rattle.std.proofs.Common.{◌+◌, ◌-◌, ℕ, List}
use Rattle.df_io.specs.declared.bytes.TheConstants.{MOST_BYTES}
use Rattle.df_dossier.specs.StreamReads.{IsRead}
use Rattle.df_dossier.proofs.StreamSteps.{Says}
use Rattle.df_dossier.proofs.stream.read_spent_stream.Given as goal

-- some text was handed out, and what the lines to come say is what is meant of all bytes
abbrev pub invariant-loop-stage : goal.invariant-loop-stage
invariant-loop-stage g l =
    (text : List ℕ)
    × IsRead g.S.Source.left g.S.Source.faults l.fn.input l.reading l.input text
    × Says l.stage l.reading text

abbrev pub decreases-loop-stage : goal.decreases-loop-stage
decreases-loop-stage g l = MOST_BYTES + 1 - l.reading.number
