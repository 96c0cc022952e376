use Rattle.std.proofs.Common.{◌+◌, ◌-◌, ℕ, List, Ok}
use Rattle.df_io.specs.declared.bytes.TheConstants.{MOST_BYTES}
use Rattle.df_dossier.specs.StreamReads.{IsRead}
use Rattle.df_check.specs.Inputs.{Says}
use Rattle.df_check.proofs.streams.judge.Given as goal

-- some text was handed out, and what the lines to come say is what is meant of all bytes
abbrev pub invariant-loop-chain : goal.invariant-loop-chain
invariant-loop-chain g l =
    (text : List ℕ)
    × IsRead g.S.Source.left g.S.Source.faults l.fn.input l.reading l.input text
    × Says (Ok l.chain) l.reading text

abbrev pub decreases-loop-chain : goal.decreases-loop-chain
decreases-loop-chain g l = MOST_BYTES + 1 - l.reading.number
