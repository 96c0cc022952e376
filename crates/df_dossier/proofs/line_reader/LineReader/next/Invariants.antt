use Rattle.std.proofs.Common.{◌≡◌, ◌+◌, ◌-◌, length, drop, true}
use Rattle.df_io.specs.Lines.{lines_of}
use Rattle.df_dossier.specs.Pieces.{pieces_from}
use Rattle.df_dossier.proofs.PieceSteps.{goes_on}
use Rattle.df_dossier.proofs.line_reader.LineReader.next.Given as goal

abbrev pub invariant-loop-line : goal.invariant-loop-line
invariant-loop-line l =
    (l.self-inside.lines.text ≡ l.self-inside.input.now)
    × (goes_on l.self-inside.judge.awaits ≡ true)
    × (pieces_from l.self-inside.judge.awaits (l.self-inside.lines.number + 1) (lines_of (drop l.self-inside.lines.at l.self-inside.input.now)) ≡ l.fn.self.rest)

abbrev pub decreases-loop-line : goal.decreases-loop-line
decreases-loop-line l = length l.self-inside.input.now - l.self-inside.lines.at
