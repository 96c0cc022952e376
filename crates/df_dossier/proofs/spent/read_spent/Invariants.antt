use Rattle.std.proofs.Common.{◌≡◌, ◌+◌, ◌-◌, length, drop}
use Rattle.df_io.specs.Lines.{lines_of}
use Rattle.df_dossier.specs.Spent.{spent, rest_from, StandsAt}
use Rattle.df_dossier.proofs.spent.read_spent.Given as goal

abbrev pub invariant-loop-line : goal.invariant-loop-line
invariant-loop-line l =
    (l.lines.text ≡ l.input)
    × (rest_from l.stage (l.lines.number + 1) (lines_of (drop l.lines.at l.input)) ≡ spent l.input)
    × StandsAt l.stage (l.lines.number + 1)

abbrev pub decreases-loop-line : goal.decreases-loop-line
decreases-loop-line l = length l.input - l.lines.at
