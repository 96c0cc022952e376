use Rattle.std.proofs.Common.{◌≡◌, length, ◌+◌, drop}
use Rattle.df_io.specs.Lines.{lines_of}
use Rattle.df_check.proofs.same_source.line_count.Given as goal

abbrev pub invariant-loop-line : goal.invariant-loop-line
invariant-loop-line l = record {
  count : l.count ≡ l.lines.number;
  whole : l.lines.number + length (lines_of (drop l.lines.at l.lines.text)) ≡ length l.source;
}

abbrev pub decreases-loop-line : goal.decreases-loop-line
decreases-loop-line l = length (lines_of (drop l.lines.at l.lines.text))
