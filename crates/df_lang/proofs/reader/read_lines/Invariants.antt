use Rattle.std.proofs.Common.{◌≡◌, ◌+◌, ◌-◌, length, drop, map}
use Rattle.df_io.specs.Lines.{lines_of, tokens_of}
use Rattle.df_lang.specs.Sources.{from_line, source}
use Rattle.df_lang.specs.DraftRules.{StandsKept}
use Rattle.df_lang.specs.Drafts.{above}
use Rattle.df_lang.proofs.reader.read_lines.Given as goal

abbrev pub invariant-loop-line : goal.invariant-loop-line
invariant-loop-line l =
    (l.lines.text ≡ l.source)
    × (from_line (l.lines.number + 1) (above l.draft) (map tokens_of (lines_of (drop l.lines.at l.source))) ≡ source l.source)
    × StandsKept (above l.draft)

abbrev pub decreases-loop-line : goal.decreases-loop-line
decreases-loop-line l = length l.source - l.lines.at
