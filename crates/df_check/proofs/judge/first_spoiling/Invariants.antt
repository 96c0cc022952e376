use Rattle.std.proofs.Common.{◌≡◌, ℕ, ◌<◌, false}
use Rattle.df_check.specs.Entries.{spoils}
use Rattle.df_check.proofs.judge.first_spoiling.Given as goal

abbrev pub invariant-loop-column : goal.invariant-loop-column
invariant-loop-column g l = (k : ℕ) → k < l.column → spoils l.system l.partial.decisions l.m l.row k ≡ false
