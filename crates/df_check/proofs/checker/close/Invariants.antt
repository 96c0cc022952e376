use Rattle.std.proofs.Common.{◌≡◌}
use Rattle.df_runs.specs.Waiting.{waiting}
use Rattle.df_check.specs.Stages.{AreFlagged, branches}
use Rattle.df_check.proofs.checker.close.Given as goal

abbrev pub invariant-loop-count : goal.invariant-loop-count
invariant-loop-count g l = record {
  system : l.partial.system ≡ l.initial.partial.system;
  flagged : AreFlagged l.partial l.flags l.count;
  wants : waiting l.partial.decisions (branches l.partial l.flags l.count) ≡ waiting l.initial.partial.decisions (branches l.initial.partial l.initial.flags l.initial.count);
}

abbrev pub decreases-loop-count : goal.decreases-loop-count
decreases-loop-count g l = l.count
