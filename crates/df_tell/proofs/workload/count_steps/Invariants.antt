use Rattle.std.proofs.Common.{length}
use Rattle.df_tell.specs.RunSteps.{Pays}
use Rattle.df_tell.proofs.workload.count_steps.Given as goal

-- the steps so far were passed and counted
abbrev pub invariant-loop-end : goal.invariant-loop-end
invariant-loop-end g l = record {
  pays : Pays l.fn.designs.problem l.fn.designs l.designs record { designs = 0; left = l.fn.budget } l.counts;
}

abbrev pub decreases-loop-end : goal.decreases-loop-end
decreases-loop-end g l = length l.designs.search.rest
