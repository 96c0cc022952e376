use Rattle.std.proofs.Common.{length, Ok}
use Rattle.df_tell.specs.RunSteps.{Tells}
use Rattle.df_tell.proofs.run.gather_steps.Given as goal

-- the steps so far were passed and gathered
abbrev pub invariant-loop-end : goal.invariant-loop-end
invariant-loop-end g l = record {
  tells : Tells g.K.Sink.written g.K.Sink.faults l.fn.shown l.fn.problem l.fn.designs l.designs record { designs = 0; left = l.fn.budget } l.counts l.fn.out l.out l.fn.gathered.items l.gathered.items (Ok tt);
}

abbrev pub decreases-loop-end : goal.decreases-loop-end
decreases-loop-end g l = length l.designs.search.rest
