use Rattle.std.proofs.Common.{length}
use Rattle.df_tell.specs.Listing.{Lists}
use Rattle.df_tell.proofs.listing.list_steps.Given as goal

-- the steps so far were passed and counted, and their designs listed
abbrev pub invariant-loop-end : goal.invariant-loop-end
invariant-loop-end g l = record {
  lists : Lists l.fn.blocks l.fn.designs.problem l.fn.designs l.designs record { designs = 0; left = l.fn.budget } l.counts l.fn.listing l.listing;
}

abbrev pub decreases-loop-end : goal.decreases-loop-end
decreases-loop-end g l = length l.designs.search.rest
