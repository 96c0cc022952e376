use Rattle.std.proofs.Common.{◌≡◌, ◌++◌, length}
use Rattle.df_tell.proofs.listing.collect_reps.Given as goal

-- the blocks of the list and those that are left are all
abbrev pub invariant-loop-block : goal.invariant-loop-block
invariant-loop-block l = record { all : l.list.items ++ l.rest ≡ l.fn.reps }

abbrev pub decreases-loop-block : goal.decreases-loop-block
decreases-loop-block l = length l.rest
