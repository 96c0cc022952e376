use Rattle.std.proofs.Common.{◌≡◌}
use Rattle.df_subsets.specs.Subsets.{binomial}
use Rattle.df_subsets.proofs.subsets.choices.Given as goal

abbrev pub invariant-loop-taken : goal.invariant-loop-taken
invariant-loop-taken l = l.count ≡ binomial l.n l.taken
