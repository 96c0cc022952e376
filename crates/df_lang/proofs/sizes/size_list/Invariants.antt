use Rattle.std.proofs.Common.{◌≡◌, ◌++◌, length}
use Rattle.df_lang.proofs.sizes.size_list.Given as goal

abbrev pub invariant-loop-size : goal.invariant-loop-size
invariant-loop-size l = l.sizes.items ++ l.rest ≡ l.set

abbrev pub decreases-loop-size : goal.decreases-loop-size
decreases-loop-size l = length l.rest
