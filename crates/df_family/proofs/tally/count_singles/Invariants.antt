use Rattle.std.proofs.Common.{◌≡◌, ℕ, ◌+◌, ◌<◌, get_or, cond, nat_lt}
use Rattle.df_lists.specs.NumberSets.{has_member}
use Rattle.df_group.specs.Elements.{order_of}
use Rattle.df_family.proofs.tally.count_singles.Given as goal

abbrev pub invariant-loop-i : goal.invariant-loop-i
invariant-loop-i l = (i : ℕ) → i < l.problem.fixed → get_or l.cells i 0 ≡ get_or l.fn.cells i 0 + cond (nat_lt i l.i) (cond (has_member l.block (order_of l.problem.group + i)) l.elements 0) 0
