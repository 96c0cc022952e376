use Rattle.std.proofs.Common.{◌≡◌, ℕ, ◌+◌, ◌/◌, ◌<◌, get_or, cond, nat_lt}
use Rattle.df_family.proofs.tally.add_cells.Given as goal

abbrev pub invariant-loop-c : goal.invariant-loop-c
invariant-loop-c l = (c : ℕ) → c < l.count → get_or l.cells c 0 ≡ get_or l.fn.cells c 0 + cond (nat_lt c l.c) (get_or l.own c 0 / l.divisor) 0
