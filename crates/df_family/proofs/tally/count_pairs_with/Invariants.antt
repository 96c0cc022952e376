use Rattle.std.proofs.Common.{◌≡◌, ◌≢◌, ℕ, ◌+◌, ◌*◌, ◌/◌, ◌<◌, get_or, cond, nat_lt}
use Rattle.df_lists.specs.NumberSets.{has_member}
use Rattle.df_group.specs.Elements.{order_of}
use Rattle.df_family.proofs.tally.count_pairs_with.Given as goal

abbrev pub invariant-loop-j : goal.invariant-loop-j
invariant-loop-j l = record {
  here : (j : ℕ) → j < 16 → get_or l.cells (16 * l.i + j) 0 ≡ get_or l.fn.cells (16 * l.i + j) 0 + cond (nat_lt j l.j) (cond (has_member l.block (order_of l.problem.group + j)) (order_of l.problem.group) 0) 0;
  elsewhere : (c : ℕ) → c / 16 ≢ l.i → get_or l.cells c 0 ≡ get_or l.fn.cells c 0;
}
