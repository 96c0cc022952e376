use Rattle.std.proofs.Common.{◌≡◌, ℕ, ◌+◌, ◌*◌, ◌/◌, ◌%◌, ◌<◌, get_or, cond, nat_lt}
use Rattle.df_group.specs.Elements.{order_of}
use Rattle.df_lang.specs.Balance.{holds_both}
use Rattle.df_family.proofs.tally.count_pairs.Given as goal

abbrev pub invariant-loop-i : goal.invariant-loop-i
invariant-loop-i l =
    (c : ℕ) → c < 16 * l.problem.fixed
    → get_or l.cells c 0 ≡ get_or l.fn.cells c 0 + cond (nat_lt (c / 16) l.i) (cond (holds_both l.block (order_of l.problem.group + c / 16) (order_of l.problem.group + c % 16)) (order_of l.problem.group) 0) 0
