use Rattle.std.proofs.Common.{◌≡◌, ◌==◌, ℕ, ◌+◌, ◌<◌, take, count_by, get_or}
use Rattle.df_group.specs.Elements.{order_of, group_of, minus}
use Rattle.df_family.proofs.tally.count_from.Given as goal

abbrev pub invariant-loop-a : goal.invariant-loop-a
invariant-loop-a l = (d : ℕ) → d < order_of l.problem.group → get_or l.cells d 0 ≡ get_or l.fn.cells d 0 + count_by (λ a. minus (group_of l.problem.group) a l.b == d) (take l.a-index l.finite)
