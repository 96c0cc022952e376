use Rattle.std.proofs.Common.{◌≡◌, ◌==◌, ℕ, ◌+◌, ◌<◌, take, sum_by, count_by, get_or}
use Rattle.df_group.specs.Elements.{order_of, group_of, minus}
use Rattle.df_family.proofs.tally.count_differences.Given as goal

abbrev pub invariant-loop-b : goal.invariant-loop-b
invariant-loop-b l =
    (d : ℕ) → d < order_of l.problem.group → get_or l.cells d 0 ≡ get_or l.fn.cells d 0 + sum_by (λ b. count_by (λ a. minus (group_of l.problem.group) a b == d) l.finite) (take l.b-index l.finite)
