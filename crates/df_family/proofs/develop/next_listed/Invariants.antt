use Rattle.std.proofs.Common.{◌≡◌, ◌-◌, find}
use Rattle.std.specs.List.{range_with_len}
use Rattle.df_group.specs.Elements.{order_of}
use Rattle.df_family.specs.Remainders.{is_listed_shift}
use Rattle.df_family.proofs.develop.next_listed.Given as goal

abbrev pub invariant-loop-g : goal.invariant-loop-g
invariant-loop-g l =
    find (is_listed_shift l.problem l.shifts l.member.kind l.member.block) (range_with_len l.from (order_of l.problem.group - l.from))
    ≡ find (is_listed_shift l.problem l.shifts l.member.kind l.member.block) (range_with_len l.g (order_of l.problem.group - l.g))
