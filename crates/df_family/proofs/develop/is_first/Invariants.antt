use Rattle.std.proofs.Common.{◌≡◌, false}
use Rattle.df_lists.specs.NumberSets.{has_member}
use Rattle.df_lists.specs.LeastMembers.{any_below}
use Rattle.df_group.specs.Elements.{group_of, minus}
use Rattle.df_family.proofs.develop.is_first.Given as goal

abbrev pub invariant-loop-h : goal.invariant-loop-h
invariant-loop-h l = any_below (λ h. has_member l.fixing (minus (group_of l.problem.group) l.g h)) l.h ≡ false
