use Rattle.std.proofs.Common.{◌≡◌, ◌&&◌, filter}
use Rattle.std.specs.List.{range_with_len}
use Rattle.df_lists.specs.NumberSets.{has_member}
use Rattle.df_family.specs.Translates.{fixes}
use Rattle.df_family.proofs.translate.fixing.Given as goal

abbrev pub invariant-loop-g : goal.invariant-loop-g
invariant-loop-g l = l.fixing ≡ filter (λ g. has_member l.shifts g && fixes l.problem l.block g) (range_with_len 0 l.g)
