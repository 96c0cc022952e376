use Rattle.std.proofs.Common.{◌≡◌, drop}
use Rattle.df_group.specs.Subgroups.{generated}
use Rattle.df_group.proofs.subgroup.Subgroup.generate.Given as goal

abbrev pub invariant-loop-i : goal.invariant-loop-i
invariant-loop-i l = l.subgroup ≡ generated l.shape (drop l.i l.generators)
