use Rattle.std.proofs.Common.{◌≡◌, ℕ}
use Rattle.df_lists.specs.NumberSets.{has_member}
use Rattle.df_group.specs.Subgroups.{IsStored}
use Rattle.df_group.proofs.Extensions.{is_reached}
use Rattle.df_group.proofs.subgroup.Subgroup.extended.Given as goal

abbrev pub invariant-loop-c : goal.invariant-loop-c
invariant-loop-c l = record {
  stored : IsStored l.extended;
  members : (x : ℕ) → has_member l.extended x ≡ is_reached l.shape l.generator l.self l.c x;
}
