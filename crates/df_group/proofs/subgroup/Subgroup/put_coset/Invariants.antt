use Rattle.std.proofs.Common.{◌≡◌, ◌<◌, ℕ, true, ◌&&◌, ◌||◌, eqb, length}
use Rattle.std.specs.List.{list_any}
use Rattle.df_lists.specs.LeastMembers.{any_below}
use Rattle.df_lists.specs.NumberSets.{has_member}
use Rattle.df_group.specs.Elements.{group_of, order_of}
use Rattle.df_group.specs.Subgroups.{IsStored}
use Rattle.df_group.proofs.subgroup.Subgroup.put_coset.Given as goal

abbrev pub invariant-loop-s : goal.invariant-loop-s
invariant-loop-s l = record {
  stored : IsStored l.self;
  below : (s : ℕ) → has_member l.rest s ≡ true → s < order_of l.shape;
  members : (x : ℕ) → (has_member l.self x || list_any (λ s. eqb ((group_of l.shape).plus l.shift s) x) l.rest)
      ≡ (has_member l.initial.self x || any_below (λ s. has_member l.subgroup s && eqb ((group_of l.shape).plus l.shift s) x) (order_of l.shape));
}

abbrev pub decreases-loop-s : goal.decreases-loop-s
decreases-loop-s l = length l.rest
