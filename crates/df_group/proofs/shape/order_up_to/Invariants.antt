use Rattle.std.proofs.Common.{◌≡◌, ◌≤◌, ◌-◌, ◌^◌, length, drop}
use Rattle.df_group.specs.Elements.{order_of}
use Rattle.df_group.proofs.shape.order_up_to.Given as goal

abbrev pub invariant-loop-i : goal.invariant-loop-i
invariant-loop-i l = (l.order ≡ order_of (drop l.i l.factors)) × (l.order ≤ 128 ^ (length l.factors - l.i))
