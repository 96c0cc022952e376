use Rattle.std.proofs.Common.{◌≡◌, ◌≤◌, filter, length, take}
use Rattle.df_lang.specs.Targets.{is_finite}
use Rattle.df_family.proofs.tally.finite_points.Given as goal

abbrev pub invariant-loop-p : goal.invariant-loop-p
invariant-loop-p l = (l.finite.items ≡ filter (is_finite l.problem) (take l.p-index l.block)) × (length l.finite.items ≤ l.p-index)
