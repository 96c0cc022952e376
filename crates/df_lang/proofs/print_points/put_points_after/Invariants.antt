use Rattle.std.proofs.Common.{◌≡◌, ◌++◌, map, drop}
use Rattle.df_lang.specs.Canonical.{point_text}
use Rattle.df_lang.specs.Separated.{each_after}
use Rattle.df_lang.proofs.print_points.put_points_after.Given as goal

-- what is written, and what is left, are the whole
abbrev pub invariant-loop-p : goal.invariant-loop-p
invariant-loop-p l =
    l.buf.items ++ each_after 32 (map (point_text l.problem.group) (drop l.p-index l.points)) ≡ l.initial.buf.items ++ each_after 32 (map (point_text l.problem.group) l.points)
