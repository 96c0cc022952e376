use Rattle.std.proofs.Common.{◌≡◌, map, take}
use Rattle.df_group.specs.Elements.{shifted, group_of}
use Rattle.df_lists.specs.NumberSets.{set_of}
use Rattle.df_lang.specs.Problems.{point_count}
use Rattle.df_family.proofs.translate.translated.Given as goal

abbrev pub invariant-loop-p : goal.invariant-loop-p
invariant-loop-p l = l.translated ≡ set_of (point_count l.problem) (map (shifted (group_of l.problem.group) l.g) (take l.p-index l.block))
