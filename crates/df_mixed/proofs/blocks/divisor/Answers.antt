use Rattle.std.proofs.Common.{arith, get_or}
use Rattle.df_lists.proofs.ListPlaces.{In-get_or}
use Rattle.df_lists.proofs.SetLaws.{In-set}
use Rattle.df_group.proofs.ElementLaws.{is_group}
use Rattle.df_group.proofs.SubgroupLaws.{subgroup_closed}
use Rattle.df_lang.specs.Problems.{point_count}
use Rattle.df_family.proofs.ShiftLaws.{stabilizer_some}
use Rattle.df_mixed.proofs.blocks.divisor.Goals as goal

pub stabilizer_under-requires-clause-points : goal.stabilizer_under-requires-clause-points
stabilizer_under-requires-clause-points c = λ k d h.
    let block = c.args.member.now.block in
    In-set (point_count c.args.problem.now) block (get_or block k d) c.requires.set (In-get_or block k d h)

pub returns-in-Short-clause-some : goal.returns-in-Short-clause-some
returns-in-Short-clause-some c =
    let s = c.args.problem.now in
    let shape = c.requires.rules.shape in
    omega (arith, stabilizer_some s (is_group s.group shape) c.args.shifts.now (subgroup_closed s.group shape c.args.shifts.now c.requires.subgroup) c.args.member.now.block c.requires.set, c.stabilizer_under.ensures.count, c.from.ensures)
