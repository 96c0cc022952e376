use Rattle.std.proofs.Common.{arith}
use Rattle.df_group.proofs.ElementLaws.{is_group}
use Rattle.df_group.proofs.SubgroupLaws.{subgroup_closed}
use Rattle.df_family.proofs.DevelopedBlocks.{developed_blocks, developed_sizes}
use Rattle.df_family.proofs.RemainderLaws.{listed_at_start, rest_at_start}
use Rattle.df_family.proofs.develop.Develop.under.Goals as goal

pub invariant_of-result : goal.invariant_of-result
invariant_of-result c =
    let s = c.args.problem.now in
    let rules = c.fixing_of-fixing.ensures.rules in
    record {
      subgroup = c.requires;
      within = omega arith;
      below = (is_group s.group rules.shape).some;
      listed = listed_at_start s c.args.shifts s.family (subgroup_closed s.group rules.shape c.args.shifts c.requires).zero;
      fixes = c.fixing_of-fixing.ensures.fixing;
    }

pub returns-clause-whole : goal.returns-clause-whole
returns-clause-whole c =
    let s = c.args.problem.now in
    rest_at_start s c.args.shifts (subgroup_closed s.group c.fixing_of-fixing.ensures.rules.shape c.args.shifts c.requires).set s.family

pub returns-clause-blocks : goal.returns-clause-blocks
returns-clause-blocks c = developed_blocks c.args.problem.now c.fixing_of-fixing.ensures.rules c.args.shifts

pub returns-clause-sizes : goal.returns-clause-sizes
returns-clause-sizes c = developed_sizes c.args.problem.now c.fixing_of-fixing.ensures.rules c.args.shifts
