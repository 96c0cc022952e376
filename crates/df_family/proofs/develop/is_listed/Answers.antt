use Rattle.std.proofs.Common.{ap, sym, ◌∙◌, subst}
use Rattle.df_lang.specs.declared.pieces.Kind.{Kind}
use Rattle.df_group.proofs.ElementLaws.{is_group}
use Rattle.df_group.proofs.SubgroupLaws.{subgroup_closed}
use Rattle.df_family.specs.Developments.{is_listed}
use Rattle.df_family.specs.Remainders.{IsFixing}
use Rattle.df_family.proofs.RemainderLaws.{first_least}
use Rattle.df_family.proofs.develop.is_listed.Goals as goal

pub returns-in-Short : goal.returns-in-Short
returns-in-Short c =
    let s = c.args.problem.now in
    let shifts = c.args.shifts.now in
    let block = c.args.member.now.block in
    let fixing = c.args.fixing.now in
    let rules = c.requires.rules in
    let here = subst (λ (k : Kind). IsFixing s shifts k block fixing) c.in-Short.is c.requires.fixing in
    c.is_first.ensures
    ∙ first_least s (is_group s.group rules.shape) shifts (subgroup_closed s.group rules.shape shifts c.requires.subgroup) block c.requires.set fixing here c.args.g c.requires.below c.requires.shift
    ∙ sym (ap (λ (k : Kind). is_listed s shifts k block c.args.g) c.in-Short.is)
