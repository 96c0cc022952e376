use Rattle.std.proofs.Common.{◌∙◌, ◌/◌, ap₂, arith}
use Rattle.std.proofs.Math.Nat.{div-le_self}
use Rattle.df_group.proofs.ElementLaws.{is_group}
use Rattle.df_group.proofs.SubgroupLaws.{subgroup_closed}
use Rattle.df_mixed.proofs.OriginLaws.{quotient_is}
use Rattle.df_mixed.proofs.blocks.translate_count.Goals as goal

pub returns : goal.returns
returns c =
    let s = c.args.problem.now in
    let shape = c.requires.rules.shape in
    let shifts = c.args.shifts.now in
    let block = c.args.member.now.block in
    record {
      count = ap₂ (λ a b. a / b) (c.from.ensures ∙ c.order.ensures.order) c.divisor.ensures.divisor
          ∙ quotient_is s (is_group s.group shape) shifts (subgroup_closed s.group shape shifts c.requires.subgroup) block c.requires.set c.args.member.now.kind;
      few = omega (arith, div-le_self c.from.result c.divisor.result, c.from.ensures, c.order.ensures.high);
    }
