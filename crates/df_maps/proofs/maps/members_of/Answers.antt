use Rattle.std.proofs.Common.{◌∙◌, sym, arith}
use Rattle.df_lists.specs.NumberSets.{has_member}
use Rattle.df_maps.proofs.FilterSteps.{picked, passed, longer}
use Rattle.df_maps.proofs.maps.members_of.Goals as goal

pub loop-number-preserved : goal.loop-number-preserved
loop-number-preserved c = (
  picked (has_member c.args.subgroup.now) c.loop-number.number c.loop-number.members.items c.push.new.self.items (sym c.has.ensures ∙ c.if-not-has.false) c.loop-number.invariant.0 c.push.ensures.items,
  longer c.loop-number.members.items c.push.new.self.items c.loop-number.number c.loop-number.number c.push.ensures.items c.loop-number.invariant.1,
)

pub loop-number-preserved-then-not-has : goal.loop-number-preserved-then-not-has
loop-number-preserved-then-not-has c = (
  passed (has_member c.args.subgroup.now) c.loop-number.number c.loop-number.members.items (sym c.has.ensures ∙ c.if-not-has.true) c.loop-number.invariant.0,
  omega (arith, c.loop-number.invariant.1),
)
