use Rattle.std.proofs.Common.{◌++◌, length, ap, subst, ◌∙◌, arith, lit<, length-append}
use Rattle.df_lists.proofs.RisingLists.{length_fits}
use Rattle.df_lists.specs.NumberSets.{IsSet}
use Rattle.df_subsets.proofs.block.Block.points.Goals as goal

pub loop-p-init : goal.loop-p-init
loop-p-init c = ap (λ l. l ++ c.self.inside.points) c.new-points.ensures ∙ c.self.view_is

pub push-requires : goal.push-requires
push-requires c =
    let few = length_fits 0 128 c.args.self.now (omega arith) (subst (IsSet 128) c.self.view_is c.self.invariant) in
    (lit< tt, omega (arith, few, ap length c.loop-p.invariant, length-append c.loop-p.points.items c.loop-p.rest, ap length c.in-Some.ensures.first.0))
