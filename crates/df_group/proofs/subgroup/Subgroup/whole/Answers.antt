use Rattle.std.proofs.Common.{◌≡◌, sym, ap, ◌∙◌, arith}
use Rattle.std.specs.List.{range_with_len}
use Rattle.df_lists.specs.NumberSets.{with_member}
use Rattle.df_lists.proofs.SetLaws.{range_put}
use Rattle.df_group.specs.Elements.{order_of}
use Rattle.df_group.proofs.GeneratedSets.{generated_whole}
use Rattle.df_group.proofs.subgroup.Subgroup.whole.Goals as goal

pub loop-e-preserved : goal.loop-e-preserved
loop-e-preserved c = c.put.ensures.member ∙ ap (with_member c.loop-e.e) c.loop-e.invariant ∙ range_put c.loop-e.e

pub returns-clause-subgroup : goal.returns-clause-subgroup
returns-clause-subgroup c =
    let fs = c.args.shape.now in
    let end : c.loop-e.e ≡ order_of fs = omega (arith, c.order-e-end.ensures.order) in
    (range_with_len 0 (order_of fs), generated_whole fs c.order-e-end.ensures.shape ∙ ap (range_with_len 0) (sym end) ∙ sym c.loop-e.invariant)
