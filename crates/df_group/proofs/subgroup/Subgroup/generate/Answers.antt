use Rattle.std.proofs.Common.{length, sym, ap, ◌∙◌, drop, arith}
use Rattle.df_lists.specs.NumberSets.{has_member}
use Rattle.df_group.specs.Subgroups.{generated}
use Rattle.df_group.proofs.PlaceSteps.{drop_end, drop_before}
use Rattle.df_group.proofs.GeneratedSets.{generated_skip}
use Rattle.df_group.proofs.subgroup.Subgroup.generate.Goals as goal

pub loop-i-init : goal.loop-i-init
loop-i-init c = c.trivial-subgroup.ensures.generated ∙ ap (generated c.args.shape.now) (sym (drop_end c.args.generators.now (length c.args.generators.now) (omega arith)))

pub loop-i-preserved-then-has : goal.loop-i-preserved-then-has
loop-i-preserved-then-has c =
    let fs = c.args.shape.now in
    let gs = c.args.generators.now in
    let i = c.loop-i.i in
    let g = c.index-generators-i.result in
    let front = drop_before gs i g (omega arith) (omega arith) c.index-generators-i.is in
    let old = ap (λ l. has_member l g) (sym c.loop-i.invariant) ∙ sym c.has.ensures ∙ c.if-has.true in
    c.loop-i.invariant ∙ sym (generated_skip fs c.trivial-subgroup.ensures.shape g (drop i gs) old) ∙ ap (generated fs) (sym front)
