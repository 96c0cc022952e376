use Rattle.std.proofs.Common.{◌+◌, refl, sym, subst, arith}
use Rattle.df_matrix.proofs.Tallies.{IsTelling, telling_none, telling_ends}
use Rattle.df_matrix.proofs.cells.tally.Goals as goal

pub overflow_add-count : goal.overflow_add-count
overflow_add-count c = let t = c.loop-i.invariant in omega (arith, t.listed, c.loop-i-test.true, c.requires.few)

pub loop-i-init : goal.loop-i-init
loop-i-init c = subst (IsTelling c.args.rows.now 0 0) (sym c.new-cells.ensures) (telling_none c.args.rows.now)

pub loop-i-preserved : goal.loop-i-preserved
loop-i-preserved c =
    subst (IsTelling c.args.rows.now (c.loop-i.i + 1) 0) (sym c.push.ensures.items)
    (telling_ends c.args.rows.now c.loop-i.i c.loop-i.count c.loop-i.cells.items c.requires.sorted c.requires.few c.loop-i.invariant c.loop-i-test.true (c.if-goes_on.ensures.last refl))

pub returns-clause-few : goal.returns-clause-few
returns-clause-few c = let t = c.loop-i.invariant in omega (arith, t.few, c.loop-i.auto.i-end, c.requires.few)
