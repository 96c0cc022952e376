use Rattle.std.proofs.Common.{arith}
use Rattle.df_group.specs.Elements.{number}
use Rattle.df_group.proofs.ElementLaws.{number_within}
use Rattle.df_group.proofs.PlaceSteps.{number_small, number_next, number_end}
use Rattle.df_group.proofs.residues.number_of.Goals as goal

pub overflow_mul-place : goal.overflow_mul-place
overflow_mul-place c =
    let next = number_next c.args.factors.now c.args.residues.now c.loop-i.i c.loop-i.place c.requires.shape c.requires.element (omega arith) c.loop-i.invariant in
    omega (arith, next)

pub overflow_add-place : goal.overflow_add-place
overflow_add-place c =
    let next = number_next c.args.factors.now c.args.residues.now c.loop-i.i c.loop-i.place c.requires.shape c.requires.element (omega arith) c.loop-i.invariant in
    omega (arith, next)

pub overflow_cast-result : goal.overflow_cast-result
overflow_cast-result c =
    let small = number_small c.args.factors.now c.args.residues.now c.loop-i.i c.loop-i.place c.requires.shape c.requires.element c.loop-i.invariant in
    omega (arith, small)

pub returns-clause-below : goal.returns-clause-below
returns-clause-below c =
    let fs = c.args.factors.now in
    let rs = c.args.residues.now in
    let all = number_end fs rs c.loop-i.i c.loop-i.place (number fs rs) (omega arith) c.loop-i.invariant in
    omega (arith, all, number_within fs rs c.requires.element)
