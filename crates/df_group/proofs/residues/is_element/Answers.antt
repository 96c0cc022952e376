use Rattle.std.proofs.Common.{arith}
use Rattle.df_group.proofs.PlaceSteps.{element_length, element_at, element_from}
use Rattle.df_group.proofs.residues.is_element.Goals as goal

pub returns-then-residues-factors : goal.returns-then-residues-factors
returns-then-residues-factors c = λ h. c.if-residues-factors.true (element_length c.args.factors.now c.args.residues.now h)

pub returns-then-factors-i : goal.returns-then-factors-i
returns-then-factors-i c = λ h.
    let below = element_at c.args.factors.now c.args.residues.now c.loop-i.i h (omega arith) in
    omega (arith, below)

pub returns : goal.returns
returns c = element_from c.args.factors.now c.args.residues.now c.if-residues-factors.false (λ i l. c.loop-i.invariant i (omega arith))
