use Rattle.std.proofs.Common.{◌-◌, sym, arith}
use Rattle.df_subsets.proofs.Binomials.{binomial_over}
use Rattle.df_orbits.proofs.BinomialBounds.{binomial_part}
use Rattle.df_orbits.proofs.places.after.Goals as goal
use Rattle.df_orbits.proofs.places.after.Goals.{then-taken-p-via-then-taken-p, then-taken-p-via-else-taken-p+then-size-taken}

pub returns-then-taken-p : goal.returns-then-taken-p
returns-then-taken-p c = λ h.
    elim c.then-taken-p.branch [
      | then-taken-p-via-then-taken-p w ↦ absurd (omega (arith, w.if-taken-p.true, h))
      | then-taken-p-via-else-taken-p+then-size-taken w ↦ sym (binomial_over (c.args.points - 1 - c.args.p) (c.args.size - c.args.taken) w.if-size-taken.true)
    ]

pub overflow_cast-result : goal.overflow_cast-result
overflow_cast-result c =
    let part = binomial_part c.args.points c.args.size c.args.taken c.args.p c.requires.point c.requires.taken c.requires.within c.if-taken-p.false in
    omega (arith, part, c.requires.few, c.binomial.ensures.value)
