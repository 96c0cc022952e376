use Rattle.std.proofs.Common.{◌+◌, ◌-◌, ◌*◌, ◌/◌, ap, sym, ◌∙◌, arith}
use Rattle.df_subsets.proofs.Binomials.{binomial_over, binomial_next, binomial_fits}
use Rattle.df_subsets.proofs.subsets.choices.Goals as goal

pub returns-then-k-n : goal.returns-then-k-n
returns-then-k-n c = sym (binomial_over c.args.n c.args.k c.if-k-n.true)

pub scaled-count-requires-clause-fits : goal.scaled-count-requires-clause-fits
scaled-count-requires-clause-fits c =
    let n = c.args.n in
    let t = c.loop-taken.taken in
    let next = ap (λ m. m * (n - t) / (t + 1)) c.loop-taken.invariant ∙ binomial_next n t in
    omega (arith, next, binomial_fits n (t + 1) c.requires)

pub loop-taken-preserved : goal.loop-taken-preserved
loop-taken-preserved c =
    let n = c.args.n in
    let t = c.loop-taken.taken in
    c.scaled-count.ensures ∙ ap (λ m. m * (n - t) / (t + 1)) c.loop-taken.invariant ∙ binomial_next n t
