use Rattle.std.proofs.Common.{ℕ, List, length, get_or, take, ap, arith, ltb-true}
use Rattle.df_lang.specs.Targets.{is_finite}
use Rattle.df_group.specs.Elements.{order_of}
use Rattle.df_family.proofs.RemainderLaws.{picks_pass}
use Rattle.df_family.proofs.tally.finite_points.Goals as goal

pub returns-clause-below : goal.returns-clause-below
returns-clause-below c = λ k d h.
    let s = c.args.problem.now in
    let front = take c.loop-p.p-index c.args.block.now in
    let is = c.loop-p.invariant.0 in
    let passes = picks_pass (is_finite s) front k d (omega (arith, ap length is)) in
    omega (arith, ltb-true _ (order_of s.group) passes, ap (λ (l : List ℕ). get_or l k d) is)
