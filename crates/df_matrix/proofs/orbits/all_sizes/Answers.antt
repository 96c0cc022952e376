use Rattle.std.proofs.Common.{◌≤◌, All, length, sym, ap, subst, arith, ◌∙◌}
use Rattle.std.specs.List.Sorted.{IsStrictlyIncreasing}
use Rattle.df_lists.proofs.SetLaws.{set_rises}
use Rattle.df_lang.specs.Problems.{Stated, IsStated, point_count}
use Rattle.df_matrix.proofs.orbits.all_sizes.Goals as goal

pub returns-clause-sizes : goal.returns-clause-sizes
returns-clause-sizes c = c.deref.ensures.0 ∙ ap (λ (s : Stated). s.sizes) c.problem.view_is

pub returns-clause-some : goal.returns-clause-some
returns-clause-some c =
    let stated : IsStated c.args.problem.now = subst IsStated c.problem.view_is c.problem.invariant in
    omega (arith, stated.some_size, ap length (c.deref.ensures.0 ∙ ap (λ (s : Stated). s.sizes) c.problem.view_is))

pub returns-clause-rising : goal.returns-clause-rising
returns-clause-rising c =
    let stated : IsStated c.args.problem.now = subst IsStated c.problem.view_is c.problem.invariant in
    subst IsStrictlyIncreasing (sym (c.deref.ensures.0 ∙ ap (λ (s : Stated). s.sizes) c.problem.view_is)) (set_rises 17 c.args.problem.now.sizes stated.sizes_rise)

pub returns-clause-range : goal.returns-clause-range
returns-clause-range c =
    let stated : IsStated c.args.problem.now = subst IsStated c.problem.view_is c.problem.invariant in
    subst (All (λ k. (2 ≤ k) × (k ≤ point_count c.args.problem.now))) (sym (c.deref.ensures.0 ∙ ap (λ (s : Stated). s.sizes) c.problem.view_is))
    (λ k d h. let size = stated.sizes k d h in (size.low, size.fits))
