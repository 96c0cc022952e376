use Rattle.std.proofs.Common.{◌≤◌, ◌∙◌, ◌+◌, ap₂, sym, arith}
use Rattle.df_lists.proofs.ListPlaces.{all_members}
use Rattle.df_subsets.specs.Subsets.{binomial}
use Rattle.df_orbits.proofs.SizeSums.{sum_more, sum_part, sums_fit, rising_distinct}
use Rattle.df_orbits.proofs.orbits.count_blocks.Goals as goal

pub overflow_add-sum : goal.overflow_add-sum
overflow_add-sum c =
    let v = c.args.points in
    let sizes = c.args.sizes.now in
    let i = c.loop-size.size-index in
    let all = sums_fit v sizes c.requires.small (rising_distinct sizes c.requires.rising) (λ k j. let r = all_members (λ k. (2 ≤ k) × (k ≤ v)) sizes c.requires.range k j in omega (arith, r.0)) in
    let next = sum_more (binomial v) sizes i c.loop-size-test.true in
    let part = sum_part (binomial v) sizes (i + 1) in
    omega (arith, all, next, part, c.loop-size.invariant, c.binomial-sum.ensures.value)

pub loop-size-preserved : goal.loop-size-preserved
loop-size-preserved c = ap₂ (λ a b. a + b) c.loop-size.invariant c.binomial-sum.ensures.value ∙ sym (sum_more (binomial c.args.points) c.args.sizes.now c.loop-size.size-index c.loop-size-test.true)
