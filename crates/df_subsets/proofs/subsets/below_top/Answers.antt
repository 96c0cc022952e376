use Rattle.std.proofs.Common.{◌≡◌, ◌+◌, ◌-◌, ◌^◌, ap, ◌∙◌, arith}
use Rattle.std.proofs.lemmas.Nat.{one_shl}
use Rattle.std.proofs.Math.Nat.{two-pow-succ}
use Rattle.df_subsets.proofs.BlockBits.{run_more}
use Rattle.df_subsets.proofs.subsets.below_top.Goals as goal

pub loop-top-preserved : goal.loop-top-preserved
loop-top-preserved c =
    let v = c.args.v in
    let t = c.loop-top.top in
    let low = c.loop-top.low in
    let bit = one_shl (v - 1 - t) 128 (omega arith) in
    let twice : 2 ^ (v - t) ≡ 2 ^ (v - 1 - t) + 2 ^ (v - 1 - t) = ap (λ n. 2 ^ n) (omega arith) ∙ two-pow-succ (v - 1 - t) in
    let same : 2 ^ (v - (t + 1)) ≡ 2 ^ (v - 1 - t) = ap (λ n. 2 ^ n) {x = v - (t + 1)} {y = v - 1 - t} (omega arith) in
    let more = run_more v t c.loop-top-test.true in
    record {
      fits = omega arith;
      small = omega (arith, bit, twice, same, c.loop-top.invariant.small, c.if-low-v.true);
      split = omega (arith, bit, more, c.loop-top.invariant.split, c.if-low-v.true);
    }
