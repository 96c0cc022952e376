-- How many pairs of points there are.
use Rattle.std.proofs.Common.{◌≡◌, ℕ, ◌-◌, ◌*◌, ◌≤◌, arith, mul-le-mul}
use Rattle.df_subsets.specs.Subsets.{binomial}
use Rattle.df_subsets.proofs.Binomials.{binomial_turn}

pub few_pairs : (v : ℕ) → v ≤ 128 → binomial v 2 ≤ 8000000
few_pairs v small =
    let one : binomial v 1 * 1 ≡ 1 * (v - 0) = binomial_turn v 0 in
    let two : binomial v 2 * 2 ≡ binomial v 1 * (v - 1) = binomial_turn v 1 in
    let points : binomial v 1 ≤ 128 = omega (arith, one, small) in
    let less : v - 1 ≤ 128 = omega (arith, small) in
    let product : binomial v 1 * (v - 1) ≤ 128 * 128 = mul-le-mul points less in
    omega (arith, two, product)
