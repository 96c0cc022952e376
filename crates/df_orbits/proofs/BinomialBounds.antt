-- Binomials are no larger than those further down and to the right.
use Rattle.std.proofs.Common.{◌≡◌, ℕ, suc, zero, ◌+◌, ◌-◌, ◌<◌, ◌≤◌, refl, ap, ap₂, ◌∙◌, subst, arith}
use Rattle.df_subsets.specs.Subsets.{binomial}

binomial_wider : (n k : ℕ) → binomial n k ≤ binomial (suc n) k
binomial_wider n zero = omega arith
binomial_wider n (suc k) = omega arith

binomial_widened : (n m k : ℕ) → binomial n k ≤ binomial (m + n) k
binomial_widened n zero k = let e : binomial (0 + n) k ≡ binomial n k = ap (λ m. binomial m k) {x = 0 + n} {y = n} (omega arith) in omega (arith, e)
binomial_widened n (suc m) k =
    let e : binomial (suc m + n) k ≡ binomial (suc (m + n)) k = ap (λ i. binomial i k) {x = suc m + n} {y = suc (m + n)} (omega arith) in
    let a = binomial_widened n m k in
    let b = binomial_wider (m + n) k in
    omega (arith, a, b, e)

binomial_with : (n k j : ℕ) → binomial n k ≤ binomial (j + n) (j + k)
binomial_with n k zero = let e : binomial (0 + n) (0 + k) ≡ binomial n k = ap₂ binomial (omega arith) (omega arith) in omega (arith, e)
binomial_with n k (suc j) =
    let e : binomial (suc j + n) (suc j + k) ≡ binomial (suc (j + n)) (suc (j + k)) = ap (λ i. binomial i (suc j + k)) {x = suc j + n} {y = suc (j + n)} (omega arith) ∙ ap (binomial (suc (j + n))) {x = suc j + k} {y = suc (j + k)} (omega arith) in
    let row : binomial (suc (j + n)) (suc (j + k)) ≡ binomial (j + n) (j + k) + binomial (j + n) (suc (j + k)) = refl in
    let a = binomial_with n k j in
    omega (arith, a, e, row)

-- what can still be chosen is no more than what can be chosen in all
pub binomial_part : (v k j p : ℕ) → p < v → j ≤ k → k ≤ v → j ≤ p + 1 → binomial (v - 1 - p) (k - j) ≤ binomial v k
binomial_part v k j p h l m o =
    let wide : binomial (v - 1 - p) (k - j) ≤ binomial (v - j) (k - j) = subst (λ n. binomial (v - 1 - p) (k - j) ≤ binomial n (k - j)) (omega arith) (binomial_widened (v - 1 - p) (p + 1 - j) (k - j)) in
    let more = binomial_with (v - j) (k - j) j in
    let same : binomial (j + (v - j)) (j + (k - j)) ≡ binomial v k = ap₂ binomial (omega arith) (omega arith) in
    omega (arith, wide, more, same)
