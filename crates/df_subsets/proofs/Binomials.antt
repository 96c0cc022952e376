-- Binomial numbers.
use Rattle.std.proofs.Common.{◌≡◌, ℕ, suc, zero, ◌+◌, ◌-◌, ◌*◌, ◌/◌, ◌%◌, ◌^◌, ◌<◌, ◌≤◌, refl, sym, ap, add-one, lit<, ◌∙◌, inl, inr, ◌⊎◌, arith, ⊎_elim}
use Rattle.std.proofs.lemmas.Bool.{cases_lt}
use Rattle.std.proofs.lemmas.Nat.{pow_pos, div-add-mod', mod_below, div-mul-add}
use Rattle.std.proofs.Math.Nat.{two-pow-succ, pow-le-pow_right, mul-div_cancel}
use Rattle.df_subsets.specs.Subsets.{binomial}

-- nothing more can be chosen than there is
pub binomial_over : (n k : ℕ) → n < k → binomial n k ≡ 0
binomial_over n zero h = absurd (omega arith)
binomial_over zero (suc k) h = refl
binomial_over (suc n) (suc k) h = let a = binomial_over n k (omega arith) in let b = binomial_over n (suc k) (omega arith) in omega arith

pub binomial_some : (n k : ℕ) → k ≤ n → 0 < binomial n k
binomial_some n zero h = omega arith
binomial_some zero (suc k) h = absurd (omega arith)
binomial_some (suc n) (suc k) h = let a = binomial_some n k (omega arith) in omega arith

pub binomial_all : (n : ℕ) → binomial n n ≡ 1
binomial_all zero = refl
binomial_all (suc n) = let a = binomial_all n in let b = binomial_over n (suc n) (omega arith) in omega arith

step : (a b c k m l : ℕ) → b * (k + 1) ≡ a * m → c * (k + 2) ≡ b * l → (b ≡ 0) ⊎ (m ≡ l + 1) → (b + c) * (k + 2) ≡ (a + b) * m
step a b c k m l e f (inl z) = let e' : 0 * (k + 1) ≡ a * m = rw z at e in let f' : c * (k + 2) ≡ 0 * l = rw z at f in rw z (omega (arith, e', f'))
step a b c k m l e f (inr s) = let e' : b * (k + 1) ≡ a * (l + 1) = rw s at e in rw s (omega (arith, e', f))

-- from one binomial to the next in its row
pub binomial_turn : (n k : ℕ) → binomial n (k + 1) * (k + 1) ≡ binomial n k * (n - k)
binomial_turn zero zero = refl
binomial_turn zero (suc k) = let none : binomial 0 (suc k + 1) ≡ 0 = ap (binomial 0) (add-one (suc k)) in rw none (omega arith)
binomial_turn (suc n) zero =
    let ih : binomial n 1 * 1 ≡ 1 * (n - 0) = binomial_turn n zero in
    let row : binomial (suc n) (0 + 1) ≡ 1 + binomial n 1 = refl in
    omega (arith, ih, row)
binomial_turn (suc n) (suc k) =
    let one : binomial n (suc k) * (k + 1) ≡ binomial n k * (n - k) = ap (λ m. binomial n m * (k + 1)) (sym (add-one k)) ∙ binomial_turn n k in
    let two : binomial n (suc (suc k)) * (k + 2) ≡ binomial n (suc k) * (n - suc k) = ap (λ m. binomial n m * (k + 2)) (sym (add-one (suc k))) ∙ ap (λ m. binomial n (suc k + 1) * m) {x = k + 2} {y = suc k + 1} (omega arith) ∙ binomial_turn n (suc k) in
    ap (λ m. binomial (suc n) m * (suc k + 1)) (add-one (suc k))
    ∙ ap (λ m. (binomial n (suc k) + binomial n (suc (suc k))) * m) {x = suc k + 1} {y = k + 2} (omega arith)
    ∙ step (binomial n k) (binomial n (suc k)) (binomial n (suc (suc k))) k (n - k) (n - suc k) one two (⊎_elim (λ l. inr (omega arith)) (λ g. inl (binomial_over n (suc k) (omega arith))) (cases_lt k n))
    ∙ ap (λ m. (binomial n k + binomial n (suc k)) * m) {x = n - k} {y = suc n - suc k} (omega arith)

pub binomial_small : (n k : ℕ) → binomial (suc n) k < 2 ^ suc n
binomial_small zero zero = omega arith
binomial_small zero (suc zero) = omega arith
binomial_small zero (suc (suc k)) = omega arith
binomial_small (suc n) zero = let pos = pow_pos (suc n) in let twice : 2 ^ suc (suc n) ≡ 2 ^ suc n + 2 ^ suc n = two-pow-succ (suc n) in omega (arith, pos, twice)
binomial_small (suc n) (suc k) =
    let a = binomial_small n k in
    let b = binomial_small n (suc k) in
    let twice : 2 ^ suc (suc n) ≡ 2 ^ suc n + 2 ^ suc n = two-pow-succ (suc n) in
    omega (arith, a, b, twice)

pub binomial_fits : (n k : ℕ) → n ≤ 128 → binomial n k < 2 ^ 128
binomial_fits zero zero h = lit< tt
binomial_fits zero (suc k) h = lit< tt
binomial_fits (suc n) k h = let l = pow-le-pow_right {n = 2} (omega arith) {i = suc n} {j = 128} h in let s = binomial_small n k in omega (arith, l, s)

-- from one binomial to the next in its row, by a division without rest
pub binomial_next : (n k : ℕ) → binomial n k * (n - k) / (k + 1) ≡ binomial n (k + 1)
binomial_next n k = ap (λ m. m / (k + 1)) (sym (binomial_turn n k)) ∙ mul-div_cancel (binomial n (k + 1)) {n = k + 1} (omega arith)

regrouped : (q d r m e f : ℕ) → e * d + f ≡ r * m → (q * d + r) * m ≡ (q * m + e) * d + f
regrouped q d r m e f h = omega (arith, h)

-- a quotient of a product, by parts
pub divided : (c d m : ℕ) → 0 < d → c / d * m + (c % d) * m / d ≡ c * m / d
divided c d m pos =
    let q = c / d in
    let r = c % d in
    let whole : q * d + r ≡ c = div-add-mod' c d in
    let inner : r * m / d * d + r * m % d ≡ r * m = div-add-mod' (r * m) d in
    let small : r * m % d < d = mod_below (r * m) d pos in
    let all : c * m ≡ (q * m + r * m / d) * d + r * m % d = ap (λ n. n * m) (sym whole) ∙ regrouped q d r m (r * m / d) (r * m % d) inner in
    sym (ap (λ n. n / d) all ∙ div-mul-add (q * m + r * m / d) d (r * m % d) small)
