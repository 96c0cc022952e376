-- Sums over the numbers below a bound.
use Rattle.std.specs.Prelude.{◌≡◌, ℕ, zero, suc, ◌+◌, ◌<◌, Bool, cond}

-- f 0 + .. + f (n - 1)
abbrev pub total : (ℕ → ℕ) → ℕ → ℕ
total f zero = 0
total f (suc n) = total f n + f n

-- 1 where the test holds
abbrev pub one : Bool → ℕ
one b = cond b 1 0

-- a map of the numbers below n that can be taken back
pub record Turns (n : ℕ) (there back : ℕ → ℕ) : Type 0 where
  pub within : (i : ℕ) → i < n → there i < n
  pub within_back : (i : ℕ) → i < n → back i < n
  pub returns : (i : ℕ) → i < n → back (there i) ≡ i
  pub returns_back : (i : ℕ) → i < n → there (back i) ≡ i

-- a sum may be taken along any map that can be taken back
abbrev pub TotalsTurn : Type 0
TotalsTurn = (f : ℕ → ℕ) (n : ℕ) (there back : ℕ → ℕ) → Turns n there back → total (λ i. f (there i)) n ≡ total f n

-- two sums change places
abbrev pub TotalsSwap : Type 0
TotalsSwap = (f : ℕ → ℕ → ℕ) (n m : ℕ) → total (λ i. total (f i) m) n ≡ total (λ j. total (λ i. f i j) n) m
