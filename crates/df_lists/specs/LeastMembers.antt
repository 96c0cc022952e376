-- Equivalence classes of the numbers below a bound, by their least members.
use Rattle.std.specs.Prelude.{◌≡◌, ℕ, zero, suc, ◌*◌, ◌<◌, Bool, true, false, cond, not, ◌||◌}
use Rattle.df_lists.specs.Totals.{total, one}

-- a number below n passes
abbrev pub any_below : (ℕ → Bool) → ℕ → Bool
any_below t zero = false
any_below t (suc n) = any_below t n || t n

-- no lower number is equivalent to i
abbrev pub is_least : (ℕ → ℕ → Bool) → ℕ → Bool
is_least same i = not (any_below (λ j. same j i) i)

-- the test is an equivalence on the numbers below n
pub record IsSameness (n : ℕ) (same : ℕ → ℕ → Bool) : Type 0 where
  pub self : (i : ℕ) → i < n → same i i ≡ true
  pub turned : (i j : ℕ) → i < n → j < n → same i j ≡ true → same j i ≡ true
  pub joined : (i j k : ℕ) → i < n → j < n → k < n → same i j ≡ true → same j k ≡ true → same i k ≡ true

-- c is the first number that passes
pub record IsFirst (t : ℕ → Bool) (c : ℕ) : Type 0 where
  pub passes : t c ≡ true
  pub none : (j : ℕ) → j < c → t j ≡ false

-- a sum over all numbers is one over the least members, each counted as often as there are numbers equivalent to it
abbrev pub LeastsLaw : Type 0
LeastsLaw = (n : ℕ) (same : ℕ → ℕ → Bool) → IsSameness n same → (F : ℕ → ℕ) (m : ℕ) → ((g h : ℕ) → g < n → h < n → same h g ≡ true → F g ≡ F h) → ((h : ℕ) → h < n → total (λ g. one (same h g)) n ≡ m)
    → total F n ≡ m * total (λ h. cond (is_least same h) (F h) 0) n

-- a map of the numbers below n that sends no two to one number comes to each
abbrev pub OntoLaw : Type 0
OntoLaw = (n : ℕ) (f : ℕ → ℕ) → ((i : ℕ) → i < n → f i < n) → ((i j : ℕ) → i < n → j < n → f i ≡ f j → i ≡ j) → (j : ℕ) → j < n → (i : ℕ) × (i < n) × (f i ≡ j)
