-- The exponent: the least number from 1 on that each factor divides.
use Rattle.std.proofs.Common.{◌≡◌, ℕ, zero, suc, ◌+◌, ◌-◌, ◌*◌, ◌%◌, ◌<◌, ◌≤◌, Bool, true, false, eqb, ◌&&◌, List, [], ◌∷◌, All, Some, unwrap_or, refl, sym, ap, ◌∙◌, inl, inr, arith, mul_assoc, mul_comm, one-mul, eq-eqb, mod-eq_of_lt}
use Rattle.std.proofs.Math.Nat.{mul-mod_left}
use Rattle.std.proofs.lemmas.Bool.{cases_lt, eqb-true, both_ways}
use Rattle.std.specs.List.{find, range_with_len}
use Rattle.df_lists.proofs.RangeLaws.{find_first}
use Rattle.df_group.specs.Elements.{order_of, IsShape}
use Rattle.df_group.specs.Subgroups.{is_common_multiple, exponent_of}
use Rattle.df_group.proofs.ElementLaws.{ArePositive, positive_shape, order_some}

-- where some number passes, there is a first one
pub first_passing : (t : ℕ → Bool) (a n k : ℕ) → k ≡ a + n → t k ≡ true → (c : ℕ) × (a ≤ c) × (c ≤ k) × (t c ≡ true) × ((j : ℕ) → a ≤ j → j < c → t j ≡ false)
first_passing t a zero k e h = (k, omega arith, omega arith, h, λ j l m. absurd (omega arith))
first_passing t a (suc n) k e h = go (t a) refl (first_passing t (a + 1) n k (omega arith) h)
  where
    go : (v : Bool) → t a ≡ v → (c : ℕ) × (a + 1 ≤ c) × (c ≤ k) × (t c ≡ true) × ((j : ℕ) → a + 1 ≤ j → j < c → t j ≡ false) → (c : ℕ) × (a ≤ c) × (c ≤ k) × (t c ≡ true) × ((j : ℕ) → a ≤ j → j < c → t j ≡ false)
    go true x r = (a, omega arith, omega arith, x, λ j l m. absurd (omega arith))
    go false x r = (r.0, omega (arith, r.1), omega (arith, r.2), r.3, λ j l m. elim (cases_lt a j) [ inl less ↦ r.4 j (omega arith) m | inr same ↦ let y : j ≡ a = omega arith in ap t y ∙ x ])

-- each factor divides n, as a test and as a fact at each place
pub common_divides : (fs : List ℕ) (n : ℕ) → is_common_multiple fs n ≡ true → All (λ f. n % f ≡ 0) fs
common_divides [] n h k d l = absurd (omega arith)
common_divides (f ∷ fs) n h zero d l = eqb-true (n % f) 0 (first (eqb (n % f) 0) (is_common_multiple fs n) h)
  where
    first : (a b : Bool) → (a && b) ≡ true → a ≡ true
    first true b h = refl
    first false b h = h
common_divides (f ∷ fs) n h (suc k) d l = common_divides fs n (second (eqb (n % f) 0) (is_common_multiple fs n) h) k d (omega arith)
  where
    second : (a b : Bool) → (a && b) ≡ true → b ≡ true
    second true b h = h
    second false true h = refl
    second false false h = h

pub divides_common : (fs : List ℕ) (n : ℕ) → All (λ f. n % f ≡ 0) fs → is_common_multiple fs n ≡ true
divides_common [] n h = refl
divides_common (f ∷ fs) n h = rw (eq-eqb (n % f) 0 (h 0 0 (omega arith)), divides_common fs n (λ k d l. h (suc k) d (omega (arith, l)))) refl

-- each multiple of the order is a common multiple
pub order_common : (fs : List ℕ) (k : ℕ) → is_common_multiple fs (k * order_of fs) ≡ true
order_common [] k = refl
order_common (f ∷ fs) k =
    let o = order_of fs in
    let whole : k * (f * o) ≡ (k * o) * f = ap (λ n. k * n) (mul_comm f o) ∙ sym (mul_assoc k o f) in
    let divided : (k * (f * o)) % f ≡ 0 = ap (λ n. n % f) whole ∙ mul-mod_left (k * o) f in
    rw (eq-eqb ((k * (f * o)) % f) 0 divided) (ap (is_common_multiple fs) (sym (mul_assoc k f o)) ∙ order_common fs (k * f))

-- the exponent is the first common multiple
pub exponent_first : (fs : List ℕ) (n : ℕ) → 1 ≤ n → n ≤ order_of fs → is_common_multiple fs n ≡ true → ((k : ℕ) → 1 ≤ k → k < n → is_common_multiple fs k ≡ false) → exponent_of fs ≡ n
unfolding exponent_of
exponent_first fs n l m h none = ap (λ o. unwrap_or o 1) (find_first (is_common_multiple fs) 1 (order_of fs) n l (omega arith) h none)

record IsExponent (fs : List ℕ) (n : ℕ) : Type 0 where
  some : 1 ≤ n
  within : n ≤ order_of fs
  common : is_common_multiple fs n ≡ true
  least : (k : ℕ) → 1 ≤ k → k < n → is_common_multiple fs k ≡ false

exponent_is : (fs : List ℕ) → ArePositive fs → (n : ℕ) × (exponent_of fs ≡ n) × IsExponent fs n
exponent_is fs p =
    let o = order_some fs p in
    let all : is_common_multiple fs (order_of fs) ≡ true = ap (is_common_multiple fs) (sym (one-mul (order_of fs))) ∙ order_common fs 1 in
    let r = first_passing (is_common_multiple fs) 1 (order_of fs - 1) (order_of fs) (omega arith) all in
    (r.0, exponent_first fs r.0 r.1 r.2 r.3 r.4, record { some = r.1; within = r.2; common = r.3; least = r.4 })

pub exponent_common : (fs : List ℕ) → ArePositive fs → All (λ f. exponent_of fs % f ≡ 0) fs
exponent_common fs p =
    let r = exponent_is fs p in
    common_divides fs (exponent_of fs) (ap (is_common_multiple fs) r.1 ∙ r.2.common)

pub exponent_least : (fs : List ℕ) → ArePositive fs → (n : ℕ) → 0 < n → All (λ f. n % f ≡ 0) fs → exponent_of fs ≤ n
exponent_least fs p n l h =
    let r = exponent_is fs p in
    elim (cases_lt n r.0) [
      | inl less ↦ absurd (both_ways (is_common_multiple fs n) (r.2.least n l less) (divides_common fs n h))
      | inr more ↦ omega (arith, r.1)
    ]

pub exponent_some : (fs : List ℕ) → ArePositive fs → 0 < exponent_of fs
exponent_some fs p = let r = exponent_is fs p in omega (arith, r.1, r.2.some)

pub exponent_within : (fs : List ℕ) → ArePositive fs → exponent_of fs ≤ order_of fs
exponent_within fs p = let r = exponent_is fs p in omega (arith, r.1, r.2.within)

-- the first factor divides it, and is at least 2
pub exponent_low : (fs : List ℕ) → IsShape fs → 2 ≤ exponent_of fs
exponent_low [] is = absurd (omega (arith, is.some))
exponent_low (f ∷ fs) is =
    let p = positive_shape (f ∷ fs) is in
    let e = exponent_of (f ∷ fs) in
    let some = exponent_some (f ∷ fs) p in
    let divided : e % f ≡ 0 = exponent_common (f ∷ fs) p 0 0 (omega arith) in
    let low = is.factors 0 0 (omega arith) in
    elim (cases_lt e f) [
      | inl less ↦ absurd (omega (arith, mod-eq_of_lt less))
      | inr more ↦ omega (arith, low.0)
    ]

pub exponent_high : (fs : List ℕ) → IsShape fs → exponent_of fs ≤ 128
exponent_high fs is = omega (arith, exponent_within fs (positive_shape fs is), is.small)
