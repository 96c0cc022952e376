-- The greatest common divisor of a list, and what its multiples leave.
use Rattle.std.proofs.Common.{◌≡◌, ℕ, suc, zero, ◌*◌, ◌/◌, ◌%◌, ◌<◌, ◌≤◌, true, false, List, [], ◌∷◌, refl, sym, ◌∙◌, arith, inl, inr}
use Rattle.std.specs.Int.{IsGcd, ◌∣◌}
use Rattle.std.specs.List.{list_all}
use Rattle.std.proofs.Math.Nat.{dvd-add, mod-zero}
use Rattle.std.proofs.lemmas.Bool.{and_parts, and_from, eqb-true, eq-eqb, cases_Bool, cases_eq}
use Rattle.std.proofs.lemmas.Nat.{div-add-mod', mod_below}
use Rattle.std.proofs.lemmas.Nat.Gcd.{dvd-zero, dvd_trans, le_of_dvd, dvd_of_mod-eq-zero, mod-eq-zero_of_dvd, IsGcd-from_zero, IsGcd-from_mod}
use Rattle.df_walk.specs.Assignments.{total, is_multiple, greatest_dividing, common_divisor}

-- the test is divisibility
pub dvd_from_is_multiple : (m n : ℕ) → is_multiple m n ≡ true → m ∣ n
dvd_from_is_multiple m n h = dvd_of_mod-eq-zero m (eqb-true (n % m) 0 h)

pub is_multiple_from_dvd : (m n : ℕ) → m ∣ n → is_multiple m n ≡ true
is_multiple_from_dvd m n h = eq-eqb (n % m) 0 (mod-eq-zero_of_dvd m h)

-- the number as a multiple of the divisor
pub times_of : (m n : ℕ) → is_multiple m n ≡ true → (k : ℕ) × (n ≡ k * m)
times_of m n h = (n / m, let rest = eqb-true (n % m) 0 h in omega (arith, div-add-mod' n m))

-- what divides each divides the sum
dvd-total : (m : ℕ) (ns : List ℕ) → list_all (is_multiple m) ns ≡ true → m ∣ total ns
dvd-total m [] h = dvd-zero m
dvd-total m (n ∷ ns) h =
    let parts = and_parts (is_multiple m n) (list_all (is_multiple m) ns) h in
    dvd-add m (dvd_from_is_multiple m n parts.0) (dvd-total m ns parts.1)

-- a divisor of a divisor of each
pub all_multiples_of : (d m : ℕ) (ns : List ℕ) → d ∣ m → list_all (is_multiple m) ns ≡ true → list_all (is_multiple d) ns ≡ true
all_multiples_of d m [] h all = refl
all_multiples_of d m (n ∷ ns) h all =
    let parts = and_parts (is_multiple m n) (list_all (is_multiple m) ns) all in
    and_from (is_multiple d n) (list_all (is_multiple d) ns) (is_multiple_from_dvd d n (dvd_trans d h (dvd_from_is_multiple m n parts.0))) (all_multiples_of d m ns h parts.1)

-- g divides each number, and what divides each divides g
pub record IsCommonDivisor (ns : List ℕ) (g : ℕ) : Type 0 where
  pub divides : list_all (is_multiple g) ns ≡ true
  pub greatest : (m : ℕ) → list_all (is_multiple m) ns ≡ true → m ∣ g

-- any two numbers have one, by Euclid's steps
has_gcd : (fuel a b : ℕ) → b ≤ fuel → (g : ℕ) × IsGcd a b g
has_gcd zero a b h = (a, IsGcd-from_zero a b (omega arith))
has_gcd (suc fuel) a b h =
    elim (cases_eq b 0) [
      | inl none ↦ (a, IsGcd-from_zero a b none)
      | inr some ↦ let less = mod_below a b (omega arith) in let r = has_gcd fuel b (a % b) (omega arith) in (r.0, IsGcd-from_mod a b r.0 r.1)
    ]

pub IsCommonDivisor-cons : (n : ℕ) (ns : List ℕ) (g k : ℕ) → IsCommonDivisor ns g → IsGcd n g k → IsCommonDivisor (n ∷ ns) k
IsCommonDivisor-cons n ns g k common two =
    record {
      divides = and_from (is_multiple k n) (list_all (is_multiple k) ns) (is_multiple_from_dvd k n two.0) (all_multiples_of k g ns two.1 common.divides);
      greatest = λ m all.
          let parts = and_parts (is_multiple m n) (list_all (is_multiple m) ns) all in
          two.2 m (dvd_from_is_multiple m n parts.0) (common.greatest m parts.1);
    }

has_common : (ns : List ℕ) → (g : ℕ) × IsCommonDivisor ns g
has_common [] = (0, record { divides = refl; greatest = λ m all. dvd-zero m })
has_common (n ∷ ns) =
    let rest = has_common ns in
    let two = has_gcd rest.0 n rest.0 (omega arith) in
    (two.0, IsCommonDivisor-cons n ns rest.0 two.0 rest.1 two.1)

-- the greatest up to a bound is the common divisor, if that is below the bound
greatest_dividing_is : (bound : ℕ) (ns : List ℕ) (g : ℕ) → IsCommonDivisor ns g → 0 < g → g ≤ bound → greatest_dividing bound ns ≡ g
greatest_dividing_is zero ns g common some low = absurd (omega arith)
greatest_dividing_is (suc m) ns g common some low =
    elim (cases_Bool (list_all (is_multiple (suc m)) ns)) [
      | inl all ↦ let above = le_of_dvd some (common.greatest (suc m) all) in rw all (let e : suc m ≡ g = omega arith in e)
      | inr not_all ↦ rw not_all (greatest_dividing_is m ns g common some (below not_all))
    ]
  where
    below : list_all (is_multiple (suc m)) ns ≡ false → g ≤ m
    below not_all =
        elim (cases_eq g (suc m)) [
          | inl same ↦ absurd (let e = rw same at common.divides in let f : true ≡ false = sym e ∙ not_all in cc)
          | inr other ↦ omega arith
        ]

all_zero : (ns : List ℕ) → total ns ≡ 0 → list_all (is_multiple 0) ns ≡ true
all_zero [] h = refl
all_zero (n ∷ ns) h =
    let none : n ≡ 0 = omega arith in
    and_from (is_multiple 0 n) (list_all (is_multiple 0) ns) (eq-eqb (n % 0) 0 (mod-zero n ∙ none)) (all_zero ns (omega arith))

zero_total : (ns : List ℕ) → list_all (is_multiple 0) ns ≡ true → total ns ≡ 0
zero_total [] h = refl
zero_total (n ∷ ns) h =
    let parts = and_parts (is_multiple 0 n) (list_all (is_multiple 0) ns) h in
    let none : n ≡ 0 = sym (mod-zero n) ∙ eqb-true (n % 0) 0 parts.0 in
    omega (arith, zero_total ns parts.1)

zero_dvd : (n : ℕ) → 0 ∣ n → n ≡ 0
zero_dvd n h = sym (mod-zero n) ∙ mod-eq-zero_of_dvd 0 h

-- there is one such divisor only
pub common_divisor_is : (ns : List ℕ) (g : ℕ) → IsCommonDivisor ns g → common_divisor ns ≡ g
common_divisor_is ns g common =
    elim (cases_eq (total ns) 0) [
      | inl none ↦ rw none (sym (zero_dvd g (common.greatest 0 (all_zero ns none))))
      | inr some ↦ greatest_dividing_is (total ns) ns g common (positive some) (le_of_dvd (omega arith) (dvd-total g ns common.divides))
    ]
  where
    positive : (total ns ≡ 0 → ⊥) → 0 < g
    positive some =
        elim (cases_eq g 0) [
          | inl none ↦ absurd (some (zero_total ns (rw none at common.divides)))
          | inr other ↦ omega arith
        ]

pub common_divisor_common : (ns : List ℕ) → IsCommonDivisor ns (common_divisor ns)
common_divisor_common ns = let g = has_common ns in rw (common_divisor_is ns g.0 g.1) g.1

-- one number more
pub common_divisor-cons : (n : ℕ) (ns : List ℕ) (g : ℕ) → IsGcd n (common_divisor ns) g → common_divisor (n ∷ ns) ≡ g
common_divisor-cons n ns g two = common_divisor_is (n ∷ ns) g (IsCommonDivisor-cons n ns (common_divisor ns) g (common_divisor_common ns) two)

-- the divisor is 0 exactly where all are
pub total_none : (ns : List ℕ) → common_divisor ns ≡ 0 → total ns ≡ 0
total_none ns h = let common = common_divisor_common ns in zero_total ns (rw h at common.divides)
