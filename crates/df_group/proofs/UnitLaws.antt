-- Numbers that are prime to n, and what undoes them.
use Rattle.std.proofs.Common.{◌≡◌, ℕ, zero, suc, ◌+◌, ◌-◌, ◌*◌, ◌/◌, ◌%◌, ◌<◌, ◌≤◌, ◌⊎◌, Bool, true, false, not, eqb, ◌&&◌, ◌||◌, refl, sym, ap, ◌∙◌, inl, inr, subst, arith, ⊎_elim, eq-eqb, add-mul, mul-add, mul_assoc, mul_comm, mul_left_comm, mul-one, one-mul, zero-mul, mod-eq_of_lt}
use Rattle.std.proofs.Math.Nat.{mul-mod_left, add-mul-mod_self_left, add-mul-mod_self_right, add-mod_right, div-add-mod'}
use Rattle.std.proofs.lemmas.Nat.{mul-mod_first, mul-mod_second}
use Rattle.std.proofs.lemmas.Bool.{cases_lt, eqb-true, both_ways}
use Rattle.std.specs.List.{range_with_len, list_any}
use Rattle.df_group.specs.Subgroups.{divides_both, is_unit}

pub any_range_from : (t : ℕ → Bool) (a n k : ℕ) → a ≤ k → k < a + n → t k ≡ true → list_any t (range_with_len a n) ≡ true
any_range_from t a zero k l m h = absurd (omega arith)
any_range_from t a (suc n) k l m h =
    elim (cases_lt a k) [
      | inl less ↦ later (t a) (list_any t (range_with_len (a + 1) n)) (any_range_from t (a + 1) n k (omega arith) (omega arith) h)
      | inr same ↦ let e : a ≡ k = omega arith in rw (ap t e ∙ h) refl
    ]
  where
    later : (v w : Bool) → w ≡ true → (v || w) ≡ true
    later true w h = refl
    later false w h = h

pub any_range_none : (t : ℕ → Bool) (a n : ℕ) → ((k : ℕ) → a ≤ k → k < a + n → t k ≡ false) → list_any t (range_with_len a n) ≡ false
any_range_none t a zero h = refl
any_range_none t a (suc n) h = rw (h a (omega arith) (omega arith)) (any_range_none t (a + 1) n (λ k l m. h k (omega arith) (omega arith)))

-- no number from 2 on divides both
abbrev pub ArePrime : ℕ → ℕ → Type 0
ArePrime n m = (d : ℕ) → 2 ≤ d → n % d ≡ 0 → m % d ≡ 0 → ⊥

both_true : (n m d : ℕ) → n % d ≡ 0 → m % d ≡ 0 → divides_both n m d ≡ true
both_true n m d h k = rw (eq-eqb (n % d) 0 h, eq-eqb (m % d) 0 k) refl

both_gives : (n m d : ℕ) → divides_both n m d ≡ true → (n % d ≡ 0) × (m % d ≡ 0)
both_gives n m d h = go (eqb (n % d) 0) (eqb (m % d) 0) refl refl h
  where
    go : (v w : Bool) → eqb (n % d) 0 ≡ v → eqb (m % d) 0 ≡ w → (v && w) ≡ true → (n % d ≡ 0) × (m % d ≡ 0)
    go true true e f h = (eqb-true (n % d) 0 e, eqb-true (m % d) 0 f)
    go true false e f h = absurd (both_ways false refl h)
    go false w e f h = absurd (both_ways false refl h)

-- what divides a number is no larger
divisor_within : (n d : ℕ) → 0 < n → n % d ≡ 0 → d ≤ n
divisor_within n d some h =
    elim (cases_lt n d) [
      | inl less ↦ absurd (omega (arith, mod-eq_of_lt less))
      | inr more ↦ more
    ]

pub unit_prime : (n m : ℕ) → 0 < n → is_unit n m ≡ true → ArePrime n m
unfolding is_unit
unit_prime n m some u d l h k =
    let low = divisor_within n d some h in
    let any = any_range_from (divides_both n m) 2 (n - 1) d l (omega arith) (both_true n m d h k) in
    both_ways (is_unit n m) (ap not any) u

pub prime_unit : (n m : ℕ) → ArePrime n m → is_unit n m ≡ true
unfolding is_unit
prime_unit n m p = ap not (any_range_none (divides_both n m) 2 (n - 1) (λ d l x. go d l (divides_both n m d) refl))
  where
    go : (d : ℕ) → 2 ≤ d → (v : Bool) → divides_both n m d ≡ v → divides_both n m d ≡ false
    go d l true e = let r = both_gives n m d e in absurd (p d l r.0 r.1)
    go d l false e = e

pub not_unit : (n m d : ℕ) → 0 < n → 2 ≤ d → n % d ≡ 0 → m % d ≡ 0 → is_unit n m ≡ false
unfolding is_unit
not_unit n m d some l h k =
    let low = divisor_within n d some h in
    ap not (any_range_from (divides_both n m) 2 (n - 1) d l (omega arith) (both_true n m d h k))

-- it is enough to look at the numbers from 2 to n
pub prime_below : (n m : ℕ) → 0 < n → ((d : ℕ) → 2 ≤ d → d < n + 1 → divides_both n m d ≡ false) → ArePrime n m
prime_below n m some none d l h k =
    let low = divisor_within n d some h in
    both_ways (divides_both n m d) (none d l (omega arith)) (both_true n m d h k)

-- what a multiple of d leaves by d
pub mod-mod_of_divides : (e f m : ℕ) → e % f ≡ 0 → (m % e) % f ≡ m % f
mod-mod_of_divides e f m d =
    let whole : m ≡ m / e * e + m % e = sym (div-add-mod' m e) in
    let part : e ≡ e / f * f + e % f = sym (div-add-mod' e f) in
    let a : m / e * e ≡ (m / e * (e / f)) * f = ap (λ n. m / e * n) (let p : e ≡ e / f * f = omega arith in p) ∙ sym (mul_assoc (m / e) (e / f) f) in
    sym (ap (λ n. n % f) (let c : m ≡ m % e + (m / e * (e / f)) * f = omega arith in c) ∙ add-mul-mod_self_right (m % e) (m / e * (e / f)) f)

-- m times some number leaves 1
abbrev pub IsUndone : ℕ → ℕ → Type 0
IsUndone e m = (l : ℕ) × ((m * l) % e ≡ 1 % e)

-- such a number is prime to e
pub undone_prime : (e m : ℕ) → IsUndone e m → ArePrime e m
undone_prime e m u d low h k =
    let a : (m * u.0) % d ≡ 1 % d = sym (mod-mod_of_divides e d (m * u.0) h) ∙ ap (λ n. n % d) u.1 ∙ mod-mod_of_divides e d 1 h in
    let b : (m * u.0) % d ≡ 0 % d = sym (mul-mod_first m u.0 d) ∙ ap (λ n. (n * u.0) % d) k ∙ ap (λ n. n % d) (zero-mul u.0) in
    let one : 1 % d ≡ 1 = mod-eq_of_lt (omega arith) in
    let none : 0 % d ≡ 0 = mod-eq_of_lt (omega arith) in
    omega arith

-- Bezout: numbers that are prime to each other have multiples that differ by 1
abbrev Divides : ℕ → ℕ → Type 0
Divides d a = (c : ℕ) × (a ≡ c * d)

abbrev HaveNoDivisor : ℕ → ℕ → Type 0
HaveNoDivisor a b = (d : ℕ) → Divides d a → Divides d b → d ≡ 1

abbrev IsBezout : ℕ → ℕ → Type 0
IsBezout a b = (x y : ℕ) × ((a * x ≡ 1 + b * y) ⊎ (b * x ≡ 1 + a * y))

turned : (a b : ℕ) → IsBezout a b → IsBezout b a
turned a b r = (r.0, r.1, ⊎_elim (λ e. inr e) (λ e. inl e) r.2)

less : (d b : ℕ) → HaveNoDivisor (d + b) b → HaveNoDivisor d b
less d b h = λ c u w. h c (u.0 + w.0, (let e = add-mul u.0 w.0 c in omega (arith, e, u.1, w.1))) w

more : (d b : ℕ) → IsBezout d b → IsBezout (d + b) b
more d b r = ⊎_elim
    (λ e. (r.0, r.0 + r.1, inl (let f = add-mul d b r.0 in let g = mul-add b r.0 r.1 in omega (arith, e, f, g))))
    (λ e. (r.0 + r.1, r.1, inr (let f = add-mul d b r.1 in let g = mul-add b r.0 r.1 in omega (arith, e, f, g)))) r.2

bezout : (n a b : ℕ) → a + b ≤ n → HaveNoDivisor a b → IsBezout a b
bezout n zero b l h = let e = h b (0, omega arith) (1, omega arith) in (1, 0, inr (rw e refl))
bezout n (suc a) zero l h = let e = h (suc a) (1, omega arith) (0, omega arith) in (1, 0, inl (rw e refl))
bezout zero (suc a) (suc b) l h = absurd (omega arith)
bezout (suc n) (suc a) (suc b) l h = ⊎_elim
    (λ k. let e : suc b ≡ (b - a) + suc a = omega arith in
    subst (IsBezout (suc a)) (sym e) (turned ((b - a) + suc a) (suc a) (more (b - a) (suc a) (bezout n (b - a) (suc a) (omega arith) (less (b - a) (suc a) (λ c u w. h c w (subst (Divides c) (sym e) u)))))))
    (λ k. let e : suc a ≡ (a - b) + suc b = omega arith in
    subst (λ m. IsBezout m (suc b)) (sym e) (more (a - b) (suc b) (bezout n (a - b) (suc b) (omega arith) (less (a - b) (suc b) (λ c u w. h c (subst (Divides c) (sym e) u) w)))))
    (cases_lt a b)

no_divisor : (n m : ℕ) → 0 < n → ArePrime n m → HaveNoDivisor m n
no_divisor n m some p zero u w = absurd (omega (arith, w.1))
no_divisor n m some p (suc zero) u w = refl
no_divisor n m some p (suc (suc d)) u w =
    absurd (p (suc (suc d)) (omega arith) (ap (λ k. k % suc (suc d)) w.1 ∙ mul-mod_left w.0 (suc (suc d))) (ap (λ k. k % suc (suc d)) u.1 ∙ mul-mod_left u.0 (suc (suc d))))

-- a number that is prime to e is undone
pub prime_undone : (e m : ℕ) → 0 < e → ArePrime e m → IsUndone e m
prime_undone e m pos prime = go (bezout (m + e) m e (omega arith) (no_divisor e m pos prime))
  where
    go : (x y : ℕ) × ((m * x ≡ 1 + e * y) ⊎ (e * x ≡ 1 + m * y)) → IsUndone e m
    go (x, y, inl h) = (x, ap (λ n. n % e) h ∙ add-mul-mod_self_left 1 e y)
    go (x, y, inr h) =
        let k = e - 1 in
        let a = ap (λ n. n * k) h in
        let b = add-mul 1 (m * y) k in
        let c = mul_assoc m y k in
        let d = mul_assoc e x k in
        let whole : m * (y * k) + e ≡ 1 + e * (x * k) = omega (arith, a, b, c, d, one-mul k) in
        (y * k, sym (add-mod_right (m * (y * k)) e) ∙ ap (λ n. n % e) whole ∙ add-mul-mod_self_left 1 e (x * k))

pub unit_undone : (e m : ℕ) → 0 < e → is_unit e m ≡ true → IsUndone e m
unit_undone e m pos u = prime_undone e m pos (unit_prime e m pos u)

pub undone_unit : (e m : ℕ) → IsUndone e m → is_unit e m ≡ true
undone_unit e m u = prime_unit e m (undone_prime e m u)

both_undone : (e m n : ℕ) → IsUndone e m → IsUndone e n → IsUndone e (m * n)
both_undone e m n u w = (
  u.0 * w.0,
  ap (λ k. k % e) (mul_assoc m n (u.0 * w.0) ∙ ap (λ k. m * k) (mul_left_comm n u.0 w.0) ∙ sym (mul_assoc m u.0 (n * w.0)))
      ∙ sym (mul-mod_second (m * u.0) (n * w.0) e) ∙ ap (λ k. ((m * u.0) * k) % e) w.1 ∙ mul-mod_second (m * u.0) 1 e ∙ ap (λ k. k % e) (mul-one (m * u.0)) ∙ u.1,
)

-- 1, products, remainders and what undoes a unit are units
pub unit_one : (e : ℕ) → is_unit e 1 ≡ true
unit_one e = undone_unit e 1 (1, refl)

pub unit_product : (e m n : ℕ) → 0 < e → is_unit e m ≡ true → is_unit e n ≡ true → is_unit e (m * n) ≡ true
unit_product e m n pos u w = undone_unit e (m * n) (both_undone e m n (unit_undone e m pos u) (unit_undone e n pos w))

pub unit_reduced : (e m : ℕ) → 0 < e → is_unit e (m % e) ≡ is_unit e m
unit_reduced e m pos = go (is_unit e (m % e)) (is_unit e m) refl refl
  where
    go : (v w : Bool) → is_unit e (m % e) ≡ v → is_unit e m ≡ w → v ≡ w
    go true true x y = refl
    go false false x y = refl
    go true false x y = absurd (both_ways (is_unit e m) y (let u = unit_undone e (m % e) pos x in undone_unit e m (u.0, sym (mul-mod_first m u.0 e) ∙ u.1)))
    go false true x y = absurd (both_ways (is_unit e (m % e)) x (let u = unit_undone e m pos y in undone_unit e (m % e) (u.0, mul-mod_first m u.0 e ∙ u.1)))

-- a unit that undoes a unit
pub unit_inverse : (e m : ℕ) → 0 < e → is_unit e m ≡ true → (l : ℕ) × (is_unit e l ≡ true) × ((m * l) % e ≡ 1 % e)
unit_inverse e m pos u =
    let w = unit_undone e m pos u in
    (w.0, undone_unit e w.0 (m, ap (λ k. k % e) (mul_comm w.0 m) ∙ w.1), w.1)
