-- Orders of groups, and their factors.
use Rattle.std.proofs.Common.{◌≡◌, ℕ, suc, ◌+◌, ◌-◌, ◌*◌, ◌^◌, ◌<◌, ◌≤◌, List, [], ◌∷◌, length, get_or, drop, All, None, sym, ap, ◌∙◌, arith, tests}
use Rattle.std.proofs.Math.Nat.{mul-le-mul, mul_comm, pow-suc, pow-le-pow_right}
use Rattle.std.proofs.lemmas.List.{drop_more}
use Rattle.std.proofs.lemmas.List.Sums.{fails_before_first}
use Rattle.std.specs.List.{position, position_or_len}
use Rattle.df_group.specs.Elements.{order_of, IsFactor, IsShape}
use Rattle.df_group.specs.Refusals.{is_outside}

all_inside : (fs : List ℕ) → length fs ≤ position_or_len is_outside fs → All IsFactor fs
all_inside fs past k d h =
    let inside = fails_before_first is_outside fs k d (omega arith) in
    grind (arith, tests)

pub inside : (fs : List ℕ) → position is_outside fs ≡ None → All IsFactor fs
inside fs none =
    let past : length fs ≤ position_or_len is_outside fs = grind (arith, tests) in
    all_inside fs past

positive : (fs : List ℕ) → All IsFactor fs → 1 ≤ order_of fs
positive [] each = omega arith
positive (f ∷ fs) each =
    let rest = positive fs (λ k d h. each (suc k) d (omega (arith, h))) in
    omega (arith, mul-le-mul (each 0 0 (omega arith)).0 rest)

pub at_least_two : (fs : List ℕ) → IsShape fs → 2 ≤ order_of fs
at_least_two [] is = absurd (omega (arith, is.some))
at_least_two (f ∷ fs) is =
    let rest = positive fs (λ k d h. is.factors (suc k) d (omega (arith, h))) in
    omega (arith, mul-le-mul (is.factors 0 0 (omega arith)).0 rest)

-- one more factor in front
pub order_more : (fs : List ℕ) (i : ℕ) → 0 < i → i ≤ length fs → order_of (drop i fs) * get_or fs (i - 1) 0 ≡ order_of (drop (i - 1) fs)
order_more fs i some within =
    let back : (i - 1) + 1 ≡ i = omega arith in
    let front = drop_more fs (i - 1) 0 (omega arith) in
    mul_comm (order_of (drop i fs)) (get_or fs (i - 1) 0) ∙ ap (λ n. get_or fs (i - 1) 0 * order_of (drop n fs)) (sym back) ∙ sym (ap order_of front)

pub bound_more : (order f n i : ℕ) → 0 < i → i ≤ n → f ≤ 128 → order ≤ 128 ^ (n - i) → order * f ≤ 128 ^ (n - (i - 1))
bound_more order f n i some within small bound =
    let next : n - (i - 1) ≡ suc (n - i) = omega arith in
    rw (next, pow-suc 128 (n - i)) (mul-le-mul bound small)

pub product_small : (order f n i : ℕ) → 0 < i → i ≤ n → n ≤ 7 → f ≤ 128 → order ≤ 128 ^ (n - i) → order * f ≤ 128 ^ 7
product_small order f n i some within few small bound =
    let step = bound_more order f n i some within small bound in
    let top : 128 ^ (n - (i - 1)) ≤ 128 ^ 7 = pow-le-pow_right (omega arith) {i = n - (i - 1)} {j = 7} (omega arith) in
    omega (arith, step, top)
