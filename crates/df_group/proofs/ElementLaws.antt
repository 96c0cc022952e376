-- Residue lists and their numbers; sums place by place make a group.
use Rattle.std.proofs.Common.{◌≡◌, ℕ, suc, ◌+◌, ◌-◌, ◌*◌, ◌/◌, ◌%◌, ◌<◌, ◌≤◌, List, [], ◌∷◌, All, refl, sym, ap, ◌∙◌, arith, mul-pos, mul-le-mul_right, suc-mul, div-add-mod', add-zero}
use Rattle.std.proofs.Math.Nat.{mod-eq_of_lt, mod-add-mod, add-mod-mod, add-mod_left, mod-lt}
use Rattle.std.proofs.lemmas.Nat.{div-mul-add, mod-mul-add, div_below}
use Rattle.df_group.specs.Elements.{order_of, IsElement, number, residues, sum_of, negative_of, multiple_of, group_of, IsGroup, IsFactor, IsShape}

-- no factor is 0
abbrev pub ArePositive : List ℕ → Type 0
ArePositive [] = Unit {0}
ArePositive (f ∷ fs) = (0 < f) × ArePositive fs

pub positive_factors : (fs : List ℕ) → All IsFactor fs → ArePositive fs
positive_factors [] each = tt
positive_factors (f ∷ fs) each =
    let first = each 0 0 (omega arith) in
    (omega (arith, first.0), positive_factors fs (λ k d h. each (suc k) d (omega (arith, h))))

pub positive_shape : (fs : List ℕ) → IsShape fs → ArePositive fs
positive_shape fs is = positive_factors fs is.factors

pub order_some : (fs : List ℕ) → ArePositive fs → 0 < order_of fs
order_some [] is = omega arith
order_some (f ∷ fs) is = mul-pos is.0 (order_some fs is.1)

-- which lists are elements
pub residues_are : (fs : List ℕ) → ArePositive fs → (a : ℕ) → IsElement fs (residues fs a)
residues_are [] is a = refl
residues_are (f ∷ fs) is a = (mod-lt (a / order_of fs) is.0, residues_are fs is.1 (a % order_of fs))

pub sums_are : (fs rs ss : List ℕ) → ArePositive fs → IsElement fs rs → IsElement fs ss → IsElement fs (sum_of fs rs ss)
sums_are [] rs ss is h k = refl
sums_are (f ∷ fs) [] ss is h k = absurd h
sums_are (f ∷ fs) (r ∷ rs) [] is h k = absurd k
sums_are (f ∷ fs) (r ∷ rs) (s ∷ ss) is h k = (mod-lt (r + s) is.0, sums_are fs rs ss is.1 h.1 k.1)

pub negatives_are : (fs rs : List ℕ) → ArePositive fs → IsElement fs rs → IsElement fs (negative_of fs rs)
negatives_are [] rs is h = refl
negatives_are (f ∷ fs) [] is h = absurd h
negatives_are (f ∷ fs) (r ∷ rs) is h = (mod-lt (f - r) is.0, negatives_are fs rs is.1 h.1)

pub multiples_are : (fs : List ℕ) (m : ℕ) (rs : List ℕ) → ArePositive fs → IsElement fs rs → IsElement fs (multiple_of fs m rs)
multiples_are [] m rs is h = refl
multiples_are (f ∷ fs) m [] is h = absurd h
multiples_are (f ∷ fs) m (r ∷ rs) is h = (mod-lt (m * r) is.0, multiples_are fs m rs is.1 h.1)

-- numbers and residue lists tell one another
pub number_within : (fs rs : List ℕ) → IsElement fs rs → number fs rs < order_of fs
number_within [] rs h = omega arith
number_within (f ∷ fs) [] h = absurd h
number_within (f ∷ fs) (r ∷ rs) h =
    let ih = number_within fs rs h.1 in
    let m : suc r * order_of fs ≤ f * order_of fs = mul-le-mul_right (order_of fs) h.0 in
    omega (arith, suc-mul r (order_of fs))

pub residues_number : (fs rs : List ℕ) → IsElement fs rs → residues fs (number fs rs) ≡ rs
residues_number [] rs h = sym h
residues_number (f ∷ fs) [] h = absurd h
residues_number (f ∷ fs) (r ∷ rs) h =
    let w = number_within fs rs h.1 in
    let o = order_of fs in
    let low : (r * o + number fs rs) % o ≡ number fs rs = mod-mul-add r o (number fs rs) w in
    rw (div-mul-add r o (number fs rs) w, mod-eq_of_lt h.0, low, residues_number fs rs h.1) refl

pub number_residues : (fs : List ℕ) → ArePositive fs → (a : ℕ) → a < order_of fs → number fs (residues fs a) ≡ a
number_residues [] is a h = omega arith
number_residues (f ∷ fs) is a h =
    let o = order_of fs in
    let some = order_some fs is.1 in
    let high : a / o < f = div_below a o f some h in
    rw (mod-eq_of_lt high, number_residues fs is.1 (a % o) (mod-lt a some)) (div-add-mod' a o)

-- sums
pub sums_comm : (fs rs ss : List ℕ) → sum_of fs rs ss ≡ sum_of fs ss rs
sums_comm [] rs ss = refl
sums_comm (f ∷ fs) [] [] = refl
sums_comm (f ∷ fs) [] (s ∷ ss) = refl
sums_comm (f ∷ fs) (r ∷ rs) [] = refl
sums_comm (f ∷ fs) (r ∷ rs) (s ∷ ss) = let e : r + s ≡ s + r = omega arith in rw (e, sums_comm fs rs ss) refl

pub sums_assoc : (fs rs ss ts : List ℕ) → sum_of fs (sum_of fs rs ss) ts ≡ sum_of fs rs (sum_of fs ss ts)
sums_assoc [] rs ss ts = refl
sums_assoc (f ∷ fs) [] ss ts = refl
sums_assoc (f ∷ fs) (r ∷ rs) [] ts = refl
sums_assoc (f ∷ fs) (r ∷ rs) (s ∷ ss) [] = refl
sums_assoc (f ∷ fs) (r ∷ rs) (s ∷ ss) (t ∷ ts) =
    let e : ((r + s) % f + t) % f ≡ (r + (s + t) % f) % f = mod-add-mod (r + s) f t ∙ ap (λ m. m % f) (omega arith) ∙ sym (add-mod-mod r (s + t) f) in
    rw (e, sums_assoc fs rs ss ts) refl

-- 0 has no effect
pub sums_zero : (fs rs : List ℕ) → ArePositive fs → IsElement fs rs → sum_of fs rs (residues fs 0) ≡ rs
sums_zero [] rs is h = sym h
sums_zero (f ∷ fs) [] is h = absurd h
sums_zero (f ∷ fs) (r ∷ rs) is h =
    let o = order_of fs in
    let some = order_some fs is.1 in
    let start : 0 ≡ 0 * o + 0 = omega arith in
    let none : 0 / o ≡ 0 = ap (λ m. m / o) start ∙ div-mul-add 0 o 0 some in
    let rest : 0 % o ≡ 0 = mod-eq_of_lt some in
    let first : (r + (0 / o) % f) % f ≡ r = rw (none, mod-eq_of_lt is.0, add-zero r) (mod-eq_of_lt h.0) in
    rw (first, rest, sums_zero fs rs is.1 h.1) refl

pub sums_negatives : (fs rs : List ℕ) → ArePositive fs → IsElement fs rs → number fs (sum_of fs rs (negative_of fs rs)) ≡ 0
sums_negatives [] rs is h = refl
sums_negatives (f ∷ fs) [] is h = absurd h
sums_negatives (f ∷ fs) (r ∷ rs) is h =
    let low = h.0 in
    let whole : r + (f - r) ≡ f + 0 = omega arith in
    let e : (r + (f - r) % f) % f ≡ 0 = add-mod-mod r (f - r) f ∙ ap (λ m. m % f) whole ∙ add-mod_left f 0 ∙ mod-eq_of_lt is.0 in
    rw (e, sums_negatives fs rs is.1 h.1) (omega arith)

pub group_of_positive : (fs : List ℕ) → ArePositive fs → IsGroup (group_of fs)
group_of_positive fs is = record {
  some = order_some fs is;
  within = λ a b. number_within fs (sum_of fs (residues fs a) (residues fs b)) (sums_are fs (residues fs a) (residues fs b) is (residues_are fs is a) (residues_are fs is b));
  comm = λ a b. ap (number fs) (sums_comm fs (residues fs a) (residues fs b));
  assoc = λ a b c.
      let ab = residues_number fs (sum_of fs (residues fs a) (residues fs b)) (sums_are fs (residues fs a) (residues fs b) is (residues_are fs is a) (residues_are fs is b)) in
      let bc = residues_number fs (sum_of fs (residues fs b) (residues fs c)) (sums_are fs (residues fs b) (residues fs c) is (residues_are fs is b) (residues_are fs is c)) in
      ap (number fs) (rw (ab, bc) (sums_assoc fs (residues fs a) (residues fs b) (residues fs c)));
  zero = λ a h. ap (number fs) (sums_zero fs (residues fs a) is (residues_are fs is a)) ∙ number_residues fs is a h;
  neg = λ a.
      let back = residues_number fs (negative_of fs (residues fs a)) (negatives_are fs (residues fs a) is (residues_are fs is a)) in
      ap (λ rs. number fs (sum_of fs (residues fs a) rs)) back ∙ sums_negatives fs (residues fs a) is (residues_are fs is a);
  neg_within = λ a. number_within fs (negative_of fs (residues fs a)) (negatives_are fs (residues fs a) is (residues_are fs is a));
}

-- a product of cyclic groups is a group on the numbers of its elements
pub is_group : (fs : List ℕ) → IsShape fs → IsGroup (group_of fs)
is_group fs is = group_of_positive fs (positive_shape fs is)
