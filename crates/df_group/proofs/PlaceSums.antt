-- Sums, differences and multiples of numbers, from the last place on.
use Rattle.std.proofs.Common.{◌≡◌, ℕ, zero, suc, ◌+◌, ◌-◌, ◌*◌, ◌/◌, ◌%◌, ◌<◌, ◌≤◌, List, [], ◌∷◌, length, get_or, drop, refl, sym, subst, ap, ◌∙◌, arith, mul-le-mul_right, one-mul, mul_comm}
use Rattle.std.proofs.Math.Arith.{mod-mul}
use Rattle.std.proofs.Math.Nat.{mod-lt, mod-eq_of_lt, add-mod-mod, div-div-eq-div-mul, div-one}
use Rattle.std.proofs.lemmas.Nat.{div-mul-add, mod-mul-add, div_below}
use Rattle.std.proofs.lemmas.List.{drop_more}
use Rattle.df_group.specs.Elements.{order_of, number, residues, sum_of, negative_of, multiple_of, group_of, minus, IsShape}
use Rattle.df_group.proofs.ElementLaws.{ArePositive, positive_shape, order_some, residues_are, residues_number, number_within, negatives_are, multiples_are, group_of_positive, is_group}
use Rattle.df_group.proofs.MultipleLaws.{are_multiples}
use Rattle.df_group.proofs.GroupLaws.{zero_plus}
use Rattle.df_group.proofs.PlaceSteps.{positive_drop, order_drop, factor_at}

-- the remainder by the order has the same residues
pub residues_reduced : (fs : List ℕ) → ArePositive fs → (a : ℕ) → residues fs (a % order_of fs) ≡ residues fs a
residues_reduced [] p a = refl
residues_reduced (f ∷ fs) p a =
    let o = order_of fs in
    let some = order_some fs p.1 in
    let low = mod-lt a some in
    let whole : a % (f * o) ≡ (a / o % f) * o + a % o = mod-mul a {m = f} {c = o} p.0 some in
    let high : (a % (f * o)) / o ≡ a / o % f = ap (λ n. n / o) whole ∙ div-mul-add (a / o % f) o (a % o) low in
    let rest : (a % (f * o)) % o ≡ a % o = ap (λ n. n % o) whole ∙ mod-mul-add (a / o % f) o (a % o) low in
    let twice : (a / o % f) % f ≡ a / o % f = mod-eq_of_lt (mod-lt (a / o) p.0) in
    rw (high, rest, twice) refl

-- the negative place by place, in a sum
negative_residues : (fs : List ℕ) → ArePositive fs → (b : ℕ) → residues fs (number fs (negative_of fs (residues fs b))) ≡ negative_of fs (residues fs b)
negative_residues fs p b = residues_number fs (negative_of fs (residues fs b)) (negatives_are fs (residues fs b) p (residues_are fs p b))

module _ (f : ℕ) (fs : List ℕ) (p : ArePositive (f ∷ fs)) where
  plus_first : (a b : ℕ) → (group_of (f ∷ fs)).plus a b ≡ (a / order_of fs % f + b / order_of fs % f) % f * order_of fs + (group_of fs).plus a b
  plus_first a b = rw (residues_reduced fs p.1 a, residues_reduced fs p.1 b) refl

  times_first : (m a : ℕ) → (group_of (f ∷ fs)).times m a ≡ (m * (a / order_of fs % f)) % f * order_of fs + (group_of fs).times m a
  times_first m a = rw (residues_reduced fs p.1 a) refl

  minus_first : (a b : ℕ) → minus (group_of (f ∷ fs)) a b ≡ (a / order_of fs % f + (f - b / order_of fs % f)) % f * order_of fs + minus (group_of fs) a b
  minus_first a b =
      let o = order_of fs in
      let whole = ap (λ rs. number (f ∷ fs) (sum_of (f ∷ fs) (residues (f ∷ fs) a) rs)) (negative_residues (f ∷ fs) p b) in
      let rest = ap (λ rs. number fs (sum_of fs (residues fs a) rs)) (negative_residues fs p.1 b) in
      whole ∙ rw (residues_reduced fs p.1 a, residues_reduced fs p.1 b, add-mod-mod (a / o % f) (f - b / o % f) f, rest) refl

order_within : (fs : List ℕ) (i : ℕ) → ArePositive fs → order_of (drop i fs) ≤ order_of fs
order_within fs zero p = omega arith
order_within [] (suc i) p = omega arith
order_within (f ∷ fs) (suc i) p =
    let ih = order_within fs i p.1 in
    omega (arith, ih, mul-le-mul_right (order_of fs) p.0, one-mul (order_of fs))

pub order_small : (fs : List ℕ) (i : ℕ) → IsShape fs → order_of (drop i fs) ≤ 128
order_small fs i is = omega (arith, order_within fs i (positive_shape fs is), is.small)

-- the places from i on have the weight, and those before them are the rest
pub record AreBefore (fs : List ℕ) (i weight : ℕ) : Type 0 where
  pub product : weight ≡ order_of (drop i fs)
  pub some : 1 ≤ i
  pub within : i ≤ length fs

pub rest_before : (weight f a rest : ℕ) → rest ≡ a / weight → rest / f ≡ a / (weight * f)
rest_before weight f a rest e = ap (λ n. n / f) e ∙ div-div-eq-div-mul a weight f

pub rest_none : (a : ℕ) → a ≡ a / 1
rest_none a = sym (div-one a)

-- one place more
module _ (fs : List ℕ) (is : IsShape fs) (i weight : ℕ) (at : AreBefore fs i weight) where
  front : drop (i - 1) fs ≡ get_or fs (i - 1) 0 ∷ drop i fs
  front =
      let back : i - 1 + 1 ≡ i = let s = at.some in omega arith in
      drop_more fs (i - 1) 0 (let s = at.some in let w = at.within in omega arith) ∙ ap (λ n. get_or fs (i - 1) 0 ∷ drop n fs) back

  ahead : ArePositive (get_or fs (i - 1) 0 ∷ drop i fs)
  ahead = subst ArePositive front (positive_drop fs (i - 1) (positive_shape fs is))

  pub weight_more : weight * get_or fs (i - 1) 0 ≡ order_of (drop (i - 1) fs)
  weight_more = ap (λ n. n * get_or fs (i - 1) 0) at.product ∙ mul_comm (order_of (drop i fs)) (get_or fs (i - 1) 0) ∙ sym (ap order_of front)

  pub weight_small : weight * get_or fs (i - 1) 0 ≤ 128
  weight_small = omega (arith, weight_more, order_small fs (i - 1) is)

  pub factor_some : 2 ≤ get_or fs (i - 1) 0
  factor_some = (factor_at fs is (i - 1) (let s = at.some in let w = at.within in omega arith)).0

  pub factor_small : get_or fs (i - 1) 0 ≤ 128
  factor_small = (factor_at fs is (i - 1) (let s = at.some in let w = at.within in omega arith)).1

  plus_within : (a b : ℕ) → (group_of (drop (i - 1) fs)).plus a b < order_of (drop (i - 1) fs)
  plus_within a b = (group_of_positive (drop (i - 1) fs) (positive_drop fs (i - 1) (positive_shape fs is))).within a b

  pub sum_before : (a b sum rest_a rest_b : ℕ) → sum ≡ (group_of (drop i fs)).plus a b → rest_a ≡ a / weight → rest_b ≡ b / weight
      → sum + (rest_a % get_or fs (i - 1) 0 + rest_b % get_or fs (i - 1) 0) % get_or fs (i - 1) 0 * weight ≡ (group_of (drop (i - 1) fs)).plus a b
  sum_before a b sum rest_a rest_b e ra rb =
      let f = get_or fs (i - 1) 0 in
      let o = order_of (drop i fs) in
      let whole : (group_of (drop (i - 1) fs)).plus a b ≡ (a / o % f + b / o % f) % f * o + (group_of (drop i fs)).plus a b = ap (λ l. (group_of l).plus a b) front ∙ plus_first f (drop i fs) ahead a b in
      let high : (rest_a % f + rest_b % f) % f * weight ≡ (a / o % f + b / o % f) % f * o = rw (ra, rb, at.product) refl in
      omega (arith, whole, high, e)

  pub difference_before : (a b difference rest_a rest_b : ℕ) → difference ≡ minus (group_of (drop i fs)) a b → rest_a ≡ a / weight → rest_b ≡ b / weight
      → difference + (rest_a % get_or fs (i - 1) 0 + (get_or fs (i - 1) 0 - rest_b % get_or fs (i - 1) 0)) % get_or fs (i - 1) 0 * weight ≡ minus (group_of (drop (i - 1) fs)) a b
  difference_before a b difference rest_a rest_b e ra rb =
      let f = get_or fs (i - 1) 0 in
      let o = order_of (drop i fs) in
      let whole : minus (group_of (drop (i - 1) fs)) a b ≡ (a / o % f + (f - b / o % f)) % f * o + minus (group_of (drop i fs)) a b = ap (λ l. minus (group_of l) a b) front ∙ minus_first f (drop i fs) ahead a b in
      let high : (rest_a % f + (f - rest_b % f)) % f * weight ≡ (a / o % f + (f - b / o % f)) % f * o = rw (ra, rb, at.product) refl in
      omega (arith, whole, high, e)

  pub multiple_before : (m a multiple rest : ℕ) → multiple ≡ (group_of (drop i fs)).times m a → rest ≡ a / weight
      → multiple + (m * (rest % get_or fs (i - 1) 0)) % get_or fs (i - 1) 0 * weight ≡ (group_of (drop (i - 1) fs)).times m a
  multiple_before m a multiple rest e r =
      let f = get_or fs (i - 1) 0 in
      let o = order_of (drop i fs) in
      let whole : (group_of (drop (i - 1) fs)).times m a ≡ (m * (a / o % f)) % f * o + (group_of (drop i fs)).times m a = ap (λ l. (group_of l).times m a) front ∙ times_first f (drop i fs) ahead m a in
      let high : (m * (rest % f)) % f * weight ≡ (m * (a / o % f)) % f * o = rw (r, at.product) refl in
      omega (arith, whole, high, e)

  -- what a place adds stays small
  pub place_small : (n : ℕ) → n % get_or fs (i - 1) 0 * weight < 129
  place_small n =
      let f = get_or fs (i - 1) 0 in
      let low = factor_some in
      let below : n % f ≤ f = let k : n % f < f = mod-lt n (omega arith) in omega arith in
      let more = mul-le-mul_right weight below in
      omega (arith, more, mul_comm f weight, weight_small)

  pub sum_small : (a b : ℕ) → (group_of (drop (i - 1) fs)).plus a b < 128
  sum_small a b = omega (arith, plus_within a b, order_small fs (i - 1) is)

  pub multiple_small : (m a : ℕ) → (group_of (drop (i - 1) fs)).times m a < 128
  multiple_small m a =
      let p = positive_drop fs (i - 1) (positive_shape fs is) in
      let within = number_within (drop (i - 1) fs) (multiple_of (drop (i - 1) fs) m (residues (drop (i - 1) fs) a)) (multiples_are (drop (i - 1) fs) m (residues (drop (i - 1) fs) a) p (residues_are (drop (i - 1) fs) p a)) in
      omega (arith, within, order_small fs (i - 1) is)

-- what is left of an element is the residue of the first place
pub rest_first : (fs : List ℕ) → IsShape fs → (weight a rest : ℕ) → AreBefore fs 1 weight → rest ≡ a / weight → a < order_of fs → rest < get_or fs 0 0
rest_first fs is weight a rest at e l =
    let w = at.product in
    let o = order_drop fs 1 is in
    let bound : a < get_or fs 0 0 * weight = omega (arith, weight_more fs is 1 weight at, mul_comm weight (get_or fs 0 0)) in
    let below = div_below a weight (get_or fs 0 0) (omega arith) bound in
    omega arith

-- the first place takes what is left
pub sum_end : (fs : List ℕ) → IsShape fs → (i weight : ℕ) → AreBefore fs i weight → i ≤ 1 → (a b sum rest_a rest_b : ℕ) → a < order_of fs → b < order_of fs
    → sum ≡ (group_of (drop i fs)).plus a b → rest_a ≡ a / weight → rest_b ≡ b / weight → sum + (rest_a + rest_b) % get_or fs 0 0 * weight ≡ (group_of fs).plus a b
sum_end fs is zero weight at l a b sum rest_a rest_b x y e ra rb = absurd (let s = at.some in omega arith)
sum_end fs is (suc (suc i)) weight at l a b sum rest_a rest_b x y e ra rb = absurd (omega arith)
sum_end fs is (suc zero) weight at l a b sum rest_a rest_b x y e ra rb =
    let f = get_or fs 0 0 in
    let whole = sum_before fs is 1 weight at a b sum rest_a rest_b e ra rb in
    let low_a : rest_a % f ≡ rest_a = mod-eq_of_lt (rest_first fs is weight a rest_a at ra x) in
    let low_b : rest_b % f ≡ rest_b = mod-eq_of_lt (rest_first fs is weight b rest_b at rb y) in
    sym (ap (λ n. sum + n % f * weight) (ap (λ n. n + rest_b % f) low_a ∙ ap (λ n. rest_a + n) low_b)) ∙ whole

pub difference_end : (fs : List ℕ) → IsShape fs → (i weight : ℕ) → AreBefore fs i weight → i ≤ 1 → (a b difference rest_a rest_b : ℕ) → a < order_of fs → b < order_of fs
    → difference ≡ minus (group_of (drop i fs)) a b → rest_a ≡ a / weight → rest_b ≡ b / weight → difference + (rest_a + (get_or fs 0 0 - rest_b)) % get_or fs 0 0 * weight ≡ minus (group_of fs) a b
difference_end fs is zero weight at l a b difference rest_a rest_b x y e ra rb = absurd (let s = at.some in omega arith)
difference_end fs is (suc (suc i)) weight at l a b difference rest_a rest_b x y e ra rb = absurd (omega arith)
difference_end fs is (suc zero) weight at l a b difference rest_a rest_b x y e ra rb =
    let f = get_or fs 0 0 in
    let whole = difference_before fs is 1 weight at a b difference rest_a rest_b e ra rb in
    let low_a : rest_a % f ≡ rest_a = mod-eq_of_lt (rest_first fs is weight a rest_a at ra x) in
    let low_b : rest_b % f ≡ rest_b = mod-eq_of_lt (rest_first fs is weight b rest_b at rb y) in
    sym (ap (λ n. difference + n % f * weight) (ap (λ n. n + (f - rest_b % f)) low_a ∙ ap (λ n. rest_a + (f - n)) low_b)) ∙ whole

pub multiple_end : (fs : List ℕ) → IsShape fs → (i weight : ℕ) → AreBefore fs i weight → i ≤ 1 → (m a multiple rest : ℕ) → a < order_of fs
    → multiple ≡ (group_of (drop i fs)).times m a → rest ≡ a / weight → multiple + (m * rest) % get_or fs 0 0 * weight ≡ (group_of fs).times m a
multiple_end fs is zero weight at l m a multiple rest x e r = absurd (let s = at.some in omega arith)
multiple_end fs is (suc (suc i)) weight at l m a multiple rest x e r = absurd (omega arith)
multiple_end fs is (suc zero) weight at l m a multiple rest x e r =
    let f = get_or fs 0 0 in
    let whole = multiple_before fs is 1 weight at m a multiple rest e r in
    let low : rest % f ≡ rest = mod-eq_of_lt (rest_first fs is weight a rest at r x) in
    sym (ap (λ n. multiple + (m * n) % f * weight) low) ∙ whole

-- the first place, where the others are done
pub at_first : (fs : List ℕ) (i weight : ℕ) → AreBefore fs i weight → i ≤ 1 → AreBefore fs 1 weight
at_first fs zero weight at l = absurd (let s = at.some in omega arith)
at_first fs (suc zero) weight at l = at
at_first fs (suc (suc i)) weight at l = absurd (omega arith)

-- what each of the three is within
pub plus_high : (fs : List ℕ) → IsShape fs → (a b : ℕ) → (group_of fs).plus a b < 128
plus_high fs is a b = let w = (is_group fs is).within a b in omega (arith, is.small)

pub times_high : (fs : List ℕ) → IsShape fs → (m a : ℕ) → (group_of fs).times m a < 128
times_high fs is m a = let w = (are_multiples fs is).within m a in omega (arith, is.small)

-- from 0 the difference is the negative
pub none_minus : (fs : List ℕ) → IsShape fs → (a : ℕ) → minus (group_of fs) 0 a ≡ (group_of fs).neg a
none_minus fs is a = zero_plus (group_of fs) (is_group fs is) ((group_of fs).neg a) ((is_group fs is).neg_within a)

-- what the first place adds stays small
pub first_small : (fs : List ℕ) → IsShape fs → (weight : ℕ) → AreBefore fs 1 weight → (n : ℕ) → n % get_or fs 0 0 * weight < 129
first_small fs is weight at n = place_small fs is 1 weight at n
