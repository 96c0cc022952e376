-- Two of the maps that agree on all points are one.
use Rattle.std.proofs.Common.{◌≡◌, ℕ, suc, zero, ◌+◌, ◌-◌, ◌*◌, ◌/◌, ◌%◌, ◌<◌, ◌≤◌, List, [], ◌∷◌, All, length, get_or, drop, refl, sym, ap, ap₂, ◌∙◌, arith, ⊎_elim, mul-one, mul_comm}
use Rattle.std.proofs.Math.Nat.{div-add-mod', mul-mod_left, mul-sub}
use Rattle.std.proofs.lemmas.Bool.{cases_lt}
use Rattle.df_lists.specs.Membership.{In}
use Rattle.df_lists.proofs.SetLaws.{In-set}
use Rattle.df_lists.proofs.ListPlaces.{In-get_or}
use Rattle.df_group.specs.Elements.{group_of, order_of, IsElement, IsFactor, residues, number, multiple_of}
use Rattle.df_group.specs.Subgroups.{exponent_of}
use Rattle.df_group.proofs.ElementLaws.{ArePositive, positive_shape, is_group, order_some, residues_number, number_within, multiples_are}
use Rattle.df_group.proofs.GroupLaws.{zero_plus, plus_apart}
use Rattle.df_group.proofs.ExponentLaws.{exponent_least}
use Rattle.df_group.proofs.MultipleLaws.{are_multiples}
use Rattle.df_maps.specs.FullMaps.{MapGroup, IsMaps, carried, point_count, full_maps, map_number}
use Rattle.df_maps.proofs.NumberLaws.{length-pairs, row_below}
use Rattle.df_maps.proofs.SetLists.{set_apart}
use Rattle.df_maps.proofs.GroupOfMaps.{moved_low, times_zero}

-- the element whose residues are all 1
abbrev ones : List ℕ → List ℕ
ones [] = []
ones (f ∷ fs) = 1 ∷ ones fs

ones_are : (fs : List ℕ) → All IsFactor fs → IsElement fs (ones fs)
ones_are [] h = refl
ones_are (f ∷ fs) h = (let r = h 0 0 (omega arith) in omega (arith, r.0), ones_are fs (λ k d l. h (suc k) d (omega (arith, l))))

-- numbers that leave the same by f differ by a multiple of f
sub_leaves : (m n f : ℕ) → n ≤ m → m % f ≡ n % f → (m - n) % f ≡ 0
sub_leaves m n f h e =
    let a = div-add-mod' m f in
    let b = div-add-mod' n f in
    let c : (m / f - n / f) * f ≡ m / f * f - n / f * f = mul_comm (m / f - n / f) f ∙ mul-sub f (m / f) (n / f) ∙ ap₂ (λ x y. x - y) (mul_comm f (m / f)) (mul_comm f (n / f)) in
    ap (λ k. k % f) (let d : m - n ≡ (m / f - n / f) * f = omega (arith, a, b, c, e) in d) ∙ mul-mod_left (m / f - n / f) f

multiples_apart : (fs : List ℕ) (m n : ℕ) → n ≤ m → multiple_of fs m (ones fs) ≡ multiple_of fs n (ones fs) → All (λ f. (m - n) % f ≡ 0) fs
multiples_apart [] m n h e = λ k d l. absurd (omega (arith, l))
multiples_apart (f ∷ fs) m n h e = λ k d l. go k d l (multiples_apart fs m n h (ap (drop 1) e))
  where
    go : (k d : ℕ) → k < length (f ∷ fs) → All (λ f. (m - n) % f ≡ 0) fs → (m - n) % get_or (f ∷ fs) k d ≡ 0
    go zero d l more = sub_leaves m n f h (sym (ap (λ x. x % f) (mul-one m)) ∙ ap (λ l. get_or l 0 0) e ∙ ap (λ x. x % f) (mul-one n))
    go (suc k) d l more = more k d (omega (arith, l))

module _ (M : MapGroup) (is : IsMaps M) where
  p : ArePositive M.factors
  p = positive_shape M.factors is.shape

  pos : 0 < order_of M.factors
  pos = order_some M.factors p

  unit : ℕ
  unit = number M.factors (ones M.factors)

  -- the numbers of two maps that agree at 0 and at the element of all 1
  shifts_same : (m h n k : ℕ) → In M.shifts h → In M.shifts k → carried M (m, h) 0 ≡ carried M (n, k) 0 → h ≡ k
  shifts_same m h n k i j e = sym (at m h i) ∙ e ∙ at n k j
    where
      at : (m h : ℕ) → In M.shifts h → carried M (m, h) 0 ≡ h
      at m h i =
          moved_low (group_of M.factors) m h 0 pos ∙ ap (λ w. (group_of M.factors).plus w h) (times_zero (group_of M.factors) (exponent_of M.factors) (is_group M.factors is.shape) (are_multiples M.factors is.shape) m)
          ∙ zero_plus (group_of M.factors) (is_group M.factors is.shape) h (In-set (order_of M.factors) M.shifts h is.shifts_set i)

  below : number M.factors (ones M.factors) < order_of M.factors
  below = number_within M.factors (ones M.factors) (ones_are M.factors is.shape.factors)

  leaves_same : (m n h : ℕ) → carried M (m, h) (number M.factors (ones M.factors)) ≡ carried M (n, h) (number M.factors (ones M.factors)) → multiple_of M.factors m (ones M.factors) ≡ multiple_of M.factors n (ones M.factors)
  leaves_same m n h e =
      let x = number M.factors (ones M.factors) in
      let A = are_multiples M.factors is.shape in
      let same : (group_of M.factors).times m x ≡ (group_of M.factors).times n x = plus_apart (group_of M.factors) (is_group M.factors is.shape) ((group_of M.factors).times m x) ((group_of M.factors).times n x) h (A.within m x) (A.within n x) (sym (moved_low (group_of M.factors) m h x below) ∙ e ∙ moved_low (group_of M.factors) n h x below) in
      sym (shown m) ∙ ap (residues M.factors) same ∙ shown n
    where
      shown : (m : ℕ) → residues M.factors ((group_of M.factors).times m (number M.factors (ones M.factors))) ≡ multiple_of M.factors m (ones M.factors)
      shown m =
          let o = ones_are M.factors is.shape.factors in
          ap (λ rs. residues M.factors (number M.factors (multiple_of M.factors m rs))) (residues_number M.factors (ones M.factors) o)
          ∙ residues_number M.factors (multiple_of M.factors m (ones M.factors)) (multiples_are M.factors m (ones M.factors) p o)

  products_same : (m n h : ℕ) → In M.products m → In M.products n → carried M (m, h) (number M.factors (ones M.factors)) ≡ carried M (n, h) (number M.factors (ones M.factors)) → m ≡ n
  products_same m n h i j e = ⊎_elim (λ l. absurd (apart m n i j l (leaves_same m n h e))) (λ l. ⊎_elim (λ k. absurd (apart n m j i k (sym (leaves_same m n h e)))) (λ k. omega (arith, l, k)) (cases_lt m n)) (cases_lt n m)
    where
      apart : (m n : ℕ) → In M.products m → In M.products n → n < m → multiple_of M.factors m (ones M.factors) ≡ multiple_of M.factors n (ones M.factors) → ⊥
      apart m n i j l same =
          let high = In-set (exponent_of M.factors) M.products m is.products_set i in
          let least = exponent_least M.factors p (m - n) (omega (arith, l)) (multiples_apart M.factors m n (omega (arith, l)) same) in
          absurd (omega (arith, high, least, l))

  pub apart : (i j : ℕ) → i < length (full_maps M) → j < length (full_maps M) → ((q : ℕ) → q < point_count M → carried M (map_number M i) q ≡ carried M (map_number M j) q) → i ≡ j
  apart i j hi hj agree =
      let w = length M.shifts in
      let long = length-pairs M.products M.shifts in
      let some : 0 < w = some_of i (omega (arith, hi, long)) in
      let ri : i / w < length M.products = row_below i w (length M.products) some (omega (arith, hi, long)) in
      let rj : j / w < length M.products = row_below j w (length M.products) some (omega (arith, hj, long)) in
      let ci : i % w < w = omega (arith, some) in
      let cj : j % w < w = omega (arith, some) in
      let same_shift = shifts_same (get_or M.products (i / w) 0) (get_or M.shifts (i % w) 0) (get_or M.products (j / w) 0) (get_or M.shifts (j % w) 0) (In-get_or M.shifts (i % w) 0 ci) (In-get_or M.shifts (j % w) 0 cj) (agree 0 (omega (arith, pos))) in
      let low = below in
      let at = agree (number M.factors (ones M.factors)) (omega (arith, low)) in
      let same_product = products_same (get_or M.products (i / w) 0) (get_or M.products (j / w) 0) (get_or M.shifts (i % w) 0) (In-get_or M.products (i / w) 0 ri) (In-get_or M.products (j / w) 0 rj) (at ∙ ap (λ h. carried M (get_or M.products (j / w) 0, h) (number M.factors (ones M.factors))) (sym same_shift)) in
      let rows = set_apart (exponent_of M.factors) M.products (i / w) (j / w) is.products_set ri rj same_product in
      let columns = set_apart (order_of M.factors) M.shifts (i % w) (j % w) is.shifts_set ci cj same_shift in
      sym (div-add-mod' i w) ∙ ap₂ (λ a b. a * w + b) rows columns ∙ div-add-mod' j w
    where
      some_of : (i : ℕ) → i < length M.products * length M.shifts → 0 < length M.shifts
      some_of i h = ⊎_elim (λ l. l) (λ l. absurd (let z : length M.shifts ≡ 0 = omega (arith, l) in let n : length M.products * length M.shifts ≡ 0 = ap (λ k. length M.products * k) z ∙ omega arith in omega (arith, h, n))) (cases_lt 0 (length M.shifts))
