-- The maps x -> m x + h are a group on the points, and no two of them agree.
use Rattle.std.proofs.Common.{◌≡◌, ℕ, suc, zero, ◌+◌, ◌-◌, ◌*◌, ◌/◌, ◌%◌, ◌<◌, ◌≤◌, map, List, [], ◌∷◌, length, get_or, refl, sym, ap, ap₂, ◌∙◌, subst, arith, eqb, ⊎_elim, lt-ltb, le-ltb, mod-eq_of_lt, mul_comm, mul_assoc, one-mul, zero-mul}
use Rattle.std.proofs.Math.Nat.{mod_self}
use Rattle.std.proofs.lemmas.Nat.{mul-mod_first, mul-mod_second}
use Rattle.std.proofs.lemmas.Bool.{cases_lt}
use Rattle.std.specs.List.{range_with_len}
use Rattle.df_lists.specs.Membership.{In}
use Rattle.df_lists.proofs.MemberLaws.{In-map}
use Rattle.df_group.specs.Elements.{Group, IsGroup, group_of, order_of}
use Rattle.df_group.specs.Subgroups.{exponent_of}
use Rattle.df_group.specs.Multiples.{AreMultiples}
use Rattle.df_group.proofs.ElementLaws.{ArePositive, positive_shape, is_group}
use Rattle.df_group.proofs.ExponentLaws.{exponent_some, exponent_low}
use Rattle.df_group.proofs.UnitLaws.{IsUndone, unit_undone}
use Rattle.df_group.proofs.MultipleLaws.{are_multiples}
use Rattle.df_acting.specs.Orbits.{IsMapGroup}
use Rattle.df_lists.proofs.TestLaws.{has_from, has_gives}
use Rattle.df_lists.proofs.SetLaws.{In-set, In-points, numbers_equal}
use Rattle.df_acting.proofs.OntoLists.{onto}
use Rattle.df_maps.specs.FullMaps.{MapGroup, IsMaps, moved, carried, point_count, full_maps, map_number}
use Rattle.df_maps.proofs.NumberLaws.{In-pairs, In-pairs_gives, length-pairs, pairs_numbered}
use Rattle.df_maps.proofs.SetLists.{set_once, set_first}

-- m s and m t are equal only where s and t are
undone_apart : (e m s t : ℕ) → IsUndone e m → (m * s) % e ≡ (m * t) % e → s % e ≡ t % e
undone_apart e m s t u h = sym (back s) ∙ ap (λ n. (u.0 * n) % e) h ∙ back t
  where
    back : (s : ℕ) → (u.0 * ((m * s) % e)) % e ≡ s % e
    back s =
        mul-mod_second u.0 (m * s) e ∙ ap (λ n. n % e) (sym (mul_assoc u.0 m s) ∙ ap (λ n. n * s) (mul_comm u.0 m))
        ∙ sym (mul-mod_first (m * u.0) s e) ∙ ap (λ n. (n * s) % e) u.1 ∙ mul-mod_first 1 s e ∙ ap (λ n. n % e) (one-mul s)

module _ (G : Group) where
  pub moved_low : (m h p : ℕ) → p < G.order → moved G (m, h) p ≡ G.plus (G.times m p) h
  moved_low m h p k = rw (lt-ltb p G.order k) refl

  pub moved_high : (m h p : ℕ) → G.order ≤ p → moved G (m, h) p ≡ p
  moved_high m h p k = rw (le-ltb p G.order k) refl

  -- both are stated at an element, and fixed points stay
  pub by_cases : (f g : ℕ → ℕ) (p : ℕ) → (p < G.order → f p ≡ g p) → (G.order ≤ p → f p ≡ g p) → f p ≡ g p
  by_cases f g p l h = ⊎_elim l h (cases_lt p G.order)

module _ (G : Group) (e : ℕ) (g : IsGroup G) (A : AreMultiples G e) where
  pub times_zero : (m : ℕ) → G.times m 0 ≡ 0
  times_zero m = ap (G.times m) (sym (A.none 0)) ∙ sym (A.product m 0 0) ∙ (let z : m * 0 ≡ 0 = omega arith in ap (λ n. G.times n 0) z) ∙ A.none 0

  -- one map after another
  abbrev pub after : ℕ × ℕ → ℕ × ℕ → ℕ × ℕ
  after (m, h) (l, k) = ((m * l) % e, G.plus (G.times m k) h)

  pub moved_after : (m h l k p : ℕ) → moved G (after (m, h) (l, k)) p ≡ moved G (m, h) (moved G (l, k) p)
  moved_after m h l k p = by_cases G (moved G (after (m, h) (l, k))) (λ p. moved G (m, h) (moved G (l, k) p)) p low high
    where
      low : p < G.order → moved G (after (m, h) (l, k)) p ≡ moved G (m, h) (moved G (l, k) p)
      low pp =
          moved_low G ((m * l) % e) (G.plus (G.times m k) h) p pp
          ∙ ap (λ w. G.plus w (G.plus (G.times m k) h)) (A.reduced (m * l) p ∙ A.product m l p)
          ∙ sym (g.assoc (G.times m (G.times l p)) (G.times m k) h)
          ∙ ap (λ w. G.plus w h) (sym (A.plus m (G.times l p) k))
          ∙ sym (moved_low G m h (G.plus (G.times l p) k) (g.within (G.times l p) k))
          ∙ ap (moved G (m, h)) (sym (moved_low G l k p pp))

      high : G.order ≤ p → moved G (after (m, h) (l, k)) p ≡ moved G (m, h) (moved G (l, k) p)
      high pp = moved_high G ((m * l) % e) (G.plus (G.times m k) h) p pp ∙ sym (ap (moved G (m, h)) (moved_high G l k p pp) ∙ moved_high G m h p pp)

  pub moved_one : (p : ℕ) → moved G (1, 0) p ≡ p
  moved_one p = by_cases G (moved G (1, 0)) (λ p. p) p (λ k. moved_low G 1 0 p k ∙ g.zero (G.times 1 p) (A.within 1 p) ∙ A.one p k) (λ k. moved_high G 1 0 p k)

module _ (M : MapGroup) (is : IsMaps M) where
  abbrev G : Group
  G = group_of M.factors

  abbrev e : ℕ
  e = exponent_of M.factors

  pub g : IsGroup (group_of M.factors)
  g = is_group M.factors is.shape

  pub A : AreMultiples (group_of M.factors) (exponent_of M.factors)
  A = are_multiples M.factors is.shape

  p : ArePositive M.factors
  p = positive_shape M.factors is.shape

  pos : 0 < exponent_of M.factors
  pos = exponent_some M.factors p

  two : 2 ≤ exponent_of M.factors
  two = exponent_low M.factors is.shape

  pub one_in : In M.products 1
  one_in = has_gives M.products 1 is.one

  pub zero_in : In M.shifts 0
  zero_in = has_gives M.shifts 0 is.zero

  product_in : (m l : ℕ) → In M.products m → In M.products l → In M.products ((m * l) % exponent_of M.factors)
  product_in m l i j = has_gives M.products ((m * l) % exponent_of M.factors) (is.product m l (has_from M.products m i) (has_from M.products l j))

  sum_in : (h k : ℕ) → In M.shifts h → In M.shifts k → In M.shifts ((group_of M.factors).plus h k)
  sum_in h k i j = has_gives M.shifts ((group_of M.factors).plus h k) (is.sum h k (has_from M.shifts h i) (has_from M.shifts k j))

  pub small : (m : ℕ) → In M.products m → m % exponent_of M.factors ≡ m
  small m i = mod-eq_of_lt (In-set (exponent_of M.factors) M.products m is.products_set i)

  undone : (m : ℕ) → In M.products m → IsUndone (exponent_of M.factors) m
  undone m i = unit_undone (exponent_of M.factors) m pos (is.units m (has_from M.products m i))

  -- another of the products undoes it
  undoes : (m : ℕ) → In M.products m → (l : ℕ) × In M.products l × ((m * l) % exponent_of M.factors ≡ 1)
  undoes m i =
      onto eqb numbers_equal M.products (λ s j. set_once (exponent_of M.factors) M.products s is.products_set j) (λ s. (m * s) % exponent_of M.factors) (λ s j. product_in m s i j)
      (λ s t j k h. sym (small s j) ∙ undone_apart (exponent_of M.factors) m s t (undone m i) h ∙ small t k) 1 one_in

  -- multiples and negatives of shifts are shifts
  multiple_in : (m h : ℕ) → In M.shifts h → In M.shifts ((group_of M.factors).times m h)
  multiple_in zero h i = subst (In M.shifts) (sym (A.none h)) zero_in
  multiple_in (suc m) h i = subst (In M.shifts) (sym (A.more m h)) (sum_in h ((group_of M.factors).times m h) i (multiple_in m h i))

  negative : (h : ℕ) → In M.shifts h → (k : ℕ) × In M.shifts k × ((group_of M.factors).plus h k ≡ 0)
  negative h i =
      let k = (group_of M.factors).times (exponent_of M.factors - 1) h in
      let n : suc (exponent_of M.factors - 1) ≡ exponent_of M.factors = omega (arith, pos) in
      (k, multiple_in (exponent_of M.factors - 1) h i, sym (A.more (exponent_of M.factors - 1) h) ∙ ap (λ m. (group_of M.factors).times m h) n ∙ sym (A.reduced (exponent_of M.factors) h) ∙ ap (λ m. (group_of M.factors).times m h) (mod_self (exponent_of M.factors)) ∙ A.none h)

  pub shift_low : (h : ℕ) → In M.shifts h → h < order_of M.factors
  shift_low h i = In-set (order_of M.factors) M.shifts h is.shifts_set i

  stays : (f : ℕ × ℕ) (q : ℕ) → q < point_count M → carried M f q < point_count M
  stays (m, h) q k =
      ⊎_elim
      (λ l. let x = moved_low (group_of M.factors) m h q l in let y = g.within ((group_of M.factors).times m q) h in omega (arith, x, y))
      (λ l. let x = moved_high (group_of M.factors) m h q l in omega (arith, x, k))
      (cases_lt q (order_of M.factors))

  abbrev pub one_after_another : ℕ × ℕ → ℕ × ℕ → ℕ × ℕ
  one_after_another f h = after (group_of M.factors) (exponent_of M.factors) g A f h

  pub after_in : (f h : ℕ × ℕ) → In (full_maps M) f → In (full_maps M) h → In (full_maps M) (one_after_another f h)
  after_in (m, h) (l, k) i j =
      let r = In-pairs_gives M.products M.shifts (m, h) i in
      let s = In-pairs_gives M.products M.shifts (l, k) j in
      In-pairs M.products M.shifts ((m * l) % exponent_of M.factors) ((group_of M.factors).plus ((group_of M.factors).times m k) h) (product_in m l r.0 s.0) (sum_in ((group_of M.factors).times m k) h (multiple_in m k s.1) r.1)

  -- a map that takes each back
  pub back_of : (f : ℕ × ℕ) → In (full_maps M) f → (h : ℕ × ℕ) × In (full_maps M) h × (one_after_another h f ≡ (1, 0)) × (one_after_another f h ≡ (1, 0))
  back_of (m, h) i =
      let r = In-pairs_gives M.products M.shifts (m, h) i in
      let l = undoes m r.0 in
      let k = negative h r.1 in
      let u = (group_of M.factors).times l.0 k.0 in
      let there : (l.0 * m) % exponent_of M.factors ≡ 1 = ap (λ n. n % exponent_of M.factors) (mul_comm l.0 m) ∙ l.2 in
      let none : (group_of M.factors).plus ((group_of M.factors).times l.0 h) u ≡ 0 = sym (A.plus l.0 h k.0) ∙ ap ((group_of M.factors).times l.0) k.2 ∙ times_zero (group_of M.factors) (exponent_of M.factors) g A l.0 in
      let again : (group_of M.factors).times m u ≡ k.0 = sym (A.product m l.0 k.0) ∙ sym (A.reduced (m * l.0) k.0) ∙ ap (λ n. (group_of M.factors).times n k.0) l.2 ∙ A.one k.0 (shift_low k.0 k.1) in
      let gone : (group_of M.factors).plus ((group_of M.factors).times m u) h ≡ 0 = ap (λ w. (group_of M.factors).plus w h) again ∙ g.comm k.0 h ∙ k.2 in (
        (l.0, u),
        In-pairs M.products M.shifts l.0 u l.1 (multiple_in l.0 k.0 k.1),
        ap₂ (λ a b. (a, b)) there none,
        ap₂ (λ a b. (a, b)) l.2 gone,
      )

  pub carried_after : (f h : ℕ × ℕ) (q : ℕ) → carried M (one_after_another f h) q ≡ carried M f (carried M h q)
  carried_after (m, h) (l, k) q = moved_after (group_of M.factors) (exponent_of M.factors) g A m h l k q

  pub carried_one : (q : ℕ) → carried M (1, 0) q ≡ q
  carried_one q = moved_one (group_of M.factors) (exponent_of M.factors) g A q

  pub group : IsMapGroup (carried M) (λ q. q < point_count M) (full_maps M)
  group = record {
    stays = λ f i q k. stays f q k;
    one = ((1, 0), In-pairs M.products M.shifts 1 0 one_in zero_in, λ q k. carried_one q);
    times = λ f h i j. (one_after_another f h, after_in f h i j, λ q k. carried_after f h q);
    back = λ f i. let b = back_of f i in (b.0, b.1, (λ q k. sym (carried_after b.0 f q) ∙ ap (λ w. carried M w q) b.2 ∙ carried_one q), (λ q k. sym (carried_after f b.0 q) ∙ ap (λ w. carried M w q) b.3 ∙ carried_one q));
  }

  pub some_shift : 0 < length M.shifts
  some_shift = go M.shifts zero_in
    where
      go : (hs : List ℕ) → In hs 0 → 0 < length hs
      go [] i = absurd i
      go (h ∷ hs) i = omega arith

  pub numbered : full_maps M ≡ map (map_number M) (range_with_len 0 (length (full_maps M)))
  numbered = pairs_numbered M.shifts some_shift M.products ∙ ap (λ n. map (map_number M) (range_with_len 0 n)) (sym (length-pairs M.products M.shifts))

  pub identity_in : In (full_maps M) (1, 0)
  identity_in = In-pairs M.products M.shifts 1 0 one_in zero_in

  -- each number below the count is that of a map
  pub number_in : (i : ℕ) → i < length (full_maps M) → In (full_maps M) (map_number M i)
  number_in i h = subst (λ l. In l (map_number M i)) (sym numbered) (In-map (map_number M) (range_with_len 0 (length (full_maps M))) i (In-points (length (full_maps M)) i h))

  no_zero : In M.products 0 → ⊥
  no_zero i = let u = undone 0 i in let z = zero-mul u.0 in let l : 1 % exponent_of M.factors ≡ 1 = mod-eq_of_lt (omega (arith, two)) in let o : 0 % exponent_of M.factors ≡ 0 = mod-eq_of_lt pos in let w = u.1 in absurd (let x : 0 ≡ 1 = sym o ∙ ap (λ n. n % exponent_of M.factors) (sym z) ∙ w ∙ l in omega (arith, x))

  pub identity : map_number M 0 ≡ (1, 0)
  identity =
      let start : 0 ≡ 0 * length M.shifts + 0 = omega arith in
      let first = set_first (exponent_of M.factors) M.products 1 is.products_set one_in (λ q l i. no_zero (let z : q ≡ 0 = omega (arith, l) in subst (In M.products) z i)) in
      let second = set_first (order_of M.factors) M.shifts 0 is.shifts_set zero_in (λ q l i. absurd (omega (arith, l))) in
      let d : 0 / length M.shifts ≡ 0 = none_of (length M.shifts) in
      let m : 0 % length M.shifts ≡ 0 = mod-eq_of_lt some_shift in
      ap₂ (λ a b. (get_or M.products a 0, get_or M.shifts b 0)) d m ∙ ap₂ (λ a b. (a, b)) first second
    where
      none_of : (n : ℕ) → 0 / n ≡ 0
      none_of n = omega arith
