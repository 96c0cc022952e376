-- The maps are turned among themselves by each of them.
use Rattle.std.proofs.Common.{◌≡◌, ℕ, ◌+◌, ◌*◌, ◌%◌, Bool, true, false, ◌&&◌, map, List, [], ◌∷◌, length, refl, sym, ap, ap₂, ◌∙◌, arith, eqb, eqb-true, eq-eqb, mul_assoc, one-mul, suc-mul}
use Rattle.std.proofs.lemmas.Nat.{mul-mod_first, mul-mod_second}
use Rattle.std.proofs.lemmas.Bool.{and_parts, and_from}
use Rattle.df_lists.specs.Membership.{In, count}
use Rattle.df_lists.specs.NumberSets.{IsSet}
use Rattle.df_lists.proofs.MemberLaws.{count-append, count-map, count_none}
use Rattle.df_group.specs.Elements.{group_of}
use Rattle.df_group.specs.Subgroups.{exponent_of}
use Rattle.df_group.proofs.ElementLaws.{is_group}
use Rattle.df_group.proofs.MultipleLaws.{are_multiples}
use Rattle.df_lists.specs.Orders.{IsEquality}
use Rattle.df_acting.specs.Orbits.{IsMapGroup, IsSpread, in_one_orbit_by}
use Rattle.df_acting.proofs.OrbitLaws.{permutes}
use Rattle.df_acting.proofs.ImageLaws.{image_group, image_times}
use Rattle.df_acting.proofs.StabilizerLaws.{orbit_stabilizer}
use Rattle.df_maps.specs.FullMaps.{MapGroup, IsMaps, full_maps, carried, point_count, image}
use Rattle.df_maps.proofs.NumberLaws.{pairs, In-pairs_gives}
use Rattle.df_maps.proofs.SetLists.{set_once}
use Rattle.df_maps.proofs.GroupOfMaps.{after_in, back_of, small, one_after_another, group, carried_after, shift_low, identity_in}

abbrev pub same_pair : ℕ × ℕ → ℕ × ℕ → Bool
same_pair (a, b) (c, d) = eqb a c && eqb b d

pub pairs_equal : IsEquality same_pair
pairs_equal = record {
  same = λ x y h. let r = and_parts (eqb x.0 y.0) (eqb x.1 y.1) h in ap₂ (λ (a b : ℕ). (a, b)) (eqb-true x.0 y.0 r.0) (eqb-true x.1 y.1 r.1);
  self = λ x. and_from (eqb x.0 x.0) (eqb x.1 x.1) (eq-eqb x.0 x.0 refl) (eq-eqb x.1 x.1 refl);
}

count_pairs : (ms hs : List ℕ) (m h : ℕ) → count (same_pair (m, h)) (pairs ms hs) ≡ count (eqb m) ms * count (eqb h) hs
count_pairs [] hs m h = omega arith
count_pairs (l ∷ ms) hs m h =
    count-append (same_pair (m, h)) (map (λ k. (l, k)) hs) (pairs ms hs)
    ∙ ap₂ (λ a b. a + b) (count-map (same_pair (m, h)) (λ k. (l, k)) hs) (count_pairs ms hs m h)
    ∙ go (eqb m l) refl
  where
    go : (b : Bool) → eqb m l ≡ b → count (λ k. eqb m l && eqb h k) hs + count (eqb m) ms * count (eqb h) hs ≡ count (eqb m) (l ∷ ms) * count (eqb h) hs
    go true e = rw e (let f = suc-mul (count (eqb m) ms) (count (eqb h) hs) in omega (arith, f))
    go false e = rw e (ap (λ n. n + count (eqb m) ms * count (eqb h) hs) (count_none (λ k. false) hs (λ k i. refl)) ∙ omega arith)

module _ (M : MapGroup) (is : IsMaps M) where
  abbrev then_also : ℕ × ℕ → ℕ × ℕ → ℕ × ℕ
  then_also f h = one_after_another M is f h

  thrice : (f h k : ℕ × ℕ) → then_also (then_also f h) k ≡ then_also f (then_also h k)
  thrice (m, h) (l, k) (n, j) =
      let G = group_of M.factors in
      let e = exponent_of M.factors in
      let g = is_group M.factors is.shape in
      let A = are_multiples M.factors is.shape in
      ap₂ (λ (a b : ℕ). (a, b))
      (mul-mod_first (m * l) n e ∙ ap (λ w. w % e) (mul_assoc m l n) ∙ sym (mul-mod_second m (l * n) e))
      (ap (λ w. G.plus w (G.plus (G.times m k) h)) (A.reduced (m * l) j ∙ A.product m l j) ∙ sym (g.assoc (G.times m (G.times l j)) (G.times m k) h) ∙ ap (λ w. G.plus w h) (sym (A.plus m (G.times l j) k)))

  after_one : (f : ℕ × ℕ) → In (full_maps M) f → then_also (1, 0) f ≡ f
  after_one (l, k) i =
      let G = group_of M.factors in
      let e = exponent_of M.factors in
      let g = is_group M.factors is.shape in
      let A = are_multiples M.factors is.shape in
      let r = In-pairs_gives M.products M.shifts (l, k) i in
      ap₂ (λ (a b : ℕ). (a, b)) (ap (λ n. n % e) (one-mul l) ∙ small M is l r.0) (g.zero (G.times 1 k) (A.within 1 k) ∙ A.one k (shift_low M is k r.1))

  turning : IsMapGroup (then_also) (λ f. In (full_maps M) f) (full_maps M)
  turning = record {
    stays = λ f i h j. after_in M is f h i j;
    one = ((1, 0), identity_in M is, λ f i. after_one f i);
    times = λ f h i j. (then_also f h, after_in M is f h i j, λ k l. thrice f h k);
    back = λ f i. let b = back_of M is f i in (b.0, b.1, (λ k l. sym (thrice b.0 f k) ∙ ap (λ w. then_also w k) b.2 ∙ after_one k l), (λ k l. sym (thrice f b.0 k) ∙ ap (λ w. then_also w k) b.3 ∙ after_one k l));
  }

  maps_spread : IsSpread same_pair (then_also) (λ f. In (full_maps M) f) (full_maps M) (full_maps M)
  maps_spread = record {
    inside = λ f i. i;
    once = λ f i.
        let r = In-pairs_gives M.products M.shifts f i in
        count_pairs M.products M.shifts f.0 f.1 ∙ ap₂ (λ a b. a * b) (set_once (exponent_of M.factors) M.products f.0 is.products_set r.0) (set_once _ M.shifts f.1 is.shifts_set r.1);
    moves = λ f i h j. after_in M is f h i j;
  }

  -- the maps that fix a block, times the blocks of its orbit, are all the maps
  pub orbit_size : (eq : List ℕ → List ℕ → Bool) → IsEquality eq → (xs : List (List ℕ)) → IsSpread eq (image M) (IsSet (point_count M)) (full_maps M) xs → (b : List ℕ) → In xs b
      → length (full_maps M) ≡ count (λ g. eq (image M g b) b) (full_maps M) * count (in_one_orbit_by eq (image M) (full_maps M) b) xs
  orbit_size eq E xs S b i =
      orbit_stabilizer eq (image M) (IsSet (point_count M)) (full_maps M) E (image_group (carried M) (point_count M) (full_maps M) (group M is)) (then_also)
      (λ f h i j x d. image_times (carried M) (point_count M) (full_maps M) (group M is) f h (then_also f h) x j (λ p l. carried_after M is f h p) d)
      (λ f i t. permutes same_pair (then_also) (λ f. In (full_maps M) f) (full_maps M) pairs_equal turning (full_maps M) maps_spread t f i) xs S b i
