-- The orbits of several sizes, in one order.
use Rattle.std.proofs.Common.{◌≡◌, ℕ, suc, zero, ◌+◌, ◌<◌, ◌≤◌, Bool, true, false, ◌&&◌, ◌||◌, cond, map, filter, List, [], ◌∷◌, All, length, get_or, refl, sym, ap, ap₂, ◌∙◌, subst, inl, inr, arith, eqb, eq-eqb, eqb-true, ⊎_elim}
use Rattle.std.proofs.lemmas.Bool.{both_ways, cases_lt, false_from_ne_true}
use Rattle.std.proofs.lemmas.List.Sorted.{sum_by-IsPermutation, All-permutation}
use Rattle.std.specs.List.{flat_map, list_any}
use Rattle.std.specs.List.Sorted.{IsPermutation}
use Rattle.std.proofs.lemmas.Simd.{map-map}
use Rattle.df_lists.specs.Membership.{In, count}
use Rattle.df_lists.specs.NumberSets.{IsSet}
use Rattle.df_lists.specs.Totals.{one}
use Rattle.df_lists.proofs.MemberLaws.{In-filter, In-filter_gives, In-map, In-map_gives, count-append, count-map, count_none, count_some, count_gives, In-flat_map, In-flat_map_gives}
use Rattle.df_lists.proofs.CountLaws.{list_total_is}
use Rattle.df_lists.proofs.ListTotals.{count_total, count_most}
use Rattle.df_subsets.specs.Blocks.{before}
use Rattle.df_lists.specs.Orders.{IsSorted}
use Rattle.df_subsets.specs.Subsets.{points, subsets, candidates, nonempty, same_list}
use Rattle.df_subsets.proofs.BlockOrders.{lists_ordered}
use Rattle.df_subsets.proofs.SubsetLists.{same_list-gives, same_list-self, subsets_inside, subsets_once, subsets_have}
use Rattle.df_subsets.proofs.SizedLists.{candidates_inside, candidates_have}
use Rattle.df_acting.specs.Representatives.{is_representative}
use Rattle.df_lists.proofs.TestLaws.{any_from, any_gives, filter_agree, map_agree, filter-filter}
use Rattle.df_lists.proofs.ListPlaces.{In-get_or, In_place}
use Rattle.df_lists.proofs.SortedLists.{sorted_same}
use Rattle.df_acting.proofs.OrbitLaws.{one_orbit_gives}
use Rattle.df_acting.proofs.ImageLaws.{length-image}
use Rattle.df_maps.proofs.SpreadLaws.{lists_equal}
use Rattle.df_maps.specs.FullMaps.{MapGroup, full_maps, image, point_count, carried}
use Rattle.df_maps.specs.Laws.{AreGroup}
use Rattle.df_orbits.specs.Orbits.{are_in_one_orbit, orbit_size_in, orbits_with_sizes, representatives_of, block_orbits}
use Rattle.df_orbits.specs.declared.orbits.Orbit.{Orbit}
use Rattle.df_orbits.proofs.OrbitLists.{shown}
use Rattle.df_orbits.proofs.OrbitNumbers.{one_size, members_sorted}
use Rattle.df_orbits.proofs.FoundOrbits.{blocks_group}

-- no number is listed twice
abbrev pub AreDistinct : List ℕ → Type 0
AreDistinct [] = Unit {0}
AreDistinct (k ∷ ks) = (In ks k → ⊥) × AreDistinct ks

-- a list in which each is before the next
pub sorted_by_steps : (xs : List (List ℕ)) → ((i : ℕ) → i + 1 < length xs → before (get_or xs i []) (get_or xs (i + 1) []) ≡ true) → IsSorted before xs
sorted_by_steps [] h = tt
sorted_by_steps (x ∷ []) h = (λ y i. absurd i, tt)
sorted_by_steps (x ∷ y ∷ ys) h = go (sorted_by_steps (y ∷ ys) (λ i l. let e : suc i + 1 ≡ suc (i + 1) = omega arith in subst (λ j. before (get_or (y ∷ ys) i []) (get_or (x ∷ y ∷ ys) j []) ≡ true) e (h (suc i) (omega (arith, l)))))
  where
    first : before x y ≡ true
    first = h 0 (omega arith)

    go : IsSorted before (y ∷ ys) → IsSorted before (x ∷ y ∷ ys)
    go rest = (λ z i. here z i, rest)
      where
        here : (z : List ℕ) → In (y ∷ ys) z → before x z ≡ true
        here z (inl e) = subst (λ w. before x w ≡ true) e first
        here z (inr i) = lists_ordered.onward x y z first (rest.0 z i)

-- two places with one block
twice : (xs : List (List ℕ)) (i : ℕ) → i + 1 < length xs → get_or xs i [] ≡ get_or xs (i + 1) [] → 1 < count (same_list (get_or xs i [])) xs
twice [] i h e = absurd (omega arith)
twice (x ∷ []) i h e = absurd (omega arith)
twice (x ∷ y ∷ ys) zero h e = rw (same_list-self x, subst (λ w. same_list x w ≡ true) e (same_list-self x)) (omega arith)
twice (x ∷ y ∷ ys) (suc i) h e =
    let f : suc i + 1 ≡ suc (i + 1) = omega arith in
    let more = twice (y ∷ ys) i (omega (arith, h)) (e ∙ ap (λ j. get_or (x ∷ y ∷ ys) j []) f) in
    elim (same_list (get_or (y ∷ ys) i []) x) as (λ b. 1 < length (cond b (x ∷ filter (same_list (get_or (y ∷ ys) i [])) (y ∷ ys)) (filter (same_list (get_or (y ∷ ys) i [])) (y ∷ ys)))) [
      | true ↦ omega (arith, more)
      | false ↦ more
    ]

-- counts stay where a list is put into another order
count_permuted : {X : Type 0} (t : X → Bool) (xs ys : List X) → IsPermutation xs ys → count t ys ≡ count t xs
count_permuted t xs ys h = count_total t ys ∙ list_total_is (λ x. one (t x)) ys ∙ sum_by-IsPermutation (λ x. one (t x)) xs ys h ∙ sym (list_total_is (λ x. one (t x)) xs) ∙ sym (count_total t xs)

and_right : (a b : Bool) → (a && b) ≡ true → b ≡ true
and_right true b h = h
and_right false b h = absurd (both_ways false refl h)

-- a test picks no more
count_filter : {X : Type 0} (t u : X → Bool) (xs : List X) → count t (filter u xs) ≤ count t xs
count_filter t u xs = let e = ap length (filter-filter t u xs) in omega (arith, e, count_most (λ x. u x && t x) t xs (λ x i h. and_right (u x) (t x) h))

module _ (M : MapGroup) (A : AreGroup M) (sizes : List ℕ) where
  abbrev pub of_size : ℕ → List (List ℕ × ℕ)
  of_size k = orbits_with_sizes M (subsets (point_count M) k)

  -- blocks of one orbit have one size
  in_one_orbit_long : (c b : List ℕ) → IsSet (point_count M) c → are_in_one_orbit M c b ≡ true → length c ≡ length b
  in_one_orbit_long c b set h =
      let g = one_orbit_gives same_list (image M) (IsSet (point_count M)) (full_maps M) lists_equal (blocks_group M A) c b h in
      sym (length-image (carried M) (point_count M) (full_maps M) A.group g.0 c g.1 set) ∙ ap length g.2

  -- so that other sizes don't count
  size_same : (k : ℕ) (b : List ℕ) → In sizes k → length b ≡ k → orbit_size_in M (candidates (point_count M) sizes) b ≡ orbit_size_in M (subsets (point_count M) k) b
  size_same k b i long =
      ap length (filter-filter (λ c. are_in_one_orbit M c b) (sized sizes) all ∙ filter_agree (λ c. sized sizes c && are_in_one_orbit M c b) (λ c. sized (k ∷ []) c && are_in_one_orbit M c b) all (λ c j. in_one_orbit c j) ∙ sym (filter-filter (λ c. are_in_one_orbit M c b) (sized (k ∷ [])) all))
      ∙ ap (count (λ c. are_in_one_orbit M c b)) (sym (one_size (point_count M) k))
    where
      sized : List ℕ → List ℕ → Bool
      sized ks c = list_any (λ j. eqb j (length c)) ks

      all : List (List ℕ)
      all = [] ∷ nonempty (points (point_count M))

      inside : (c : List ℕ) → In all c → IsSet (point_count M) c
      inside c j = (candidates_inside (point_count M) (length c ∷ []) c (In-filter (λ b. list_any (λ j. eqb j (length b)) (length c ∷ [])) all c j (any_from (λ j. eqb j (length c)) (length c ∷ []) (length c) (inl refl) (eq-eqb (length c) (length c) refl)))).0

      in_one_orbit : (c : List ℕ) → In all c → (sized sizes c && are_in_one_orbit M c b) ≡ (sized (k ∷ []) c && are_in_one_orbit M c b)
      in_one_orbit c j = go (are_in_one_orbit M c b) refl
        where
          none : (x : Bool) → (x && false) ≡ false
          none true = refl
          none false = refl

          go : (t : Bool) → are_in_one_orbit M c b ≡ t → (sized sizes c && t) ≡ (sized (k ∷ []) c && t)
          go false h = none (sized sizes c) ∙ sym (none (sized (k ∷ []) c))
          go true h =
              let e : k ≡ length c = sym (in_one_orbit_long c b (inside c j) h ∙ long) in
              ap₂ (λ x y. x && y) (any_from (λ j. eqb j (length c)) sizes k i (eq-eqb k (length c) e) ∙ sym (any_from (λ j. eqb j (length c)) (k ∷ []) k (inl refl) (eq-eqb k (length c) e))) refl

  -- what each listed orbit is
  abbrev IsListedOrbit : List ℕ × ℕ → Type 0
  IsListedOrbit p = (p.1 ≡ orbit_size_in M (candidates (point_count M) sizes) p.0) × In (representatives_of M (candidates (point_count M) sizes)) p.0

  orbit_is_listed : (p : List ℕ × ℕ) → In (flat_map of_size sizes) p → IsListedOrbit p
  orbit_is_listed p i =
      let k = In-flat_map_gives of_size sizes p i in
      let b = In-map_gives (λ b. (b, orbit_size_in M (subsets (point_count M) k.0) b)) (representatives_of M (subsets (point_count M) k.0)) p k.2 in
      let e = In-filter_gives (is_representative before (image M) (full_maps M)) (subsets (point_count M) k.0) b.0 b.1 in
      let s = subsets_inside (point_count M) k.0 b.0 e.0 in
      subst IsListedOrbit b.2 (
        sym (size_same k.0 b.0 k.1 s.1),
        In-filter (is_representative before (image M) (full_maps M)) (candidates (point_count M) sizes) b.0 (candidates_have (point_count M) sizes b.0 s.0 (any_from (λ j. eqb j (length b.0)) sizes k.0 k.1 (eq-eqb k.0 (length b.0) (sym s.1)))) e.1,
      )

  -- each orbit is listed
  listed : (b : List ℕ) → In (representatives_of M (candidates (point_count M) sizes)) b → (n : ℕ) × In (flat_map of_size sizes) (b, n)
  listed b i =
      let e = In-filter_gives (is_representative before (image M) (full_maps M)) (candidates (point_count M) sizes) b i in
      let s = candidates_inside (point_count M) sizes b e.0 in
      let k = any_gives (λ j. eqb j (length b)) sizes s.1 in
      let long = eqb-true k.0 (length b) k.2 in (
        orbit_size_in M (subsets (point_count M) k.0) b,
        In-flat_map of_size sizes k.0 (b, orbit_size_in M (subsets (point_count M) k.0) b) k.1 (In-map (λ b. (b, orbit_size_in M (subsets (point_count M) k.0) b)) (representatives_of M (subsets (point_count M) k.0)) b
            (In-filter (is_representative before (image M) (full_maps M)) (subsets (point_count M) k.0) b (subsets_have (point_count M) k.0 b s.0 (sym long)) e.1)),
      )

  -- no block is listed twice
  abbrev is_of : List ℕ → List ℕ × ℕ → Bool
  is_of b p = same_list b p.0

  count_size : (b : List ℕ) (k : ℕ) → count (is_of b) (of_size k) ≤ one (eqb k (length b))
  count_size b k = go (eqb k (length b)) refl
    where
      counted : count (is_of b) (of_size k) ≡ count (same_list b) (representatives_of M (subsets (point_count M) k))
      counted = count-map (is_of b) (λ b. (b, orbit_size_in M (subsets (point_count M) k) b)) (representatives_of M (subsets (point_count M) k))

      inside : (c : List ℕ) → In (representatives_of M (subsets (point_count M) k)) c → IsSet (point_count M) c × (length c ≡ k)
      inside c i = subsets_inside (point_count M) k c (In-filter_gives (is_representative before (image M) (full_maps M)) (subsets (point_count M) k) c i).0

      go : (t : Bool) → eqb k (length b) ≡ t → count (is_of b) (of_size k) ≤ one t
      go false h = let z = count_none (same_list b) (representatives_of M (subsets (point_count M) k)) (λ c i. false_from_ne_true (same_list b c) (λ s. both_ways (eqb k (length b)) h (eq-eqb k (length b) (sym (ap length (same_list-gives b c s) ∙ (inside c i).1))))) in omega (arith, counted, z)
      go true h = ⊎_elim (λ l. some l) (λ l. omega (arith, counted, l)) (cases_lt 0 (count (same_list b) (representatives_of M (subsets (point_count M) k))))
        where
          some : 0 < count (same_list b) (representatives_of M (subsets (point_count M) k)) → count (is_of b) (of_size k) ≤ 1
          some l =
              let c = count_gives (same_list b) (representatives_of M (subsets (point_count M) k)) l in
              let s = inside c.0 c.1 in
              let same = same_list-gives b c.0 c.2 in
              let once = subsets_once (point_count M) k b (subst (IsSet (point_count M)) (sym same) s.0) (ap length same ∙ s.1) in
              let fewer : count (same_list b) (representatives_of M (subsets (point_count M) k)) ≤ count (same_list b) (subsets (point_count M) k) = count_filter (same_list b) (is_representative before (image M) (full_maps M)) (subsets (point_count M) k) in
              omega (arith, counted, once, fewer)

  count_listed : (ks : List ℕ) (b : List ℕ) → AreDistinct ks → count (is_of b) (flat_map of_size ks) ≤ one (list_any (λ k. eqb k (length b)) ks)
  count_listed [] b d = omega arith
  count_listed (k ∷ ks) b d =
      let split = count-append (is_of b) (of_size k) (flat_map of_size ks) in
      let here = count_size b k in
      let rest = count_listed ks b d.1 in
      go (eqb k (length b)) (list_any (λ k. eqb k (length b)) ks) (count (is_of b) (flat_map of_size (k ∷ ks)))
      (λ h t. let j = any_gives (λ k. eqb k (length b)) ks t in d.0 (subst (In ks) (eqb-true j.0 (length b) j.2 ∙ sym (eqb-true k (length b) h)) j.1))
      (omega (arith, split, here, rest))
    where
      go : (s t : Bool) (n : ℕ) → (s ≡ true → t ≡ true → ⊥) → n ≤ one s + one t → n ≤ one (s || t)
      go true true n f l = absurd (f refl refl)
      go true false n f l = omega (arith, l)
      go false true n f l = omega (arith, l)
      go false false n f l = omega (arith, l)

  module _ (items new : List Orbit) (same : map shown items ≡ flat_map of_size sizes) (perm : IsPermutation items new) (distinct : AreDistinct sizes) where
    abbrev blocks : List (List ℕ)
    blocks = map (λ (o : Orbit). o.block) new

    in_new : (o : Orbit) → In new o → IsListedOrbit (shown o)
    in_new o i = let p = In_place new o o i in subst (λ x. IsListedOrbit (shown x)) p.2 (all p.0 o p.1)
      where
        all : All (λ o. IsListedOrbit (shown o)) new
        all = All-permutation (λ o. IsListedOrbit (shown o)) items new perm (λ k d h. orbit_is_listed (shown (get_or items k d)) (subst (λ l. In l (shown (get_or items k d))) same (In-map shown items (get_or items k d) (In-get_or items k d h))))

    counted : (b : List ℕ) → count (same_list b) blocks ≡ count (is_of b) (flat_map of_size sizes)
    counted b =
        count-map (same_list b) (λ (o : Orbit). o.block) new ∙ count_permuted (λ (o : Orbit). same_list b o.block) items new perm
        ∙ sym (count-map (is_of b) shown items) ∙ ap (count (is_of b)) same

    at_most_once : (b : List ℕ) → count (same_list b) blocks ≤ 1
    at_most_once b = let l = count_listed sizes b distinct in let m = one_most (list_any (λ k. eqb k (length b)) sizes) in omega (arith, counted b, l, m)
      where
        one_most : (t : Bool) → one t ≤ 1
        one_most true = omega arith
        one_most false = omega arith

    blocks_sorted : ((i : ℕ) → i + 1 < length blocks → before (get_or blocks (i + 1) []) (get_or blocks i []) ≡ false) → IsSorted before blocks
    blocks_sorted steps = sorted_by_steps blocks (λ i l. rises i l (before (get_or blocks i []) (get_or blocks (i + 1) [])) refl)
      where
        rises : (i : ℕ) → i + 1 < length blocks → (t : Bool) → before (get_or blocks i []) (get_or blocks (i + 1) []) ≡ t → before (get_or blocks i []) (get_or blocks (i + 1) []) ≡ true
        rises i l true h = h
        rises i l false h = absurd (let e = lists_ordered.either (get_or blocks i []) (get_or blocks (i + 1) []) h (steps i l) in let two = twice blocks i l e in let most = at_most_once (get_or blocks i []) in omega (arith, two, most))

    blocks_are : ((i : ℕ) → i + 1 < length blocks → before (get_or blocks (i + 1) []) (get_or blocks i []) ≡ false) → blocks ≡ representatives_of M (candidates (point_count M) sizes)
    blocks_are steps =
        sorted_same before lists_ordered blocks (representatives_of M (candidates (point_count M) sizes)) (blocks_sorted steps) (members_sorted M A sizes)
        (λ b i. let o = In-map_gives (λ (o : Orbit). o.block) new b i in subst (In (representatives_of M (candidates (point_count M) sizes))) o.2 (in_new o.0 o.1).1)
        (λ b i. let n = listed b i in
        let some = count_some (is_of b) (flat_map of_size sizes) (b, n.0) n.1 (same_list-self b) in
        let found = count_gives (same_list b) blocks (omega (arith, some, counted b)) in
        subst (In blocks) (sym (same_list-gives b found.0 found.2)) found.1)

    -- the found orbits in the order of their blocks are the orbits of all sizes
    pub sized_orbits_found : ((i : ℕ) → i + 1 < length blocks → before (get_or blocks (i + 1) []) (get_or blocks i []) ≡ false) → map shown new ≡ block_orbits M sizes
    sized_orbits_found steps =
        map_agree shown (λ (o : Orbit). (o.block, orbit_size_in M (candidates (point_count M) sizes) o.block)) new (λ o i. ap (λ (n : ℕ). (o.block, n)) (in_new o i).0)
        ∙ sym (map-map (λ b. (b, orbit_size_in M (candidates (point_count M) sizes) b)) (λ (o : Orbit). o.block) new)
        ∙ ap (map (λ b. (b, orbit_size_in M (candidates (point_count M) sizes) b))) (blocks_are steps)
