-- The blocks of a vector's design are the images of its base blocks.
use Rattle.std.proofs.Common.{◌≡◌, ℕ, ◌<◌, Bool, true, false, List, [], ◌∷◌, filter, map, length, Option, None, Some, refl, sym, ap, ◌∙◌, subst, inl, inr, ◌⊎◌, ⊎_elim, arith}
use Rattle.std.specs.List.{range_with_len}
use Rattle.std.proofs.lemmas.Bool.{false≢true}
use Rattle.df_lists.specs.Membership.{In}
use Rattle.df_lists.specs.NumberSets.{IsSet}
use Rattle.df_lists.specs.Orders.{IsOrder, IsSorted}
use Rattle.df_lists.proofs.MemberLaws.{In-filter, In-filter_gives, In-map_gives, In-range_gives}
use Rattle.df_lists.proofs.SortedLists.{sorted-filter}
use Rattle.df_lists.proofs.TestLaws.{any_from, any_gives}
use Rattle.df_subsets.specs.Blocks.{before}
use Rattle.df_subsets.specs.Subsets.{same_list}
use Rattle.df_subsets.specs.SubsetLaws.{CandidatesAreAll}
use Rattle.df_acting.proofs.OrbitLaws.{one_orbit_from, one_orbit_gives}
use Rattle.df_maps.proofs.SpreadLaws.{lists_equal}
use Rattle.df_maps.specs.FullMaps.{MapGroup, full_maps, image, map_number}
use Rattle.df_maps.specs.Laws.{AreGroup}
use Rattle.df_lang.specs.Problems.{Stated, point_count}
use Rattle.df_kramer_mesner.specs.OrbitSystems.{maps_of_problem, all_blocks, in_one_orbit, has_in_orbit, orbits_of, columns_of, is_kept}
use Rattle.df_kramer_mesner.proofs.ProblemMaps.{blocks_group, blocks_spread}
use Rattle.df_acting.specs.Representatives.{is_representative}
use Rattle.df_families.specs.Families.{picked}
use Rattle.df_families.proofs.FamilyLists.{picked_inside}
use Rattle.df_correspondence.specs.Designs.{design}
use Rattle.df_design.specs.declared.blocks.TheConstants.{READY}
use Rattle.df_design.specs.LeftBlocks.{is_after, blocks_after, IsSettled, IsImageAfter, AreGathered, Begins}
use Rattle.df_design.proofs.ReadyBlocks.{begins, no_rest}

pub design_sorted : CandidatesAreAll → (s : Stated) (x : List Bool) → IsSorted before (design s x)
design_sorted all s x = sorted-filter before (has_in_orbit s (picked (columns_of s) x)) (all_blocks s) (all (point_count s) s.sizes).sorted

-- a full map has a number
pub map_numbered : (M : MapGroup) → AreGroup M → (g : ℕ × ℕ) → In (full_maps M) g → (j : ℕ) × (j < length (full_maps M)) × (map_number M j ≡ g)
map_numbered M A g i =
    let r = In-map_gives (map_number M) (range_with_len 0 (length (full_maps M))) g (subst (λ maps. In maps g) A.numbered i) in
    (r.0, omega (arith, (In-range_gives 0 (length (full_maps M)) r.0 r.1).1), r.2)

module _ (s : Stated) (A : AreGroup (maps_of_problem s)) (x : List Bool) where
  abbrev M : MapGroup
  M = maps_of_problem s

  -- a base block is one of all blocks
  pub base_listed : (c : List ℕ) → In (picked (columns_of s) x) c → In (all_blocks s) c
  base_listed c i =
      (In-filter_gives (is_representative before (image (maps_of_problem s)) (full_maps (maps_of_problem s))) (all_blocks s) c
      (In-filter_gives (is_kept s) (orbits_of s) c (picked_inside (columns_of s) x c i)).0).0

  pub base_set : (c : List ℕ) → In (picked (columns_of s) x) c → IsSet (point_count s) c
  base_set c i = (blocks_spread s A).inside c (base_listed c i)

  -- an image of a base block after the last one is one of the design's blocks after it
  pub image_left : (last : Option (List ℕ)) (c y : List ℕ) → In (picked (columns_of s) x) c → IsImageAfter (maps_of_problem s) c last y → In (blocks_after s x last) y
  image_left last c y i h =
      let listed = subst (In (all_blocks s)) h.image_is ((blocks_spread s A).moves h.map h.full c (base_listed c i)) in
      let orbit = one_orbit_from same_list (image M) (IsSet (point_count s)) (full_maps M) lists_equal (blocks_group s A) h.map c y h.full h.image_is in
      In-filter (is_after last) (design s x) y (In-filter (has_in_orbit s (picked (columns_of s) x)) (all_blocks s) y listed (any_from (λ c. in_one_orbit s c y) (picked (columns_of s) x) c i orbit)) h.after

  -- and each of these is such an image
  pub left_image : (last : Option (List ℕ)) (y : List ℕ) → In (blocks_after s x last) y → (c : List ℕ) × In (picked (columns_of s) x) c × IsImageAfter (maps_of_problem s) c last y
  left_image last y i =
      let here = In-filter_gives (is_after last) (design s x) y i in
      let orbit = In-filter_gives (has_in_orbit s (picked (columns_of s) x)) (all_blocks s) y here.0 in
      let c = any_gives (λ c. in_one_orbit s c y) (picked (columns_of s) x) orbit.1 in
      let g = one_orbit_gives same_list (image M) (IsSet (point_count s)) (full_maps M) lists_equal (blocks_group s A) c.0 y c.2 in
      (c.0, c.1, record { map = g.0; full = g.1; image_is = g.2; after = here.1 })

  -- with no base block left, what is ready begins the design's blocks after the last one
  pub gathered : IsOrder before → CandidatesAreAll → (last : Option (List ℕ)) (ready : List (List ℕ)) → AreGathered s x last ready [] → Begins (blocks_after s x last) ready
  gathered O all last ready h =
      let sorted = sorted-filter before (is_after last) (design s x) (design_sorted all s x) in
      let start = begins O (blocks_after s x last) ready sorted h.sorted h.found (λ y i. earlier y (settled y i)) in
      record { rest = start.0; joined = start.1; whole = λ l. no_rest O (blocks_after s x last) ready start.0 sorted start.1 (λ y i. here y l (settled y i)) }
    where
      settled : (y : List ℕ) → In (blocks_after s x last) y → IsSettled ready y
      settled y i = let r = left_image last y i in ⊎_elim (λ none. absurd none) (λ f. f y r.2) (h.met r.0 r.1)

      earlier : (y : List ℕ) → IsSettled ready y → In ready y ⊎ ((z : List ℕ) → In ready z → before z y ≡ true)
      earlier y (inl i) = inl i
      earlier y (inr f) = inr f.1

      -- where fewer are ready than there may be, a block that is settled is ready
      here : (y : List ℕ) → length ready < READY → IsSettled ready y → In ready y
      here y l (inl i) = i
      here y l (inr f) = absurd (omega (arith, l, f.0))

  -- one base block more
  pub gather_more : (last : Option (List ℕ)) (ready new : List (List ℕ)) (c : List ℕ) (left : List (List ℕ)) → AreGathered s x last ready (c ∷ left)
      → IsSorted before new
      → ((z : List ℕ) → In new z → In ready z ⊎ IsImageAfter (maps_of_problem s) c last z)
      → ((z : List ℕ) → IsImageAfter (maps_of_problem s) c last z → IsSettled new z)
      → ((z : List ℕ) → IsSettled ready z → IsSettled new z)
      → AreGathered s x last new left
  gather_more last ready new c left h sorted inside images still = record {
    sorted = sorted;
    inside = λ d i. h.inside d (inr i);
    found = λ y i. ⊎_elim (λ j. h.found y j) (λ k. image_left last c y (h.inside c (inl refl)) k) (inside y i);
    met = λ d i. ⊎_elim (λ j. there d j) (λ f. inr (λ y k. still y (f y k))) (h.met d i);
  }
    where
      there : (d : List ℕ) → In (c ∷ left) d → In left d ⊎ ((y : List ℕ) → IsImageAfter (maps_of_problem s) d last y → IsSettled new y)
      there d (inl e) = inr (λ y k. images y (subst (λ b. IsImageAfter (maps_of_problem s) b last y) (sym e) k))
      there d (inr j) = inl j
