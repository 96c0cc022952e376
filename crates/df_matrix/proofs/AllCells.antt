-- The cells of an orbit in all rows, and whether it is kept.
use Rattle.std.proofs.Common.{◌≡◌, ℕ, ◌+◌, ◌<◌, ◌≤◌, ◌&&◌, Bool, true, false, cond, not, map, ◌++◌, List, [], ◌∷◌, length, get_or, refl, sym, ap, ◌∙◌, subst, arith, Some, slice_get, nat_le, append-nil, Option, None, is_some, IfSome, IsNone}
use Rattle.std.specs.List.{list_all}
use Rattle.std.proofs.lemmas.List.{length-map, get_or_append_left}
use Rattle.std.proofs.lemmas.Option.{slice_get-get_or}
use Rattle.df_lists.specs.Membership.{In}
use Rattle.df_lists.specs.Orders.{IsSorted}
use Rattle.df_lists.proofs.MemberLaws.{In-filter_gives}
use Rattle.df_lists.proofs.ListPlaces.{In-slice_get}
use Rattle.df_lists.proofs.SortedLists.{sorted-filter}
use Rattle.df_subsets.specs.Blocks.{before}
use Rattle.df_subsets.specs.Subsets.{same_list, place_of}
use Rattle.df_subsets.specs.SubsetLaws.{AreOrdered, CandidatesAreAll}
use Rattle.df_acting.specs.Representatives.{is_representative}
use Rattle.df_maps.specs.FullMaps.{full_maps, image}
use Rattle.df_lang.specs.Problems.{Stated, point_count}
use Rattle.df_system.specs.Storage.{positive_cells}
use Rattle.df_system.proofs.PositiveCells.{positive_cells-append}
use Rattle.df_kramer_mesner.specs.OrbitSystems.{maps_of_problem, all_blocks, has_in_orbit, pairs_of, orbits_of, needed_of, orbit_cover, needed_entry, pair_target, entries_of, targets_of, columns_of, is_kept, column_number, cells_of, orbit_at}
use Rattle.df_kramer_mesner.specs.Laws.{AreNumbered}
use Rattle.df_matrix.specs.MatrixParts.{pair_cells, needed_places, kept_places}
use Rattle.df_matrix.proofs.CellTests.{all_within, within_append, within_cells, within_ones}
use Rattle.df_matrix.proofs.NeededCells.{no_own_row, own_row}
use Rattle.df_matrix.proofs.PlaceLists.{block_at_place, place_listed, place_passes}

orbits_sorted : CandidatesAreAll → (s : Stated) → IsSorted before (orbits_of s)
orbits_sorted all s = sorted-filter before (is_representative before (image (maps_of_problem s)) (full_maps (maps_of_problem s))) (all_blocks s) (all (point_count s) s.sizes).sorted

needed_sorted : CandidatesAreAll → (s : Stated) → IsSorted before (needed_of s)
needed_sorted all s = sorted-filter before (has_in_orbit s s.required) (orbits_of s) (orbits_sorted all s)

module _ (s : Stated) (orbit : ℕ) where
  abbrev b : List ℕ
  b = orbit_at s orbit

  both : cells_of s b ≡ pair_cells s b ++ positive_cells (length (pairs_of s)) (map (needed_entry b) (needed_of s))
  both = positive_cells-append 0 (map (orbit_cover s b) (pairs_of s)) (map (needed_entry b) (needed_of s)) ∙ ap (λ m. pair_cells s b ++ positive_cells m (map (needed_entry b) (needed_of s))) {x = 0 + length (map (orbit_cover s b) (pairs_of s))} {y = length (pairs_of s)} (omega (arith, length-map (pairs_of s) (orbit_cover s b)))

  -- an orbit with a required block has a row of its own
  pub cells_own : AreOrdered → CandidatesAreAll → orbit < length (orbits_of s) → (place : ℕ) → slice_get (needed_places s) place ≡ Some orbit → cells_of s b ≡ pair_cells s b ++ record { row = length (pairs_of s) + place; value = 1 } ∷ []
  cells_own O all h place at =
      both ∙ ap (λ l. pair_cells s b ++ l) (own_row O.equality O.order b (length (pairs_of s)) place (needed_of s) (needed_sorted all s) (block_at_place (has_in_orbit s s.required) (orbits_of s) place orbit at ∙ slice_get-get_or (orbits_of s) orbit [] h))

  -- and another has none
  pub cells_others : AreOrdered → orbit < length (orbits_of s) → (In (needed_places s) orbit → ⊥) → cells_of s b ≡ pair_cells s b
  cells_others O h none =
      both ∙ ap (λ l. pair_cells s b ++ l) (no_own_row O.equality O.order b (length (pairs_of s)) (needed_of s) (λ c i e. none (place_listed (has_in_orbit s s.required) (orbits_of s) orbit h (subst (λ d. has_in_orbit s s.required d ≡ true) (sym e) (In-filter_gives (has_in_orbit s s.required) (orbits_of s) c i).1))))
      ∙ append-nil (pair_cells s b)

  and_true : (t : Bool) → (t && true) ≡ t
  and_true true = refl
  and_true false = refl

  ones : (needed : List ℕ) → needed_entry b needed ≤ 1
  ones needed = elim (same_list b needed) as (λ t. cond t 1 0 ≤ 1) [ true ↦ omega arith | false ↦ omega arith ]

  -- no entry is above its target exactly where no positive entry in a row of pairs is
  within_pairs : all_within (entries_of s b) (targets_of s) ≡ list_all (λ cell. nat_le cell.value (get_or (targets_of s) cell.row 0)) (pair_cells s b)
  within_pairs =
      let same = length-map (pairs_of s) (orbit_cover s b) ∙ sym (length-map (pairs_of s) (pair_target s)) in
      within_append (map (orbit_cover s b) (pairs_of s)) (map (needed_entry b) (needed_of s)) (map (pair_target s) (pairs_of s)) (map (λ needed. 1) (needed_of s)) same
      ∙ ap (λ t. all_within (map (orbit_cover s b) (pairs_of s)) (map (pair_target s) (pairs_of s)) && t) (within_ones (needed_entry b) (needed_of s) ones)
      ∙ and_true (all_within (map (orbit_cover s b) (pairs_of s)) (map (pair_target s) (pairs_of s)))
      ∙ within_cells (targets_of s) (map (orbit_cover s b) (pairs_of s)) (map (pair_target s) (pairs_of s)) 0 same
      (λ i h. ap (λ k. get_or (targets_of s) k 0) {x = 0 + i} {y = i} (omega arith) ∙ get_or_append_left (map (pair_target s) (pairs_of s)) (map (λ needed. 1) (needed_of s)) 0 i h)

  pub kept_is : has_in_orbit s s.forbidden b ≡ false → list_all (λ cell. nat_le cell.value (get_or (targets_of s) cell.row 0)) (pair_cells s b) ≡ is_kept s b
  kept_is allowed = sym within_pairs ∙ sym (ap (λ t. all_within (entries_of s b) (targets_of s) && not t) allowed ∙ and_true (all_within (entries_of s b) (targets_of s)))

-- a number is found among the kept ones exactly where its orbit is kept
found : (s : Stated) (numbers : List ℕ) (orbit : ℕ) (result : Option ℕ) → IfSome result (λ place. slice_get numbers place ≡ Some orbit) → (IsNone result → In numbers orbit → ⊥) → numbers ≡ kept_places s → orbit < length (orbits_of s) → is_some result ≡ is_kept s (orbit_at s orbit)
found s numbers orbit (Some place) some none are h = sym (place_passes (is_kept s) (orbits_of s) orbit (In-slice_get (kept_places s) place orbit (ap (λ l. slice_get l place) (sym are) ∙ some))).1
found s numbers orbit None some none are h = go (is_kept s (orbit_at s orbit)) refl
  where
    go : (t : Bool) → is_kept s (orbit_at s orbit) ≡ t → false ≡ is_kept s (orbit_at s orbit)
    go false e = sym e
    go true e = absurd (none refl (subst (λ l. In l orbit) (sym are) (place_listed (is_kept s) (orbits_of s) orbit h e)))

-- what is found among the kept ones is the number of the orbit's column
pub number_found : (s : Stated) → AreNumbered s → (numbers : List ℕ) (orbit : ℕ) (result : Option ℕ) → IfSome result (λ place. slice_get numbers place ≡ Some orbit) → (IsNone result → In numbers orbit → ⊥) → numbers ≡ kept_places s → orbit < length (orbits_of s) → result ≡ column_number s (orbit_at s orbit)
number_found s N numbers orbit (Some place) some none are h =
    let at : slice_get (kept_places s) place ≡ Some orbit = ap (λ l. slice_get l place) (sym are) ∙ some in
    sym (N.column place (orbit_at s orbit) (block_at_place (is_kept s) (orbits_of s) place orbit at ∙ slice_get-get_or (orbits_of s) orbit [] h))
number_found s N numbers orbit None some none are h =
    ap (λ t. cond t (Some (place_of (orbit_at s orbit) (columns_of s))) None) (found s numbers orbit None some none are h)
