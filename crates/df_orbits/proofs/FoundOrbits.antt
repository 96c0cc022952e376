-- Representatives, found one place after another.
use Rattle.std.proofs.Common.{◌≡◌, ℕ, ◌+◌, ◌<◌, Bool, true, false, not, cond, ◌||◌, ◌++◌, filter, List, [], ◌∷◌, length, get_or, take, drop, sym, ap, ◌∙◌, subst, ⊎_elim, append-nil}
use Rattle.std.proofs.lemmas.Bool.{not_from_false, not_from_true, or_left, or_cases}
use Rattle.std.proofs.lemmas.List.{take_more, take-append-drop, drop_more}
use Rattle.std.proofs.lemmas.List.Elements.{filter-append}
use Rattle.std.specs.List.{list_any}
use Rattle.df_lists.specs.Membership.{In, count}
use Rattle.df_lists.specs.NumberSets.{IsSet}
use Rattle.df_lists.proofs.MemberLaws.{In-append_left}
use Rattle.df_lists.proofs.ListTotals.{count_agree}
use Rattle.df_subsets.specs.Blocks.{before}
use Rattle.df_lists.specs.Orders.{IsSorted}
use Rattle.df_subsets.specs.Subsets.{subsets, same_list}
use Rattle.df_subsets.proofs.BlockOrders.{lists_ordered, subsets_sorted}
use Rattle.df_acting.specs.Orbits.{IsMapGroup, IsSpread}
use Rattle.df_acting.specs.Representatives.{is_representative}
use Rattle.df_lists.proofs.TestLaws.{same_tests, any_from, any_gives, any_take_more}
use Rattle.df_lists.proofs.ListPlaces.{In-get_or}
use Rattle.df_acting.proofs.OrbitLaws.{one_orbit_same, one_orbit_comm}
use Rattle.df_acting.proofs.RepresentativeLaws.{least_unmarked}
use Rattle.df_acting.proofs.ImageLaws.{image_group}
use Rattle.df_maps.proofs.SpreadLaws.{lists_equal, subsets_spread}
use Rattle.df_maps.specs.FullMaps.{MapGroup, full_maps, image, point_count, carried}
use Rattle.df_maps.specs.Laws.{AreGroup}
use Rattle.df_orbits.specs.Orbits.{are_in_one_orbit, orbit_size_in}

module _ (M : MapGroup) (A : AreGroup M) where
  pub blocks_group : IsMapGroup (image M) (IsSet (point_count M)) (full_maps M)
  blocks_group = image_group (carried M) (point_count M) (full_maps M) A.group

  pub spread : (k : ℕ) → IsSpread same_list (image M) (IsSet (point_count M)) (full_maps M) (subsets (point_count M) k)
  spread k = subsets_spread (carried M) (point_count M) (full_maps M) A.group k

  pub in_one_orbit_comm : (a b : List ℕ) → IsSet (point_count M) a → IsSet (point_count M) b → are_in_one_orbit M a b ≡ are_in_one_orbit M b a
  in_one_orbit_comm a b r s = one_orbit_comm same_list (image M) (IsSet (point_count M)) (full_maps M) lists_equal blocks_group a b r s

  -- the size of an orbit from one of its members, either way
  pub size_turned : (k : ℕ) (b : List ℕ) → IsSet (point_count M) b → count (are_in_one_orbit M b) (subsets (point_count M) k) ≡ orbit_size_in M (subsets (point_count M) k) b
  size_turned k b r = count_agree (are_in_one_orbit M b) (λ c. are_in_one_orbit M c b) (subsets (point_count M) k) (λ c i. in_one_orbit_comm b c r ((spread k).inside c i))

  module _ (k p : ℕ) (within : p < length (subsets (point_count M) k)) where
    abbrev L : List (List ℕ)
    L = subsets (point_count M) k

    abbrev x : List ℕ
    x = get_or (subsets (point_count M) k) p []

    abbrev done : List (List ℕ)
    done = take p (subsets (point_count M) k)

    abbrev least : List ℕ → Bool
    least b = is_representative before (image M) (full_maps M) b

    whole : L ≡ done ++ x ∷ drop (p + 1) L
    whole = sym (take-append-drop p L) ∙ ap (λ l. take p L ++ l) (drop_more L p [] within)

    in_done : (d : List ℕ) → In done d → In L d
    in_done d i = subst (λ l. In l d) (take-append-drop p L) (In-append_left (take p L) (drop p L) d i)

    inside : IsSet (point_count M) x
    inside = (spread k).inside x (In-get_or L p [] within)

    -- the block at a place is the earliest of its orbit exactly where no block before it is of its orbit
    least_is : least x ≡ not (list_any (λ d. are_in_one_orbit M d x) done)
    least_is = least_unmarked same_list (image M) (IsSet (point_count M)) (full_maps M) lists_equal blocks_group before lists_ordered done (drop (p + 1) L) x (subst (IsSorted before) whole (subsets_sorted (point_count M) k)) (subst (IsSpread same_list (image M) (IsSet (point_count M)) (full_maps M)) whole (spread k))

    -- a block whose orbit is marked marks nothing new
    pub covered : (y : List ℕ) → list_any (λ d. are_in_one_orbit M d x) done ≡ true → list_any (λ d. are_in_one_orbit M d y) (take (p + 1) L) ≡ list_any (λ d. are_in_one_orbit M d y) done
    covered y marked =
        any_take_more (λ d. are_in_one_orbit M d y) L p [] within
        ∙ same_tests (list_any (λ d. are_in_one_orbit M d y) done || are_in_one_orbit M x y) (list_any (λ d. are_in_one_orbit M d y) done)
        (λ h. ⊎_elim (λ e. e) (λ e. through e) (or_cases (list_any (λ d. are_in_one_orbit M d y) done) (are_in_one_orbit M x y) h))
        (λ h. or_left (list_any (λ d. are_in_one_orbit M d y) done) (are_in_one_orbit M x y) h)
      where
        through : are_in_one_orbit M x y ≡ true → list_any (λ d. are_in_one_orbit M d y) done ≡ true
        through e =
            let d = any_gives (λ d. are_in_one_orbit M d x) done marked in
            any_from (λ d. are_in_one_orbit M d y) done d.0 d.1 (sym (one_orbit_same same_list (image M) (IsSet (point_count M)) (full_maps M) lists_equal blocks_group d.0 x y ((spread k).inside d.0 (in_done d.0 d.1)) d.2) ∙ e)

    -- one more is marked
    pub marked_more : (y : List ℕ) → list_any (λ d. are_in_one_orbit M d y) (take (p + 1) L) ≡ (list_any (λ d. are_in_one_orbit M d y) done || are_in_one_orbit M x y)
    marked_more y = any_take_more (λ d. are_in_one_orbit M d y) L p [] within

    pub found_more : list_any (λ d. are_in_one_orbit M d x) done ≡ false → filter least (take (p + 1) L) ≡ filter least done ++ x ∷ []
    found_more free =
        let e : least x ≡ true = least_is ∙ not_from_false (list_any (λ d. are_in_one_orbit M d x) done) free in
        ap (filter least) (take_more L p [] within) ∙ filter-append least done (x ∷ []) ∙ ap (λ b. filter least done ++ cond b (x ∷ []) []) e

    pub found_same : list_any (λ d. are_in_one_orbit M d x) done ≡ true → filter least (take (p + 1) L) ≡ filter least done
    found_same marked =
        let e : least x ≡ false = least_is ∙ not_from_true (list_any (λ d. are_in_one_orbit M d x) done) marked in
        ap (filter least) (take_more L p [] within) ∙ filter-append least done (x ∷ []) ∙ ap (λ b. filter least done ++ cond b (x ∷ []) []) e ∙ append-nil (filter least done)
