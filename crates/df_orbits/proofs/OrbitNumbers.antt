-- Where the representative of a block's orbit stands among all representatives.
use Rattle.std.proofs.Common.{◌≡◌, ℕ, suc, zero, ◌+◌, ◌<◌, ◌≤◌, Bool, true, false, ◌||◌, List, [], ◌∷◌, length, get_or, refl, sym, ap, ◌∙◌, subst, inl, inr, ◌⊎◌, arith, eqb, eq-eqb, eqb-true, ⊎_elim, slice_get, Some}
use Rattle.std.proofs.lemmas.Option.{slice_get-get_or, get_or_from_slice_get, slice_get_within}
use Rattle.std.proofs.lemmas.Bool.{both_ways, cases_order, cases_lt, false_from_ne_true}
use Rattle.df_lists.specs.Membership.{In}
use Rattle.df_lists.specs.NumberSets.{IsSet}
use Rattle.df_lists.proofs.MemberLaws.{In-filter, In-filter_gives}
use Rattle.df_subsets.specs.Blocks.{before}
use Rattle.df_lists.specs.Orders.{IsSorted}
use Rattle.df_subsets.specs.Subsets.{points, subsets, candidates, nonempty, same_list, place_of}
use Rattle.df_subsets.proofs.BlockOrders.{lists_ordered}
use Rattle.df_subsets.proofs.SubsetLists.{same_list-gives, same_list-self}
use Rattle.df_subsets.proofs.SizedLists.{choose_is, candidates_sorted, candidates_have}
use Rattle.df_acting.specs.Orbits.{IsSpread}
use Rattle.df_acting.specs.Representatives.{is_representative}
use Rattle.df_lists.proofs.TestLaws.{same_tests, any_from, filter_agree}
use Rattle.df_lists.proofs.ListPlaces.{In-get_or, In-slice_get, In_place}
use Rattle.df_lists.proofs.SortedLists.{sorted-filter}
use Rattle.df_acting.proofs.RepresentativeLaws.{least_gives, least_same, least_least, least_once, representative_same}
use Rattle.df_maps.proofs.SpreadLaws.{lists_equal, candidates_spread}
use Rattle.df_maps.specs.FullMaps.{MapGroup, full_maps, image, point_count, carried}
use Rattle.df_maps.specs.Laws.{AreGroup}
use Rattle.df_orbits.specs.Orbits.{are_in_one_orbit, representatives_of, block_orbits, listed_representatives, representative_of}
use Rattle.df_orbits.proofs.FoundOrbits.{blocks_group}
use Rattle.df_orbits.proofs.ListedOrbits.{members_are}

-- the blocks of one size
pub one_size : (v k : ℕ) → subsets v k ≡ candidates v (k ∷ [])
one_size v k = choose_is (points v) k ∙ filter_agree (λ b. eqb k (length b)) (λ b. eqb k (length b) || false) ([] ∷ nonempty (points v)) (λ b i. or_none (eqb k (length b)))
  where
    or_none : (b : Bool) → b ≡ (b || false)
    or_none true = refl
    or_none false = refl

pub sorted_at : {X : Type 0} (earlier : X → X → Bool) (xs : List X) (i j : ℕ) (d : X) → IsSorted earlier xs → i < j → j < length xs → earlier (get_or xs i d) (get_or xs j d) ≡ true
sorted_at earlier [] i j d s h k = absurd (omega arith)
sorted_at earlier (x ∷ xs) i zero d s h k = absurd (omega arith)
sorted_at earlier (x ∷ xs) zero (suc j) d s h k = s.0 (get_or xs j d) (In-get_or xs j d (omega arith))
sorted_at earlier (x ∷ xs) (suc i) (suc j) d s h k = sorted_at earlier xs i j d s.1 (omega arith) (omega arith)

place_at : (F : List (List ℕ)) (i : ℕ) → IsSorted before F → i < length F → place_of (get_or F i []) F ≡ i
place_at [] i s h = absurd (omega arith)
place_at (x ∷ F) zero s h = rw (same_list-self x) refl
place_at (x ∷ F) (suc i) s h =
    let y = get_or F i [] in
    let differs : same_list y x ≡ false = false_from_ne_true (same_list y x) (λ t. both_ways (before x x) (lists_ordered.unlike x) (subst (λ z. before x z ≡ true) (same_list-gives y x t) (s.0 y (In-get_or F i [] (omega arith))))) in
    rw differs (ap suc (place_at F i s.1 (omega arith)))

-- in a sorted list a block stands at its place
pub place_is : (F : List (List ℕ)) (r : ℕ) (b : List ℕ) → IsSorted before F → slice_get F r ≡ Some b → r ≡ place_of b F
place_is F r b s at = sym (place_at F r s (slice_get_within F r b at)) ∙ ap (λ c. place_of c F) (get_or_from_slice_get F r b [] at)

pub places_found : (blocks : List (List ℕ)) → IsSorted before blocks → (i : ℕ) (b : List ℕ) → slice_get blocks i ≡ Some b → place_of b blocks ≡ i
places_found blocks s i b at = sym (place_is blocks i b s at)

-- a block that no image is earlier than is its own earliest image
pub own_representative : (M : MapGroup) → AreGroup M → (x : List ℕ) → IsSet (point_count M) x → is_representative before (image M) (full_maps M) x ≡ true → representative_of M x ≡ x
own_representative M A x x_set least =
    let g = least_gives same_list (image M) (IsSet (point_count M)) (full_maps M) lists_equal (blocks_group M A) before lists_ordered x x_set in
    let set = subst (IsSet (point_count M)) g.2 ((blocks_group M A).stays g.0 g.1 x x_set) in
    sym (least_once same_list (image M) (IsSet (point_count M)) (full_maps M) lists_equal (blocks_group M A) before lists_ordered x (representative_of M x) x_set set
    (least_same same_list (image M) (IsSet (point_count M)) (full_maps M) lists_equal (blocks_group M A) before lists_ordered x x_set) least
    (least_least same_list (image M) (IsSet (point_count M)) (full_maps M) lists_equal (blocks_group M A) before lists_ordered x x_set))

module _ (M : MapGroup) (A : AreGroup M) (sizes : List ℕ) where
  abbrev pub E : List (List ℕ)
  E = representatives_of M (candidates (point_count M) sizes)

  pub members_sorted : IsSorted before E
  members_sorted = sorted-filter before (is_representative before (image M) (full_maps M)) (candidates (point_count M) sizes) (candidates_sorted (point_count M) sizes)

  spread : IsSpread same_list (image M) (IsSet (point_count M)) (full_maps M) (candidates (point_count M) sizes)
  spread = candidates_spread (carried M) (point_count M) (full_maps M) A.group sizes

  pub member_own : (b : List ℕ) → In E b → representative_of M b ≡ b
  member_own b i =
      let parts = In-filter_gives (is_representative before (image M) (full_maps M)) (candidates (point_count M) sizes) b i in
      own_representative M A b (spread.inside b parts.0) parts.1

  module _ (b : List ℕ) (set : IsSet (point_count M) b) (sized : In sizes (length b)) where
    candidate : In (candidates (point_count M) sizes) b
    candidate = candidates_have (point_count M) sizes b set (any_from (λ k. eqb k (length b)) sizes (length b) sized (eq-eqb (length b) (length b) refl))

    pub least_in : In E (representative_of M b)
    least_in =
        let g = least_gives same_list (image M) (IsSet (point_count M)) (full_maps M) lists_equal (blocks_group M A) before lists_ordered b set in
        In-filter (is_representative before (image M) (full_maps M)) (candidates (point_count M) sizes) (representative_of M b) (subst (In (candidates (point_count M) sizes)) g.2 (spread.moves g.0 g.1 b candidate))
        (least_least same_list (image M) (IsSet (point_count M)) (full_maps M) lists_equal (blocks_group M A) before lists_ordered b set)

    pub member_alone : (c : List ℕ) → In E c → are_in_one_orbit M b c ≡ same_list (representative_of M b) c
    member_alone c i =
        let parts = In-filter_gives (is_representative before (image M) (full_maps M)) (candidates (point_count M) sizes) c i in
        representative_same same_list (image M) (IsSet (point_count M)) (full_maps M) lists_equal (blocks_group M A) before lists_ordered b c set (spread.inside c parts.0) ∙ ap (same_list (representative_of M b)) (member_own c i)

    pub number_exists : (r : ℕ) × (r < length E) × (get_or E r [] ≡ representative_of M b)
    number_exists = In_place E (representative_of M b) [] least_in

    -- the place before which all are earlier, and from which on none is
    pub number_found : (r : ℕ) → r ≤ length E → ((i : ℕ) → i < r → before (get_or E i []) (representative_of M b) ≡ true) → ((i : ℕ) → r ≤ i → i < length E → before (get_or E i []) (representative_of M b) ≡ false) → (r < length E) × (get_or E r [] ≡ representative_of M b)
    number_found r within below above =
        let p = In_place E (representative_of M b) [] least_in in
        go p.0 p.1 p.2 (cases_order r p.0)
      where
        go : (p : ℕ) → p < length E → get_or E p [] ≡ representative_of M b → (r ≡ p) ⊎ ((r < p) ⊎ (p < r)) → (r < length E) × (get_or E r [] ≡ representative_of M b)
        go p h e (inl same) = (omega (arith, h, same), ap (λ i. get_or E i []) same ∙ e)
        go p h e (inr (inl l)) = absurd (both_ways (before (get_or E r []) (representative_of M b)) (above r (omega arith) (omega (arith, h, l))) (subst (λ c. before (get_or E r []) c ≡ true) e (sorted_at before E r p [] members_sorted l h)))
        go p h e (inr (inr l)) = absurd (both_ways (before (representative_of M b) (representative_of M b)) (lists_ordered.unlike (representative_of M b)) (subst (λ c. before c (representative_of M b) ≡ true) e (below p l)))

    -- the block is in the orbit of that number and of no other
    pub number_alone : (r i : ℕ) → r < length E → get_or E r [] ≡ representative_of M b → i < length E → are_in_one_orbit M b (get_or E i []) ≡ eqb i r
    number_alone r i within at h =
        representative_same same_list (image M) (IsSet (point_count M)) (full_maps M) lists_equal (blocks_group M A) before lists_ordered b x set x_set
        ∙ ap (same_list (representative_of M b)) own
        ∙ same_tests (same_list (representative_of M b) x) (eqb i r)
        (λ s. eq-eqb i r (apart (at ∙ same_list-gives (representative_of M b) x s)))
        (λ s. subst (λ c. same_list (representative_of M b) c ≡ true) (sym at ∙ ap (λ j. get_or E j []) (sym (eqb-true i r s))) (same_list-self (representative_of M b)))
      where
        x : List ℕ
        x = get_or E i []

        x_in : In (candidates (point_count M) sizes) (get_or E i []) × (is_representative before (image M) (full_maps M) (get_or E i []) ≡ true)
        x_in = In-filter_gives (is_representative before (image M) (full_maps M)) (candidates (point_count M) sizes) (get_or E i []) (In-get_or E i [] h)

        x_set : IsSet (point_count M) (get_or E i [])
        x_set = spread.inside (get_or E i []) x_in.0

        own : representative_of M (get_or E i []) ≡ get_or E i []
        own = own_representative M A (get_or E i []) x_set x_in.1

        apart : get_or E r [] ≡ get_or E i [] → i ≡ r
        apart e = go (cases_order i r)
          where
            go : (i ≡ r) ⊎ ((i < r) ⊎ (r < i)) → i ≡ r
            go (inl s) = s
            go (inr (inl l)) = absurd (both_ways (before (get_or E i []) (get_or E i [])) (lists_ordered.unlike (get_or E i [])) (subst (λ c. before (get_or E i []) c ≡ true) e (sorted_at before E i r [] members_sorted l within)))
            go (inr (inr l)) = absurd (both_ways (before (get_or E i []) (get_or E i [])) (lists_ordered.unlike (get_or E i [])) (subst (λ c. before c (get_or E i []) ≡ true) e (sorted_at before E r i [] members_sorted l h)))

-- where a search ends: the number, its representative, and the orbit alone
abbrev pub Ends : MapGroup → List ℕ → List (List ℕ) → ℕ → Type 0
Ends M b F r =
    r ≤ length F → ((i : ℕ) → i < r → before (get_or F i []) (representative_of M b) ≡ true) → ((i : ℕ) → r ≤ i → i < length F → before (get_or F i []) (representative_of M b) ≡ false)
    → (r < length F) × (slice_get F r ≡ Some (representative_of M b)) × ((i : ℕ) (x : List ℕ) → slice_get F i ≡ Some x → are_in_one_orbit M b x ≡ eqb i r)

pub search_ends : (M : MapGroup) → AreGroup M → (sizes : List ℕ) (b : List ℕ) → IsSet (point_count M) b → In sizes (length b) → (now : List (List ℕ × ℕ)) → now ≡ block_orbits M sizes → (r : ℕ) → Ends M b (listed_representatives now) r
search_ends M A sizes b set sized now is r = subst (λ F. Ends M b F r) (sym (ap listed_representatives is ∙ members_are M (candidates (point_count M) sizes))) ends
  where
    ends : Ends M b (representatives_of M (candidates (point_count M) sizes)) r
    ends within below above =
        let found = number_found M A sizes b set sized r within below above in
        let F = representatives_of M (candidates (point_count M) sizes) in (
          found.0,
          slice_get-get_or F r [] found.0 ∙ ap Some found.1,
          λ i x h. subst (λ y. are_in_one_orbit M b y ≡ eqb i r) (get_or_from_slice_get F i x [] h) (number_alone M A sizes b set sized r i found.0 found.1 (slice_get_within F i x h)),
        )

pub listed_sorted : (M : MapGroup) → AreGroup M → (sizes : List ℕ) (now : List (List ℕ × ℕ)) → now ≡ block_orbits M sizes → IsSorted before (listed_representatives now)
listed_sorted M A sizes now is = subst (IsSorted before) (sym (ap listed_representatives is ∙ members_are M (candidates (point_count M) sizes))) (members_sorted M A sizes)

-- a block that stands among the representatives is its own
pub listed_own : (M : MapGroup) → AreGroup M → (sizes : List ℕ) (now : List (List ℕ × ℕ)) → now ≡ block_orbits M sizes → (i : ℕ) (b : List ℕ) → slice_get (listed_representatives now) i ≡ Some b → representative_of M b ≡ b
listed_own M A sizes now is i b at = member_own M A sizes b (subst (λ F. In F b) (ap listed_representatives is ∙ members_are M (candidates (point_count M) sizes)) (In-slice_get (listed_representatives now) i b at))

-- the halves of a search
pub half_below : (E : List (List ℕ)) (x : List ℕ) (middle : ℕ) → IsSorted before E → middle < length E → before (get_or E middle []) x ≡ true → (i : ℕ) → i < middle + 1 → before (get_or E i []) x ≡ true
half_below E x middle s h less i l =
    ⊎_elim (λ k. lists_ordered.onward (get_or E i []) (get_or E middle []) x (sorted_at before E i middle [] s k h) less) (λ k. let e : middle ≡ i = omega (arith, k, l) in subst (λ j. before (get_or E j []) x ≡ true) e less) (cases_lt i middle)

pub half_above : (E : List (List ℕ)) (x : List ℕ) (middle : ℕ) → IsSorted before E → before (get_or E middle []) x ≡ false → (i : ℕ) → middle ≤ i → i < length E → before (get_or E i []) x ≡ false
half_above E x middle s more i l h =
    false_from_ne_true (before (get_or E i []) x) (λ k. ⊎_elim
    (λ m. both_ways (before (get_or E middle []) x) more (lists_ordered.onward (get_or E middle []) (get_or E i []) x (sorted_at before E middle i [] s m h) k))
    (λ m. let e : i ≡ middle = omega (arith, m, l) in both_ways (before (get_or E middle []) x) more (subst (λ j. before (get_or E j []) x ≡ true) e k))
    (cases_lt middle i))
