-- What is kept of the orbits, told of the problem.
use Rattle.std.proofs.Common.{◌≡◌, ℕ, ◌<◌, ◌≤◌, List, [], length, sym, ap, ◌∙◌, subst, arith, get_or}
use Rattle.std.proofs.lemmas.List.{length-map, get_or_read, get_or-map}
use Rattle.df_lists.specs.Membership.{In}
use Rattle.df_lang.specs.Problems.{Stated, point_count}
use Rattle.df_subsets.specs.Blocks.{before}
use Rattle.df_kramer_mesner.specs.Laws.{NumbersAreFew, EntriesAreQuotients, IsPair}
use Rattle.df_acting.specs.Representatives.{is_representative}
use Rattle.df_maps.specs.FullMaps.{full_maps, image, carried}
use Rattle.df_lists.specs.NumberSets.{IsSet}
use Rattle.df_lists.proofs.MemberLaws.{In-filter_gives, count_some}
use Rattle.df_lists.proofs.ListTotals.{count_whole}
use Rattle.df_lists.proofs.ListPlaces.{In-get_or}
use Rattle.df_subsets.specs.Subsets.{same_list}
use Rattle.df_acting.proofs.OrbitLaws.{one_orbit_self}
use Rattle.df_acting.proofs.ImageLaws.{image_group}
use Rattle.df_maps.proofs.SpreadLaws.{lists_equal}
use Rattle.df_maps.specs.FullMaps.{MapGroup}
use Rattle.df_orbits.specs.Orbits.{listed_representatives, orbit_sizes}
use Rattle.df_orbits.proofs.ListedOrbits.{members_are, sizes_are}
use Rattle.df_kramer_mesner.specs.OrbitSystems.{maps_of_problem, in_one_orbit, all_pairs, all_blocks, pairs_of, orbits_of, pair_at, orbit_at, row_size, orbit_size}
use Rattle.df_matrix.specs.MatrixParts.{AreOrbits}

-- the two points of a pair, as they are read
pub read_first : (v r : ℕ) (xs pair : List ℕ) → IsPair v pair → xs ≡ pair → r ≡ get_or xs 0 r → r ≡ get_or pair 0 0
read_first v r xs pair P e h = get_or_read xs 0 r (omega (arith, ap length (e ∙ P.points))) h 0 ∙ ap (λ l. get_or l 0 0) e

pub read_second : (v r : ℕ) (xs pair : List ℕ) → IsPair v pair → xs ≡ pair → r ≡ get_or xs 1 r → r ≡ get_or pair 1 0
read_second v r xs pair P e h = get_or_read xs 1 r (omega (arith, ap length (e ∙ P.points))) h 0 ∙ ap (λ l. get_or l 1 0) e

-- what is kept is of the problem that is shown
pub shown : {s t : Stated} {maps : MapGroup} {pairs : List (List ℕ × ℕ)} {numbers : MapGroup} {blocks : List (List ℕ × ℕ)} → s ≡ t → AreOrbits s maps pairs numbers blocks → AreOrbits t maps pairs numbers blocks
shown {maps = maps} {pairs = pairs} {numbers = numbers} {blocks = blocks} e K = subst (λ s. AreOrbits s maps pairs numbers blocks) e K

module _ (s : Stated) {maps : MapGroup} {pairs : List (List ℕ × ℕ)} {numbers : MapGroup} {blocks : List (List ℕ × ℕ)} (K : AreOrbits s maps pairs numbers blocks) where
  pub pairs_listed : listed_representatives pairs ≡ pairs_of s
  pairs_listed = ap listed_representatives K.pairs_are ∙ members_are (maps_of_problem s) (all_pairs s)

  pub blocks_listed : listed_representatives blocks ≡ orbits_of s
  blocks_listed = ap listed_representatives K.orbits_are ∙ members_are (maps_of_problem s) (all_blocks s)

  pub pairs_long : length pairs ≡ length (pairs_of s)
  pairs_long = sym (length-map pairs (λ (c : List ℕ × ℕ). c.0)) ∙ ap length pairs_listed

  pub blocks_long : length blocks ≡ length (orbits_of s)
  blocks_long = sym (length-map blocks (λ (c : List ℕ × ℕ). c.0)) ∙ ap length blocks_listed

  pub orbits_few : length (orbits_of s) ≤ 8000000
  orbits_few =
      let few : length (orbits_of s) ≤ length (all_blocks s) = count_whole (is_representative before (image (maps_of_problem s)) (full_maps (maps_of_problem s))) (all_blocks s) in
      omega (arith, few, K.few)

  pub row_sized : (i n : ℕ) → n ≡ get_or (orbit_sizes pairs) i 0 → i < length (pairs_of s) → n ≡ row_size s (pair_at s i)
  row_sized i n h k = h ∙ ap (λ l. get_or l i 0) (ap orbit_sizes K.pairs_are ∙ sizes_are (maps_of_problem s) (all_pairs s)) ∙ get_or-map (row_size s) (pairs_of s) i [] 0 k

  pub orbit_sized : (i n : ℕ) → n ≡ get_or (orbit_sizes blocks) i 0 → i < length (orbits_of s) → n ≡ orbit_size s (orbit_at s i)
  orbit_sized i n h k = h ∙ ap (λ l. get_or l i 0) (ap orbit_sizes K.orbits_are ∙ sizes_are (maps_of_problem s) (all_blocks s)) ∙ get_or-map (orbit_size s) (orbits_of s) i [] 0 k

  -- a representative that is read among those of pairs
  pub row_at : (row : ℕ) (pair : List ℕ) → pair ≡ get_or (listed_representatives pairs) row [] → pair ≡ pair_at s row
  row_at row pair read = read ∙ ap (λ l. get_or l row []) pairs_listed

  pub row_pair : NumbersAreFew → (row : ℕ) (pair : List ℕ) → pair ≡ get_or (listed_representatives pairs) row [] → row < length (pairs_of s) → IsPair (point_count s) pair
  row_pair few row pair read h = subst (IsPair (point_count s)) (sym (row_at row pair read)) ((few s K.stated).pair (pair_at s row) (In-get_or (pairs_of s) row [] h))

  -- the representatives are blocks, and pairs
  pub orbit_member : (i : ℕ) → i < length (orbits_of s) → In (all_blocks s) (orbit_at s i)
  orbit_member i h = (In-filter_gives (is_representative before (image (maps_of_problem s)) (full_maps (maps_of_problem s))) (all_blocks s) (orbit_at s i) (In-get_or (orbits_of s) i [] h)).0

  pub row_member : (i : ℕ) → i < length (pairs_of s) → In (all_pairs s) (pair_at s i)
  row_member i h = (In-filter_gives (is_representative before (image (maps_of_problem s)) (full_maps (maps_of_problem s))) (all_pairs s) (pair_at s i) (In-get_or (pairs_of s) i [] h)).0

  -- a row has a pair
  pub row_some : EntriesAreQuotients → (i n : ℕ) → i < length (pairs_of s) → n ≡ row_size s (pair_at s i) → 0 < length (orbits_of s) → 0 < n
  row_some quotients i n h k some =
      let q = quotients s K.stated (orbit_at s 0) (pair_at s i) (orbit_member 0 some) (row_member i h) in
      omega (arith, q.some, k)

  -- an orbit has one of its blocks
  pub orbit_some : NumbersAreFew → (i : ℕ) → i < length (orbits_of s) → 0 < orbit_size s (orbit_at s i)
  orbit_some few i h =
      let b = orbit_at s i in
      let set = ((few s K.stated).orbit b (In-get_or (orbits_of s) i [] h)).set in
      let M = maps_of_problem s in
      count_some (λ c. in_one_orbit s c b) (all_blocks s) b (orbit_member i h) (one_orbit_self same_list (image M) (IsSet (point_count s)) (full_maps M) lists_equal (image_group (carried M) (point_count s) (full_maps M) K.group.group) b set)
