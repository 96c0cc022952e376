-- The columns of an orbit system have positive entries.
use Rattle.std.proofs.Common.{◌≡◌, ℕ, ◌+◌, ◌<◌, ◌≤◌, true, false, cond, ◌&&◌, List, [], ◌∷◌, map, length, refl, sym, ◌∙◌, subst, inl, inr, arith}
use Rattle.std.specs.Prelude.{nat_lt}
use Rattle.std.specs.List.{AllByRecursion}
use Rattle.std.proofs.lemmas.Bool.{lt-ltb, and_from}
use Rattle.df_lists.specs.Membership.{In}
use Rattle.df_lists.specs.NumberSets.{has_member, IsSet, Rises}
use Rattle.df_lists.proofs.MemberLaws.{In-append_left, In-map, In-filter, In-filter_gives, count_some}
use Rattle.df_lists.proofs.TestLaws.{all_from, has_from}
use Rattle.df_subsets.specs.Blocks.{before}
use Rattle.df_subsets.specs.Subsets.{same_list}
use Rattle.df_subsets.specs.SetLaws.{AreSets}
use Rattle.df_subsets.specs.SubsetLaws.{AreOrdered, SubsetsAreAll, CandidatesAreAll}
use Rattle.df_acting.specs.Representatives.{is_representative, representative_by}
use Rattle.df_acting.specs.Images.{contains}
use Rattle.df_acting.proofs.OrbitLaws.{one_orbit_self, entry_in_orbit}
use Rattle.df_acting.proofs.RepresentativeLaws.{least_gives, least_same, least_least}
use Rattle.df_acting.proofs.ImageLaws.{holds_kept}
use Rattle.df_maps.proofs.SpreadLaws.{lists_equal}
use Rattle.df_maps.specs.FullMaps.{MapGroup, full_maps, image, carried}
use Rattle.df_maps.specs.Laws.{AreGroup}
use Rattle.df_walk.specs.Systems.{IsColumn, IsSystem}
use Rattle.df_system.specs.Storage.{positive_cells}
use Rattle.df_system.proofs.PositiveCells.{positive_cells_are}
use Rattle.df_lang.specs.Problems.{Stated, IsStated, point_count}
use Rattle.df_kramer_mesner.specs.OrbitSystems.{maps_of_problem, all_pairs, all_blocks, in_one_orbit, pairs_of, orbits_of, needed_of, columns_of, orbit_cover, needed_entry, entries_of, targets_of, is_kept, orbit_system}
use Rattle.df_kramer_mesner.proofs.ProblemMaps.{blocks_group, pairs_spread, blocks_spread}
use Rattle.df_kramer_mesner.proofs.RowLists.{are_rows}
use Rattle.df_kramer_mesner.proofs.OrbitBlocks.{block_sized, orbit_block, first_two}

-- a positive entry has a cell
cells_some : (row : ℕ) (entries : List ℕ) (e : ℕ) → In entries e → 0 < e → 0 < length (positive_cells row entries)
cells_some row [] e i h = absurd i
cells_some row (x ∷ entries) e (inl same) h = rw (lt-ltb 0 x (omega (arith, same, h))) (omega arith)
cells_some row (x ∷ entries) e (inr i) h =
    let rest = cells_some (row + 1) entries e i h in
    elim (nat_lt 0 x) as (λ t. 0 < length (cond t (record { row = row; value = x } ∷ positive_cells (row + 1) entries) (positive_cells (row + 1) entries))) [
      | true ↦ omega arith
      | false ↦ rest
    ]

all_map : {X Y : Type 0} (P : Y → Type 0) (f : X → Y) (xs : List X) → ((x : X) → In xs x → P (f x)) → AllByRecursion P (map f xs)
all_map P f [] h = tt
all_map P f (x ∷ xs) h = (h x (inl refl), all_map P f xs (λ y i. h y (inr i)))

holds_two : (p q : ℕ) (b : List ℕ) → contains (p ∷ q ∷ b) (p ∷ q ∷ []) ≡ true
holds_two p q b = all_from (has_member (p ∷ q ∷ b)) (p ∷ q ∷ []) (λ o i. has_from (p ∷ q ∷ b) o (either o i))
  where
    either : (o : ℕ) → In (p ∷ q ∷ []) o → In (p ∷ q ∷ b) o
    either o (inl e) = inl e
    either o (inr (inl e)) = inr (inl e)
    either o (inr (inr i)) = absurd i

module _ (sets : AreSets) (ordered : AreOrdered) (all : SubsetsAreAll) (some : CandidatesAreAll) (s : Stated) (is : IsStated s) (A : AreGroup (maps_of_problem s)) where
  abbrev M : MapGroup
  M = maps_of_problem s

  -- the orbit of a pair has a row
  orbit_row : (pair : List ℕ) → In (all_pairs s) pair → In (pairs_of s) (representative_by before (image M) (full_maps M) pair)
  orbit_row pair i =
      let set = (pairs_spread s A).inside pair i in
      let g = least_gives same_list (image M) (IsSet (point_count s)) (full_maps M) lists_equal (blocks_group s A) before ordered.order pair set in
      In-filter (is_representative before (image M) (full_maps M)) (all_pairs s) (representative_by before (image M) (full_maps M) pair)
      (subst (In (all_pairs s)) g.2 ((pairs_spread s A).moves g.0 g.1 pair i))
      (least_least same_list (image M) (IsSet (point_count s)) (full_maps M) lists_equal (blocks_group s A) before ordered.order pair set)

  -- where a block holds a pair, its orbit's entry is positive in the row of the pair's orbit
  entry_some : (b pair : List ℕ) → In (all_blocks s) b → In (all_pairs s) pair → contains b pair ≡ true → 0 < orbit_cover s b (representative_by before (image M) (full_maps M) pair)
  entry_some b pair i j h =
      let set = (pairs_spread s A).inside pair j in
      let block = (blocks_spread s A).inside b i in
      let own = one_orbit_self same_list (image M) (IsSet (point_count s)) (full_maps M) lists_equal (blocks_group s A) b block in
      let here = count_some (λ c. in_one_orbit s c b && contains c pair) (all_blocks s) b i (and_from (in_one_orbit s b b) (contains b pair) own h) in
      let like = least_same same_list (image M) (IsSet (point_count s)) (full_maps M) lists_equal (blocks_group s A) before ordered.order pair set in
      subst (λ n. 0 < n) (sym (entry_in_orbit same_list (image M) (IsSet (point_count s)) (full_maps M) lists_equal (blocks_group s A) contains (holds_kept (carried M) (point_count s) (full_maps M) A.group) (all_blocks s) (blocks_spread s A) pair (representative_by before (image M) (full_maps M) pair) b set like)) here

  some_row : (b : List ℕ) → In (all_blocks s) b → Rises 0 (point_count s) b → 2 ≤ length b → (pair : List ℕ) × In (pairs_of s) pair × (0 < orbit_cover s b pair)
  some_row [] i r l = absurd (omega (arith, l))
  some_row (p ∷ []) i r l = absurd (omega (arith, l))
  some_row (p ∷ q ∷ b) i r l =
      let pair = (all (point_count s) 2).have (p ∷ q ∷ []) (first_two (point_count s) p q b r) refl in
      (representative_by before (image M) (full_maps M) (p ∷ q ∷ []), orbit_row (p ∷ q ∷ []) pair, entry_some (p ∷ q ∷ b) (p ∷ q ∷ []) i pair (holds_two p q b))

  is_column : (b : List ℕ) → In (columns_of s) b → IsColumn (length (targets_of s)) (positive_cells 0 (entries_of s b))
  is_column b i =
      let block = orbit_block s b (In-filter_gives (is_kept s) (orbits_of s) b i).0 in
      let sized = block_sized all some s is b block in
      let row = some_row b block sized.block sized.low in
      record {
        some = cells_some 0 (entries_of s b) (orbit_cover s b row.0) (In-append_left (map (orbit_cover s b) (pairs_of s)) (map (needed_entry b) (needed_of s)) (orbit_cover s b row.0) (In-map (orbit_cover s b) (pairs_of s) row.0 row.1)) row.2;
        cells = positive_cells_are (entries_of s b) (length (targets_of s)) ((are_rows s b).entries ∙ sym (are_rows s b).targets);
      }

  pub is_system : IsSystem (orbit_system s)
  is_system = record { columns = all_map (IsColumn (length (targets_of s))) (λ b. positive_cells 0 (entries_of s b)) (columns_of s) is_column }
