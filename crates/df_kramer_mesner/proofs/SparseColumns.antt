-- How many cells a column has.
use Rattle.std.proofs.Common.{◌≡◌, ℕ, suc, ◌+◌, ◌*◌, ◌<◌, ◌≤◌, Bool, true, false, cond, map, filter, List, [], ◌∷◌, length, refl, sym, ap, ◌∙◌, subst, arith, mul-le-mul, ⊎_elim}
use Rattle.std.specs.Prelude.{nat_lt}
use Rattle.std.specs.List.{list_any}
use Rattle.std.proofs.lemmas.Bool.{ltb-true, cases_lt}
use Rattle.df_lists.proofs.SetLaws.{set_picked}
use Rattle.df_lists.specs.Membership.{In, count}
use Rattle.df_lists.specs.NumberSets.{IsSet}
use Rattle.df_lists.proofs.ListTotals.{count_agree, count_most}
use Rattle.df_lists.proofs.MemberLaws.{In-filter_gives, count-append, count-map, count_gives}
use Rattle.df_lists.proofs.TestLaws.{any_from}
use Rattle.df_lists.proofs.ListPlaces.{all_members}
use Rattle.df_subsets.specs.Blocks.{before}
use Rattle.df_subsets.specs.Subsets.{choose, points, same_list}
use Rattle.df_subsets.specs.SetLaws.{AreSets}
use Rattle.df_subsets.specs.SubsetLaws.{AreOrdered, SubsetsAreAll, CandidatesAreAll}
use Rattle.df_subsets.proofs.SubsetLists.{length-choose}
use Rattle.df_acting.specs.Representatives.{is_representative}
use Rattle.df_acting.specs.Images.{contains}
use Rattle.df_maps.specs.FullMaps.{full_maps, image}
use Rattle.df_maps.specs.Laws.{AreGroup}
use Rattle.df_system.specs.Storage.{positive_cells}
use Rattle.df_lang.specs.Problems.{Stated, IsStated, IsBlock, point_count}
use Rattle.df_kramer_mesner.specs.OrbitSystems.{maps_of_problem, all_pairs, all_blocks, in_one_orbit, has_in_orbit, pairs_of, orbits_of, needed_of, orbit_cover, needed_entry, entries_of, pairs_within, row_size, orbit_size}
use Rattle.df_kramer_mesner.specs.Laws.{AreSparse}
use Rattle.df_kramer_mesner.proofs.ProblemMaps.{pairs_spread, blocks_spread}
use Rattle.df_kramer_mesner.proofs.HeldPairs.{choose_held}
use Rattle.df_kramer_mesner.proofs.EntryQuotients.{is_quotient}
use Rattle.df_kramer_mesner.proofs.OrbitBlocks.{orbit_block, row_pair}
use Rattle.df_kramer_mesner.proofs.FewBlocks.{are_few, pairs_most}
use Rattle.df_kramer_mesner.proofs.RowLists.{are_rows}
use Rattle.df_kramer_mesner.proofs.OrbitMembers.{count_reached, count_picked, one_representative}

-- there are as many cells as positive entries
count_cells : (row : ℕ) (entries : List ℕ) → length (positive_cells row entries) ≡ count (nat_lt 0) entries
count_cells row [] = refl
count_cells row (e ∷ entries) =
    let rest = count_cells (row + 1) entries in
    elim (nat_lt 0 e) as (λ t. length (cond t (record { row = row; value = e } ∷ positive_cells (row + 1) entries) (positive_cells (row + 1) entries)) ≡ length (cond t (e ∷ filter (nat_lt 0) entries) (filter (nat_lt 0) entries))) [
      | true ↦ ap suc rest
      | false ↦ rest
    ]

factor_some : (a b c : ℕ) → 0 < a * b → a * b ≡ c * 0 → ⊥
factor_some a b c h e = absurd (omega (arith, h, e))

module _ (sets : AreSets) (ordered : AreOrdered) (all : SubsetsAreAll) (some : CandidatesAreAll) (s : Stated) (is : IsStated s) (A : AreGroup (maps_of_problem s)) where
  needed_most : length (needed_of s) ≤ length s.required
  needed_most = count_reached (in_one_orbit s) (orbits_of s) s.required (λ c i. one_representative ordered s A (all_blocks s) (blocks_spread s A) c (all_members (IsBlock (point_count s) s.sizes) s.required is.required c i).set)

  module _ (b : List ℕ) (i : In (orbits_of s) b) where
    block : In (all_blocks s) b
    block = orbit_block s b i

    set : IsSet (point_count s) b
    set = (blocks_spread s A).inside b block

    within_set : (p : List ℕ) → In (choose b 2) p → IsSet (point_count s) p
    within_set p j =
        let held = choose_held b (points (point_count s)) 2 ∙ ap (λ l. choose l 2) (sym (set_picked (point_count s) b set)) in
        (pairs_spread s A).inside p (In-filter_gives (contains b) (all_pairs s) p (subst (λ l. In l p) (sym held) j)).0

    -- where the entry is positive, the block has a pair of the row's orbit
    met : (pair : List ℕ) → In (pairs_of s) pair → nat_lt 0 (orbit_cover s b pair) ≡ true → list_any (λ p. in_one_orbit s p pair) (choose b 2) ≡ true
    met pair j h = ⊎_elim (λ more. let p = count_gives (λ p. in_one_orbit s p pair) (choose b 2) more in any_from (λ p. in_one_orbit s p pair) (choose b 2) p.0 p.1 p.2) (λ none. absurd (missing none)) (cases_lt 0 (pairs_within s b pair))
      where
        missing : pairs_within s b pair ≤ 0 → ⊥
        missing none =
            let q = is_quotient s A b pair block (row_pair s pair j) in
            let both : 1 * 1 ≤ orbit_cover s b pair * row_size s pair = mul-le-mul (ltb-true 0 (orbit_cover s b pair) h) q.some in
            let zeroes : pairs_within s b pair ≡ 0 = omega (arith, none) in
            factor_some (orbit_cover s b pair) (row_size s pair) (orbit_size s b) (omega (arith, both)) (q.product ∙ ap (λ n. orbit_size s b * n) zeroes)

    pair_cells : count (λ pair. nat_lt 0 (orbit_cover s b pair)) (pairs_of s) ≤ length (choose b 2)
    pair_cells =
        let met = count_most (λ pair. nat_lt 0 (orbit_cover s b pair)) (λ pair. list_any (λ p. in_one_orbit s p pair) (choose b 2)) (pairs_of s) met in
        let reached = count_reached (in_one_orbit s) (pairs_of s) (choose b 2) (λ p j. one_representative ordered s A (all_pairs s) (pairs_spread s A) p (within_set p j)) in
        omega (arith, met, reached)

    needed_cells : count (λ needed. nat_lt 0 (needed_entry b needed)) (needed_of s) ≤ 1
    needed_cells =
        let same = count_agree (λ needed. nat_lt 0 (needed_entry b needed)) (same_list b) (needed_of s) (λ needed j. one_is (same_list b needed)) in
        let orbit = count_picked (has_in_orbit s s.required) (same_list b) (orbits_of s) in
        let one = count_picked (is_representative before (image (maps_of_problem s)) (full_maps (maps_of_problem s))) (same_list b) (all_blocks s) in
        let once = (blocks_spread s A).once b block in
        omega (arith, same, orbit, one, once)
      where
        one_is : (t : Bool) → nat_lt 0 (cond t 1 0) ≡ t
        one_is true = refl
        one_is false = refl

    cells_most : length (positive_cells 0 (entries_of s b)) ≤ 121
    cells_most =
        let cells = count_cells 0 (entries_of s b) in
        let split = count-append (nat_lt 0) (map (orbit_cover s b) (pairs_of s)) (map (needed_entry b) (needed_of s)) in
        let first = count-map (nat_lt 0) (orbit_cover s b) (pairs_of s) in
        let second = count-map (nat_lt 0) (needed_entry b) (needed_of s) in
        let long = length-choose b 2 in
        let high = (are_few sets all some s is).orbit_high b i in
        let twice = pairs_most (length b) 16 15 high (omega (arith, high)) in
        omega (arith, cells, split, first, second, pair_cells, needed_cells, long, twice)

  pub are_sparse : AreSparse s
  are_sparse = record {
    needed = needed_most;
    rows = omega (arith, needed_most, is.few_stated, (are_few sets all some s is).pairs, (are_rows s []).targets);
    cells = cells_most;
  }
