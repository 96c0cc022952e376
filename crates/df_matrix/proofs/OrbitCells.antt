-- The quotients are the positive entries of an orbit.
use Rattle.std.proofs.Common.{◌≡◌, ℕ, zero, suc, ◌*◌, ◌/◌, ◌<◌, ◌≤◌, map, List, [], length, get_or, sym, ap, ◌∙◌, subst, arith}
use Rattle.std.specs.List.Sorted.{IsStrictlyIncreasing}
use Rattle.std.proofs.lemmas.List.{length-map, get_or-map}
use Rattle.std.proofs.lemmas.Option.{slice_get-get_or}
use Rattle.std.proofs.lemmas.Simd.{map-map}
use Rattle.std.proofs.Math.Nat.{zero-div, mul-le-mul}
use Rattle.df_lists.specs.Membership.{In}
use Rattle.df_lists.proofs.MemberLaws.{In-filter_gives}
use Rattle.df_lists.proofs.ListPlaces.{In-slice_get}
use Rattle.df_subsets.specs.Blocks.{before}
use Rattle.df_subsets.specs.Subsets.{choose}
use Rattle.df_acting.specs.Representatives.{is_representative}
use Rattle.df_maps.specs.FullMaps.{full_maps, image}
use Rattle.df_lang.specs.Problems.{Stated, IsStated}
use Rattle.df_walk.specs.declared.Cell.{Cell}
use Rattle.df_walk.specs.Systems.{AreCells, entry_of}
use Rattle.df_kramer_mesner.specs.OrbitSystems.{maps_of_problem, all_pairs, all_blocks, pairs_of, pairs_within, row_size, orbit_size, orbit_cover}
use Rattle.df_kramer_mesner.specs.Laws.{EntriesAreQuotients, CellsAreTold, IsQuotient}
use Rattle.df_matrix.specs.MatrixParts.{AreRowsOf, quotient_cell, pair_cells}
use Rattle.df_matrix.proofs.CellEntries.{entry_at, entry_changed}
use Rattle.df_matrix.proofs.Tallies.{IsTally}

module _ (quotients : EntriesAreQuotients) (told : CellsAreTold) (s : Stated) (is : IsStated s) (b : List ℕ) (member : In (all_blocks s) b) (size : ℕ) (sized : size ≡ orbit_size s b) (some : 0 < size) (rows : List ℕ) (listed : AreRowsOf s (choose b 2) rows) (tally : List Cell) (T : IsTally rows tally) where
  abbrev quotient : ℕ → ℕ → ℕ
  quotient row n = (size * n) / row_size s (get_or (pairs_of s) row [])

  none : (row : ℕ) → quotient row 0 ≡ 0
  none row = ap (λ n. n / row_size s (get_or (pairs_of s) row [])) {x = size * 0} {y = 0} (omega arith) ∙ zero-div (row_size s (get_or (pairs_of s) row []))

  are : AreCells (length (pairs_of s)) tally
  are = T.cells (length (pairs_of s)) listed.within

  law : (row : ℕ) → row < length (pairs_of s) → IsQuotient s b (get_or (pairs_of s) row [])
  law row h = quotients s is b (get_or (pairs_of s) row []) member
      ((In-filter_gives (is_representative before (image (maps_of_problem s)) (full_maps (maps_of_problem s))) (all_pairs s) (get_or (pairs_of s) row []) (In-slice_get (pairs_of s) row (get_or (pairs_of s) row []) (slice_get-get_or (pairs_of s) row [] h))).0)

  within : (row : ℕ) → row < length (pairs_of s) → entry_of tally row ≡ pairs_within s b (get_or (pairs_of s) row [])
  within row h = T.tally row ∙ listed.tally row (get_or (pairs_of s) row []) (slice_get-get_or (pairs_of s) row [] h)

  -- the quotient is the entry
  entry : (row : ℕ) → row < length (pairs_of s) → quotient row (entry_of tally row) ≡ orbit_cover s b (get_or (pairs_of s) row [])
  entry row h =
      let q = law row h in
      ap (λ n. (size * n) / row_size s (get_or (pairs_of s) row [])) (within row h)
      ∙ ap (λ n. (n * pairs_within s b (get_or (pairs_of s) row [])) / row_size s (get_or (pairs_of s) row [])) sized
      ∙ sym q.quotient

  positive : (row : ℕ) → row < length (pairs_of s) → 0 < entry_of tally row → 0 < orbit_cover s b (get_or (pairs_of s) row [])
  positive row h more =
      let q = law row h in
      go (orbit_cover s b (get_or (pairs_of s) row [])) q.product
    where
      go : (e : ℕ) → e * row_size s (get_or (pairs_of s) row []) ≡ orbit_size s b * pairs_within s b (get_or (pairs_of s) row []) → 0 < e
      go zero p =
          let first : 1 ≤ orbit_size s b = omega (arith, some, sized) in
          let second : 1 ≤ pairs_within s b (get_or (pairs_of s) row []) = omega (arith, more, within row h) in
          let least : 1 * 1 ≤ orbit_size s b * pairs_within s b (get_or (pairs_of s) row []) = mul-le-mul first second in
          absurd (omega (arith, p, least))
      go (suc e) p = omega arith

  pub quotients_are_cells : AreCells (length (pairs_of s)) (map (quotient_cell s size) tally)
  quotients_are_cells = record {
    in_range = λ k d l. let h = inside k l in subst (λ c. c.row < length (pairs_of s)) (sym (at k d h)) (are.in_range k d h);
    positive = λ k d l.
        let h = inside k l in
        let row = (get_or tally k d).row in
        let value = entry_at (length (pairs_of s)) k tally d are h in
        let below = are.in_range k d h in
        let e = entry row below in
        let p = positive row below (omega (arith, value, are.positive k d h)) in
        let v : quotient row (get_or tally k d).value ≡ quotient row (entry_of tally row) = ap (quotient row) (sym value) in
        subst (λ c. 0 < c.value) (sym (at k d h)) (omega (arith, v, e, p));
    increasing = subst IsStrictlyIncreasing (sym (map-map (λ (cell : Cell). cell.row) (quotient_cell s size) tally)) are.increasing;
  }
    where
      inside : (k : ℕ) → k < length (map (quotient_cell s size) tally) → k < length tally
      inside k l = omega (arith, l, length-map tally (quotient_cell s size))

      at : (k : ℕ) (d : Cell) → k < length tally → get_or (map (quotient_cell s size) tally) k d ≡ quotient_cell s size (get_or tally k d)
      at k d h = get_or-map (quotient_cell s size) tally k d d h

  pub quotients_are : map (quotient_cell s size) tally ≡ pair_cells s b
  quotients_are = told (length (pairs_of s)) (map (quotient_cell s size) tally) (map (orbit_cover s b) (pairs_of s)) (length-map (pairs_of s) (orbit_cover s b)) quotients_are_cells
      (λ row h. entry_changed quotient none (length (pairs_of s)) row tally are ∙ entry row h ∙ sym (get_or-map (orbit_cover s b) (pairs_of s) row [] 0 h))
