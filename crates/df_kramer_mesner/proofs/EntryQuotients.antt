-- The entries of an orbit by division.
use Rattle.std.proofs.Common.{◌≡◌, ℕ, ◌*◌, ◌/◌, ◌<◌, List, sym, ap, ◌∙◌}
use Rattle.std.proofs.Math.Nat.{mul-div_cancel}
use Rattle.df_lists.specs.Membership.{In}
use Rattle.df_lists.specs.NumberSets.{IsSet}
use Rattle.df_lists.proofs.MemberLaws.{count_some}
use Rattle.df_subsets.specs.Subsets.{same_list}
use Rattle.df_acting.specs.Images.{contains}
use Rattle.df_acting.proofs.OrbitLaws.{one_orbit_self, entry_law, entry_in_orbit}
use Rattle.df_acting.proofs.ImageLaws.{holds_kept}
use Rattle.df_maps.proofs.SpreadLaws.{lists_equal}
use Rattle.df_maps.specs.FullMaps.{full_maps, image, carried}
use Rattle.df_maps.specs.Laws.{AreGroup}
use Rattle.df_lang.specs.Problems.{Stated, point_count}
use Rattle.df_kramer_mesner.specs.OrbitSystems.{maps_of_problem, all_pairs, all_blocks, in_one_orbit, orbit_cover, pairs_within, row_size, orbit_size}
use Rattle.df_kramer_mesner.specs.Laws.{IsQuotient}
use Rattle.df_kramer_mesner.proofs.HeldPairs.{held_count}
use Rattle.df_kramer_mesner.proofs.ProblemMaps.{blocks_group, pairs_spread, blocks_spread}

module _ (s : Stated) (A : AreGroup (maps_of_problem s)) (b pair : List ℕ) (i : In (all_blocks s) b) (j : In (all_pairs s) pair) where
  block_set : IsSet (point_count s) b
  block_set = (blocks_spread s A).inside b i

  pair_set : IsSet (point_count s) pair
  pair_set = (pairs_spread s A).inside pair j

  entry_product : orbit_cover s b pair * row_size s pair ≡ orbit_size s b * pairs_within s b pair
  entry_product =
      entry_law same_list (image (maps_of_problem s)) (IsSet (point_count s)) (full_maps (maps_of_problem s)) lists_equal (blocks_group s A) contains (holds_kept (carried (maps_of_problem s)) (point_count s) (full_maps (maps_of_problem s)) A.group) (all_pairs s) (all_blocks s) (pairs_spread s A) (blocks_spread s A) pair b pair_set block_set
      ∙ ap (λ n. orbit_size s b * n) (held_count (point_count s) 2 (λ p. in_one_orbit s p pair) b block_set)

  row_some : 0 < row_size s pair
  row_some = count_some (λ p. in_one_orbit s p pair) (all_pairs s) pair j (one_orbit_self same_list (image (maps_of_problem s)) (IsSet (point_count s)) (full_maps (maps_of_problem s)) lists_equal (blocks_group s A) pair pair_set)

  pub is_quotient : IsQuotient s b pair
  is_quotient = record {
    product = entry_product;
    some = row_some;
    quotient = sym (mul-div_cancel (orbit_cover s b pair) {n = row_size s pair} row_some) ∙ ap (λ n. n / row_size s pair) entry_product;
    same = λ other h. entry_in_orbit same_list (image (maps_of_problem s)) (IsSet (point_count s)) (full_maps (maps_of_problem s)) lists_equal (blocks_group s A) contains (holds_kept (carried (maps_of_problem s)) (point_count s) (full_maps (maps_of_problem s)) A.group) (all_blocks s) (blocks_spread s A) pair other b pair_set h;
  }
