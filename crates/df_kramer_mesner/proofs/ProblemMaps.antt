-- The maps of a problem are a group, of points and of blocks.
use Rattle.std.proofs.Common.{[]}
use Rattle.std.specs.List.{range_with_len}
use Rattle.df_lists.specs.NumberSets.{IsSet}
use Rattle.df_lists.proofs.ListPlaces.{all_members}
use Rattle.df_group.specs.Elements.{order_of}
use Rattle.df_group.specs.Subgroups.{IsSubgroup}
use Rattle.df_group.proofs.SubgroupLaws.{are_subgroups}
use Rattle.df_subsets.specs.Subsets.{same_list}
use Rattle.df_acting.specs.Orbits.{IsMapGroup, IsSpread}
use Rattle.df_acting.proofs.ImageLaws.{image_group}
use Rattle.df_maps.proofs.SpreadLaws.{subsets_spread, candidates_spread}
use Rattle.df_maps.specs.FullMaps.{full_maps, image, carried}
use Rattle.df_maps.specs.Laws.{MapsAreMade, MapsAreGroups, AreGroup}
use Rattle.df_lang.specs.declared.pieces.Which.{Which}
use Rattle.df_lang.specs.declared.pieces.Which.TheVariants as which
use Rattle.df_lang.specs.Problems.{Stated, IsStated, IsSubgroupName, IsMultiplier, point_count}
use Rattle.df_lang.specs.Targets.{subgroup_at}
use Rattle.df_kramer_mesner.specs.OrbitSystems.{maps_of_problem, all_pairs, all_blocks}

-- what a word of a statement names is a subgroup
pub word_subgroup : (s : Stated) → IsStated s → (word : Which) → IsSubgroupName s.names word → IsSubgroup s.group (subgroup_at s word)
word_subgroup s is which.All h = (range_with_len 0 (order_of s.group), (are_subgroups s.group is.shape).whole)
word_subgroup s is which.Trivial h = ([], (are_subgroups s.group is.shape).trivial)
word_subgroup s is (which.Named i) h = (is.names i ([], []) h).subgroup

pub problem_group : MapsAreMade → MapsAreGroups → (s : Stated) → IsStated s → AreGroup (maps_of_problem s)
problem_group made groups s is =
    groups (maps_of_problem s) (made s.group s.fixed (subgroup_at s s.shift) s.mults is.shape is.points (word_subgroup s is s.shift is.shift)
    (λ m i. (all_members (IsMultiplier s.group) s.mults is.mults m i).unit))

module _ (s : Stated) (A : AreGroup (maps_of_problem s)) where
  pub blocks_group : IsMapGroup (image (maps_of_problem s)) (IsSet (point_count s)) (full_maps (maps_of_problem s))
  blocks_group = image_group (carried (maps_of_problem s)) (point_count s) (full_maps (maps_of_problem s)) A.group

  pub pairs_spread : IsSpread same_list (image (maps_of_problem s)) (IsSet (point_count s)) (full_maps (maps_of_problem s)) (all_pairs s)
  pairs_spread = subsets_spread (carried (maps_of_problem s)) (point_count s) (full_maps (maps_of_problem s)) A.group 2

  pub blocks_spread : IsSpread same_list (image (maps_of_problem s)) (IsSet (point_count s)) (full_maps (maps_of_problem s)) (all_blocks s)
  blocks_spread = candidates_spread (carried (maps_of_problem s)) (point_count s) (full_maps (maps_of_problem s)) A.group s.sizes
