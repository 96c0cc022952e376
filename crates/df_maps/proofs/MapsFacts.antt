-- What each group of maps is, in one record.
use Rattle.std.proofs.Common.{ℕ, ◌<◌, ◌/◌, List, length, refl, arith}
use Rattle.df_lists.proofs.SetLaws.{In-set}
use Rattle.df_group.specs.Elements.{order_of}
use Rattle.df_maps.specs.FullMaps.{MapGroup, IsMaps, full_maps, map_number, carried, point_count}
use Rattle.df_subsets.specs.Subsets.{subsets, same_list}
use Rattle.df_subsets.proofs.SubsetLists.{subsets_have}
use Rattle.df_maps.proofs.SpreadLaws.{lists_equal, subsets_spread}
use Rattle.df_maps.proofs.TurnLaws.{orbit_size}
use Rattle.df_maps.specs.Laws.{AreGroup}
use Rattle.df_maps.proofs.GroupOfMaps.{group, numbered, identity, carried_one, number_in, some_shift}
use Rattle.df_maps.proofs.NumberLaws.{In-pairs_gives, length-pairs, row_below}
use Rattle.df_maps.proofs.ApartLaws.{apart}

pub are_group : (M : MapGroup) → IsMaps M → AreGroup M
are_group M is = record {
  group = group M is;
  numbered = numbered M is;
  identity = identity M is;
  fixes = λ q h. carried_one M is q;
  orbits = λ b s. orbit_size M is same_list lists_equal (subsets (point_count M) (length b)) (subsets_spread (carried M) (point_count M) (full_maps M) (group M is) (length b)) b (subsets_have (point_count M) (length b) b s refl);
  apart = apart M is;
}

abbrev pub made_of : List ℕ → ℕ → List ℕ → List ℕ → MapGroup
made_of factors fixed products shifts = record { factors = factors; fixed = fixed; products = products; shifts = shifts }

pub number_low : (M : MapGroup) → IsMaps M → (i : ℕ) → i < length (full_maps M) → (map_number M i).1 < order_of M.factors
number_low M is i h = In-set (order_of M.factors) M.shifts (map_number M i).1 is.shifts_set (In-pairs_gives M.products M.shifts (map_number M i) (number_in M is i h)).1

pub number_row : (M : MapGroup) → IsMaps M → (i : ℕ) → i < length (full_maps M) → i / length M.shifts < length M.products
number_row M is i h = row_below i (length M.shifts) (length M.products) (some_shift M is) (omega (arith, h, length-pairs M.products M.shifts))
