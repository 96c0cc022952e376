-- The laws, each the contract of a function.
use Rattle.std.specs.Prelude.{◌≡◌, ℕ, List, length, slice_get, Some}
use Rattle.df_lists.specs.Membership.{In}
use Rattle.df_lists.specs.Orders.{IsSorted}
use Rattle.df_lists.specs.NumberSets.{IsSet}
use Rattle.df_subsets.specs.Blocks.{before}
use Rattle.df_subsets.specs.Subsets.{candidates, same_list, place_of}
use Rattle.df_maps.specs.FullMaps.{MapGroup, point_count}
use Rattle.df_maps.specs.Laws.{AreGroup}
use Rattle.df_orbits.specs.Orbits.{are_in_one_orbit, representatives_of, representative_of}

-- the representatives of the blocks that have one of the sizes
abbrev pub representatives : MapGroup → List ℕ → List (List ℕ)
representatives M sizes = representatives_of M (candidates (point_count M) sizes)

-- they stand in order, each is its own, and a block is in the orbit of its own and of no other
pub record AreRepresentatives (M : MapGroup) (sizes : List ℕ) : Type 0 where
  pub sorted : IsSorted before (representatives M sizes)
  pub own : (b : List ℕ) → In (representatives M sizes) b → representative_of M b ≡ b
  pub listed : (b : List ℕ) → IsSet (point_count M) b → In sizes (length b) → In (representatives M sizes) (representative_of M b)
  pub alone : (b c : List ℕ) → IsSet (point_count M) b → In sizes (length b) → In (representatives M sizes) c → are_in_one_orbit M b c ≡ same_list (representative_of M b) c

abbrev pub RepresentativesTellOrbits : Type 0
RepresentativesTellOrbits = (M : MapGroup) → AreGroup M → (sizes : List ℕ) → AreRepresentatives M sizes

-- in a list in order each block is found at its place
abbrev pub PlacesAreFound : Type 0
PlacesAreFound = (blocks : List (List ℕ)) → IsSorted before blocks → (i : ℕ) (b : List ℕ) → slice_get blocks i ≡ Some b → place_of b blocks ≡ i
