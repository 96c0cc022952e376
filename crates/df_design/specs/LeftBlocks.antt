-- The base blocks and the blocks of a design that are left to be listed.
use Rattle.std.specs.Prelude.{◌≡◌, ◌≤◌, ◌<◌, ℕ, Bool, true, false, List, [], ◌∷◌, ◌++◌, drop, filter, length, slice_index_or, Option, None, Some, ◌⊎◌}
use Rattle.df_lists.specs.Membership.{In}
use Rattle.df_lists.specs.Orders.{IsSorted}
use Rattle.df_subsets.specs.Blocks.{before}
use Rattle.df_maps.specs.FullMaps.{MapGroup, full_maps, image, map_number}
use Rattle.df_lang.specs.Problems.{Stated}
use Rattle.df_kramer_mesner.specs.OrbitSystems.{maps_of_problem, columns_of}
use Rattle.df_families.specs.Families.{picked}
use Rattle.df_correspondence.specs.Designs.{design}
use Rattle.df_design.specs.declared.blocks.TheConstants.{READY}

-- the columns that a vector chooses, from a column on
abbrev pub chosen_from : Stated → List Bool → ℕ → List (List ℕ)
chosen_from s x column = picked (drop column (columns_of s)) (drop column x)

-- the vector has a value for each column, and the column is one of theirs or their number
pub record AreChosen (s : Stated) (x : List Bool) (columns column : ℕ) : Type 0 where
  pub long : length x ≡ length (columns_of s)
  pub columns_are : columns ≡ length x
  pub within : column ≤ columns

-- the place is the first that has a 1
pub record IsFirstYes (x : List Bool) (place : ℕ) : Type 0 where
  pub within : place < length x
  pub yes : slice_index_or x place false ≡ true
  pub before_it : (j : ℕ) → j < place → slice_index_or x j false ≡ false

-- the block comes after the last one, if there is one
abbrev pub is_after : Option (List ℕ) → List ℕ → Bool
is_after None b = true
is_after (Some last) b = before last b

-- the blocks of a vector's design that come after the last one
abbrev pub blocks_after : Stated → List Bool → Option (List ℕ) → List (List ℕ)
blocks_after s x last = filter (is_after last) (design s x)

-- the block is the image of another under a map, and comes after the last one
pub record IsImageAfter (M : MapGroup) (b : List ℕ) (last : Option (List ℕ)) (y : List ℕ) : Type 0 where
  pub map : ℕ × ℕ
  pub full : In (full_maps M) map
  pub image_is : image M map b ≡ y
  pub after : is_after last y ≡ true

-- the block is among the ready ones, or there are as many as there may be and all come before it
abbrev pub IsSettled : List (List ℕ) → List ℕ → Type 0
IsSettled ready y = In ready y ⊎ ((length ready ≡ READY) × ((z : List ℕ) → In ready z → before z y ≡ true))

-- a block may be put at the place: the blocks in front of it come before the block, and the others
-- come after it
pub record IsPlaceFor (ready : List (List ℕ)) (y : List ℕ) (place : ℕ) : Type 0 where
  pub within : place ≤ length ready
  pub earlier : (j : ℕ) → j < place → before (slice_index_or ready j []) y ≡ true
  pub later : (j : ℕ) → place ≤ j → j < length ready → before y (slice_index_or ready j []) ≡ true

-- a block was met: the earliest of those that were ready and of it are, as many as there may be
pub record IsMet (ready : List (List ℕ)) (y : List ℕ) (new : List (List ℕ)) : Type 0 where
  pub sorted : IsSorted before new
  pub inside : (z : List ℕ) → In new z → In ready z ⊎ (z ≡ y)
  pub here : IsSettled new y
  pub still : (z : List ℕ) → IsSettled ready z → IsSettled new z

-- some images of a base block were met, those under the first maps
pub record AreMet (M : MapGroup) (b : List ℕ) (last : Option (List ℕ)) (ready new : List (List ℕ)) (maps : ℕ) : Type 0 where
  pub sorted : IsSorted before new
  pub inside : (z : List ℕ) → In new z → In ready z ⊎ IsImageAfter M b last z
  pub images :
      (j : ℕ) → j < maps → is_after last (image M (map_number M j) b) ≡ true
      → IsSettled new (image M (map_number M j) b)
  pub still : (z : List ℕ) → IsSettled ready z → IsSettled new z

-- the images of some base blocks were met, with these base blocks left: what is ready are blocks of
-- the design after the last one, and each image that was met is settled
pub record AreGathered (s : Stated) (x : List Bool) (last : Option (List ℕ)) (ready left : List (List ℕ)) : Type 0 where
  pub sorted : IsSorted before ready
  pub inside : (c : List ℕ) → In left c → In (picked (columns_of s) x) c
  pub found : (y : List ℕ) → In ready y → In (blocks_after s x last) y
  pub met :
      (c : List ℕ) → In (picked (columns_of s) x) c
      → In left c ⊎ ((y : List ℕ) → IsImageAfter (maps_of_problem s) c last y → IsSettled ready y)

-- the ready blocks begin the list, and are all of it where there are fewer than there may be
pub record Begins (blocks ready : List (List ℕ)) : Type 0 where
  pub rest : List (List ℕ)
  pub joined : blocks ≡ ready ++ rest
  pub whole : length ready < READY → rest ≡ []

-- the vector has a value for each column, the maps are those of the problem, and the ready blocks
-- from a place on begin what is left: all of it, where fewer are ready than there may be
pub record AreLeft (s : Stated) (x : List Bool) (maps : MapGroup) (last : Option (List ℕ)) (ready : List (List ℕ)) (place : ℕ) : Type 0 where
  pub long : length x ≡ length (columns_of s)
  pub maps_are : maps ≡ maps_of_problem s
  pub within : place < READY
  pub rest : List (List ℕ)
  pub joined : blocks_after s x last ≡ drop place ready ++ rest
  pub whole : length ready < READY → rest ≡ []
