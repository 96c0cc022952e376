-- The maps x -> m x + h: the prescribed maps, and the group of all that they make.
use Rattle.std.specs.Prelude.{◌≡◌, ◌≤◌, ℕ, ◌+◌, ◌*◌, ◌/◌, ◌%◌, true, List, map, length, nat_lt, slice_index, if◌then◌else◌}
use Rattle.std.specs.List.{flat_map}
use Rattle.df_lists.specs.NumberSets.{has_member, IsSet}
use Rattle.df_group.specs.Elements.{Group, group_of, order_of, IsShape}
use Rattle.df_group.specs.Subgroups.{exponent_of, is_unit}
use Rattle.df_acting.specs.Images as acting
use Rattle.df_maps.specs.Products.{products}

-- x -> m x on elements; each fixed point stays
abbrev pub multiplied : Group → ℕ → ℕ → ℕ
multiplied G m p = if nat_lt p G.order then G.times m p else p

-- x -> m x + h on elements; each fixed point stays
abbrev pub moved : Group → ℕ × ℕ → ℕ → ℕ
moved G (m, h) p = if nat_lt p G.order then G.plus (G.times m p) h else p

-- a group of such maps: over a product of cyclic groups and some fixed points, with all m of a list of residues and all h of a subgroup, both increasing
pub record MapGroup : Type 0 where
  pub factors : List ℕ
  pub fixed : ℕ
  pub products : List ℕ
  pub shifts : List ℕ

-- the maps with the products of any list of stated multipliers and with the members of a subgroup
abbrev pub maps_of : List ℕ → ℕ → List ℕ → List ℕ → MapGroup
maps_of factors fixed shifts stated = record { factors = factors; fixed = fixed; products = products (exponent_of factors) stated; shifts = shifts }

-- how many points there are: the elements, and then the fixed points
abbrev pub point_count : MapGroup → ℕ
point_count M = order_of M.factors + M.fixed

-- all the maps, as the pairs of m and h, by m and then by h
abbrev pub full_maps : MapGroup → List (ℕ × ℕ)
full_maps M = flat_map (λ m. map (λ h. (m, h)) M.shifts) M.products

-- map number i
abbrev pub map_number : MapGroup → ℕ → ℕ × ℕ
map_number M i = (slice_index M.products (i / length M.shifts), slice_index M.shifts (i % length M.shifts))

-- where a map carries a point
abbrev pub carried : MapGroup → ℕ × ℕ → ℕ → ℕ
carried M g p = moved (group_of M.factors) g p

-- the image of a block: the increasing list of its points' images
abbrev pub image : MapGroup → ℕ × ℕ → List ℕ → List ℕ
image M g b = acting.image (carried M) (point_count M) g b

-- the multipliers' residues are units and closed under products, and the shifts are closed under sums
pub record IsMaps (M : MapGroup) : Type 0 where
  pub shape : IsShape M.factors
  pub small : point_count M ≤ 128
  pub products_set : IsSet (exponent_of M.factors) M.products
  pub one : has_member M.products 1 ≡ true
  pub product : (m l : ℕ) → has_member M.products m ≡ true → has_member M.products l ≡ true → has_member M.products ((m * l) % exponent_of M.factors) ≡ true
  pub units : (m : ℕ) → has_member M.products m ≡ true → is_unit (exponent_of M.factors) m ≡ true
  pub shifts_set : IsSet (order_of M.factors) M.shifts
  pub zero : has_member M.shifts 0 ≡ true
  pub sum : (h k : ℕ) → has_member M.shifts h ≡ true → has_member M.shifts k ≡ true → has_member M.shifts ((group_of M.factors).plus h k) ≡ true
