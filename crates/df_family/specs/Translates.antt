-- Translates of blocks by the elements of the group.
use Rattle.std.specs.Prelude.{ℕ, Bool, List, count_by}
use Rattle.std.specs.List.{range_with_len}
use Rattle.df_group.specs.Elements.{order_of, group_of, shifted}
use Rattle.df_acting.specs.Images.{image}
use Rattle.df_subsets.specs.Subsets.{same_list}
use Rattle.df_lang.specs.Problems.{Stated, point_count}

-- the numbers of all elements, in order
abbrev pub elements : Stated → List ℕ
elements s = range_with_len 0 (order_of s.group)

-- block + g: its image where an element goes to its sum with g, and a fixed point to itself
abbrev pub translate : Stated → List ℕ → ℕ → List ℕ
translate s block g = image (shifted (group_of s.group)) (point_count s) g block

-- whether two elements give the same translate
abbrev pub same_translate : Stated → List ℕ → ℕ → ℕ → Bool
same_translate s block g h = same_list (translate s block g) (translate s block h)

-- whether block + g = block
abbrev pub fixes : Stated → List ℕ → ℕ → Bool
fixes s block g = same_list (translate s block g) block

-- how many of these translations fix the block
abbrev pub stabilizer_under : Stated → List ℕ → List ℕ → ℕ
stabilizer_under s hs block = count_by (fixes s block) hs

-- how many translations fix the block
abbrev pub stabilizer : Stated → List ℕ → ℕ
stabilizer s block = stabilizer_under s (elements s) block
