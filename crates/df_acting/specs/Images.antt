-- Images of sets of points, and lists of blocks that maps don't lead out of.
use Rattle.std.specs.Prelude.{ℕ, Bool, List, map}
use Rattle.std.specs.List.{list_all}
use Rattle.df_lists.specs.Membership.{In}
use Rattle.df_lists.specs.NumberSets.{has_member, set_of}

-- the increasing list of the points' images, points lying below v
abbrev pub image : {M : Type 0} → (M → ℕ → ℕ) → ℕ → M → List ℕ → List ℕ
image act v g b = set_of v (map (act g) b)

-- all points of c are points of b
abbrev pub contains : List ℕ → List ℕ → Bool
contains b c = list_all (has_member b) c

-- each image of a block of the list is in the list
abbrev pub IsInvariant : {M : Type 0} → (M → ℕ → ℕ) → ℕ → List M → List (List ℕ) → Type 0
IsInvariant {M} act v maps blocks = (g : M) → In maps g → (b : List ℕ) → In blocks b → In blocks (image act v g b)
