-- The earliest members of orbits.
use Rattle.std.specs.Prelude.{Bool, not, List, [], ◌∷◌, map, filter, if◌then◌else◌}
use Rattle.std.specs.List.{list_all}

-- no image is earlier
abbrev pub is_representative : {M X : Type 0} → (X → X → Bool) → (M → X → X) → List M → X → Bool
is_representative before act maps x = list_all (λ g. not (before (act g x) x)) maps

-- the earliest of x and the others
abbrev pub earliest : {X : Type 0} → (X → X → Bool) → X → List X → X
earliest before x [] = x
earliest before x (y ∷ ys) = earliest before (if before y x then y else x) ys

-- the earliest of x and its images
abbrev pub representative_by : {M X : Type 0} → (X → X → Bool) → (M → X → X) → List M → X → X
representative_by before act maps x = earliest before x (map (λ g. act g x) maps)

-- those of the list that are the earliest of their orbit
abbrev pub representatives_by : {M X : Type 0} → (X → X → Bool) → (M → X → X) → List M → List X → List X
representatives_by before act maps xs = filter (is_representative before act maps) xs
