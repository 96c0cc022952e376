-- Orbits of pairs of points under a subgroup: two pairs are in one orbit where a shift carries one to the other. Each orbit is told by its
-- representative, which is its earliest pair.
use Rattle.std.specs.Prelude.{◌==◌, ℕ, ◌+◌, ◌-◌, Bool, ◌&&◌, ◌||◌, List, map, nat_lt, if◌then◌else◌}
use Rattle.std.specs.List.{range_with_len, flat_map}
use Rattle.df_group.specs.Elements.{group_of, shifted}
use Rattle.df_acting.specs.Representatives.{is_representative, representatives_by}
use Rattle.df_lang.specs.Problems.{Stated, point_count}
use Rattle.df_lang.specs.Targets.{subgroup_at}

-- the elements of the subgroup that is stated as the shifts
abbrev pub shifts_of : Stated → List ℕ
shifts_of s = subgroup_at s s.shift

-- two points as a pair, the lower one first
abbrev pub in_order : ℕ → ℕ → ℕ × ℕ
in_order a b = if nat_lt a b then (a, b) else (b, a)

-- pairs stand in the order of their first points, and then of their second ones
abbrev pub is_earlier : ℕ × ℕ → ℕ × ℕ → Bool
is_earlier a b = nat_lt a.0 b.0 || (a.0 == b.0 && nat_lt a.1 b.1)

-- all pairs of points, in order: those whose first point is p, and those of each p
abbrev pub pairs_from : Stated → ℕ → List (ℕ × ℕ)
pairs_from s p = map (λ q. (p, q)) (range_with_len (p + 1) (point_count s - (p + 1)))

abbrev pub all_pairs : Stated → List (ℕ × ℕ)
all_pairs s = flat_map (pairs_from s) (range_with_len 0 (point_count s))

-- where adding g carries a pair
abbrev pub shifted_pair : Stated → ℕ → ℕ × ℕ → ℕ × ℕ
shifted_pair s g pair = in_order (shifted (group_of s.group) g pair.0) (shifted (group_of s.group) g pair.1)

-- whether no shift carries the pair to an earlier one
abbrev pub is_row : Stated → List ℕ → ℕ × ℕ → Bool
is_row s shifts pair = is_representative is_earlier (shifted_pair s) shifts pair

-- the representatives of all orbits, in order
abbrev pub pair_rows : Stated → List ℕ → List (ℕ × ℕ)
pair_rows s shifts = representatives_by is_earlier (shifted_pair s) shifts (all_pairs s)
