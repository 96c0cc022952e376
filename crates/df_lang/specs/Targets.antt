-- The target of a pair of points: in how many blocks it is to lie.
use Rattle.std.specs.Prelude.{ℕ, List, [], ◌∷◌, get_or, Bool, ◌&&◌, not, nat_lt, Option, Some, None, if◌then◌else◌}
use Rattle.std.specs.List.{range_with_len}
use Rattle.df_group.specs.Elements.{order_of}
use Rattle.df_group.specs.Subgroups.{same_coset}
use Rattle.df_lang.specs.declared.pieces.Which.{Which}
use Rattle.df_lang.specs.declared.pieces.Which.TheVariants as which
use Rattle.df_lang.specs.declared.pieces.Inside.{Inside}
use Rattle.df_lang.specs.Problems.{Stated}

-- whether a point is an element of the group, and not a fixed point
abbrev pub is_finite : Stated → ℕ → Bool
is_finite s p = nat_lt p (order_of s.group)

-- the members of the subgroup that a keyword names
abbrev pub subgroup_at : Stated → Which → List ℕ
subgroup_at s which.All = range_with_len 0 (order_of s.group)
subgroup_at s which.Trivial = 0 ∷ []
subgroup_at s (which.Named i) = (get_or s.names i ([], [])).1

-- the target of two elements: that of the cosets where they lie in one, else lambda
abbrev pub finite_target : Stated → Option Inside → ℕ → ℕ → ℕ
finite_target s None p q = s.lambda
finite_target s (Some inside) p q = if same_coset s.group (subgroup_at s inside.subgroup) q p then inside.target else s.lambda

-- the target of two points
abbrev pub target : Stated → ℕ → ℕ → ℕ
target s p q =
    if is_finite s p && is_finite s q then finite_target s s.inside p q else
    (if not (is_finite s p) && not (is_finite s q) then s.hole else s.lambda)
