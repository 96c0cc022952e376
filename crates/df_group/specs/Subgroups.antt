-- Units, and subgroups as the increasing lists of their members' numbers.
use Rattle.std.specs.Prelude.{◌≡◌, ◌==◌, ℕ, ◌-◌, ◌%◌, Bool, not, ◌&&◌, List, [], ◌∷◌, ◌++◌, map, find, unwrap_or, if◌then◌else◌}
use Rattle.std.specs.List.{flat_map, range_with_len, list_any, list_all}
use Rattle.df_lists.specs.NumberSets.{has_member, set_of, IsSet}
use Rattle.df_group.specs.Elements.{order_of, group_of, minus}

-- each factor divides n
abbrev pub is_common_multiple : List ℕ → ℕ → Bool
is_common_multiple fs n = list_all (λ f. n % f == 0) fs

-- the least common multiple of the factors: the least number from 1 on that each factor divides
unfoldable pub exponent_of : List ℕ → ℕ
exponent_of fs = unwrap_or (find (is_common_multiple fs) (range_with_len 1 (order_of fs))) 1

-- d divides both
abbrev pub divides_both : ℕ → ℕ → ℕ → Bool
divides_both n m d = (n % d == 0) && (m % d == 0)

-- prime to n: no number from 2 to n divides both
unfoldable pub is_unit : ℕ → ℕ → Bool
is_unit n m = not (list_any (divides_both n m) (range_with_len 2 (n - 1)))

-- the sums c1 g1 + .. + cs gs, with each c from 0 and below the exponent
unfoldable pub sums : List ℕ → List ℕ → List ℕ
sums fs [] = 0 ∷ []
sums fs (g ∷ gs) = flat_map (λ c. map ((group_of fs).plus ((group_of fs).times c g)) (sums fs gs)) (range_with_len 0 (exponent_of fs))

-- the subgroup of these generators
unfoldable pub generated : List ℕ → List ℕ → List ℕ
generated fs generators = set_of (order_of fs) (sums fs generators)

-- the generators taken so far, and each later element that isn't yet in their subgroup
abbrev pub canonical_from : List ℕ → List ℕ → List ℕ → List ℕ
canonical_from fs taken [] = taken
canonical_from fs taken (e ∷ es) = canonical_from fs (if has_member (generated fs taken) e then taken else taken ++ e ∷ []) es

-- the canonical generators of a subgroup
unfoldable pub canonical_of : List ℕ → List ℕ → List ℕ
canonical_of fs members = canonical_from fs [] members

-- a subgroup is a list that some generators give
abbrev pub IsSubgroup : List ℕ → List ℕ → Type 0
IsSubgroup fs members = (generators : List ℕ) × (generated fs generators ≡ members)

-- two elements lie in one coset where their difference is in the subgroup
abbrev pub same_coset : List ℕ → List ℕ → ℕ → ℕ → Bool
same_coset fs members a b = has_member members (minus (group_of fs) a b)

-- the list is the increasing list of its members, which lie below 128
unfoldable pub IsStored : List ℕ → Type 0
IsStored set = IsSet 128 set
