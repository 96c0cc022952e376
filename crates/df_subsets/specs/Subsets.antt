-- All blocks of a size, in order, and their places.
use Rattle.std.specs.Prelude.{◌+◌, ◌==◌, ℕ, zero, suc, Bool, nat_eq, List, [], ◌∷◌, ◌++◌, map, filter, length, if◌then◌else◌}
use Rattle.std.specs.List.{range_with_len, list_any}
use Rattle.std.specs.Cmp.Lexicographic.{pointwise}

-- the points below v
abbrev pub points : ℕ → List ℕ
points v = range_with_len 0 v

-- k of the listed points: those that hold the first of them, then those that don't
abbrev pub choose : List ℕ → ℕ → List (List ℕ)
choose ps zero = [] ∷ []
choose [] (suc k) = []
choose (p ∷ ps) (suc k) = map (λ b. p ∷ b) (choose ps k) ++ choose ps (suc k)

-- all blocks of k of the points below v, in order
abbrev pub subsets : ℕ → ℕ → List (List ℕ)
subsets v k = choose (points v) k

-- how many ways there are to choose k of n, by Pascal's rule
abbrev pub binomial : ℕ → ℕ → ℕ
binomial n zero = 1
binomial zero (suc k) = 0
binomial (suc n) (suc k) = binomial n k + binomial n (suc k)

-- the two lists are one
abbrev pub same_list : List ℕ → List ℕ → Bool
same_list a b = pointwise nat_eq a b

-- how many blocks stand in the list before the first that is b
abbrev pub place_of : List ℕ → List (List ℕ) → ℕ
place_of b [] = 0
place_of b (c ∷ blocks) = if same_list b c then 0 else suc (place_of b blocks)

-- the place of a block among the blocks of its size, from 0
abbrev pub rank : ℕ → List ℕ → ℕ
rank v b = place_of b (subsets v (length b))

-- all choices of some of the listed points but the empty one: those that hold the first of them, then those that don't
abbrev pub nonempty : List ℕ → List (List ℕ)
nonempty [] = []
nonempty (p ∷ ps) = map (λ b. p ∷ b) ([] ∷ nonempty ps) ++ nonempty ps

-- the blocks of points below v that have one of the sizes, in order
abbrev pub candidates : ℕ → List ℕ → List (List ℕ)
candidates v sizes = filter (λ b. list_any (λ k. k == length b) sizes) ([] ∷ nonempty (points v))
