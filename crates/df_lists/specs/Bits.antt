-- Sets of numbers below 128, kept in 128 bits.
use Rattle.std.specs.Prelude.{◌==◌, ℕ, ◌^◌, Bool, List, filter, sum_by}
use Rattle.std.specs.List.{range_with_len}
use Rattle.std.specs.Int.{bit_at}

-- whether the bit of a number is set
abbrev pub is_set : ℕ → ℕ → Bool
is_set bits i = bit_at bits i == 1

-- the set that 128 bits keep: the places of the bits that are set
unfoldable pub members : ℕ → List ℕ
members bits = filter (is_set bits) (range_with_len 0 128)

-- the bits that keep a set
abbrev pub weight : List ℕ → ℕ
weight set = sum_by (λ i. 2 ^ i) set
