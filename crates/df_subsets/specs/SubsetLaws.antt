-- What the lists of all blocks of a size are.
use Rattle.std.specs.Prelude.{◌≡◌, ◌<◌, ℕ, List, length, slice_get, Some}
use Rattle.std.specs.Ordering.{nat_cmp, is_lt}
use Rattle.std.specs.Cmp.Lexicographic.{slice_cmp}
use Rattle.df_lists.specs.Membership.{In, count}
use Rattle.df_lists.specs.NumberSets.{IsSet}
use Rattle.df_subsets.specs.Blocks.{before}
use Rattle.df_lists.specs.Orders.{IsEquality}
use Rattle.df_lists.specs.Orders.{IsOrder, IsSorted}
use Rattle.df_subsets.specs.Subsets.{subsets, binomial, same_list, rank, candidates}

-- blocks are told apart and ordered as lists
pub record AreOrdered : Type 0 where
  pub equality : IsEquality same_list
  pub order : IsOrder before
  pub of_lists : (a b : List ℕ) → before a b ≡ is_lt (slice_cmp nat_cmp a b)

-- all blocks of a size: each once, in order, and nothing else
pub record AreAll (v k : ℕ) : Type 0 where
  pub long : length (subsets v k) ≡ binomial v k
  pub sorted : IsSorted before (subsets v k)
  pub inside : (b : List ℕ) → In (subsets v k) b → IsSet v b × (length b ≡ k)
  pub have : (b : List ℕ) → IsSet v b → length b ≡ k → In (subsets v k) b
  pub once : (b : List ℕ) → IsSet v b → length b ≡ k → count (same_list b) (subsets v k) ≡ 1

abbrev pub SubsetsAreAll : Type 0
SubsetsAreAll = (v k : ℕ) → AreAll v k

-- each block of the size stands at its rank, and each place is the rank of the block that stands there
pub record AreRanked (v k : ℕ) : Type 0 where
  pub below : (b : List ℕ) → IsSet v b → length b ≡ k → rank v b < binomial v k
  pub at : (b : List ℕ) → IsSet v b → length b ≡ k → slice_get (subsets v k) (rank v b) ≡ Some b
  pub of : (i : ℕ) (b : List ℕ) → slice_get (subsets v k) i ≡ Some b → rank v b ≡ i

abbrev pub RanksArePlaces : Type 0
RanksArePlaces = (v k : ℕ) → AreRanked v k

-- the blocks of several sizes: each once, in order, and nothing else
pub record AreCandidates (v : ℕ) (sizes : List ℕ) : Type 0 where
  pub sorted : IsSorted before (candidates v sizes)
  pub inside : (b : List ℕ) → In (candidates v sizes) b → (k : ℕ) × In sizes k × In (subsets v k) b
  pub have : (b : List ℕ) (k : ℕ) → In sizes k → In (subsets v k) b → In (candidates v sizes) b
  pub once : (b : List ℕ) → In (candidates v sizes) b → count (same_list b) (candidates v sizes) ≡ 1

abbrev pub CandidatesAreAll : Type 0
CandidatesAreAll = (v : ℕ) (sizes : List ℕ) → AreCandidates v sizes
