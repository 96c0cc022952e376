-- What blocks are as sets of points.
use Rattle.std.specs.Prelude.{◌≡◌, ◌==◌, ◌<◌, ◌≤◌, ◌+◌, ℕ, ◌||◌, List, length, slice_index_or, if◌then◌else◌}
use Rattle.df_lists.specs.Membership.{In}
use Rattle.df_lists.specs.NumberSets.{has_member, with_member, IsSet}

-- blocks are sets of points below v, told by their points
pub record AreSets : Type 0 where
  pub inside : (v : ℕ) (b : List ℕ) (p : ℕ) → IsSet v b → In b p → p < v
  pub at : (v : ℕ) (b : List ℕ) (i d : ℕ) → IsSet v b → i < length b → slice_index_or b i d < v
  pub few : (v : ℕ) (b : List ℕ) → IsSet v b → length b ≤ v
  pub same : (v w : ℕ) (a b : List ℕ) → IsSet v a → IsSet w b → ((p : ℕ) → has_member a p ≡ has_member b p) → a ≡ b
  pub below : (v w : ℕ) (b : List ℕ) → IsSet w b → ((p : ℕ) → In b p → p < v) → IsSet v b

-- a block with one more point
pub record AreExtended : Type 0 where
  pub block : (v p : ℕ) (b : List ℕ) → p < v → IsSet v b → IsSet v (with_member p b)
  pub has : (p q : ℕ) (b : List ℕ) → has_member (with_member p b) q ≡ (p == q || has_member b q)
  pub size : (v p : ℕ) (b : List ℕ) → IsSet v b → length (with_member p b) ≡ (if has_member b p then length b else length b + 1)
