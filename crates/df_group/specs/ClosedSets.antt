-- What subgroups are: sets with 0 that sums don't leave.
use Rattle.std.specs.Prelude.{◌≡◌, ◌<◌, ◌≤◌, ℕ, true, List, [], ◌∷◌, length}
use Rattle.std.specs.List.{range_with_len}
use Rattle.df_lists.specs.NumberSets.{has_member, IsSet}
use Rattle.df_group.specs.Elements.{order_of, group_of, IsShape}
use Rattle.df_group.specs.Subgroups.{generated, canonical_of, IsSubgroup}

-- what each subgroup of a group holds
pub record IsClosed (fs : List ℕ) (members : List ℕ) : Type 0 where
  pub set : IsSet (order_of fs) members
  pub below : (a : ℕ) → has_member members a ≡ true → a < order_of fs
  pub zero : has_member members 0 ≡ true
  pub plus : (a b : ℕ) → has_member members a ≡ true → has_member members b ≡ true → has_member members ((group_of fs).plus a b) ≡ true
  pub neg : (a : ℕ) → has_member members a ≡ true → has_member members ((group_of fs).neg a) ≡ true
  pub times : (m a : ℕ) → has_member members a ≡ true → has_member members ((group_of fs).times m a) ≡ true

-- a subgroup is a set with 0 that sums, negatives and multiples don't leave, and each set with 0 that sums don't leave is a subgroup
pub record AreSubgroups (fs : List ℕ) : Type 0 where
  pub closed : (members : List ℕ) → IsSubgroup fs members → IsClosed fs members
  pub generates : (members : List ℕ) → IsSet (order_of fs) members → has_member members 0 ≡ true
      → ((a b : ℕ) → has_member members a ≡ true → has_member members b ≡ true → has_member members ((group_of fs).plus a b) ≡ true) → generated fs members ≡ members
  pub trivial : generated fs [] ≡ 0 ∷ []
  pub whole : generated fs (range_with_len 0 (order_of fs)) ≡ range_with_len 0 (order_of fs)
  pub canonical : (members : List ℕ) → IsSubgroup fs members → generated fs (canonical_of fs members) ≡ members
  pub few : (members : List ℕ) → IsSubgroup fs members → length (canonical_of fs members) ≤ 7

abbrev pub SubgroupsLaw : Type 0
SubgroupsLaw = (fs : List ℕ) → IsShape fs → AreSubgroups fs
