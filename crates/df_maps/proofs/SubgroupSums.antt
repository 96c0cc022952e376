-- What a subgroup has, by its members.
use Rattle.std.proofs.Common.{ℕ, List}
use Rattle.df_lists.specs.Membership.{In}
use Rattle.df_lists.specs.NumberSets.{IsSet}
use Rattle.df_lists.proofs.TestLaws.{has_from, has_gives}
use Rattle.df_group.specs.Elements.{group_of, order_of, IsShape}
use Rattle.df_group.specs.Subgroups.{IsSubgroup}
use Rattle.df_group.proofs.SubgroupLaws.{are_subgroups}

module _ (fs : List ℕ) (is : IsShape fs) where
  pub record HasSums (shifts : List ℕ) : Type 0 where
    pub set : IsSet (order_of fs) shifts
    pub zero : In shifts 0
    pub sum : (h k : ℕ) → In shifts h → In shifts k → In shifts ((group_of fs).plus h k)

  pub subgroup_has : (shifts : List ℕ) → IsSubgroup fs shifts → HasSums shifts
  subgroup_has shifts s =
      let c = (are_subgroups fs is).closed shifts s in
      record {
        set = c.set;
        zero = has_gives shifts 0 c.zero;
        sum = λ h k i j. has_gives shifts ((group_of fs).plus h k) (c.plus h k (has_from shifts h i) (has_from shifts k j));
      }
