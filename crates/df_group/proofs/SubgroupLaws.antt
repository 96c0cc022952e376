-- What each subgroup holds.
use Rattle.std.proofs.Common.{◌≡◌, ℕ, true, List, sym, ap, ◌∙◌, subst}
use Rattle.df_lists.specs.Membership.{In}
use Rattle.df_lists.specs.NumberSets.{has_member, IsSet}
use Rattle.df_group.specs.Elements.{order_of, group_of, IsShape}
use Rattle.df_group.specs.Subgroups.{sums, IsSubgroup}
use Rattle.df_group.specs.ClosedSets.{IsClosed, SubgroupsLaw}
use Rattle.df_group.proofs.SumLaws.{sum_zero, sum_plus, sum_neg, sum_times, sum_within}
use Rattle.df_group.proofs.GeneratedSets.{generated_set, generated_none, generated_whole, sum_member, member_sum}
use Rattle.df_group.proofs.CanonicalLaws.{generates_closed, canonical_generates, canonical_few}

pub subgroup_closed : (fs : List ℕ) → IsShape fs → (members : List ℕ) → IsSubgroup fs members → IsClosed fs members
subgroup_closed fs is members (gs, e) = record {
  set = subst (IsSet (order_of fs)) e (generated_set fs gs);
  below = λ a h. sum_within fs is gs a (known a h);
  zero = member 0 (sum_zero fs is gs);
  plus = λ a b h k. member ((group_of fs).plus a b) (sum_plus fs is gs a b (known a h) (known b k));
  neg = λ a h. member ((group_of fs).neg a) (sum_neg fs is gs a (known a h));
  times = λ m a h. member ((group_of fs).times m a) (sum_times fs is gs m a (known a h));
}
  where
    known : (a : ℕ) → has_member members a ≡ true → In (sums fs gs) a
    known a h = member_sum fs is gs a (ap (λ l. has_member l a) e ∙ h)

    member : (a : ℕ) → In (sums fs gs) a → has_member members a ≡ true
    member a i = sym (ap (λ l. has_member l a) e) ∙ sum_member fs is gs a i

pub are_subgroups : SubgroupsLaw
are_subgroups fs is = record {
  closed = subgroup_closed fs is;
  generates = generates_closed fs is;
  trivial = generated_none fs is;
  whole = generated_whole fs is;
  canonical = canonical_generates fs is;
  few = canonical_few fs is;
}
