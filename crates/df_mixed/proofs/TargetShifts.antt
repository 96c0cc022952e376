-- A shift keeps the target of two points, in any order.
use Rattle.std.proofs.Common.{◌≡◌, ℕ, ◌<◌, Bool, true, false, not, ◌&&◌, cond, List, [], refl, sym, ap, ap₂, ◌∙◌, ⊎_elim, lt-ltb, ltb-true, Option, None, Some, IfSome}
use Rattle.std.specs.List.{range_with_len}
use Rattle.std.proofs.lemmas.Bool.{cases_lt}
use Rattle.df_lists.specs.NumberSets.{has_member}
use Rattle.df_lists.proofs.TestLaws.{same_tests}
use Rattle.df_group.specs.Elements.{order_of, group_of, IsGroup, minus, shifted}
use Rattle.df_group.specs.Subgroups.{IsSubgroup}
use Rattle.df_group.specs.ClosedSets.{IsClosed}
use Rattle.df_group.proofs.ElementLaws.{is_group}
use Rattle.df_group.proofs.GroupLaws.{more_less, less_more, minus_plus, minus_self, zero_plus}
use Rattle.df_group.proofs.SubgroupLaws.{subgroup_closed, are_subgroups}
use Rattle.df_lang.specs.declared.pieces.Which.{Which}
use Rattle.df_lang.specs.declared.pieces.Which.TheVariants as which
use Rattle.df_lang.specs.declared.pieces.Inside.{Inside}
use Rattle.df_lang.specs.Problems.{Stated, IsStated, IsSubgroupName, IsInside}
use Rattle.df_lang.specs.Targets.{is_finite, subgroup_at, finite_target, target}
use Rattle.df_family.proofs.TranslateLaws.{shifted_finite, shifted_fixed}
use Rattle.df_mixed.specs.PairOrbits.{shifted_pair, shifts_of}
use Rattle.df_mixed.proofs.PairOrders.{order_either}

-- what a keyword names is a subgroup
pub named_subgroup : (s : Stated) → IsStated s → (word : Which) → IsSubgroupName s.names word → IsSubgroup s.group (subgroup_at s word)
named_subgroup s is which.All h = (range_with_len 0 (order_of s.group), (are_subgroups s.group is.shape).whole)
named_subgroup s is which.Trivial h = ([], (are_subgroups s.group is.shape).trivial)
named_subgroup s is (which.Named i) h = (is.names i ([], []) h).subgroup

pub shifts_subgroup : (s : Stated) → IsStated s → IsSubgroup s.group (shifts_of s)
shifts_subgroup s is = named_subgroup s is s.shift is.shift

module _ (s : Stated) (is : IsStated s) where
  g : IsGroup (group_of s.group)
  g = is_group s.group is.shape

  named_closed : (word : Which) → IsSubgroupName s.names word → IsClosed s.group (subgroup_at s word)
  named_closed word h = subgroup_closed s.group is.shape (subgroup_at s word) (named_subgroup s is word h)

  -- the difference of two elements stays
  difference_kept : (a b h : ℕ) → a < order_of s.group → minus (group_of s.group) ((group_of s.group).plus a h) ((group_of s.group).plus b h) ≡ minus (group_of s.group) a b
  difference_kept a b h l =
      let G = group_of s.group in
      ap (minus G (G.plus a h)) (g.comm b h) ∙ sym (minus_plus G g (G.plus a h) h b (g.within a h)) ∙ ap (λ y. minus G y b) (more_less G g a h l)

  difference_turned : (a b : ℕ) → a < order_of s.group → b < order_of s.group → minus (group_of s.group) b a ≡ (group_of s.group).neg (minus (group_of s.group) a b)
  difference_turned a b l k =
      let G = group_of s.group in
      let d = minus G a b in
      ap (minus G b) (sym (less_more G g a b l) ∙ g.comm d b) ∙ sym (minus_plus G g b b d k) ∙ ap (λ y. minus G y d) (minus_self G g b) ∙ zero_plus G g (G.neg d) (g.neg_within d)

  coset_turned : (members : List ℕ) → IsClosed s.group members → (a b : ℕ) → a < order_of s.group → b < order_of s.group → has_member members (minus (group_of s.group) a b) ≡ has_member members (minus (group_of s.group) b a)
  coset_turned members C a b l k = same_tests (has_member members (minus (group_of s.group) a b)) (has_member members (minus (group_of s.group) b a)) (turn a b l k) (turn b a k l)
    where
      turn : (a b : ℕ) → a < order_of s.group → b < order_of s.group → has_member members (minus (group_of s.group) a b) ≡ true → has_member members (minus (group_of s.group) b a) ≡ true
      turn a b l k h = ap (has_member members) (difference_turned a b l k) ∙ C.neg (minus (group_of s.group) a b) h

  finite_kept : (inside : Option Inside) → (h p q : ℕ) → p < order_of s.group → q < order_of s.group → finite_target s inside (shifted (group_of s.group) h p) (shifted (group_of s.group) h q) ≡ finite_target s inside p q
  finite_kept None h p q l k = refl
  finite_kept (Some inside) h p q l k =
      ap (λ d. cond (has_member (subgroup_at s inside.subgroup) d) inside.target s.lambda)
      (ap₂ (minus (group_of s.group)) (shifted_finite s g h q k) (shifted_finite s g h p l) ∙ difference_kept q p h k)

  finite_turned : (inside : Option Inside) → IfSome inside (IsInside s.names) → (p q : ℕ) → p < order_of s.group → q < order_of s.group → finite_target s inside p q ≡ finite_target s inside q p
  finite_turned None h p q l k = refl
  finite_turned (Some inside) h p q l k = ap (λ t. cond t inside.target s.lambda) (coset_turned (subgroup_at s inside.subgroup) (named_closed inside.subgroup h.subgroup) q p k l)

  finite_same : (h p : ℕ) → is_finite s (shifted (group_of s.group) h p) ≡ is_finite s p
  finite_same h p =
      ⊎_elim (λ l. ap (is_finite s) (shifted_finite s g h p l) ∙ lt-ltb ((group_of s.group).plus p h) (order_of s.group) (g.within p h) ∙ sym (lt-ltb p (order_of s.group) l))
      (λ l. ap (is_finite s) (shifted_fixed s g h p l)) (cases_lt p (order_of s.group))

  -- the target of two points by what they are
  abbrev by_kinds : Bool → Bool → ℕ → ℕ
  by_kinds a b t = cond (a && b) t (cond (not a && not b) s.hole s.lambda)

  target_kept : (h p q : ℕ) → target s (shifted (group_of s.group) h p) (shifted (group_of s.group) h q) ≡ target s p q
  target_kept h p q =
      ap₂ (λ a b. by_kinds a b (finite_target s s.inside (shifted (group_of s.group) h p) (shifted (group_of s.group) h q))) (finite_same h p) (finite_same h q)
      ∙ go (is_finite s p) refl (is_finite s q) refl
    where
      go : (a : Bool) → is_finite s p ≡ a → (b : Bool) → is_finite s q ≡ b → by_kinds a b (finite_target s s.inside (shifted (group_of s.group) h p) (shifted (group_of s.group) h q)) ≡ by_kinds a b (finite_target s s.inside p q)
      go true e true k = finite_kept s.inside h p q (ltb-true p (order_of s.group) e) (ltb-true q (order_of s.group) k)
      go true e false k = refl
      go false e true k = refl
      go false e false k = refl

  target_turned : (p q : ℕ) → target s p q ≡ target s q p
  target_turned p q = go (is_finite s p) refl (is_finite s q) refl
    where
      go : (a : Bool) → is_finite s p ≡ a → (b : Bool) → is_finite s q ≡ b → by_kinds a b (finite_target s s.inside p q) ≡ by_kinds b a (finite_target s s.inside q p)
      go true e true k = finite_turned s.inside is.inside p q (ltb-true p (order_of s.group) e) (ltb-true q (order_of s.group) k)
      go true e false k = refl
      go false e true k = refl
      go false e false k = refl

  pub pair_target : (h : ℕ) (x : ℕ × ℕ) → target s (shifted_pair s h x).0 (shifted_pair s h x).1 ≡ target s x.0 x.1
  pair_target h x =
      let a = shifted (group_of s.group) h x.0 in
      let b = shifted (group_of s.group) h x.1 in
      ⊎_elim (λ e. ap (λ (y : ℕ × ℕ). target s y.0 y.1) e) (λ e. ap (λ (y : ℕ × ℕ). target s y.0 y.1) e ∙ target_turned b a) (order_either a b) ∙ target_kept h x.0 x.1
