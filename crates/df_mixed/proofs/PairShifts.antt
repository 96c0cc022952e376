-- The shifts are a group of maps of the pairs.
use Rattle.std.proofs.Common.{◌≡◌, ℕ, ◌<◌, List, sym, ap, ap₂, ◌∙◌, inl, inr, arith}
use Rattle.std.proofs.lemmas.Bool.{cases_lt}
use Rattle.df_lists.proofs.TestLaws.{has_from, has_gives}
use Rattle.df_group.specs.Elements.{order_of, group_of, IsGroup, shifted}
use Rattle.df_group.specs.ClosedSets.{IsClosed}
use Rattle.df_acting.specs.Orbits.{IsMapGroup}
use Rattle.df_lang.specs.Problems.{Stated, point_count}
use Rattle.df_family.proofs.TranslateLaws.{shifted_finite, shifted_fixed, shifted_within, there_and_back}
use Rattle.df_mixed.specs.PairOrbits.{in_order, shifted_pair}
use Rattle.df_mixed.specs.MixedTables.{IsPair}
use Rattle.df_mixed.proofs.PairOrders.{ordered, order_rises, order_below, order_mapped}

module _ (s : Stated) (is : IsGroup (group_of s.group)) where
  pub shifted_apart : (g p q : ℕ) → p < q → shifted (group_of s.group) g p ≡ shifted (group_of s.group) g q → ⊥
  shifted_apart g p q h e =
      let same : p ≡ q = sym (there_and_back s is g p) ∙ ap (shifted (group_of s.group) ((group_of s.group).neg g)) e ∙ there_and_back s is g q in
      omega arith

  shifted_zero : (p : ℕ) → shifted (group_of s.group) 0 p ≡ p
  shifted_zero p =
      elim (cases_lt p (order_of s.group)) [
        | inl l ↦ shifted_finite s is 0 p l ∙ is.zero p l
        | inr r ↦ shifted_fixed s is 0 p r
      ]

  shifted_twice : (f g p : ℕ) → shifted (group_of s.group) f (shifted (group_of s.group) g p) ≡ shifted (group_of s.group) ((group_of s.group).plus g f) p
  shifted_twice f g p =
      elim (cases_lt p (order_of s.group)) [
        | inl l ↦
            ap (shifted (group_of s.group) f) (shifted_finite s is g p l) ∙ shifted_finite s is f ((group_of s.group).plus p g) (is.within p g) ∙ is.assoc p g f
            ∙ sym (shifted_finite s is ((group_of s.group).plus g f) p l)
        | inr r ↦ ap (shifted (group_of s.group) f) (shifted_fixed s is g p r) ∙ shifted_fixed s is f p r ∙ sym (shifted_fixed s is ((group_of s.group).plus g f) p r)
      ]

  pub pair_stays : (g : ℕ) (x : ℕ × ℕ) → IsPair s x → IsPair s (shifted_pair s g x)
  pair_stays g x h =
      let a = shifted (group_of s.group) g x.0 in
      let b = shifted (group_of s.group) g x.1 in
      let low = h.0 in
      let high = h.1 in
      (order_rises a b (shifted_apart g x.0 x.1 h.0), order_below (point_count s) a b (shifted_within s is g x.0 (omega arith)) (shifted_within s is g x.1 h.1))

  pair_zero : (x : ℕ × ℕ) → IsPair s x → shifted_pair s 0 x ≡ x
  pair_zero x h = ap₂ in_order (shifted_zero x.0) (shifted_zero x.1) ∙ ordered x.0 x.1 h.0

  pub pair_twice : (f g : ℕ) (x : ℕ × ℕ) → shifted_pair s f (shifted_pair s g x) ≡ shifted_pair s ((group_of s.group).plus g f) x
  pair_twice f g x =
      order_mapped (shifted (group_of s.group) f) (shifted (group_of s.group) g x.0) (shifted (group_of s.group) g x.1)
      ∙ ap₂ in_order (shifted_twice f g x.0) (shifted_twice f g x.1)

  there : (g : ℕ) (x : ℕ × ℕ) → IsPair s x → shifted_pair s ((group_of s.group).neg g) (shifted_pair s g x) ≡ x
  there g x h = pair_twice ((group_of s.group).neg g) g x ∙ ap (λ e. shifted_pair s e x) (is.neg g) ∙ pair_zero x h

  back : (g : ℕ) (x : ℕ × ℕ) → IsPair s x → shifted_pair s g (shifted_pair s ((group_of s.group).neg g) x) ≡ x
  back g x h = pair_twice g ((group_of s.group).neg g) x ∙ ap (λ e. shifted_pair s e x) (is.comm ((group_of s.group).neg g) g ∙ is.neg g) ∙ pair_zero x h

  pub pair_group : (shifts : List ℕ) → IsClosed s.group shifts → IsMapGroup (shifted_pair s) (IsPair s) shifts
  pair_group shifts closed = record {
    stays = λ g i x h. pair_stays g x h;
    one = (0, has_gives shifts 0 closed.zero, λ x h. pair_zero x h);
    times = λ f g i j. (
      (group_of s.group).plus g f,
      has_gives shifts ((group_of s.group).plus g f) (closed.plus g f (has_from shifts g j) (has_from shifts f i)),
      λ x h. sym (pair_twice f g x),
    );
    back = λ g i. ((group_of s.group).neg g, has_gives shifts ((group_of s.group).neg g) (closed.neg g (has_from shifts g i)), (λ x h. there g x h), (λ x h. back g x h));
  }
