-- The subgroup of generators as an increasing list.
use Rattle.std.proofs.Common.{◌≡◌, ℕ, suc, ◌+◌, ◌<◌, Bool, true, eqb, ◌&&◌, ◌||◌, List, [], ◌∷◌, ◌++◌, filter, refl, sym, ap, ◌∙◌, inl, inr, ⊎_elim, subst, arith, eq-eqb}
use Rattle.std.proofs.lemmas.Bool.{eqb-true, and_parts}
use Rattle.std.specs.Cmp.{both_ways as same_tests}
use Rattle.std.specs.List.{range_with_len}
use Rattle.df_lists.specs.Membership.{In}
use Rattle.df_lists.specs.LeastMembers.{any_below}
use Rattle.df_lists.specs.NumberSets.{has_member, IsSet}
use Rattle.df_lists.proofs.CountLaws.{has_filter}
use Rattle.df_lists.proofs.LeastLaws.{any_from, any_found}
use Rattle.df_lists.proofs.MemberLaws.{In-append_cases, In-append_left, In-append_right, In-filter_gives, In-range}
use Rattle.df_lists.proofs.SetLaws.{same_sets, filter_is_set, set_longer, filter_all, in_range, zero_set}
use Rattle.df_lists.proofs.TestLaws.{has_from, has_gives}
use Rattle.df_group.specs.Elements.{group_of, order_of, IsShape}
use Rattle.df_group.specs.Subgroups.{exponent_of, sums, generated, IsStored}
use Rattle.df_group.proofs.ElementLaws.{is_group}
use Rattle.df_group.proofs.SumLaws.{sum_more, sum_gives, sum_within, sum_tail, sum_among, sum_generator, sum_plus, sum_times, sum_none, sum_none_gives}

pub generated_set : (fs gs : List ℕ) → IsSet (order_of fs) (generated fs gs)
unfolding generated
generated_set fs gs = filter_is_set (has_member (sums fs gs)) (order_of fs)

module _ (fs : List ℕ) (is : IsShape fs) where
  -- its members are the sums
  pub sum_member : (gs : List ℕ) (x : ℕ) → In (sums fs gs) x → has_member (generated fs gs) x ≡ true
  unfolding generated
  sum_member gs x i = has_filter (has_member (sums fs gs)) (order_of fs) x (sum_within fs is gs x i) ∙ has_from (sums fs gs) x i

  pub member_sum : (gs : List ℕ) (x : ℕ) → has_member (generated fs gs) x ≡ true → In (sums fs gs) x
  unfolding generated
  member_sum gs x h =
      let i = In-filter_gives (has_member (sums fs gs)) (range_with_len 0 (order_of fs)) x (has_gives (filter (has_member (sums fs gs)) (range_with_len 0 (order_of fs))) x h) in
      has_gives (sums fs gs) x i.1

  pub same_generated : (gs hs : List ℕ) → ((x : ℕ) → In (sums fs gs) x → In (sums fs hs) x) → ((x : ℕ) → In (sums fs hs) x → In (sums fs gs) x) → generated fs gs ≡ generated fs hs
  same_generated gs hs there back =
      same_sets (order_of fs) (generated fs gs) (generated fs hs) (generated_set fs gs) (generated_set fs hs)
      (λ x l. same_tests (has_member (generated fs gs) x) (has_member (generated fs hs) x) (λ h. sum_member hs x (there x (member_sum gs x h))) (λ h. sum_member gs x (back x (member_sum hs x h))))

  -- a generator that is a sum of the others gives no more
  pub generated_skip : (g : ℕ) (gs : List ℕ) → has_member (generated fs gs) g ≡ true → generated fs (g ∷ gs) ≡ generated fs gs
  generated_skip g gs h = same_generated (g ∷ gs) gs (λ x i. all x i (member_sum gs g h)) (λ x i. sum_tail fs is g gs x i)
    where
      all : (x : ℕ) → In (sums fs (g ∷ gs)) x → In (sums fs gs) g → In (sums fs gs) x
      all x i j =
          let r = sum_gives fs is g gs x i in
          subst (In (sums fs gs)) r.whole (sum_plus fs is gs ((group_of fs).times r.factor g) r.rest (sum_times fs is gs r.factor g j) r.inside)

  -- the members of the next subgroup: all c g + s
  pub next_members : (g : ℕ) (gs set : List ℕ) → set ≡ generated fs gs → (x : ℕ)
      → has_member (generated fs (g ∷ gs)) x ≡ any_below (λ c. any_below (λ s. has_member set s && eqb ((group_of fs).plus ((group_of fs).times c g) s) x) (order_of fs)) (exponent_of fs)
  next_members g gs set e x = same_tests (has_member (generated fs (g ∷ gs)) x) (any_below (λ c. any_below (λ s. has_member set s && eqb ((group_of fs).plus ((group_of fs).times c g) s) x) (order_of fs)) (exponent_of fs)) there back
    where
      there : has_member (generated fs (g ∷ gs)) x ≡ true → any_below (λ c. any_below (λ s. has_member set s && eqb ((group_of fs).plus ((group_of fs).times c g) s) x) (order_of fs)) (exponent_of fs) ≡ true
      there h =
          let r = sum_gives fs is g gs x (member_sum (g ∷ gs) x h) in
          let known : has_member set r.rest ≡ true = ap (λ l. has_member l r.rest) e ∙ sum_member gs r.rest r.inside in
          let found : (has_member set r.rest && eqb ((group_of fs).plus ((group_of fs).times r.factor g) r.rest) x) ≡ true = rw (known, eq-eqb ((group_of fs).plus ((group_of fs).times r.factor g) r.rest) x r.whole) refl in
          any_from (λ c. any_below (λ s. has_member set s && eqb ((group_of fs).plus ((group_of fs).times c g) s) x) (order_of fs)) (exponent_of fs) r.factor r.small
          (any_from (λ s. has_member set s && eqb ((group_of fs).plus ((group_of fs).times r.factor g) s) x) (order_of fs) r.rest (sum_within fs is gs r.rest r.inside) found)

      back : any_below (λ c. any_below (λ s. has_member set s && eqb ((group_of fs).plus ((group_of fs).times c g) s) x) (order_of fs)) (exponent_of fs) ≡ true → has_member (generated fs (g ∷ gs)) x ≡ true
      back h =
          let c = any_found (λ c. any_below (λ s. has_member set s && eqb ((group_of fs).plus ((group_of fs).times c g) s) x) (order_of fs)) (exponent_of fs) h in
          let s = any_found (λ s. has_member set s && eqb ((group_of fs).plus ((group_of fs).times c.0 g) s) x) (order_of fs) c.2 in
          let known = (and_parts (has_member set s.0) (eqb ((group_of fs).plus ((group_of fs).times c.0 g) s.0) x) s.2).0 in
          let whole = eqb-true ((group_of fs).plus ((group_of fs).times c.0 g) s.0) x ((and_parts (has_member set s.0) (eqb ((group_of fs).plus ((group_of fs).times c.0 g) s.0) x) s.2).1) in
          let inside = member_sum gs s.0 (sym (ap (λ l. has_member l s.0) e) ∙ known) in
          sum_member (g ∷ gs) x (subst (In (sums fs (g ∷ gs))) whole (sum_more fs is g gs c.0 s.0 c.1 inside))

  -- so the next subgroup is told by its members
  pub next_generated : (g : ℕ) (gs set next : List ℕ) → IsStored next → set ≡ generated fs gs
      → ((x : ℕ) → has_member next x ≡ any_below (λ c. any_below (λ s. has_member set s && eqb ((group_of fs).plus ((group_of fs).times c g) s) x) (order_of fs)) (exponent_of fs))
      → next ≡ generated fs (g ∷ gs)
  unfolding IsStored
  next_generated g gs set next i e h =
      same_sets 128 next (generated fs (g ∷ gs)) i (set_longer (order_of fs) 128 (generated fs (g ∷ gs)) is.small (generated_set fs (g ∷ gs)))
      (λ x l. h x ∙ sym (next_members g gs set e x))

  -- the order of two generators has no effect
  pub generated_turn : (g : ℕ) (gs : List ℕ) → g < order_of fs → ((k : ℕ) → In gs k → k < order_of fs) → generated fs (g ∷ gs) ≡ generated fs (gs ++ g ∷ [])
  generated_turn g gs h below =
      same_generated (g ∷ gs) (gs ++ g ∷ [])
      (sum_among fs is (g ∷ gs) (gs ++ g ∷ []) (λ k i. sum_generator fs is (gs ++ g ∷ []) k (small k i) (front k i)))
      (sum_among fs is (gs ++ g ∷ []) (g ∷ gs) (λ k i. sum_generator fs is (g ∷ gs) k (small k (back k i)) (back k i)))
    where
      small : (k : ℕ) → In (g ∷ gs) k → k < order_of fs
      small k (inl e) = subst (λ n. n < order_of fs) e h
      small k (inr i) = below k i

      front : (k : ℕ) → In (g ∷ gs) k → In (gs ++ g ∷ []) k
      front k (inl e) = In-append_right gs (g ∷ []) k (inl e)
      front k (inr i) = In-append_left gs (g ∷ []) k i

      back : (k : ℕ) → In (gs ++ g ∷ []) k → In (g ∷ gs) k
      back k i = ⊎_elim (λ j. inr j) (λ j. ⊎_elim (λ e. inl e) (λ n. absurd n) j) (In-append_cases gs (g ∷ []) k i)

module _ (fs : List ℕ) (is : IsShape fs) where
  -- without generators there is 0 alone
  pub generated_none : generated fs [] ≡ 0 ∷ []
  generated_none =
      same_sets (order_of fs) (generated fs []) (0 ∷ []) (generated_set fs []) (zero_set (order_of fs) (is_group fs is).some)
      (λ x l. same_tests (has_member (generated fs []) x) (has_member (0 ∷ []) x)
      (λ h. has_from (0 ∷ []) x (inl (sum_none_gives fs is x (member_sum fs is [] x h))))
      (λ h. sum_member fs is [] x (subst (In (sums fs [])) (only x (has_gives (0 ∷ []) x h)) (sum_none fs is))))
    where
      only : (x : ℕ) → In (0 ∷ []) x → 0 ≡ x
      only x (inl e) = e
      only x (inr n) = absurd n

  -- all elements generate all
  pub generated_whole : generated fs (range_with_len 0 (order_of fs)) ≡ range_with_len 0 (order_of fs)
  generated_whole =
      let all = range_with_len 0 (order_of fs) in
      same_sets (order_of fs) (generated fs all) all (generated_set fs all) (subst (IsSet (order_of fs)) (filter_all (has_member all) 0 (order_of fs) (λ k l m. in_range (order_of fs) k (omega arith))) (filter_is_set (has_member all) (order_of fs)))
      (λ x l. sum_member fs is all x (sum_generator fs is all x l (In-range 0 (order_of fs) x (omega arith) (omega arith))) ∙ sym (in_range (order_of fs) x l))

-- the sums of one more multiple
pub cosets_more : (t : ℕ → Bool) (n : ℕ) (old new coset : Bool) → new ≡ (old || coset) → old ≡ any_below t n → coset ≡ t n → new ≡ any_below t (n + 1)
cosets_more t n old new coset e f g = let next : n + 1 ≡ suc n = omega arith in rw (next, e, f, g) refl
