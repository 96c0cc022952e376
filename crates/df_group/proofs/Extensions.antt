-- A subgroup with one more generator is made of the cosets by the multiples below the first one that is in already.
use Rattle.std.proofs.Common.{◌≡◌, ℕ, ◌*◌, ◌/◌, ◌%◌, ◌<◌, ◌≤◌, Bool, true, false, ◌&&◌, ◌||◌, eqb, List, ◌∷◌, refl, sym, ap, ◌∙◌, subst, arith, eq-eqb, eqb-true, div-add-mod', mod-lt}
use Rattle.std.specs.Cmp.{both_ways as same_tests}
use Rattle.std.proofs.lemmas.Bool.{and_parts}
use Rattle.std.specs.List.{list_any}
use Rattle.df_lists.specs.Membership.{In}
use Rattle.df_lists.specs.LeastMembers.{any_below}
use Rattle.df_lists.specs.NumberSets.{has_member, with_member, IsSet}
use Rattle.df_lists.proofs.LeastLaws.{any_from, any_found}
use Rattle.df_lists.proofs.SetLaws.{set_below, set_longer}
use Rattle.df_lists.proofs.RisingLists.{has_more}
use Rattle.df_group.specs.Elements.{group_of, order_of, IsShape}
use Rattle.df_group.specs.Subgroups.{exponent_of, sums, generated, IsStored, IsSubgroup}
use Rattle.df_group.proofs.ElementLaws.{is_group}
use Rattle.df_group.proofs.GroupLaws.{zero_plus}
use Rattle.df_group.proofs.MultipleLaws.{are_multiples}
use Rattle.df_group.proofs.SumLaws.{sum_within, sum_plus, sum_times}
use Rattle.df_group.proofs.GeneratedSets.{sum_member, member_sum, next_generated, generated_set}

-- x is the sum of a multiple of g below the c-th and a member
abbrev pub is_reached : List ℕ → ℕ → List ℕ → ℕ → ℕ → Bool
is_reached fs g set c x = any_below (λ k. any_below (λ s. has_member set s && eqb ((group_of fs).plus ((group_of fs).times k g) s) x) (order_of fs)) c

module _ (fs : List ℕ) (is : IsShape fs) (g : ℕ) (set gs : List ℕ) (e : generated fs gs ≡ set) where
  known : (s : ℕ) → has_member set s ≡ true → In (sums fs gs) s
  known s h = member_sum fs is gs s (ap (λ l. has_member l s) e ∙ h)

  member : (s : ℕ) → In (sums fs gs) s → has_member set s ≡ true
  member s i = sym (ap (λ l. has_member l s) e) ∙ sum_member fs is gs s i

  reach : (c x k s : ℕ) → k < c → has_member set s ≡ true → (group_of fs).plus ((group_of fs).times k g) s ≡ x → is_reached fs g set c x ≡ true
  reach c x k s l h w =
      any_from (λ k. any_below (λ s. has_member set s && eqb ((group_of fs).plus ((group_of fs).times k g) s) x) (order_of fs)) c k l
      (any_from (λ s. has_member set s && eqb ((group_of fs).plus ((group_of fs).times k g) s) x) (order_of fs) s (sum_within fs is gs s (known s h))
      (rw (h, eq-eqb ((group_of fs).plus ((group_of fs).times k g) s) x w) refl))

  reached : (c x : ℕ) → is_reached fs g set c x ≡ true → (k s : ℕ) × (k < c) × (has_member set s ≡ true) × ((group_of fs).plus ((group_of fs).times k g) s ≡ x)
  reached c x h =
      let k = any_found (λ k. any_below (λ s. has_member set s && eqb ((group_of fs).plus ((group_of fs).times k g) s) x) (order_of fs)) c h in
      let s = any_found (λ s. has_member set s && eqb ((group_of fs).plus ((group_of fs).times k.0 g) s) x) (order_of fs) k.2 in
      let both = and_parts (has_member set s.0) (eqb ((group_of fs).plus ((group_of fs).times k.0 g) s.0) x) s.2 in
      (k.0, s.0, k.1, both.0, eqb-true ((group_of fs).plus ((group_of fs).times k.0 g) s.0) x both.1)

  -- by no multiple but the first, 0, the members alone are reached
  pub reached_first : (x : ℕ) → has_member set x ≡ is_reached fs g set 1 x
  reached_first x = same_tests (has_member set x) (is_reached fs g set 1 x)
      (λ h. reach 1 x 0 x (omega arith) h (none x (sum_within fs is gs x (known x h))))
      (λ h. let r = reached 1 x h in member x (subst (In (sums fs gs)) (same r.0 r.1 r.2 r.3 r.4) (known r.1 r.3)))
    where
      none : (s : ℕ) → s < order_of fs → (group_of fs).plus ((group_of fs).times 0 g) s ≡ s
      none s l = ap (λ n. (group_of fs).plus n s) ((are_multiples fs is).none g) ∙ zero_plus (group_of fs) (is_group fs is) s l

      same : (k s : ℕ) → k < 1 → has_member set s ≡ true → (group_of fs).plus ((group_of fs).times k g) s ≡ x → s ≡ x
      same k s l h w =
          let first : k ≡ 0 = omega arith in
          sym (none s (sum_within fs is gs s (known s h))) ∙ ap (λ n. (group_of fs).plus ((group_of fs).times n g) s) (sym first) ∙ w

  -- beyond a multiple that is a member nothing new is reached
  pub reached_all : (c e : ℕ) → 1 ≤ c → c ≤ e → has_member set ((group_of fs).times c g) ≡ true → (x : ℕ) → is_reached fs g set c x ≡ is_reached fs g set e x
  reached_all c e some low h x = same_tests (is_reached fs g set c x) (is_reached fs g set e x)
      (λ r. let w = reached c x r in reach e x w.0 w.1 (omega (arith, w.2)) w.3 w.4)
      (λ r. let w = reached e x r in back w.0 w.1 w.3 w.4)
    where
      back : (k s : ℕ) → has_member set s ≡ true → (group_of fs).plus ((group_of fs).times k g) s ≡ x → is_reached fs g set c x ≡ true
      back k s m w =
          let G = group_of fs in
          let M = are_multiples fs is in
          let T = G.times (k / c) (G.times c g) in
          let R = G.times (k % c) g in
          let split : G.times k g ≡ G.plus T R =
          ap (λ n. G.times n g) (sym (div-add-mod' k c)) ∙ M.sum (k / c * c) (k % c) g ∙ ap (λ n. G.plus n R) (M.product (k / c) c g)
          in
          let whole : G.plus R (G.plus T s) ≡ x =
          sym ((is_group fs is).assoc R T s) ∙ ap (λ n. G.plus n s) ((is_group fs is).comm R T) ∙ ap (λ n. G.plus n s) (sym split) ∙ w
          in
          let inside = sum_plus fs is gs T s (sum_times fs is gs (k / c) (G.times c g) (known (G.times c g) h)) (known s m) in
          reach c x (k % c) (G.plus T s) (mod-lt k (omega arith)) (member (G.plus T s) inside) whole

-- the cosets up to such a multiple, or up to the exponent, are the next subgroup
pub extended_all : (fs : List ℕ) → IsShape fs → (g : ℕ) (set next : List ℕ) → IsSubgroup fs set → IsStored next → ((x : ℕ) → has_member next x ≡ is_reached fs g set (exponent_of fs) x)
    → (gs : List ℕ) → set ≡ generated fs gs → next ≡ generated fs (g ∷ gs)
extended_all fs is g set next sub stored h gs e = next_generated fs is g gs set next stored e h

pub extended_first : (fs : List ℕ) → IsShape fs → (g c : ℕ) (set next : List ℕ) → IsSubgroup fs set → 1 ≤ c → c ≤ exponent_of fs → has_member set ((group_of fs).times c g) ≡ true
    → IsStored next → ((x : ℕ) → has_member next x ≡ is_reached fs g set c x) → (gs : List ℕ) → set ≡ generated fs gs → next ≡ generated fs (g ∷ gs)
extended_first fs is g c set next (hs, d) some low m stored h gs e =
    next_generated fs is g gs set next stored e (λ x. h x ∙ reached_all fs is g set hs d c (exponent_of fs) some low m x)

pub subgroup_stored : (fs : List ℕ) → IsShape fs → (set : List ℕ) → IsSubgroup fs set → IsStored set
unfolding IsStored
subgroup_stored fs is set (gs, e) = set_longer (order_of fs) 128 set is.small (subst (IsSet (order_of fs)) e (generated_set fs gs))

-- each member of a subgroup is an element
pub subgroup_below : (fs set : List ℕ) → IsSubgroup fs set → (s : ℕ) → has_member set s ≡ true → s < order_of fs
subgroup_below fs set (gs, e) s h = set_below (order_of fs) set (subst (IsSet (order_of fs)) e (generated_set fs gs)) s h

-- the sum with the next member is put in: what is there and what is still to come stays
pub coset_step : (now new rest more : List ℕ) (f : ℕ → ℕ) (s x : ℕ) → new ≡ with_member (f s) now → rest ≡ s ∷ more
    → (has_member new x || list_any (λ s. eqb (f s) x) more) ≡ (has_member now x || list_any (λ s. eqb (f s) x) rest)
coset_step now new rest more f s x e r =
    ap (λ v. v || list_any (λ s. eqb (f s) x) more) (ap (λ l. has_member l x) e ∙ has_more (f s) x now)
    ∙ turned (eqb (f s) x) (has_member now x) (list_any (λ s. eqb (f s) x) more)
    ∙ sym (ap (λ l. has_member now x || list_any (λ s. eqb (f s) x) l) r)
  where
    turned : (a b c : Bool) → ((a || b) || c) ≡ (b || (a || c))
    turned true true c = refl
    turned true false c = refl
    turned false b c = refl
