-- Sums of multiples of generators are closed, and the least that is.
use Rattle.std.proofs.Common.{◌≡◌, ℕ, zero, suc, ◌+◌, ◌-◌, ◌%◌, ◌<◌, List, [], ◌∷◌, map, refl, sym, ap, ◌∙◌, inl, inr, subst, arith, mod-lt}
use Rattle.std.proofs.Math.Nat.{mod_self}
use Rattle.std.specs.List.{range_with_len}
use Rattle.df_lists.specs.Membership.{In}
use Rattle.df_lists.proofs.MemberLaws.{In-flat_map, In-flat_map_gives, In-map, In-map_gives, In-range, In-range_gives}
use Rattle.df_group.specs.Elements.{group_of, order_of, minus, IsShape}
use Rattle.df_group.specs.Subgroups.{exponent_of, sums}
use Rattle.df_group.proofs.ElementLaws.{is_group}
use Rattle.df_group.proofs.ExponentLaws.{exponent_low}
use Rattle.df_group.proofs.MultipleLaws.{are_multiples}
use Rattle.df_group.proofs.GroupLaws.{zero_plus, neg_is, plus_four}

module _ (fs : List ℕ) (is : IsShape fs) where
  -- a multiple of the first generator, and a sum of the others
  pub sum_more : (g : ℕ) (gs : List ℕ) (c s : ℕ) → c < exponent_of fs → In (sums fs gs) s → In (sums fs (g ∷ gs)) ((group_of fs).plus ((group_of fs).times c g) s)
  unfolding sums
  sum_more g gs c s l i =
      In-flat_map (λ c. map ((group_of fs).plus ((group_of fs).times c g)) (sums fs gs)) (range_with_len 0 (exponent_of fs)) c ((group_of fs).plus ((group_of fs).times c g) s) (In-range 0 (exponent_of fs) c (omega arith) (omega arith))
      (In-map ((group_of fs).plus ((group_of fs).times c g)) (sums fs gs) s i)

  -- x is a multiple of g and a sum of the others
  pub record Summand (g : ℕ) (gs : List ℕ) (x : ℕ) : Type 0 where
    pub factor : ℕ
    pub rest : ℕ
    pub small : factor < exponent_of fs
    pub inside : In (sums fs gs) rest
    pub whole : (group_of fs).plus ((group_of fs).times factor g) rest ≡ x

  pub sum_gives : (g : ℕ) (gs : List ℕ) (x : ℕ) → In (sums fs (g ∷ gs)) x → Summand g gs x
  unfolding sums
  sum_gives g gs x i =
      let r = In-flat_map_gives (λ c. map ((group_of fs).plus ((group_of fs).times c g)) (sums fs gs)) (range_with_len 0 (exponent_of fs)) x i in
      let b = In-range_gives 0 (exponent_of fs) r.0 r.1 in
      let s = In-map_gives ((group_of fs).plus ((group_of fs).times r.0 g)) (sums fs gs) x r.2 in
      record { factor = r.0; rest = s.0; small = omega (arith, b.1); inside = s.1; whole = s.2 }

  pub sum_none : In (sums fs []) 0
  unfolding sums
  sum_none = inl refl

  pub sum_none_gives : (x : ℕ) → In (sums fs []) x → 0 ≡ x
  unfolding sums
  sum_none_gives x (inl e) = e
  sum_none_gives x (inr i) = absurd i

  -- each sum is an element
  pub sum_within : (gs : List ℕ) (x : ℕ) → In (sums fs gs) x → x < order_of fs
  sum_within [] x i = let e = sum_none_gives x i in let some = (is_group fs is).some in omega arith
  sum_within (g ∷ gs) x i =
      let r = sum_gives g gs x i in
      subst (λ n. n < order_of fs) r.whole ((is_group fs is).within ((group_of fs).times r.factor g) r.rest)

  none_and : (g s : ℕ) → s < order_of fs → (group_of fs).plus ((group_of fs).times 0 g) s ≡ s
  none_and g s h = ap (λ n. (group_of fs).plus n s) ((are_multiples fs is).none g) ∙ zero_plus (group_of fs) (is_group fs is) s h

  -- a sum of the others
  pub sum_tail : (g : ℕ) (gs : List ℕ) (x : ℕ) → In (sums fs gs) x → In (sums fs (g ∷ gs)) x
  sum_tail g gs x i =
      let low = exponent_low fs is in
      subst (In (sums fs (g ∷ gs))) (none_and g x (sum_within gs x i)) (sum_more g gs 0 x (omega arith) i)

  pub sum_zero : (gs : List ℕ) → In (sums fs gs) 0
  sum_zero [] = sum_none
  sum_zero (g ∷ gs) = sum_tail g gs 0 (sum_zero gs)

  -- each generator is a sum
  pub sum_generator : (gs : List ℕ) (g : ℕ) → g < order_of fs → In gs g → In (sums fs gs) g
  sum_generator [] g h i = absurd i
  sum_generator (k ∷ gs) g h (inl e) =
      let low = exponent_low fs is in
      let whole : (group_of fs).plus ((group_of fs).times 1 k) 0 ≡ g =
      ap (λ n. (group_of fs).plus ((group_of fs).times 1 n) 0) e ∙ ap (λ n. (group_of fs).plus n 0) ((are_multiples fs is).one g h) ∙ (is_group fs is).zero g h
      in
      subst (In (sums fs (k ∷ gs))) whole (sum_more k gs 1 0 (omega arith) (sum_zero gs))
  sum_generator (k ∷ gs) g h (inr i) = sum_tail k gs g (sum_generator gs g h i)

  -- sums of sums
  pub sum_plus : (gs : List ℕ) (x y : ℕ) → In (sums fs gs) x → In (sums fs gs) y → In (sums fs gs) ((group_of fs).plus x y)
  sum_plus [] x y i j =
      let e = sum_none_gives x i in
      let f = sum_none_gives y j in
      let some = (is_group fs is).some in
      let none : 0 ≡ (group_of fs).plus x y = sym ((is_group fs is).zero 0 some) ∙ ap (λ n. (group_of fs).plus n 0) e ∙ ap ((group_of fs).plus x) f in
      subst (In (sums fs [])) none sum_none
  sum_plus (g ∷ gs) x y i j =
      let r = sum_gives g gs x i in
      let s = sum_gives g gs y j in
      let M = are_multiples fs is in
      let low = exponent_low fs is in
      let c = r.factor + s.factor in
      let rest = (group_of fs).plus r.rest s.rest in
      let factors : (group_of fs).times (c % exponent_of fs) g ≡ (group_of fs).plus ((group_of fs).times r.factor g) ((group_of fs).times s.factor g) = M.reduced c g ∙ M.sum r.factor s.factor g in
      let whole : (group_of fs).plus ((group_of fs).times (c % exponent_of fs) g) rest ≡ (group_of fs).plus x y =
      ap (λ n. (group_of fs).plus n rest) factors
      ∙ plus_four (group_of fs) (is_group fs is) ((group_of fs).times r.factor g) ((group_of fs).times s.factor g) r.rest s.rest
      ∙ ap (λ n. (group_of fs).plus n ((group_of fs).plus ((group_of fs).times s.factor g) s.rest)) r.whole
      ∙ ap ((group_of fs).plus x) s.whole
      in
      subst (In (sums fs (g ∷ gs))) whole (sum_more g gs (c % exponent_of fs) rest (mod-lt c (omega arith)) (sum_plus gs r.rest s.rest r.inside s.inside))

  pub sum_times : (gs : List ℕ) (m x : ℕ) → In (sums fs gs) x → In (sums fs gs) ((group_of fs).times m x)
  sum_times gs zero x i = subst (In (sums fs gs)) (sym ((are_multiples fs is).none x)) (sum_zero gs)
  sum_times gs (suc m) x i = subst (In (sums fs gs)) (sym ((are_multiples fs is).more m x)) (sum_plus gs x ((group_of fs).times m x) i (sum_times gs m x i))

  -- the negative is a multiple
  pub neg_multiple : (x : ℕ) → (group_of fs).times (exponent_of fs - 1) x ≡ (group_of fs).neg x
  neg_multiple x =
      let M = are_multiples fs is in
      let low = exponent_low fs is in
      let e = exponent_of fs in
      let next : suc (e - 1) ≡ e = omega arith in
      let none : (group_of fs).plus x ((group_of fs).times (e - 1) x) ≡ 0 =
      sym (M.more (e - 1) x) ∙ ap (λ n. (group_of fs).times n x) next ∙ sym (M.reduced e x) ∙ ap (λ n. (group_of fs).times n x) (mod_self e) ∙ M.none x
      in
      neg_is (group_of fs) (is_group fs is) x ((group_of fs).times (e - 1) x) (M.within (e - 1) x) none

  pub sum_neg : (gs : List ℕ) (x : ℕ) → In (sums fs gs) x → In (sums fs gs) ((group_of fs).neg x)
  sum_neg gs x i = subst (In (sums fs gs)) (neg_multiple x) (sum_times gs (exponent_of fs - 1) x i)

  pub sum_minus : (gs : List ℕ) (x y : ℕ) → In (sums fs gs) x → In (sums fs gs) y → In (sums fs gs) (minus (group_of fs) x y)
  sum_minus gs x y i j = sum_plus gs x ((group_of fs).neg y) i (sum_neg gs y j)

  -- the least set with these generators that sums don't leave
  pub sum_least : (D : ℕ → Type 0) → D 0 → ((x y : ℕ) → D x → D y → D ((group_of fs).plus x y)) → (gs : List ℕ) → ((g : ℕ) → In gs g → D g) → (x : ℕ) → In (sums fs gs) x → D x
  sum_least D none more [] each x i = subst D (sum_none_gives x i) none
  sum_least D none more (g ∷ gs) each x i =
      let r = sum_gives g gs x i in
      subst D r.whole (more ((group_of fs).times r.factor g) r.rest (multiples r.factor) (sum_least D none more gs (λ h j. each h (inr j)) r.rest r.inside))
    where
      multiples : (m : ℕ) → D ((group_of fs).times m g)
      multiples zero = subst D (sym ((are_multiples fs is).none g)) none
      multiples (suc m) = subst D (sym ((are_multiples fs is).more m g)) (more g ((group_of fs).times m g) (each g (inl refl)) (multiples m))

  -- generators that are sums of others give no more
  pub sum_among : (gs hs : List ℕ) → ((g : ℕ) → In gs g → In (sums fs hs) g) → (x : ℕ) → In (sums fs gs) x → In (sums fs hs) x
  sum_among gs hs each = sum_least (In (sums fs hs)) (sum_zero hs) (sum_plus hs) gs each
