-- The products of at most e multipliers give the residues of all products.
use Rattle.std.proofs.Common.{◌≡◌, ℕ, suc, zero, ◌*◌, ◌%◌, ◌<◌, Bool, true, false, not, List, [], ◌∷◌, map, length, refl, sym, ap, ◌∙◌, subst, inl, inr, ◌⊎◌, arith, ⊎_elim, mod-lt}
use Rattle.std.proofs.lemmas.Bool.{not-true, not_from_false, both_ways}
use Rattle.std.specs.List.{flat_map, range_with_len, list_any}
use Rattle.df_lists.specs.Membership.{In}
use Rattle.df_lists.specs.NumberSets.{has_member, set_of, IsSet}
use Rattle.df_lists.proofs.MemberLaws.{In-map, In-map_gives, In-filter, In-filter_gives, count_some}
use Rattle.df_lists.proofs.TestLaws.{any_from, any_gives, has_from, has_gives}
use Rattle.df_lists.proofs.SetLaws.{In-points, In-points_gives, filter_is_set}
use Rattle.df_maps.specs.Products.{product_of, AllIn, products_within, products, AreProducts}
use Rattle.std.proofs.lemmas.Nat.{mul-mod_second}
use Rattle.df_lists.proofs.ListTotals.{count_less, count_whole}
use Rattle.df_lists.proofs.MemberLaws.{In-flat_map, In-flat_map_gives}
use Rattle.df_lists.proofs.SetLaws.{set_long, set_picked, In-set}

pub In-set_of : (v : ℕ) (xs : List ℕ) (r : ℕ) → r < v → In xs r → In (set_of v xs) r
In-set_of v xs r h i = In-filter (has_member xs) (range_with_len 0 v) r (In-points v r h) (has_from xs r i)

pub In-set_of_gives : (v : ℕ) (xs : List ℕ) (r : ℕ) → In (set_of v xs) r → (r < v) × In xs r
In-set_of_gives v xs r i = let h = In-filter_gives (has_member xs) (range_with_len 0 v) r i in (In-points_gives v r h.0, has_gives xs r h.1)

pub set_less : (v : ℕ) (a b : List ℕ) (p : ℕ) → IsSet v a → IsSet v b → ((q : ℕ) → In a q → In b q) → In b p → has_member a p ≡ false → length a < length b
set_less v a b p s t h i out =
    let below : p < v = In-set v b p t i in
    omega (arith, ap length (set_picked v a s), ap length (set_picked v b t), count_less (has_member a) (has_member b) (range_with_len 0 v) p (λ q j e. has_from b q (h q (has_gives a q e))) (In-points v p below) out (has_from b p i))

module _ (e : ℕ) (stated : List ℕ) (pos : 0 < e) where
  abbrev more : ℕ → List ℕ
  more n = flat_map (λ m. map (λ r. (m * r) % e) (products_within e stated n)) stated

  pub within_set : (n : ℕ) → IsSet e (products_within e stated n)
  within_set zero = filter_is_set (has_member (1 % e ∷ [])) e
  within_set (suc n) = filter_is_set (has_member (1 % e ∷ more n)) e

  pub one_in : (n : ℕ) → In (products_within e stated n) (1 % e)
  one_in zero = In-set_of e (1 % e ∷ []) (1 % e) (mod-lt 1 pos) (inl refl)
  one_in (suc n) = In-set_of e (1 % e ∷ more n) (1 % e) (mod-lt 1 pos) (inl refl)

  step_in : (n m r : ℕ) → In stated m → In (products_within e stated n) r → In (products_within e stated (suc n)) ((m * r) % e)
  step_in n m r i j = In-set_of e (1 % e ∷ more n) ((m * r) % e) (mod-lt (m * r) pos) (inr (In-flat_map (λ m. map (λ r. (m * r) % e) (products_within e stated n)) stated m ((m * r) % e) i (In-map (λ r. (m * r) % e) (products_within e stated n) r j)))

  -- 1, or a multiplier times a product of fewer
  pub step_cases : (n r : ℕ) → In (products_within e stated (suc n)) r → (1 % e ≡ r) ⊎ ((m : ℕ) × (s : ℕ) × In stated m × In (products_within e stated n) s × ((m * s) % e ≡ r))
  step_cases n r i = go (In-set_of_gives e (1 % e ∷ more n) r i).1
    where
      go : In (1 % e ∷ more n) r → (1 % e ≡ r) ⊎ ((m : ℕ) × (s : ℕ) × In stated m × In (products_within e stated n) s × ((m * s) % e ≡ r))
      go (inl h) = inl h
      go (inr j) =
          let m = In-flat_map_gives (λ m. map (λ r. (m * r) % e) (products_within e stated n)) stated r j in
          let s = In-map_gives (λ r. (m.0 * r) % e) (products_within e stated n) r m.2 in
          inr (m.0, s.0, m.1, s.1, s.2)

  grows : (n r : ℕ) → In (products_within e stated n) r → In (products_within e stated (suc n)) r
  grows zero r i = go (In-set_of_gives e (1 % e ∷ []) r i).1
    where
      go : In (1 % e ∷ []) r → In (products_within e stated 1) r
      go (inl h) = subst (In (products_within e stated 1)) h (one_in 1)
      go (inr j) = absurd j
  grows (suc n) r i =
      ⊎_elim (λ h. subst (In (products_within e stated (suc (suc n)))) h (one_in (suc (suc n))))
      (λ s. subst (In (products_within e stated (suc (suc n)))) s.4 (step_in (suc n) s.0 s.1 s.2 (grows n s.1 s.3)))
      (step_cases n r i)

  inside : (n r : ℕ) → In (products_within e stated n) r → (ms : List ℕ) × AllIn stated ms × (product_of ms % e ≡ r)
  inside zero r i = go (In-set_of_gives e (1 % e ∷ []) r i).1
    where
      go : In (1 % e ∷ []) r → (ms : List ℕ) × AllIn stated ms × (product_of ms % e ≡ r)
      go (inl h) = ([], tt, h)
      go (inr j) = absurd j
  inside (suc n) r i =
      ⊎_elim (λ h. ([], tt, h))
      (λ s. let ms = inside n s.1 s.3 in (s.0 ∷ ms.0, (s.2, ms.1), sym (mul-mod_second s.0 (product_of ms.0) e) ∙ ap (λ k. (s.0 * k) % e) ms.2 ∙ s.4))
      (step_cases n r i)

  -- one more multiplier gives nothing new
  abbrev IsClosed : ℕ → Type 0
  IsClosed n = (r : ℕ) → In (products_within e stated (suc n)) r → In (products_within e stated n) r

  closed_next : (n : ℕ) → IsClosed n → IsClosed (suc n)
  closed_next n c r i =
      ⊎_elim (λ h. subst (In (products_within e stated (suc n))) h (one_in (suc n)))
      (λ s. subst (In (products_within e stated (suc n))) s.4 (step_in n s.0 s.1 s.2 (c s.1 s.3)))
      (step_cases (suc n) r i)

  closed_or_more : (n : ℕ) → IsClosed n ⊎ (length (products_within e stated n) < length (products_within e stated (suc n)))
  closed_or_more n = go (list_any new (products_within e stated (suc n))) refl
    where
      new : ℕ → Bool
      new r = not (has_member (products_within e stated n) r)

      go : (b : Bool) → list_any (λ r. not (has_member (products_within e stated n) r)) (products_within e stated (suc n)) ≡ b → IsClosed n ⊎ (length (products_within e stated n) < length (products_within e stated (suc n)))
      go true h =
          let r = any_gives (λ r. not (has_member (products_within e stated n) r)) (products_within e stated (suc n)) h in
          inr (set_less e (products_within e stated n) (products_within e stated (suc n)) r.0 (within_set n) (within_set (suc n)) (grows n) r.1 (not-true (has_member (products_within e stated n) r.0) r.2))
      go false h = inl (λ r i. has_gives (products_within e stated n) r (held r i (has_member (products_within e stated n) r) refl))
        where
          held : (r : ℕ) → In (products_within e stated (suc n)) r → (b : Bool) → has_member (products_within e stated n) r ≡ b → has_member (products_within e stated n) r ≡ true
          held r i true k = k
          held r i false k = absurd (both_ways (list_any (λ r. not (has_member (products_within e stated n) r)) (products_within e stated (suc n))) h (any_from (λ r. not (has_member (products_within e stated n) r)) (products_within e stated (suc n)) r i (not_from_false (has_member (products_within e stated n) r) k)))

  closed_or_long : (n : ℕ) → IsClosed n ⊎ (n < length (products_within e stated n))
  closed_or_long zero = inr (let l = count_some (has_member (products_within e stated zero)) (products_within e stated zero) (1 % e) (one_in zero) (has_from (products_within e stated zero) (1 % e) (one_in zero)) in omega (arith, l, count_whole (has_member (products_within e stated zero)) (products_within e stated zero)))
  closed_or_long (suc n) =
      ⊎_elim (λ c. inl (closed_next n c))
      (λ l. ⊎_elim (λ c. inl (closed_next n c)) (λ k. inr (omega (arith, l, k))) (closed_or_more n))
      (closed_or_long n)

  closed : IsClosed e
  closed = ⊎_elim (λ c. c) (λ l. absurd (let h = set_long e (products_within e stated e) (within_set e) in omega (arith, l, h))) (closed_or_long e)

  all_in : (ms : List ℕ) → AllIn stated ms → In (products_within e stated e) (product_of ms % e)
  all_in [] i = one_in e
  all_in (m ∷ ms) i = closed ((m * product_of ms) % e) (subst (In (products_within e stated (suc e))) (mul-mod_second m (product_of ms) e) (step_in e m (product_of ms % e) i.0 (all_in ms i.1)))

  pub products_are : AreProducts e stated (products e stated)
  unfolding products
  products_are = record { set = within_set e; inside = inside e; all = all_in }

  -- products times a multiplier are products
  pub products_step : (m r : ℕ) → In stated m → In (products e stated) r → In (products e stated) ((m * r) % e)
  products_step m r i j =
      let P = products_are in
      let ms = P.inside r j in
      subst (In (products e stated)) (sym (mul-mod_second m (product_of ms.0) e) ∙ ap (λ k. (m * k) % e) ms.2) (P.all (m ∷ ms.0) (i, ms.1))

  pub products_one : In (products e stated) (1 % e)
  products_one = products_are.all [] tt

  pub products_first : (r : ℕ) → In (products_within e stated 0) r → 1 % e ≡ r
  products_first r i = go (In-set_of_gives e (1 % e ∷ []) r i).1
    where
      go : In (1 % e ∷ []) r → 1 % e ≡ r
      go (inl h) = h
      go (inr j) = absurd j

  pub products_end : (r : ℕ) → In (products e stated) r → In (products_within e stated e) r
  unfolding products
  products_end r i = i
