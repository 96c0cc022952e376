-- The first place of a list where a test passes.
use Rattle.std.proofs.Common.{◌≡◌, ℕ, ◌<◌, ◌≤◌, Bool, true, false, cond, nat_lt, List, [], ◌∷◌, find, position, length, slice_get, get_or, None, Some, refl, sym, ap, ◌∙◌, inl, inr, arith, ltb-true, ltb-false, zero, suc}
use Rattle.std.specs.List.{position_or_len}
use Rattle.std.proofs.lemmas.List.Folds.{find_at}
use Rattle.std.proofs.lemmas.Option.{slice_get-get_or}
use Rattle.df_lists.specs.Membership.{In}

module _ {X : Type 0} (t : X → Bool) where
  none_passes : (xs : List X) → find t xs ≡ None → (x : X) → In xs x → t x ≡ false
  none_passes [] h x i = absurd i
  none_passes (y ∷ xs) h x i = go (t y) refl h i (none_passes xs)
    where
      go : (v : Bool) → t y ≡ v → cond v (Some y) (find t xs) ≡ None → In (y ∷ xs) x → (find t xs ≡ None → (x : X) → In xs x → t x ≡ false) → t x ≡ false
      go true e k j more = absurd (let z : ⊥ = cc in z)
      go false e k (inl s) more = sym (ap t s) ∙ e
      go false e k (inr j) more = more k x j

  one_passes : (xs : List X) (x : X) → find t xs ≡ Some x → In xs x × (t x ≡ true)
  one_passes [] x h = absurd (let z : ⊥ = cc in z)
  one_passes (y ∷ xs) x h = go (t y) refl h (one_passes xs x)
    where
      go : (v : Bool) → t y ≡ v → cond v (Some y) (find t xs) ≡ Some x → (find t xs ≡ Some x → In xs x × (t x ≡ true)) → In (y ∷ xs) x × (t x ≡ true)
      go true e k more = let is : y ≡ x = cc in (inl is, sym (ap t is) ∙ e)
      go false e k more = let r = more k in (inr r.0, r.1)

  nothing_past : (xs : List X) (i : ℕ) → length xs ≤ i → slice_get xs i ≡ None
  nothing_past [] i h = refl
  nothing_past (x ∷ xs) zero h = absurd (omega arith)
  nothing_past (x ∷ xs) (suc i) h = nothing_past xs i (omega arith)

  -- where there is no first place, no member passes
  pub none_at : (xs : List X) → position t xs ≡ None → (x : X) → In xs x → t x ≡ false
  none_at xs h = go (nat_lt (position_or_len t xs) (length xs)) refl h
    where
      go : (v : Bool) → nat_lt (position_or_len t xs) (length xs) ≡ v → cond v (Some (position_or_len t xs)) None ≡ None → (x : X) → In xs x → t x ≡ false
      go true e k = absurd (let z : ⊥ = cc in z)
      go false e k = none_passes xs (find_at t xs ∙ nothing_past xs (position_or_len t xs) (ltb-false (position_or_len t xs) (length xs) e))

  -- the first place is one of the list, and the member there passes
  pub first_at : (xs : List X) (i : ℕ) (d : X) → position t xs ≡ Some i → (i < length xs) × In xs (get_or xs i d) × (t (get_or xs i d) ≡ true)
  first_at xs i d h = go (nat_lt (position_or_len t xs) (length xs)) refl h
    where
      go : (v : Bool) → nat_lt (position_or_len t xs) (length xs) ≡ v → cond v (Some (position_or_len t xs)) None ≡ Some i → (i < length xs) × In xs (get_or xs i d) × (t (get_or xs i d) ≡ true)
      go true e k =
          let below = ltb-true (position_or_len t xs) (length xs) e in
          let is : position_or_len t xs ≡ i = cc in
          let r = one_passes xs (get_or xs i d) (find_at t xs ∙ slice_get-get_or xs (position_or_len t xs) d below ∙ ap (λ n. Some (get_or xs n d)) is) in
          (omega arith, r.0, r.1)
      go false e k = absurd (let z : ⊥ = cc in z)
