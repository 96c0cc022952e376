-- The first wrong row, and what a verdict tells.
use Rattle.std.proofs.Common.{◌≡◌, ◌↔◌, ℕ, zero, suc, ◌<◌, ◌≤◌, Bool, true, false, not, cond, nat_lt, eqb, List, [], ◌∷◌, find, position, slice_get, length, get_or, Option, None, Some, refl, sym, ap, ◌∙◌, inl, inr, arith, ltb-true, ltb-false, eqb-true, eq-eqb}
use Rattle.std.specs.List.{position_or_len}
use Rattle.std.proofs.lemmas.Bool.{both_ways}
use Rattle.std.proofs.lemmas.List.Folds.{find_at}
use Rattle.std.proofs.lemmas.Option.{slice_get-get_or}
use Rattle.df_lists.specs.Membership.{In}
use Rattle.df_lists.proofs.MemberLaws.{In-map, In-map_gives}
use Rattle.df_lang.specs.Problems.{Stated}
use Rattle.df_family.specs.declared.table.Entry.{Entry}
use Rattle.df_family.specs.Tables.{rows, found, stated, entry, table, is_wrong, IsAsStated}
use Rattle.df_family.specs.Verdicts.{verdict_at, verdict_on, is_accepted}
use Rattle.df_family.specs.FamilyLaws.{VerdictLaw}
use Rattle.df_family.proofs.BalanceLaws.{balance}

-- an element at a place that there isn't
nothing_past : {X : Type 0} (xs : List X) (i : ℕ) → length xs ≤ i → slice_get xs i ≡ None
nothing_past [] i h = refl
nothing_past (x ∷ xs) zero h = absurd (omega arith)
nothing_past (x ∷ xs) (suc i) h = nothing_past xs i (omega arith)

module _ (t : Entry → Bool) (xs : List Entry) where
  abbrev place : ℕ
  place = position_or_len t xs

  -- where no place is first, none is found
  pub none_first : position t xs ≡ None → find t xs ≡ None
  none_first h = go (nat_lt place (length xs)) refl h
    where
      go : (v : Bool) → nat_lt place (length xs) ≡ v → cond v (Some place) None ≡ None → find t xs ≡ None
      go true e k = absurd (let z : ⊥ = cc in z)
      go false e k = find_at t xs ∙ nothing_past xs place (ltb-false place (length xs) e)

  -- the entry at the first place is the one that is found
  pub found_first : (i : ℕ) (d : Entry) → position t xs ≡ Some i → (i < length xs) × (find t xs ≡ Some (get_or xs i d))
  found_first i d h = go (nat_lt place (length xs)) refl h
    where
      go : (v : Bool) → nat_lt place (length xs) ≡ v → cond v (Some place) None ≡ Some i → (i < length xs) × (find t xs ≡ Some (get_or xs i d))
      go true e k =
          let below = ltb-true place (length xs) e in
          let is : place ≡ i = cc in
          (omega arith, find_at t xs ∙ slice_get-get_or xs place d below ∙ ap (λ n. Some (get_or xs n d)) is)
      go false e k = absurd (let z : ⊥ = cc in z)

none_passes : (t : Entry → Bool) (xs : List Entry) → find t xs ≡ None → (x : Entry) → In xs x → t x ≡ false
none_passes t [] h x i = absurd i
none_passes t (y ∷ xs) h x i = go (t y) refl h i (none_passes t xs)
  where
    go : (v : Bool) → t y ≡ v → cond v (Some y) (find t xs) ≡ None → In (y ∷ xs) x → (find t xs ≡ None → (x : Entry) → In xs x → t x ≡ false) → t x ≡ false
    go true e k j more = absurd (let z : ⊥ = cc in z)
    go false e k (inl s) more = sym (ap t s) ∙ e
    go false e k (inr j) more = more k x j

one_passes : (t : Entry → Bool) (xs : List Entry) (x : Entry) → find t xs ≡ Some x → In xs x × (t x ≡ true)
one_passes t [] x h = absurd (let z : ⊥ = cc in z)
one_passes t (y ∷ xs) x h = go (t y) refl h (one_passes t xs x)
  where
    go : (v : Bool) → t y ≡ v → cond v (Some y) (find t xs) ≡ Some x → (find t xs ≡ Some x → In xs x × (t x ≡ true)) → In (y ∷ xs) x × (t x ≡ true)
    go true e k more = let is : y ≡ x = cc in (inl is, sym (ap t is) ∙ e)
    go false e k more = let r = more k in (inr r.0, r.1)

right : (a b : ℕ) → not (eqb a b) ≡ false → a ≡ b
right a b h = go (eqb a b) refl h
  where
    go : (v : Bool) → eqb a b ≡ v → not v ≡ false → a ≡ b
    go true e k = eqb-true a b e
    go false e k = absurd (let z : ⊥ = cc in z)

-- a verdict accepts exactly where each row is as stated
pub accepts_rows : (s : Stated) → (is_accepted (verdict_on s) ≡ true) ↔ IsAsStated s
accepts_rows s = go (find is_wrong (table s)) refl
  where
    go : (o : Option Entry) → find is_wrong (table s) ≡ o → (is_accepted (verdict_at s o) ≡ true) ↔ IsAsStated s
    go None e = (λ h row i. right (found s row) (stated s row) (none_passes is_wrong (table s) e (entry s row) (In-map (entry s) (rows s) row i)), λ all. refl)
    go (Some x) e = (
      λ h. absurd (let z : ⊥ = cc in z),
      λ all.
          let r = one_passes is_wrong (table s) x e in
          let m = In-map_gives (entry s) (rows s) x r.0 in
          let same : is_wrong x ≡ false = sym (ap is_wrong m.2) ∙ ap not (eq-eqb (found s m.0) (stated s m.0) (all m.0 m.1)) in
          absurd (both_ways (is_wrong x) same r.1),
    )

pub verdict_law : VerdictLaw
verdict_law s is =
    let r = accepts_rows s in
    let b = balance s is in
    (λ h. b.0 (r.0 h), λ h. r.1 (b.1 h))
