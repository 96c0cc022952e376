-- The rows of the table are the kinds of pairs of points.
use Rattle.std.proofs.Common.{◌≡◌, ℕ, zero, suc, ◌+◌, ◌-◌, ◌<◌, ◌≤◌, cond, ◌++◌, map, refl, sym, ap, ◌∙◌, inl, inr, arith, lt-ltb, le-ltb, Option, None, Some}
use Rattle.std.specs.List.{range_with_len}
use Rattle.std.proofs.lemmas.Bool.{cases_lt}
use Rattle.df_lists.specs.Membership.{In}
use Rattle.df_lists.specs.NumberSets.{has_member}
use Rattle.df_lists.proofs.MemberLaws.{In-append_cases, In-append_left, In-append_right, In-flat_map, In-flat_map_gives, In-map, In-map_gives, In-range, In-range_gives}
use Rattle.df_group.specs.Elements.{order_of, group_of, IsGroup, minus}
use Rattle.df_group.proofs.GroupLaws.{less_more, minus_zero}
use Rattle.df_lang.specs.declared.pieces.Inside.{Inside}
use Rattle.df_lang.specs.Problems.{Stated, point_count}
use Rattle.df_lang.specs.Targets.{subgroup_at, finite_target, target}
use Rattle.df_family.specs.declared.table.Row.{Row}
use Rattle.df_family.specs.declared.table.Row.TheVariants.{Diff, WithFixed, TwoFixed}
use Rattle.df_family.specs.Tables.{fixed_point, differences, singles, pairs, rows, stated}
use Rattle.df_family.proofs.RowKinds.{kind, fixed_back}

-- a row that is the kind of two points
pub record IsKind (s : Stated) (row : Row) : Type 0 where
  pub lower : ℕ
  pub upper : ℕ
  pub apart : lower < upper
  pub below : upper < point_count s
  pub is : kind s lower upper ≡ row

module _ (s : Stated) (is : IsGroup (group_of s.group)) where
  far_apart : (p q : ℕ) → p < q → q < order_of s.group → 0 < minus (group_of s.group) q p
  far_apart p q h k = go (minus (group_of s.group) q p) refl
    where
      go : (d : ℕ) → minus (group_of s.group) q p ≡ d → 0 < d
      go (suc d) e = omega arith
      go zero e =
          let back = less_more (group_of s.group) is q p k in
          let same : (group_of s.group).plus 0 p ≡ p = is.comm 0 p ∙ is.zero p (omega arith) in
          let x : q ≡ p = sym back ∙ ap (λ d. (group_of s.group).plus d p) e ∙ same in
          absurd (omega arith)

  -- the kind of two points is a row
  pub kind_listed : (p q : ℕ) → p < q → q < point_count s → In (rows s) (kind s p q)
  kind_listed p q h k =
      let n = order_of s.group in
      elim (cases_lt q n) [
        | inl l ↦
            let d = minus (group_of s.group) q p in
            let some = far_apart p q h l in
            let small = is.within q ((group_of s.group).neg p) in
            rw (lt-ltb q n l) (In-append_left (differences s) (singles s ++ pairs s) (Diff d) (In-map Diff (range_with_len 1 (n - 1)) d (In-range 1 (n - 1) d (omega arith) (omega arith))))
        | inr r ↦
            elim (cases_lt p n) [
              | inl l ↦
                  let i = q - n + 1 in
                  rw (le-ltb q n r, lt-ltb p n l) (In-append_right (differences s) (singles s ++ pairs s) (WithFixed i) (In-append_left (singles s) (pairs s) (WithFixed i) (In-map WithFixed (range_with_len 1 s.fixed) i (In-range 1 s.fixed i (omega arith) (omega arith)))))
              | inr t ↦
                  let i = p - n + 1 in
                  let j = q - n + 1 in
                  rw (le-ltb q n r, le-ltb p n t)
                  (In-append_right (differences s) (singles s ++ pairs s) (TwoFixed i j) (In-append_right (singles s) (pairs s) (TwoFixed i j)
                  (In-flat_map (λ i. map (TwoFixed i) (range_with_len (i + 1) (s.fixed - i))) (range_with_len 1 s.fixed) i (TwoFixed i j) (In-range 1 s.fixed i (omega arith) (omega arith))
                  (In-map (TwoFixed i) (range_with_len (i + 1) (s.fixed - i)) j (In-range (i + 1) (s.fixed - i) j (omega arith) (omega arith))))))
            ]
      ]

  kind_finite : (d : ℕ) → d < order_of s.group → kind s 0 d ≡ Diff d
  kind_finite d h = rw (lt-ltb d (order_of s.group) h) (ap Diff (minus_zero (group_of s.group) is d h))

  kind_single : (i : ℕ) → 0 < i → kind s 0 (fixed_point s i) ≡ WithFixed i
  kind_single i h =
      let n = order_of s.group in
      let some = is.some in
      let back : n + (i - 1) - n + 1 ≡ i = omega arith in
      rw (le-ltb (n + (i - 1)) n (omega arith), lt-ltb 0 n is.some) (ap WithFixed back)

  kind_pair : (i j : ℕ) → 0 < i → i < j → kind s (fixed_point s i) (fixed_point s j) ≡ TwoFixed i j
  kind_pair i j h l =
      let n = order_of s.group in
      let back : n + (i - 1) - n + 1 ≡ i = omega arith in
      let back_too : n + (j - 1) - n + 1 ≡ j = omega arith in
      rw (le-ltb (n + (j - 1)) n (omega arith), le-ltb (n + (i - 1)) n (omega arith)) (ap (λ x. TwoFixed x (n + (j - 1) - n + 1)) back ∙ ap (TwoFixed i) back_too)

  -- each row is the kind of two points
  pub listed_kind : (row : Row) → In (rows s) row → IsKind s row
  listed_kind row i =
      let n = order_of s.group in
      elim (In-append_cases (differences s) (singles s ++ pairs s) row i) [
        | inl a ↦
            let m = In-map_gives Diff (range_with_len 1 (n - 1)) row a in
            let r = In-range_gives 1 (n - 1) m.0 m.1 in
            let low = r.0 in
            let high = r.1 in
            let some = is.some in
            record { lower = 0; upper = m.0; apart = omega arith; below = omega arith; is = kind_finite m.0 (omega arith) ∙ m.2 }
        | inr rest ↦
            elim (In-append_cases (singles s) (pairs s) row rest) [
              | inl a ↦
                  let m = In-map_gives WithFixed (range_with_len 1 s.fixed) row a in
                  let r = In-range_gives 1 s.fixed m.0 m.1 in
                  let low = r.0 in
                  let high = r.1 in
                  let some = is.some in
                  record { lower = 0; upper = fixed_point s m.0; apart = omega arith; below = omega arith; is = kind_single m.0 (omega arith) ∙ m.2 }
              | inr a ↦
                  let f = In-flat_map_gives (λ i. map (TwoFixed i) (range_with_len (i + 1) (s.fixed - i))) (range_with_len 1 s.fixed) row a in
                  let r = In-range_gives 1 s.fixed f.0 f.1 in
                  let m = In-map_gives (TwoFixed f.0) (range_with_len (f.0 + 1) (s.fixed - f.0)) row f.2 in
                  let t = In-range_gives (f.0 + 1) (s.fixed - f.0) m.0 m.1 in
                  let low = r.0 in
                  let high = r.1 in
                  let more = t.0 in
                  let most = t.1 in
                  record { lower = fixed_point s f.0; upper = fixed_point s m.0; apart = omega arith; below = omega arith; is = kind_pair f.0 m.0 (omega arith) (omega arith) ∙ m.2 }
            ]
      ]

  same_target : (inside : Option Inside) (p q : ℕ) → finite_target s inside p q ≡ finite_target s inside 0 (minus (group_of s.group) q p)
  same_target None p q = refl
  same_target (Some inside) p q =
      ap (λ d. cond (has_member (subgroup_at s inside.subgroup) d) inside.target s.lambda) (sym (minus_zero (group_of s.group) is (minus (group_of s.group) q p) (is.within q ((group_of s.group).neg p))))

  -- the target of two points is that of their row
  pub target_stated : (p q : ℕ) → p < q → q < point_count s → target s p q ≡ stated s (kind s p q)
  target_stated p q h k =
      let n = order_of s.group in
      elim (cases_lt q n) [
        | inl l ↦
            let d = minus (group_of s.group) q p in
            rw (lt-ltb q n l, lt-ltb p n (omega arith), lt-ltb 0 n is.some, lt-ltb d n (is.within q ((group_of s.group).neg p))) (same_target s.inside p q)
        | inr r ↦
            elim (cases_lt p n) [
              | inl l ↦ rw (le-ltb q n r, lt-ltb p n l) (sym (ap (target s 0) (fixed_back s q r) ∙ with_fixed 0 q is.some r))
              | inr t ↦ rw (le-ltb q n r, le-ltb p n t) (sym (ap (λ x. target s x (fixed_point s (q - n + 1))) (fixed_back s p t) ∙ ap (target s p) (fixed_back s q r) ∙ two_fixed p q t r))
            ]
      ]
    where
      with_fixed : (p q : ℕ) → p < order_of s.group → order_of s.group ≤ q → target s p q ≡ s.lambda
      with_fixed p q l r = rw (le-ltb q (order_of s.group) r, lt-ltb p (order_of s.group) l) refl

      two_fixed : (p q : ℕ) → order_of s.group ≤ p → order_of s.group ≤ q → target s p q ≡ s.hole
      two_fixed p q t r = rw (le-ltb q (order_of s.group) r, le-ltb p (order_of s.group) t) refl
