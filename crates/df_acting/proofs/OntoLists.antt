-- A map of a finite list into itself that is one to one reaches every member.
use Rattle.std.proofs.Common.{◌≡◌, ℕ, ◌<◌, ◌≤◌, Bool, true, List, [], ◌∷◌, length, refl, sym, ◌∙◌, subst, inl, inr, arith, ⊎_elim}
use Rattle.std.proofs.lemmas.Bool.{cases_lt}
use Rattle.df_lists.specs.Membership.{In, count}
use Rattle.df_lists.specs.Totals.{one}
use Rattle.df_lists.proofs.ListTotals.{list_total, list_total_agree, count_total, count_agree, list_total_swap}
use Rattle.df_lists.proofs.MemberLaws.{count_gives}
use Rattle.df_lists.specs.Orders.{IsEquality}
use Rattle.df_lists.proofs.TestLaws.{same_tests}

total_ones : {X : Type 0} (xs : List X) → list_total (λ x. 1) xs ≡ length xs
total_ones [] = refl
total_ones (x ∷ xs) = omega (arith, total_ones xs)

total_at_most : {X : Type 0} (f : X → ℕ) (xs : List X) → ((x : X) → In xs x → f x ≤ 1) → list_total f xs ≤ length xs
total_at_most f [] h = omega arith
total_at_most f (x ∷ xs) h = omega (arith, h x (inl refl), total_at_most f xs (λ y i. h y (inr i)))

-- each is at most 1 and together they are as many as the list has: so each is 1
total_full : {X : Type 0} (f : X → ℕ) (xs : List X) → ((x : X) → In xs x → f x ≤ 1) → list_total f xs ≡ length xs → (x : X) → In xs x → f x ≡ 1
total_full f [] h e x i = absurd i
total_full f (y ∷ xs) h e x (inl s) = subst (λ z. f z ≡ 1) s (omega (arith, h y (inl refl), total_at_most f xs (λ y i. h y (inr i)), e))
total_full f (y ∷ xs) h e x (inr i) = total_full f xs (λ y i. h y (inr i)) (omega (arith, h y (inl refl), total_at_most f xs (λ y i. h y (inr i)), e)) x i

module _ {X : Type 0} (eq : X → X → Bool) (E : IsEquality eq) (xs : List X) (once : (x : X) → In xs x → count (eq x) xs ≡ 1) (f : X → X) (moves : (x : X) → In xs x → In xs (f x)) (apart : (x y : X) → In xs x → In xs y → f x ≡ f y → x ≡ y) where
  abbrev hits : X → ℕ
  hits y = count (λ x. eq (f x) y) xs

  at_most_one : (y : X) → hits y ≤ 1
  at_most_one y = ⊎_elim (λ l. here l (count_gives (λ x. eq (f x) y) xs l)) (λ l. omega (arith, l)) (cases_lt 0 (hits y))
    where
      here : 0 < hits y → (x : X) × In xs x × (eq (f x) y ≡ true) → hits y ≤ 1
      here l x =
          let e = count_agree (λ z. eq (f z) y) (λ z. eq x.0 z) xs (λ z i. same_tests (eq (f z) y) (eq x.0 z)
          (λ h. subst (λ w. eq x.0 w ≡ true) (apart x.0 z x.1 i (E.same (f x.0) y x.2 ∙ sym (E.same (f z) y h))) (E.self x.0))
          (λ h. subst (λ w. eq (f w) y ≡ true) (E.same x.0 z h) x.2)) in
          omega (arith, e, once x.0 x.1)

  pub onto : (y : X) → In xs y → (x : X) × In xs x × (f x ≡ y)
  onto y i =
      let all = list_total_swap (λ y x. one (eq (f x) y)) xs xs ∙ list_total_agree (λ x. list_total (λ y. one (eq (f x) y)) xs) (λ x. 1) xs (λ x j. sym (count_total (eq (f x)) xs) ∙ once (f x) (moves x j)) ∙ total_ones xs in
      let each = list_total_agree hits (λ y. list_total (λ x. one (eq (f x) y)) xs) xs (λ y j. count_total (λ x. eq (f x) y) xs) ∙ all in
      let one = total_full hits xs (λ y j. at_most_one y) each y i in
      let x = count_gives (λ x. eq (f x) y) xs (omega (arith, one)) in
      (x.0, x.1, E.same (f x.0) y x.2)
