-- An orbit has as many members as there are maps for each map that fixes one of them.
use Rattle.std.proofs.Common.{◌≡◌, ◌*◌, Bool, true, false, List, [], ◌∷◌, length, refl, sym, ap, ◌∙◌, subst, arith}
use Rattle.std.proofs.lemmas.Bool.{false_from_ne_true, both_ways}
use Rattle.df_lists.specs.Membership.{In, count}
use Rattle.df_lists.specs.Totals.{one}
use Rattle.df_lists.proofs.ListTotals.{list_total, length_total, list_total_agree, count_total, count_agree, list_total_times, list_total_swap}
use Rattle.df_lists.proofs.MemberLaws.{count_none}
use Rattle.df_lists.specs.Orders.{IsEquality}
use Rattle.df_acting.specs.Orbits.{IsMapGroup, IsSpread, in_one_orbit_by}
use Rattle.df_lists.proofs.TestLaws.{same_tests, any_from}
use Rattle.df_acting.proofs.OrbitLaws.{one_orbit_gives}

module _ {M X : Type 0} (eq : X → X → Bool) (act : M → X → X) (D : X → Type 0) (maps : List M) (E : IsEquality eq) (G : IsMapGroup act D maps)
    (mul : M → M → M) (after : (f g : M) → In maps f → In maps g → (x : X) → D x → act (mul f g) x ≡ act f (act g x)) (turn : (f : M) → In maps f → (t : M → Bool) → count t maps ≡ count (λ g. t (mul f g)) maps) where
  -- as many maps carry x to one of its images as to itself
  carry_same : (x : X) (f : M) → D x → In maps f → count (λ g. eq (act g x) (act f x)) maps ≡ count (λ g. eq (act g x) x) maps
  carry_same x f d i =
      turn f i (λ g. eq (act g x) (act f x))
      ∙ count_agree (λ g. eq (act (mul f g) x) (act f x)) (λ g. eq (act g x) x) maps (λ g j. ap (λ y. eq y (act f x)) (after f g i j x d) ∙ agree_here g j)
    where
      agree_here : (g : M) → In maps g → eq (act f (act g x)) (act f x) ≡ eq (act g x) x
      agree_here g j =
          let h = G.back f i in
          same_tests (eq (act f (act g x)) (act f x)) (eq (act g x) x)
          (λ k. subst (λ y. eq (act g x) y ≡ true) (sym (h.2 (act g x) (G.stays g j x d)) ∙ ap (act h.0) (E.same (act f (act g x)) (act f x) k) ∙ h.2 x d) (E.self (act g x)))
          (λ k. subst (λ y. eq (act f (act g x)) (act f y) ≡ true) (E.same (act g x) x k) (E.self (act f (act g x))))

  carry_count : (x y : X) → D x → count (λ g. eq (act g x) y) maps ≡ count (λ g. eq (act g x) x) maps * one (in_one_orbit_by eq act maps x y)
  carry_count x y d = go (in_one_orbit_by eq act maps x y) refl
    where
      go : (b : Bool) → in_one_orbit_by eq act maps x y ≡ b → count (λ g. eq (act g x) y) maps ≡ count (λ g. eq (act g x) x) maps * one b
      go true h = let f = one_orbit_gives eq act D maps E G x y h in subst (λ z. count (λ g. eq (act g x) z) maps ≡ count (λ g. eq (act g x) x) maps * 1) f.2 (carry_same x f.0 d f.1 ∙ omega arith)
      go false h = count_none (λ g. eq (act g x) y) maps (λ g i. false_from_ne_true (eq (act g x) y) (λ k. both_ways (in_one_orbit_by eq act maps x y) h (any_from (λ g. eq (act g x) y) maps g i k))) ∙ omega arith

  pub orbit_stabilizer : (xs : List X) → IsSpread eq act D maps xs → (x : X) → In xs x → length maps ≡ count (λ g. eq (act g x) x) maps * count (in_one_orbit_by eq act maps x) xs
  orbit_stabilizer xs S x i =
      length_total maps
      ∙ list_total_agree (λ g. 1) (λ g. list_total (λ y. one (eq (act g x) y)) xs) maps (λ g j. sym (S.once (act g x) (S.moves g j x i)) ∙ count_total (eq (act g x)) xs)
      ∙ list_total_swap (λ g y. one (eq (act g x) y)) maps xs
      ∙ list_total_agree (λ y. list_total (λ g. one (eq (act g x) y)) maps) (λ y. count (λ g. eq (act g x) x) maps * one (in_one_orbit_by eq act maps x y)) xs (λ y j. sym (count_total (λ g. eq (act g x) y) maps) ∙ carry_count x y (S.inside x i))
      ∙ list_total_times (count (λ g. eq (act g x) x) maps) (λ y. one (in_one_orbit_by eq act maps x y)) xs
      ∙ ap (λ n. count (λ g. eq (act g x) x) maps * n) (sym (count_total (in_one_orbit_by eq act maps x) xs))
