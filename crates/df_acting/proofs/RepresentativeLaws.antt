-- Each orbit has one earliest member, and where marks find it.
use Rattle.std.proofs.Common.{◌≡◌, Bool, true, false, not, cond, ◌++◌, map, List, [], ◌∷◌, refl, sym, ap, ◌∙◌, subst, inl, inr, ⊎_elim, append_assoc}
use Rattle.std.proofs.lemmas.Bool.{both_ways, not-true, not_from_false, false_from_ne_true}
use Rattle.std.specs.List.{list_any}
use Rattle.df_lists.specs.Membership.{In}
use Rattle.df_lists.proofs.MemberLaws.{In-append_left, In-append_right, In-append_cases, In-map, In-map_gives}
use Rattle.df_lists.specs.Orders.{IsEquality}
use Rattle.df_acting.specs.Orbits.{IsMapGroup, IsSpread, in_one_orbit_by}
use Rattle.df_lists.specs.Orders.{IsOrder, IsSorted}
use Rattle.df_acting.specs.Representatives.{is_representative, earliest, representative_by}
use Rattle.df_lists.proofs.TestLaws.{same_tests, any_from, any_gives, all_from, all_gives}
use Rattle.df_acting.proofs.OrbitLaws.{one_orbit_from, one_orbit_gives, one_orbit_same, one_orbit_comm}

sorted_across : {X : Type 0} (before : X → X → Bool) (xs ys : List X) (x y : X) → IsSorted before (xs ++ ys) → In xs x → In ys y → before x y ≡ true
sorted_across before [] ys x y s i j = absurd i
sorted_across before (z ∷ xs) ys x y s (inl e) j = subst (λ w. before w y ≡ true) e (s.0 y (In-append_right xs ys y j))
sorted_across before (z ∷ xs) ys x y s (inr i) j = sorted_across before xs ys x y s.1 i j

-- the earliest is one of them, and none is before it
module _ {X : Type 0} (before : X → X → Bool) (O : IsOrder before) where
  pub earliest_in : (x : X) (ys : List X) → In (x ∷ ys) (earliest before x ys)
  earliest_in x [] = inl refl
  earliest_in x (y ∷ ys) =
      let with_y = earliest_in y ys in
      let with_x = earliest_in x ys in
      elim (before y x) as (λ b. In (x ∷ y ∷ ys) (earliest before (cond b y x) ys)) [
        | true ↦ inr with_y
        | false ↦ ⊎_elim (λ e. inl e) (λ i. inr (inr i)) with_x
      ]

  -- what isn't before x isn't before what x isn't before either
  not_before : (x y m : X) → before y x ≡ false → before x m ≡ false → before y m ≡ false
  not_before x y m h k = false_from_ne_true (before y m) (λ l. go (before x y) refl l)
    where
      go : (b : Bool) → before x y ≡ b → before y m ≡ true → ⊥
      go true e l = both_ways (before x m) k (O.onward x y m e l)
      go false e l = both_ways (before x m) k (subst (λ w. before w m ≡ true) (sym (O.either x y e h)) l)

  pub earliest_first : (x : X) (ys : List X) (z : X) → In (x ∷ ys) z → before z (earliest before x ys) ≡ false
  earliest_first x [] z (inl e) = subst (λ w. before w x ≡ false) e (O.unlike x)
  earliest_first x [] z (inr i) = absurd i
  earliest_first x (y ∷ ys) z i = go (before y x) refl (earliest_first y ys) (earliest_first x ys) i
    where
      go : (b : Bool) → before y x ≡ b → ((w : X) → In (y ∷ ys) w → before w (earliest before y ys) ≡ false) → ((w : X) → In (x ∷ ys) w → before w (earliest before x ys) ≡ false) → In (x ∷ y ∷ ys) z → before z (earliest before (cond b y x) ys) ≡ false
      go true e with_y with_x (inl s) = subst (λ w. before w (earliest before y ys) ≡ false) s (false_from_ne_true (before x (earliest before y ys)) (λ l. both_ways (before y (earliest before y ys)) (with_y y (inl refl)) (O.onward y x (earliest before y ys) e l)))
      go true e with_y with_x (inr j) = with_y z j
      go false e with_y with_x (inl s) = with_x z (inl s)
      go false e with_y with_x (inr (inl s)) = subst (λ w. before w (earliest before x ys) ≡ false) s (not_before x y (earliest before x ys) e (with_x x (inl refl)))
      go false e with_y with_x (inr (inr j)) = with_x z (inr j)

module _ {M X : Type 0} (eq : X → X → Bool) (act : M → X → X) (D : X → Type 0) (maps : List M) (E : IsEquality eq) (G : IsMapGroup act D maps) (before : X → X → Bool) (O : IsOrder before) where
  -- the earliest image is an image
  pub least_gives : (x : X) → D x → (g : M) × In maps g × (act g x ≡ representative_by before act maps x)
  least_gives x d = go (earliest_in before O x (map (λ g. act g x) maps))
    where
      go : In (x ∷ map (λ g. act g x) maps) (representative_by before act maps x) → (g : M) × In maps g × (act g x ≡ representative_by before act maps x)
      go (inl e) = let one = G.one in (one.0, one.1, one.2 x d ∙ e)
      go (inr i) = In-map_gives (λ g. act g x) maps (representative_by before act maps x) i

  pub least_same : (x : X) → D x → in_one_orbit_by eq act maps x (representative_by before act maps x) ≡ true
  least_same x d = let g = least_gives x d in one_orbit_from eq act D maps E G g.0 x (representative_by before act maps x) g.1 g.2

  pub is_representative_gives : (x : X) (g : M) → is_representative before act maps x ≡ true → In maps g → before (act g x) x ≡ false
  is_representative_gives x g h i = not-true (before (act g x) x) (all_gives (λ g. not (before (act g x) x)) maps h g i)

  -- and no image of it is earlier
  pub least_least : (x : X) → D x → is_representative before act maps (representative_by before act maps x) ≡ true
  least_least x d =
      all_from (λ g. not (before (act g (representative_by before act maps x)) (representative_by before act maps x))) maps (λ g i. not_from_false (before (act g (representative_by before act maps x)) (representative_by before act maps x)) (here g i))
    where
      here : (g : M) → In maps g → before (act g (representative_by before act maps x)) (representative_by before act maps x) ≡ false
      here g i =
          let f = least_gives x d in
          let h = G.times g f.0 i f.1 in
          subst (λ w. before w (representative_by before act maps x) ≡ false) (h.2 x d ∙ ap (act g) f.2) (earliest_first before O x (map (λ g. act g x) maps) (act h.0 x) (inr (In-map (λ g. act g x) maps h.0 h.1)))

  -- an orbit has no second one
  pub least_once : (x y : X) → D x → D y → in_one_orbit_by eq act maps x y ≡ true → is_representative before act maps x ≡ true → is_representative before act maps y ≡ true → x ≡ y
  least_once x y d k h l m =
      let g = one_orbit_gives eq act D maps E G x y h in
      let f = one_orbit_gives eq act D maps E G y x (sym (one_orbit_comm eq act D maps E G x y d k) ∙ h) in
      O.either x y (subst (λ w. before w y ≡ false) f.2 (is_representative_gives y f.0 m f.1)) (subst (λ w. before w x ≡ false) g.2 (is_representative_gives x g.0 l g.1))

  -- two have one earliest image exactly where a map carries one to the other
  pub representative_same : (x y : X) → D x → D y → in_one_orbit_by eq act maps x y ≡ eq (representative_by before act maps x) (representative_by before act maps y)
  representative_same x y d k = same_tests (in_one_orbit_by eq act maps x y) (eq (representative_by before act maps x) (representative_by before act maps y)) one_way other_way
    where
      at : (z : X) → D z → D (representative_by before act maps z)
      at z e = let g = least_gives z e in subst D g.2 (G.stays g.0 g.1 z e)

      one_way : in_one_orbit_by eq act maps x y ≡ true → eq (representative_by before act maps x) (representative_by before act maps y) ≡ true
      one_way h =
          let a : in_one_orbit_by eq act maps (representative_by before act maps x) y ≡ true = one_orbit_same eq act D maps E G x (representative_by before act maps x) y d (least_same x d) ∙ h in
          let b : in_one_orbit_by eq act maps y (representative_by before act maps x) ≡ true = one_orbit_comm eq act D maps E G y (representative_by before act maps x) k (at x d) ∙ a in
          let c : in_one_orbit_by eq act maps (representative_by before act maps y) (representative_by before act maps x) ≡ true = one_orbit_same eq act D maps E G y (representative_by before act maps y) (representative_by before act maps x) k (least_same y k) ∙ b in
          subst (λ w. eq w (representative_by before act maps y) ≡ true) (least_once (representative_by before act maps y) (representative_by before act maps x) (at y k) (at x d) c (least_least y k) (least_least x d)) (E.self (representative_by before act maps y))

      other_way : eq (representative_by before act maps x) (representative_by before act maps y) ≡ true → in_one_orbit_by eq act maps x y ≡ true
      other_way h =
          let b = subst (λ w. in_one_orbit_by eq act maps x w ≡ true) (E.same (representative_by before act maps x) (representative_by before act maps y) h) (least_same x d) in
          let c = one_orbit_comm eq act D maps E G (representative_by before act maps y) y (at y k) k ∙ least_same y k in
          sym (one_orbit_same eq act D maps E G x (representative_by before act maps y) y d b) ∙ c

  -- marks: in a sorted list that the maps don't leave, a member is the earliest of its orbit exactly where no member before it is of its orbit
  pub least_unmarked : (done rest : List X) (x : X) → IsSorted before (done ++ x ∷ rest) → IsSpread eq act D maps (done ++ x ∷ rest) → is_representative before act maps x ≡ not (list_any (λ d. in_one_orbit_by eq act maps d x) done)
  least_unmarked done rest x sorted S = same_tests (is_representative before act maps x) (not (list_any (λ d. in_one_orbit_by eq act maps d x) done)) one_way other_way
    where
      here : In (done ++ x ∷ rest) x
      here = In-append_right done (x ∷ rest) x (inl refl)

      one_way : is_representative before act maps x ≡ true → not (list_any (λ d. in_one_orbit_by eq act maps d x) done) ≡ true
      one_way h = not_from_false (list_any (λ d. in_one_orbit_by eq act maps d x) done) (false_from_ne_true (list_any (λ d. in_one_orbit_by eq act maps d x) done) (λ l.
          let d = any_gives (λ d. in_one_orbit_by eq act maps d x) done l in
          let g = one_orbit_gives eq act D maps E G x d.0 (one_orbit_comm eq act D maps E G x d.0 (S.inside x here) (S.inside d.0 (In-append_left done (x ∷ rest) d.0 d.1)) ∙ d.2) in
          both_ways (before d.0 x) (subst (λ w. before w x ≡ false) g.2 (is_representative_gives x g.0 h g.1)) (sorted_across before done (x ∷ rest) d.0 x sorted d.1 (inl refl))))

      not_later : (y : X) → In (x ∷ rest) y → before y x ≡ true → ⊥
      not_later y (inl e) l = both_ways (before x x) (O.unlike x) (subst (λ w. before w x ≡ true) (sym e) l)
      not_later y (inr i) l = both_ways (before x x) (O.unlike x) (O.onward x y x (sorted_across before (done ++ x ∷ []) rest x y (rw (append_assoc done (x ∷ []) rest) sorted) (In-append_right done (x ∷ []) x (inl refl)) i) l)

      other_way : not (list_any (λ d. in_one_orbit_by eq act maps d x) done) ≡ true → is_representative before act maps x ≡ true
      other_way h = all_from (λ g. not (before (act g x) x)) maps (λ g i. not_from_false (before (act g x) x) (false_from_ne_true (before (act g x) x) (λ l.
          ⊎_elim
          (λ j. both_ways (list_any (λ d. in_one_orbit_by eq act maps d x) done) (not-true (list_any (λ d. in_one_orbit_by eq act maps d x) done) h)
          (any_from (λ d. in_one_orbit_by eq act maps d x) done (act g x) j (one_orbit_comm eq act D maps E G (act g x) x (G.stays g i x (S.inside x here)) (S.inside x here) ∙ one_orbit_from eq act D maps E G g x (act g x) i refl)))
          (λ j. not_later (act g x) j l)
          (In-append_cases done (x ∷ rest) (act g x) (S.moves g i x here)))))
