-- An orbit has at most one earliest member, so there are no more of them than of the things that reach them.
use Rattle.std.proofs.Common.{◌≡◌, ℕ, ◌+◌, ◌≤◌, Bool, true, false, cond, ◌&&◌, ◌||◌, List, [], ◌∷◌, filter, length, refl, subst, ◌∙◌, inl, inr, arith, ⊎_elim}
use Rattle.std.specs.List.{list_any}
use Rattle.std.proofs.lemmas.Bool.{and_parts, cases_lt}
use Rattle.df_lists.specs.Membership.{In, count}
use Rattle.df_lists.specs.NumberSets.{IsSet}
use Rattle.df_lists.proofs.MemberLaws.{In-filter_gives, count_none, count_gives}
use Rattle.df_lists.proofs.ListTotals.{count_most}
use Rattle.df_subsets.specs.Blocks.{before}
use Rattle.df_subsets.specs.Subsets.{same_list}
use Rattle.df_subsets.specs.SubsetLaws.{AreOrdered}
use Rattle.df_acting.specs.Orbits.{IsSpread}
use Rattle.df_acting.specs.Representatives.{is_representative}
use Rattle.df_acting.proofs.OrbitLaws.{one_orbit_same}
use Rattle.df_acting.proofs.RepresentativeLaws.{least_once}
use Rattle.df_maps.proofs.SpreadLaws.{lists_equal}
use Rattle.df_maps.specs.FullMaps.{MapGroup, full_maps, image}
use Rattle.df_maps.specs.Laws.{AreGroup}
use Rattle.df_orbits.specs.Orbits.{representatives_of}
use Rattle.df_lang.specs.Problems.{Stated, point_count}
use Rattle.df_kramer_mesner.specs.OrbitSystems.{maps_of_problem, in_one_orbit}
use Rattle.df_lists.proofs.MemberLaws.{count-filter}
use Rattle.df_kramer_mesner.proofs.ProblemMaps.{blocks_group}

count_or : {X : Type 0} (t u : X → Bool) (xs : List X) → count (λ x. t x || u x) xs ≤ count t xs + count u xs
count_or t u [] = omega arith
count_or {X = X} t u (x ∷ xs) = go (t x) (u x) (count_or t u xs)
  where
    go : (b c : Bool) → count (λ x. t x || u x) xs ≤ count t xs + count u xs → length (cond (b || c) (x ∷ filter (λ x. t x || u x) xs) (filter (λ x. t x || u x) xs)) ≤ length (cond b (x ∷ filter t xs) (filter t xs)) + length (cond c (x ∷ filter u xs) (filter u xs))
    go true true rest = omega (arith, rest)
    go true false rest = omega (arith, rest)
    go false true rest = omega (arith, rest)
    go false false rest = omega (arith, rest)

-- where each y reaches one x at most, no more are reached than there are to reach them
pub count_reached : {X Y : Type 0} (reaches : Y → X → Bool) (xs : List X) (ys : List Y) → ((y : Y) → In ys y → count (reaches y) xs ≤ 1) → count (λ x. list_any (λ y. reaches y x) ys) xs ≤ length ys
count_reached reaches xs [] h = let none = count_none (λ x. false) xs (λ x i. refl) in omega (arith, none)
count_reached reaches xs (y ∷ ys) h =
    let one = h y (inl refl) in
    let rest = count_reached reaches xs ys (λ z i. h z (inr i)) in
    let both = count_or (reaches y) (λ x. list_any (λ y. reaches y x) ys) xs in
    omega (arith, one, rest, both)

-- a filter counts no more
pub count_picked : {X : Type 0} (s t : X → Bool) (xs : List X) → count t (filter s xs) ≤ count t xs
count_picked s t xs =
    let same = count-filter s t xs in
    let most = count_most (λ x. s x && t x) t xs (λ x i h. (and_parts (s x) (t x) h).1) in
    omega (arith, same, most)

module _ (ordered : AreOrdered) (s : Stated) (A : AreGroup (maps_of_problem s)) (blocks : List (List ℕ)) (S : IsSpread same_list (image (maps_of_problem s)) (IsSet (point_count s)) (full_maps (maps_of_problem s)) blocks) where
  abbrev M : MapGroup
  M = maps_of_problem s

  abbrev representatives : List (List ℕ)
  representatives = representatives_of (maps_of_problem s) blocks

  only : (c x y : List ℕ) → IsSet (point_count s) c → In representatives x → In representatives y → in_one_orbit s c x ≡ true → in_one_orbit s c y ≡ true → x ≡ y
  only c x y set i j h k =
      let first = In-filter_gives (is_representative before (image M) (full_maps M)) blocks x i in
      let second = In-filter_gives (is_representative before (image M) (full_maps M)) blocks y j in
      least_once same_list (image M) (IsSet (point_count s)) (full_maps M) lists_equal (blocks_group s A) before ordered.order x y (S.inside x first.0) (S.inside y second.0)
      (one_orbit_same same_list (image M) (IsSet (point_count s)) (full_maps M) lists_equal (blocks_group s A) c x y set h ∙ k) first.1 second.1

  pub one_representative : (c : List ℕ) → IsSet (point_count s) c → count (in_one_orbit s c) representatives ≤ 1
  one_representative c set = ⊎_elim (λ some. found (count_gives (in_one_orbit s c) representatives some)) (λ none. omega (arith, none)) (cases_lt 0 (count (in_one_orbit s c) representatives))
    where
      found : (x : List ℕ) × In representatives x × (in_one_orbit s c x ≡ true) → count (in_one_orbit s c) representatives ≤ 1
      found x =
          let own = count_most (in_one_orbit s c) (same_list x.0) representatives (λ y i h. subst (λ z. same_list x.0 z ≡ true) (only c x.0 y set x.1 i x.2 h) (lists_equal.self x.0)) in
          let picked = count_picked (is_representative before (image M) (full_maps M)) (same_list x.0) blocks in
          let once = S.once x.0 (In-filter_gives (is_representative before (image M) (full_maps M)) blocks x.0 x.1).0 in
          omega (arith, own, picked, once)
