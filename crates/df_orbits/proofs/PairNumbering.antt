-- The numbers of the orbits of pairs.
use Rattle.std.proofs.Common.{◌≡◌, ℕ, ◌+◌, ◌*◌, ◌<◌, ◌≤◌, true, cond, List, [], ◌∷◌, length, get_or, refl, sym, ap, ◌∙◌, subst, inl, arith, eqb, eq-eqb, eqb-true, ⊎_elim, Some}
use Rattle.std.proofs.lemmas.Bool.{cases_Bool, cases_lt}
use Rattle.std.proofs.lemmas.Option.{slice_get-get_or, get_or_from_slice_get, slice_get_within}
use Rattle.std.proofs.lemmas.List.{length-map}
use Rattle.df_lists.specs.Membership.{In}
use Rattle.df_lists.specs.NumberSets.{IsSet}
use Rattle.df_lists.proofs.MemberLaws.{In-filter_gives}
use Rattle.df_lists.proofs.ListPlaces.{In-get_or}
use Rattle.df_lists.proofs.ListTotals.{count_whole}
use Rattle.df_subsets.specs.Blocks.{before}
use Rattle.df_subsets.specs.Subsets.{subsets, candidates, binomial}
use Rattle.df_subsets.proofs.SubsetLists.{subsets_inside, subsets_long}
use Rattle.df_acting.specs.Representatives.{is_representative}
use Rattle.df_maps.specs.FullMaps.{MapGroup, full_maps, image, point_count}
use Rattle.df_maps.specs.Laws.{AreGroup}
use Rattle.df_orbits.specs.Orbits.{are_in_one_orbit, orbits_with_sizes, representatives_of, pair_orbits, listed_representatives, representative_of}
use Rattle.df_orbits.specs.LookupTables.{IsPairNumber}
use Rattle.df_orbits.proofs.FoundOrbits.{in_one_orbit_comm}
use Rattle.df_orbits.proofs.OrbitNumbers.{one_size, number_exists, number_alone, listed_sorted, place_is}
use Rattle.df_orbits.proofs.ListedOrbits.{members_are}

abbrev pub representatives : MapGroup → List (List ℕ)
representatives M = listed_representatives (pair_orbits M)

-- the pairs of the orbits below i have their numbers
abbrev pub AreWritten : MapGroup → List ℕ → ℕ → Type 0
AreWritten M numbers i = (n p q : ℕ) → n < i → p < q → q < point_count M → are_in_one_orbit M (get_or (representatives M) n []) (p ∷ q ∷ []) ≡ true → get_or numbers (p * point_count M + q) 0 ≡ n

module _ (M : MapGroup) (A : AreGroup M) where
  representatives_are : representatives M ≡ representatives_of M (candidates (point_count M) (2 ∷ []))
  representatives_are = ap (λ l. listed_representatives (orbits_with_sizes M l)) (one_size (point_count M) 2) ∙ members_are M (candidates (point_count M) (2 ∷ []))

  pub representatives_long : length (representatives M) ≡ length (pair_orbits M)
  representatives_long = length-map (pair_orbits M) (λ (c : List ℕ × ℕ). c.0)

  pub representatives_few : length (representatives M) ≤ binomial (point_count M) 2
  representatives_few = omega (arith, ap length (members_are M (subsets (point_count M) 2)), count_whole (is_representative before (image M) (full_maps M)) (subsets (point_count M) 2), subsets_long (point_count M) 2)

  -- the representatives are pairs
  pub first_is_pair : (i : ℕ) → i < length (representatives M) → IsSet (point_count M) (get_or (representatives M) i []) × (length (get_or (representatives M) i []) ≡ 2)
  first_is_pair i h =
      let own = members_are M (subsets (point_count M) 2) in
      let j = subst (λ l. In l (get_or (representatives M) i [])) own (In-get_or (representatives M) i [] h) in
      subsets_inside (point_count M) 2 (get_or (representatives M) i []) (In-filter_gives (is_representative before (image M) (full_maps M)) (subsets (point_count M) 2) (get_or (representatives M) i []) j).0

  module _ (p q : ℕ) (order : p < q) (below : q < point_count M) where
    abbrev pair : List ℕ
    pair = p ∷ q ∷ []

    set : IsSet (point_count M) (p ∷ q ∷ [])
    set = (omega arith, omega (arith, order, below), (omega (arith, order), below, tt))

    -- r is the number of the pair in a list of representatives
    abbrev IsNumberIn : List (List ℕ) → ℕ → Type 0
    IsNumberIn F r = (r < length F) × (get_or F r [] ≡ representative_of M pair) × ((i : ℕ) → i < length F → are_in_one_orbit M pair (get_or F i []) ≡ eqb i r)

    found : (r : ℕ) × IsNumberIn (representatives M) r
    found =
        let e = number_exists M A (2 ∷ []) pair set (inl refl) in
        (e.0, subst (λ F. IsNumberIn F e.0) (sym representatives_are) (e.1, e.2, λ i h. number_alone M A (2 ∷ []) pair set (inl refl) e.0 i e.1 e.2 h))

    pub is_number : (r : ℕ) → IsNumberIn (representatives M) r → IsPairNumber M (p ∷ q ∷ []) r
    is_number r is = record {
      number = place_is (representatives M) r (representative_of M (p ∷ q ∷ [])) (listed_sorted M A (2 ∷ []) (pair_orbits M) (ap (orbits_with_sizes M) (one_size (point_count M) 2))) (slice_get-get_or (representatives M) r [] is.0 ∙ ap Some is.1);
      within = omega (arith, is.0, representatives_long);
      representative = slice_get-get_or (representatives M) r [] is.0 ∙ ap Some is.1;
      orbit = λ i c h. subst (λ y. are_in_one_orbit M (p ∷ q ∷ []) y ≡ eqb i r) (get_or_from_slice_get (representatives M) i c [] h) (is.2 i (slice_get_within (representatives M) i c h));
    }

    turned : (i : ℕ) → i < length (representatives M) → are_in_one_orbit M (get_or (representatives M) i []) pair ≡ eqb i found.0
    turned i h = in_one_orbit_comm M A (get_or (representatives M) i []) pair (first_is_pair i h).0 set ∙ found.1.2 i h

    -- the number that is written is the number of the orbit
    pub numbered : (numbers : List ℕ) → AreWritten M numbers (length (representatives M)) → IsPairNumber M (p ∷ q ∷ []) (get_or numbers (p * point_count M + q) 0)
    numbered numbers all =
        let r = found.0 in
        let at = all r p q found.1.0 order below (turned r found.1.0 ∙ eq-eqb r r refl) in
        subst (IsPairNumber M (p ∷ q ∷ [])) (sym at) (is_number r found.1)

    -- two orbits don't share a pair
    pub alone : (i n : ℕ) → i < length (representatives M) → n < length (representatives M) → are_in_one_orbit M (get_or (representatives M) i []) (p ∷ q ∷ []) ≡ true → are_in_one_orbit M (get_or (representatives M) n []) (p ∷ q ∷ []) ≡ true → i ≡ n
    alone i n h k s t = eqb-true i found.0 (sym (turned i h) ∙ s) ∙ sym (eqb-true n found.0 (sym (turned n k) ∙ t))

  -- one orbit more has its number
  pub written_more : (old new : List ℕ) (i : ℕ) → i < length (representatives M)
      → ((p q : ℕ) → p < q → q < point_count M → get_or new (p * point_count M + q) 0 ≡ cond (are_in_one_orbit M (get_or (representatives M) i []) (p ∷ q ∷ [])) i (get_or old (p * point_count M + q) 0))
      → AreWritten M old i → AreWritten M new (i + 1)
  written_more old new i h put so_far n p q l order below in_one_orbit = put p q order below ∙ ⊎_elim earlier own (cases_lt n i)
    where
      own : i ≤ n → cond (are_in_one_orbit M (get_or (representatives M) i []) (p ∷ q ∷ [])) i (get_or old (p * point_count M + q) 0) ≡ n
      own g =
          let e : n ≡ i = omega (arith, l, g) in
          ap (λ b. cond b i (get_or old (p * point_count M + q) 0)) (subst (λ k. are_in_one_orbit M (get_or (representatives M) k []) (p ∷ q ∷ []) ≡ true) e in_one_orbit) ∙ sym e

      earlier : n < i → cond (are_in_one_orbit M (get_or (representatives M) i []) (p ∷ q ∷ [])) i (get_or old (p * point_count M + q) 0) ≡ n
      earlier g =
          ⊎_elim
          (λ t. absurd (let e = alone p q order below i n h (omega (arith, g, h)) t in_one_orbit in omega (arith, e, g)))
          (λ f. ap (λ b. cond b i (get_or old (p * point_count M + q) 0)) f ∙ so_far n p q g order below in_one_orbit)
          (cases_Bool (are_in_one_orbit M (get_or (representatives M) i []) (p ∷ q ∷ [])))
