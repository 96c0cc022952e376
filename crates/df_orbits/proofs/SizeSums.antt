-- How many blocks have one of several sizes.
use Rattle.std.proofs.Common.{◌≡◌, ℕ, suc, ◌+◌, ◌^◌, ◌<◌, ◌≤◌, Bool, true, false, ◌||◌, cond, map, filter, List, [], ◌∷◌, length, get_or, take, drop, refl, sym, ap, ap₂, ◌∙◌, subst, inl, inr, arith, eqb, eqb-true, length-append}
use Rattle.std.proofs.Math.Nat.{pow-suc, pow-le-pow_right}
use Rattle.std.proofs.lemmas.List.{length-map, take_more, take-append-drop}
use Rattle.std.proofs.lemmas.List.FromFn.{length-range_with_len}
use Rattle.std.proofs.lemmas.List.Recursion.{is_sum_by}
use Rattle.std.proofs.lemmas.List.Sums.{sum_by-append}
use Rattle.std.specs.List.{list_any, sum_by}
use Rattle.std.specs.List.Sorted.{IsStrictlyIncreasing}
use Rattle.df_lists.specs.Membership.{In, count}
use Rattle.df_lists.specs.Totals.{one}
use Rattle.df_lists.proofs.ListTotals.{list_total, list_total_agree, list_total_both, count_total}
use Rattle.df_subsets.specs.Subsets.{points, nonempty, binomial}
use Rattle.df_subsets.proofs.SubsetLists.{subsets_long}
use Rattle.df_subsets.proofs.SizedLists.{choose_is}
use Rattle.df_lists.proofs.TestLaws.{any_gives}
use Rattle.df_orbits.proofs.SizedOrbits.{AreDistinct}

length_nonempty : (ps : List ℕ) → length (nonempty ps) + 1 ≡ 2 ^ length ps
length_nonempty [] = refl
length_nonempty (p ∷ ps) =
    let ih = length_nonempty ps in
    let e = length-append (map (λ b. p ∷ b) ([] ∷ nonempty ps)) (nonempty ps) in
    let f = length-map ([] ∷ nonempty ps) (λ b. p ∷ b) in
    omega (arith, ih, e, f, pow-suc 2 (length ps))

-- the blocks of distinct sizes from 1 on are fewer than all sets of points
sizes_count : (v : ℕ) (ks : List ℕ) → AreDistinct ks → list_total (binomial v) ks ≡ count (λ b. list_any (λ k. eqb k (length b)) ks) ([] ∷ nonempty (points v))
sizes_count v [] d = sym (none ([] ∷ nonempty (points v)))
  where
    none : (xs : List (List ℕ)) → count (λ b. false) xs ≡ 0
    none [] = refl
    none (x ∷ xs) = none xs
sizes_count v (k ∷ ks) d =
    ap₂ (λ a b. a + b) here (sizes_count v ks d.1 ∙ count_total (λ b. list_any (λ k. eqb k (length b)) ks) all)
    ∙ sym (list_total_both (λ b. one (eqb k (length b))) (λ b. one (list_any (λ k. eqb k (length b)) ks)) all)
    ∙ list_total_agree (λ b. one (eqb k (length b)) + one (list_any (λ k. eqb k (length b)) ks)) (λ b. one (eqb k (length b) || list_any (λ k. eqb k (length b)) ks)) all (λ b i. apart b (eqb k (length b)) (list_any (λ k. eqb k (length b)) ks) refl refl)
    ∙ sym (count_total (λ b. eqb k (length b) || list_any (λ k. eqb k (length b)) ks) all)
  where
    all : List (List ℕ)
    all = [] ∷ nonempty (points v)

    here : binomial v k ≡ list_total (λ b. one (eqb k (length b))) ([] ∷ nonempty (points v))
    here = sym (subsets_long v k) ∙ ap length (choose_is (points v) k) ∙ count_total (λ b. eqb k (length b)) ([] ∷ nonempty (points v))

    apart : (b : List ℕ) (s t : Bool) → eqb k (length b) ≡ s → list_any (λ k. eqb k (length b)) ks ≡ t → one (eqb k (length b)) + one (list_any (λ k. eqb k (length b)) ks) ≡ one (eqb k (length b) || list_any (λ k. eqb k (length b)) ks)
    apart b true true h l = absurd (let j = any_gives (λ k. eqb k (length b)) ks l in d.0 (subst (In ks) (eqb-true j.0 (length b) j.2 ∙ sym (eqb-true k (length b) h)) j.1))
    apart b true false h l = rw (h, l) refl
    apart b false true h l = rw (h, l) refl
    apart b false false h l = rw (h, l) refl

total_sum : (f : ℕ → ℕ) (ks : List ℕ) → list_total f ks ≡ sum_by f ks
total_sum f ks = is_sum_by (list_total f) f refl (λ _ _. refl) ks

pub sums_fit : (v : ℕ) (ks : List ℕ) → v ≤ 128 → AreDistinct ks → ((k : ℕ) → In ks k → 0 < k) → sum_by (binomial v) ks < 2 ^ 128
sums_fit v ks small d some =
    let e = sizes_count v ks d in
    let empty : list_any (λ k. eqb k 0) ks ≡ false = no_zero (list_any (λ k. eqb k 0) ks) refl in
    let most = whole (λ b. list_any (λ k. eqb k (length b)) ks) (nonempty (points v)) in
    let all = length_nonempty (points v) in
    let long = ap (λ n. 2 ^ n) (length-range_with_len 0 v) in
    let fits : 2 ^ v ≤ 2 ^ 128 = pow-le-pow_right (omega arith) {i = v} {j = 128} small in
    let skipped : count (λ b. list_any (λ k. eqb k (length b)) ks) ([] ∷ nonempty (points v)) ≡ count (λ b. list_any (λ k. eqb k (length b)) ks) (nonempty (points v)) = rw empty refl in
    omega (arith, total_sum (binomial v) ks, e, skipped, most, all, long, fits)
  where
    no_zero : (t : Bool) → list_any (λ k. eqb k 0) ks ≡ t → list_any (λ k. eqb k 0) ks ≡ false
    no_zero false h = h
    no_zero true h = absurd (let k = any_gives (λ k. eqb k 0) ks h in let z = eqb-true k.0 0 k.2 in let p = some k.0 k.1 in omega (arith, z, p))

    whole : {X : Type 0} (t : X → Bool) (xs : List X) → count t xs ≤ length xs
    whole t [] = omega arith
    whole t (x ∷ xs) = let m = whole t xs in elim (t x) as (λ b. length (cond b (x ∷ filter t xs) (filter t xs)) ≤ length (x ∷ xs)) [ true ↦ omega (arith, m) | false ↦ omega (arith, m) ]

-- one more of the sizes
pub sum_more : (f : ℕ → ℕ) (ks : List ℕ) (i : ℕ) → i < length ks → sum_by f (take (i + 1) ks) ≡ sum_by f (take i ks) + f (get_or ks i 0)
sum_more f ks i h = ap (sum_by f) (take_more ks i 0 h) ∙ sum_by-append f (take i ks) (get_or ks i 0 ∷ []) ∙ ap (λ n. sum_by f (take i ks) + n) (sym (total_sum f (get_or ks i 0 ∷ [])) ∙ (let e : f (get_or ks i 0) + 0 ≡ f (get_or ks i 0) = omega arith in e))

pub sum_part : (f : ℕ → ℕ) (ks : List ℕ) (i : ℕ) → sum_by f (take i ks) ≤ sum_by f ks
sum_part f ks i = let e = ap (sum_by f) (take-append-drop i ks) in let g = sum_by-append f (take i ks) (drop i ks) in omega (arith, e, g)

-- a strictly increasing list has each number once
pub rising_distinct : (ks : List ℕ) → IsStrictlyIncreasing ks → AreDistinct ks
rising_distinct [] h = tt
rising_distinct (k ∷ ks) h = (λ i. later k ks h k i refl, rising_distinct ks (λ j l. let e : suc j + 1 ≡ suc (j + 1) = omega arith in subst (λ n. get_or ks j 0 < get_or (k ∷ ks) n 0) e (h (suc j) (omega (arith, l)))))
  where
    above : (k : ℕ) (ks : List ℕ) → IsStrictlyIncreasing (k ∷ ks) → (m : ℕ) → In ks m → k < m
    above k [] h m i = absurd i
    above k (j ∷ ks) h m (inl e) = let l : k < j = h 0 (omega arith) in omega (arith, l, e)
    above k (j ∷ ks) h m (inr i) = let l : k < j = h 0 (omega arith) in let n = above j ks (λ p q. let e : suc p + 1 ≡ suc (p + 1) = omega arith in subst (λ n. get_or (j ∷ ks) p 0 < get_or (k ∷ j ∷ ks) n 0) e (h (suc p) (omega (arith, q)))) m i in omega (arith, l, n)

    later : (k : ℕ) (ks : List ℕ) → IsStrictlyIncreasing (k ∷ ks) → (m : ℕ) → In ks m → m ≡ k → ⊥
    later k ks h m i e = absurd (let l = above k ks h m i in omega (arith, l, e))
