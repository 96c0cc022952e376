-- Blocks of several sizes in one order.
use Rattle.std.proofs.Common.{◌≡◌, ℕ, suc, zero, ◌+◌, ◌<◌, true, false, cond, ◌&&◌, ◌++◌, map, filter, List, [], ◌∷◌, length, refl, sym, ap, ◌∙◌, subst, inl, inr, arith, eqb, ltb, ⊎_elim, eq-eqb, ne_eqb, eqb-true, lt-ltb}
use Rattle.std.proofs.lemmas.Bool.{and_parts, and_from, or_left, or_right}
use Rattle.std.proofs.lemmas.List.Elements.{filter-append}
use Rattle.std.specs.List.{range_with_len, list_any}
use Rattle.df_lists.specs.Membership.{In, count}
use Rattle.df_lists.specs.NumberSets.{Rises, IsSet}
use Rattle.df_subsets.specs.Blocks.{before}
use Rattle.df_lists.specs.Orders.{IsSorted}
use Rattle.df_subsets.specs.Subsets.{choose, points, same_list, nonempty, candidates}
use Rattle.df_lists.proofs.MemberLaws.{In-append_cases, In-map_gives, In-filter, In-filter_gives}
use Rattle.df_lists.proofs.TestLaws.{same_tests, filter_agree, filter-filter, filter-map, filter_fails}
use Rattle.df_subsets.proofs.SubsetLists.{Rises-from, subsets_inside, subsets_once, subsets_have, same_list-gives}
use Rattle.df_lists.proofs.SortedLists.{sorted-append, sorted-map, sorted-filter}

some_point : (ps : List ℕ) (b : List ℕ) → In (nonempty ps) b → 0 < length b
some_point [] b i = absurd i
some_point (p ∷ ps) b i = ⊎_elim (λ j. let r = In-map_gives (λ c. p ∷ c) ([] ∷ nonempty ps) b j in subst (λ c. 0 < length c) r.2 (omega arith)) (λ j. some_point ps b j) (In-append_cases (map (λ c. p ∷ c) ([] ∷ nonempty ps)) (nonempty ps) b i)

eqb-suc : (a b : ℕ) → eqb (suc a) (suc b) ≡ eqb a b
eqb-suc a b = same_tests (eqb (suc a) (suc b)) (eqb a b) (λ h. let e = eqb-true (suc a) (suc b) h in eq-eqb a b (omega (arith, e))) (λ h. let e = eqb-true a b h in eq-eqb (suc a) (suc b) (omega (arith, e)))

-- the blocks of one size among all
pub choose_is : (ps : List ℕ) (k : ℕ) → choose ps k ≡ filter (λ b. eqb k (length b)) ([] ∷ nonempty ps)
choose_is ps zero = sym (ap (λ l. [] ∷ l) (filter_fails (λ b. eqb 0 (length b)) (nonempty ps) (λ b i. let h = some_point ps b i in ne_eqb 0 (length b) (omega (arith, h)))))
choose_is [] (suc k) = rw (ne_eqb (suc k) 0 (λ e. absurd (omega (arith, e)))) refl
choose_is (p ∷ ps) (suc k) =
    let two = filter-append (λ b. eqb (suc k) (length b)) (map (λ c. p ∷ c) ([] ∷ nonempty ps)) (nonempty ps) in
    let one = filter-map (λ b. eqb (suc k) (length b)) (λ c. p ∷ c) ([] ∷ nonempty ps) ∙ ap (map (λ c. p ∷ c)) (filter_agree (λ c. eqb (suc k) (suc (length c))) (λ c. eqb k (length c)) ([] ∷ nonempty ps) (λ c i. eqb-suc k (length c))) in
    let empty : eqb (suc k) 0 ≡ false = ne_eqb (suc k) 0 (λ e. absurd (omega (arith, e))) in
    let rest : choose ps (suc k) ≡ filter (λ b. eqb (suc k) (length b)) (nonempty ps) = choose_is ps (suc k) ∙ ap (λ b. cond b ([] ∷ filter (λ b. eqb (suc k) (length b)) (nonempty ps)) (filter (λ b. eqb (suc k) (length b)) (nonempty ps))) empty in
    ap (λ l. map (λ c. p ∷ c) l ++ choose ps (suc k)) (choose_is ps k)
    ∙ ap (λ l. map (λ c. p ∷ c) (filter (λ b. eqb k (length b)) ([] ∷ nonempty ps)) ++ l) rest
    ∙ sym (ap (λ b. cond b ([] ∷ filter (λ b. eqb (suc k) (length b)) (nonempty (p ∷ ps))) (filter (λ b. eqb (suc k) (length b)) (nonempty (p ∷ ps)))) empty
    ∙ two ∙ ap (λ l. l ++ filter (λ b. eqb (suc k) (length b)) (nonempty ps)) one)

nonempty_rises : (low n : ℕ) (b : List ℕ) → In (nonempty (range_with_len low n)) b → Rises low (low + n) b
nonempty_rises low zero b i = absurd i
nonempty_rises low (suc n) b i =
    ⊎_elim (λ j. front (In-map_gives (λ c. low ∷ c) ([] ∷ nonempty (range_with_len (low + 1) n)) b j) (nonempty_rises (low + 1) n)) (λ j. Rises-from low (low + 1) (low + 1 + n) (low + suc n) b (omega arith) (omega arith) (nonempty_rises (low + 1) n b j))
    (In-append_cases (map (λ c. low ∷ c) ([] ∷ nonempty (range_with_len (low + 1) n))) (nonempty (range_with_len (low + 1) n)) b i)
  where
    inner : (c : List ℕ) → In ([] ∷ nonempty (range_with_len (low + 1) n)) c → ((c : List ℕ) → In (nonempty (range_with_len (low + 1) n)) c → Rises (low + 1) (low + 1 + n) c) → Rises (low + 1) (low + suc n) c
    inner c (inl e) more = subst (Rises (low + 1) (low + suc n)) e tt
    inner c (inr j) more = Rises-from (low + 1) (low + 1) (low + 1 + n) (low + suc n) c (omega arith) (omega arith) (more c j)

    front : (c : List ℕ) × In ([] ∷ nonempty (range_with_len (low + 1) n)) c × (low ∷ c ≡ b) → ((c : List ℕ) → In (nonempty (range_with_len (low + 1) n)) c → Rises (low + 1) (low + 1 + n) c) → Rises low (low + suc n) b
    front r more = subst (Rises low (low + suc n)) r.2 (omega arith, omega arith, inner r.0 r.1 more)

nonempty_sorted : (low n : ℕ) → IsSorted before ([] ∷ nonempty (range_with_len low n))
nonempty_sorted low zero = (λ y i. absurd i, tt)
nonempty_sorted low (suc n) =
    let rest = nonempty_sorted (low + 1) n in (
      λ y i. first y (some_point (range_with_len low (suc n)) y i),
      sorted-append before (map (λ c. low ∷ c) ([] ∷ nonempty (range_with_len (low + 1) n))) (nonempty (range_with_len (low + 1) n))
          (sorted-map before before (λ c. low ∷ c) ([] ∷ nonempty (range_with_len (low + 1) n)) (λ a b h. or_right (ltb low low) (eqb low low && before a b) (and_from (eqb low low) (before a b) (eq-eqb low low refl) h)) rest)
          rest.1
          (λ a b i j. let r = In-map_gives (λ c. low ∷ c) ([] ∷ nonempty (range_with_len (low + 1) n)) a i in subst (λ a. before a b ≡ true) r.2 (second r.0 b (nonempty_rises (low + 1) n b j) (some_point (range_with_len (low + 1) n) b j))),
    )
  where
    first : (b : List ℕ) → 0 < length b → before [] b ≡ true
    first [] h = absurd (omega arith)
    first (q ∷ b) h = refl

    second : (c b : List ℕ) → Rises (low + 1) (low + 1 + n) b → 0 < length b → before (low ∷ c) b ≡ true
    second c [] r h = absurd (omega arith)
    second c (q ∷ b) r h = or_left (ltb low q) (eqb low q && before c b) (lt-ltb low q (omega (arith, r.0)))

pub candidates_sorted : (v : ℕ) (sizes : List ℕ) → IsSorted before (candidates v sizes)
candidates_sorted v sizes = sorted-filter before (λ b. list_any (λ k. eqb k (length b)) sizes) ([] ∷ nonempty (points v)) (nonempty_sorted 0 v)

-- a candidate is a block of one of the sizes
pub candidates_inside : (v : ℕ) (sizes b : List ℕ) → In (candidates v sizes) b → IsSet v b × (list_any (λ k. eqb k (length b)) sizes ≡ true)
candidates_inside v sizes b i =
    let r = In-filter_gives (λ b. list_any (λ k. eqb k (length b)) sizes) ([] ∷ nonempty (points v)) b i in
    let j = subst (λ l. In l b) (sym (choose_is (points v) (length b))) (In-filter (λ c. eqb (length b) (length c)) ([] ∷ nonempty (points v)) b r.0 (eq-eqb (length b) (length b) refl)) in
    ((subsets_inside v (length b) b j).0, r.1)

pub candidates_once : (v : ℕ) (sizes b : List ℕ) → IsSet v b → list_any (λ k. eqb k (length b)) sizes ≡ true → count (same_list b) (candidates v sizes) ≡ 1
candidates_once v sizes b r h =
    ap length (filter-filter (same_list b) (λ c. list_any (λ k. eqb k (length c)) sizes) ([] ∷ nonempty (points v))
    ∙ filter_agree (λ c. list_any (λ k. eqb k (length c)) sizes && same_list b c) (λ c. eqb (length b) (length c) && same_list b c) ([] ∷ nonempty (points v)) (λ c i. agree_here c)
    ∙ sym (filter-filter (same_list b) (λ c. eqb (length b) (length c)) ([] ∷ nonempty (points v))))
    ∙ ap (count (same_list b)) (sym (choose_is (points v) (length b)))
    ∙ subsets_once v (length b) b r refl
  where
    agree_here : (c : List ℕ) → (list_any (λ k. eqb k (length c)) sizes && same_list b c) ≡ (eqb (length b) (length c) && same_list b c)
    agree_here c = same_tests (list_any (λ k. eqb k (length c)) sizes && same_list b c) (eqb (length b) (length c) && same_list b c)
        (λ p. let q = and_parts (list_any (λ k. eqb k (length c)) sizes) (same_list b c) p in and_from (eqb (length b) (length c)) (same_list b c) (eq-eqb (length b) (length c) (ap length (same_list-gives b c q.1))) q.1)
        (λ p. let q = and_parts (eqb (length b) (length c)) (same_list b c) p in and_from (list_any (λ k. eqb k (length c)) sizes) (same_list b c) (subst (λ c. list_any (λ k. eqb k (length c)) sizes ≡ true) (same_list-gives b c q.1) h) q.1)

pub candidates_have : (v : ℕ) (sizes b : List ℕ) → IsSet v b → list_any (λ k. eqb k (length b)) sizes ≡ true → In (candidates v sizes) b
candidates_have v sizes b r h =
    In-filter (λ b. list_any (λ k. eqb k (length b)) sizes) ([] ∷ nonempty (points v)) b
    (In-filter_gives (λ c. eqb (length b) (length c)) ([] ∷ nonempty (points v)) b (subst (λ l. In l b) (choose_is (points v) (length b)) (subsets_have v (length b) b r refl))).0 h
