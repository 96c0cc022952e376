-- What a test picks from a range, with one number more in the range or in the set; and the first number of a range that passes it.
use Rattle.std.proofs.Common.{◌≡◌, ℕ, zero, suc, ◌+◌, ◌<◌, ◌≤◌, ◌≢◌, Bool, true, false, cond, eqb, ltb, [], ◌∷◌, ◌++◌, filter, Some, None, sym, ap, ◌∙◌, refl, arith, tests, inl, inr}
use Rattle.std.proofs.lemmas.Bool.{cases_lt, cases_eq, cases_Bool}
use Rattle.std.specs.List.{range_with_len, find}
use Rattle.std.proofs.lemmas.List.{map-id}
use Rattle.std.proofs.lemmas.List.Elements.{filter-append}
use Rattle.std.proofs.lemmas.List.FromFn.{map-range_with_len_more}
use Rattle.df_lists.specs.NumberSets.{with_member}

pub range_more : (n : ℕ) → range_with_len 0 (n + 1) ≡ range_with_len 0 n ++ n ∷ []
range_more n = sym (map-id (range_with_len 0 (n + 1))) ∙ map-range_with_len_more (λ (x : ℕ). x) 0 n n (omega arith) ∙ ap (λ l. l ++ n ∷ []) (map-id (range_with_len 0 n))

pub filter_more : (t : ℕ → Bool) (n : ℕ) → filter t (range_with_len 0 (n + 1)) ≡ filter t (range_with_len 0 n) ++ cond (t n) (n ∷ []) []
filter_more t n = ap (filter t) (range_more n) ∙ filter-append t (range_with_len 0 n) (n ∷ [])

-- the other members of a list that a test picks stay where one member is put in
module _ (s t : ℕ → Bool) (p : ℕ) (hit : t p ≡ true) (others : (i : ℕ) → i ≢ p → t i ≡ s i) where
  same_after : (a n : ℕ) → p < a → filter t (range_with_len a n) ≡ filter s (range_with_len a n)
  same_after a zero h = refl
  same_after a (suc n) h =
      let e = others a (omega arith) in
      let ih = same_after (a + 1) n (omega arith) in
      rw (e, ih) refl

  place_before : (a n : ℕ) → p < a → with_member p (filter s (range_with_len a n)) ≡ p ∷ filter s (range_with_len a n)
  place_before a zero h = refl
  place_before a (suc n) h =
      let ih = place_before (a + 1) n (omega arith) in
      let less : ltb p a ≡ true = grind (arith, tests) in
      elim (s a) as (λ v. with_member p (cond v (a ∷ filter s (range_with_len (a + 1) n)) (filter s (range_with_len (a + 1) n))) ≡ p ∷ cond v (a ∷ filter s (range_with_len (a + 1) n)) (filter s (range_with_len (a + 1) n))) [
        | true ↦ rw less refl
        | false ↦ ih
      ]

  placed_here : (a n : ℕ) → p ≡ a → (v : Bool) → s a ≡ v → filter t (range_with_len a (suc n)) ≡ with_member p (filter s (range_with_len a (suc n)))
  placed_here a n is true e =
      let rest = same_after (a + 1) n (omega arith) in
      let hit' : t a ≡ true = rw is at hit in
      let less : ltb p a ≡ false = grind (arith, tests) in
      let same : eqb p a ≡ true = grind (arith, tests) in
      rw (hit', e, rest, less, same) refl
  placed_here a n is false e =
      let rest = same_after (a + 1) n (omega arith) in
      let front = place_before (a + 1) n (omega arith) in
      let hit' : t a ≡ true = rw is at hit in
      rw (hit', e, rest, front) (ap (λ x. x ∷ filter s (range_with_len (a + 1) n)) (sym is))

  placed_later : (a n : ℕ) → a < p → filter t (range_with_len (a + 1) n) ≡ with_member p (filter s (range_with_len (a + 1) n))
      → (v : Bool) → s a ≡ v → filter t (range_with_len a (suc n)) ≡ with_member p (filter s (range_with_len a (suc n)))
  placed_later a n h ih true e =
      let same = others a (omega arith) in
      let less : ltb p a ≡ false = grind (arith, tests) in
      let differs : eqb p a ≡ false = grind (arith, tests) in
      rw (same, e, less, differs, ih) refl
  placed_later a n h ih false e =
      let same = others a (omega arith) in
      rw (same, e) ih

  pub placed : (a n : ℕ) → a ≤ p → p < a + n → filter t (range_with_len a n) ≡ with_member p (filter s (range_with_len a n))
  placed a zero h k = absurd (omega arith)
  placed a (suc n) h k =
      elim (cases_lt a p) [
        | inl l ↦ placed_later a n l (placed (a + 1) n (omega arith) (omega arith)) (s a) refl
        | inr r ↦ placed_here a n (omega arith) (s a) refl
      ]

-- the first number of a range that passes
pub find_first : (t : ℕ → Bool) (a n k : ℕ) → a ≤ k → k < a + n → t k ≡ true → ((j : ℕ) → a ≤ j → j < k → t j ≡ false) → find t (range_with_len a n) ≡ Some k
find_first t a zero k low high here before = absurd (omega arith)
find_first t a (suc n) k low high here before =
    elim (cases_lt a k) [
      | inl less ↦ rw (before a (omega arith) less) (find_first t (a + 1) n k (omega arith) (omega arith) here (λ j l m. before j (omega arith) m))
      | inr same ↦ let e : a ≡ k = omega arith in rw (ap t e ∙ here) (ap Some e)
    ]

-- none passes, and nothing is found
pub find_none : (t : ℕ → Bool) (a n : ℕ) → ((j : ℕ) → a ≤ j → j < a + n → t j ≡ false) → find t (range_with_len a n) ≡ None
find_none t a zero h = refl
find_none t a (suc n) h = let first : t a ≡ false = h a (omega arith) (omega arith) in rw first (find_none t (a + 1) n (λ j l b. h j (omega arith) (omega arith)))

-- where nothing is found, none passes
pub none_in_range : (t : ℕ → Bool) (a n i : ℕ) → find t (range_with_len a n) ≡ None → a ≤ i → i < a + n → t i ≡ false
none_in_range t a zero i h low high = absurd (omega arith)
none_in_range t a (suc n) i h low high =
    elim (cases_Bool (t a)) [
      | inl here ↦ absurd (let e : Some a ≡ None = rw here at h in cc)
      | inr not_here ↦ elim (cases_eq i a) [
        | inl same ↦ rw same not_here
        | inr other ↦ none_in_range t (a + 1) n i (rw not_here at h) (omega arith) (omega arith)
      ]
    ]
