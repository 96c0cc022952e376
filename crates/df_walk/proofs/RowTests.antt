-- Tests of all rows, and the least row that passes one.
use Rattle.std.proofs.Common.{◌≡◌, ℕ, suc, zero, ◌+◌, ◌<◌, ◌≤◌, Bool, true, false, List, [], ◌∷◌, length, Some, None, refl, sym, ◌∙◌, arith, inl, inr}
use Rattle.std.specs.Prelude.{find}
use Rattle.std.specs.List.{list_all, list_any, range_with_len}
use Rattle.std.proofs.lemmas.Bool.{and_parts, and_from, true≢false, cases_eq, cases_Bool}
use Rattle.df_lists.proofs.RangeLaws.{find_first, find_none}
use Rattle.df_walk.specs.Systems.{System, rows_of}
use Rattle.df_walk.specs.Assignments.{least_row}
use Rattle.df_walk.specs.Logs.{RowPasses}

all_in_range : (p : ℕ → Bool) (a n r : ℕ) → list_all p (range_with_len a n) ≡ true → a ≤ r → r < a + n → p r ≡ true
all_in_range p a zero r h low high = absurd (omega arith)
all_in_range p a (suc n) r h low high =
    let parts = and_parts (p a) (list_all p (range_with_len (a + 1) n)) h in
    elim (cases_eq r a) [
      | inl same ↦ rw same parts.0
      | inr other ↦ all_in_range p (a + 1) n r parts.1 (omega arith) (omega arith)
    ]

all_in_range_from : (p : ℕ → Bool) (a n : ℕ) → ((r : ℕ) → a ≤ r → r < a + n → p r ≡ true) → list_all p (range_with_len a n) ≡ true
all_in_range_from p a zero h = refl
all_in_range_from p a (suc n) h = and_from (p a) (list_all p (range_with_len (a + 1) n)) (h a (omega arith) (omega arith)) (all_in_range_from p (a + 1) n (λ r low high. h r (omega arith) (omega arith)))

-- each row passes where all do
pub row_passes : (s : System) (p : ℕ → Bool) (r : ℕ) → list_all p (rows_of s) ≡ true → r < length s.targets → p r ≡ true
row_passes s p r h within = all_in_range p 0 (length s.targets) r h (omega arith) (omega arith)

pub rows_pass : (s : System) (p : ℕ → Bool) → ((r : ℕ) → r < length s.targets → p r ≡ true) → list_all p (rows_of s) ≡ true
rows_pass s p h = all_in_range_from p 0 (length s.targets) (λ r low high. h r (omega arith))

pub row_fails : (s : System) (p : ℕ → Bool) (r : ℕ) → r < length s.targets → p r ≡ false → list_all p (rows_of s) ≡ false
row_fails s p r within h =
    elim (cases_Bool (list_all p (rows_of s))) [
      | inl all ↦ absurd (true≢false (sym (row_passes s p r all within) ∙ h))
      | inr not_all ↦ not_all
    ]

-- two tests that agree on each row
pub rows_agree : (p q : ℕ → Bool) (rs : List ℕ) → ((r : ℕ) → p r ≡ q r) → list_all p rs ≡ list_all q rs
rows_agree p q [] h = refl
rows_agree p q (r ∷ rs) h = rw (h r, rows_agree p q rs h)

find_in_range : (p : ℕ → Bool) (a n r : ℕ) → find p (range_with_len a n) ≡ Some r → (a ≤ r) × (r < a + n) × (p r ≡ true) × ((k : ℕ) → a ≤ k → k < r → p k ≡ false)
find_in_range p a zero r h = absurd (let e = h in cc)
find_in_range p a (suc n) r h =
    elim (cases_Bool (p a)) [
      | inl here ↦ let e : Some a ≡ Some r = rw here at h in let same : a ≡ r = cc in (omega arith, omega arith, rw (← same) here, λ k low high. absurd (omega arith))
      | inr not_here ↦ let later = find_in_range p (a + 1) n r (rw not_here at h) in (omega (arith, later.0), omega (arith, later.1), later.2, before not_here later.3)
    ]
  where
    before : p a ≡ false → ((k : ℕ) → a + 1 ≤ k → k < r → p k ≡ false) → (k : ℕ) → a ≤ k → k < r → p k ≡ false
    before here later k low high =
        elim (cases_eq k a) [
          | inl same ↦ rw same here
          | inr other ↦ later k (omega arith) high
        ]

-- the least row passes, and none before it does
pub least_row_passes : (s : System) (p : ℕ → Bool) (r : ℕ) → least_row s p ≡ Some r → RowPasses s r p × ((k : ℕ) → k < r → p k ≡ false)
least_row_passes s p r h =
    let found = find_in_range p 0 (length s.targets) r h in
    ((omega (arith, found.1), found.2), λ k lt. found.3 k (omega arith) lt)

pub none_found : (p : ℕ → Bool) (rs : List ℕ) → find p rs ≡ None → list_any p rs ≡ false
none_found p [] h = refl
none_found p (r ∷ rs) h =
    elim (cases_Bool (p r)) [
      | inl here ↦ absurd (let e : Some r ≡ None = rw here at h in cc)
      | inr not_here ↦ rw not_here (none_found p rs (rw not_here at h))
    ]

-- a row that passes, where none before it does, is the least
pub least_row_is : (s : System) (p : ℕ → Bool) (r : ℕ) → r < length s.targets → p r ≡ true → ((k : ℕ) → k < r → p k ≡ false) → least_row s p ≡ Some r
least_row_is s p r within here before = find_first p 0 (length s.targets) r (omega arith) (omega arith) here (λ k low lt. before k lt)

pub least_row_none : (s : System) (p : ℕ → Bool) (n : ℕ) → length s.targets ≤ n → ((k : ℕ) → k < n → p k ≡ false) → least_row s p ≡ None
least_row_none s p n long h = find_none p 0 (length s.targets) (λ k low lt. h k (omega arith))

-- two tests that agree have one least row
pub least_row_agrees : (s : System) (p q : ℕ → Bool) → ((r : ℕ) → p r ≡ q r) → least_row s p ≡ least_row s q
least_row_agrees s p q h = go (rows_of s)
  where
    go : (rs : List ℕ) → find p rs ≡ find q rs
    go [] = refl
    go (r ∷ rs) = rw (h r, go rs)
