-- The first column that passes a test, and the columns that spoil a residue.
use Rattle.std.proofs.Common.{◌≡◌, ℕ, suc, zero, ◌+◌, ◌<◌, ◌≤◌, Bool, true, false, List, [], ◌∷◌, length, get_or, Option, Some, None, slice_get, refl, sym, ap, ◌∙◌, arith, inl, inr}
use Rattle.std.specs.Prelude.{not, ◌&&◌, cond, find, nat_lt}
use Rattle.std.specs.List.{list_all, range_with_len}
use Rattle.std.proofs.lemmas.Bool.{cases_eq, cases_Bool, true≢false}
use Rattle.df_lists.proofs.RangeLaws.{find_first, find_none}
use Rattle.df_walk.specs.Systems.{System, entries}
use Rattle.df_walk.specs.Assignments.{Decisions, open_values, is_multiple}
use Rattle.df_walk.proofs.EntryLaws.{length-entries}
use Rattle.df_check.specs.Entries.{is_undecided, spoils, first_spoiling}

pub first_is : (s : System) (ds : Decisions) (m row column : ℕ) → column < length s.columns → spoils s ds m row column ≡ true → ((k : ℕ) → k < column → spoils s ds m row k ≡ false) → first_spoiling s ds m row ≡ Some column
first_is s ds m row column within here before = find_first (spoils s ds m row) 0 (length s.columns) column (omega arith) (omega arith) here (λ k l h. before k h)

pub none_spoils : (s : System) (ds : Decisions) (m row : ℕ) → ((k : ℕ) → k < length s.columns → spoils s ds m row k ≡ false) → first_spoiling s ds m row ≡ None
none_spoils s ds m row h = find_none (spoils s ds m row) 0 (length s.columns) (λ k l b. h k (omega arith))

-- the undecided entries are multiples exactly where no column spoils

multiples : (m : ℕ) (es : List ℕ) (ds : Decisions) → ((k : ℕ) → k < length es → (is_undecided (slice_get ds k) && not (is_multiple m (get_or es k 0))) ≡ false) → list_all (is_multiple m) (open_values es ds) ≡ true
multiples m [] ds h = refl
multiples m (e ∷ es) [] h = go (is_multiple m e) (h 0 (omega arith)) (multiples m es [] (λ k l. h (suc k) (omega arith)))
  where
    go : (b : Bool) → not b ≡ false → list_all (is_multiple m) (open_values es []) ≡ true → (b && list_all (is_multiple m) (open_values es [])) ≡ true
    go true n more = more
    go false n more = absurd (true≢false n)
multiples m (e ∷ es) (None ∷ ds) h = go (is_multiple m e) (h 0 (omega arith)) (multiples m es ds (λ k l. h (suc k) (omega arith)))
  where
    go : (b : Bool) → not b ≡ false → list_all (is_multiple m) (open_values es ds) ≡ true → (b && list_all (is_multiple m) (open_values es ds)) ≡ true
    go true n more = more
    go false n more = absurd (true≢false n)
multiples m (e ∷ es) (Some b ∷ ds) h = multiples m es ds (λ k l. h (suc k) (omega arith))

no_multiple : (m : ℕ) (es : List ℕ) (ds : Decisions) (k : ℕ) → k < length es → (is_undecided (slice_get ds k) && not (is_multiple m (get_or es k 0))) ≡ true → list_all (is_multiple m) (open_values es ds) ≡ false
no_multiple m [] ds k within h = absurd (omega arith)
no_multiple m (e ∷ es) [] zero within h = go (is_multiple m e) h
  where
    go : (b : Bool) → not b ≡ true → (b && list_all (is_multiple m) (open_values es [])) ≡ false
    go true n = absurd (true≢false (sym n))
    go false n = refl
no_multiple m (e ∷ es) [] (suc k) within h = later (is_multiple m e) (no_multiple m es [] k (omega arith) h)
  where
    later : (b : Bool) → list_all (is_multiple m) (open_values es []) ≡ false → (b && list_all (is_multiple m) (open_values es [])) ≡ false
    later true n = n
    later false n = refl
no_multiple m (e ∷ es) (None ∷ ds) zero within h = go (is_multiple m e) h
  where
    go : (b : Bool) → not b ≡ true → (b && list_all (is_multiple m) (open_values es ds)) ≡ false
    go true n = absurd (true≢false (sym n))
    go false n = refl
no_multiple m (e ∷ es) (None ∷ ds) (suc k) within h = later (is_multiple m e) (no_multiple m es ds k (omega arith) h)
  where
    later : (b : Bool) → list_all (is_multiple m) (open_values es ds) ≡ false → (b && list_all (is_multiple m) (open_values es ds)) ≡ false
    later true n = n
    later false n = refl
no_multiple m (e ∷ es) (Some b ∷ ds) zero within h = absurd (true≢false (sym h))
no_multiple m (e ∷ es) (Some b ∷ ds) (suc k) within h = no_multiple m es ds k (omega arith) h

pub all_multiples : (s : System) (ds : Decisions) (m row : ℕ) → ((k : ℕ) → k < length s.columns → spoils s ds m row k ≡ false) → list_all (is_multiple m) (open_values (entries s row) ds) ≡ true
all_multiples s ds m row h = multiples m (entries s row) ds (λ k l. h k (omega (arith, length-entries s row)))

pub not_all_multiples : (s : System) (ds : Decisions) (m row column : ℕ) → column < length s.columns → spoils s ds m row column ≡ true → list_all (is_multiple m) (open_values (entries s row) ds) ≡ false
not_all_multiples s ds m row column within h = no_multiple m (entries s row) ds column (omega (arith, length-entries s row)) h

find_gives : (p : ℕ → Bool) (a n r : ℕ) → find p (range_with_len a n) ≡ Some r → (r < a + n) × (p r ≡ true)
find_gives p a zero r h = absurd (let e = h in cc)
find_gives p a (suc n) r h =
    elim (cases_Bool (p a)) [
      | inl here ↦ let e : Some a ≡ Some r = rw here at h in let same : a ≡ r = cc in (omega arith, rw (← same) here)
      | inr not_here ↦ let later = find_gives p (a + 1) n r (rw not_here at h) in (omega (arith, later.0), later.1)
    ]

none_gives : (p : ℕ → Bool) (a n : ℕ) → find p (range_with_len a n) ≡ None → (k : ℕ) → a ≤ k → k < a + n → p k ≡ false
none_gives p a zero h k low high = absurd (omega arith)
none_gives p a (suc n) h k low high =
    elim (cases_Bool (p a)) [
      | inl here ↦ absurd (let e : Some a ≡ None = rw here at h in cc)
      | inr not_here ↦ elim (cases_eq k a) [
        | inl same ↦ rw same not_here
        | inr other ↦ none_gives p (a + 1) n (rw not_here at h) k (omega arith) (omega arith)
      ]
    ]

pub spoiled : (s : System) (ds : Decisions) (m row column : ℕ) → first_spoiling s ds m row ≡ Some column → list_all (is_multiple m) (open_values (entries s row) ds) ≡ false
spoiled s ds m row column h = let at = find_gives (spoils s ds m row) 0 (length s.columns) column h in not_all_multiples s ds m row column (omega (arith, at.0)) at.1

pub unspoiled : (s : System) (ds : Decisions) (m row : ℕ) → first_spoiling s ds m row ≡ None → list_all (is_multiple m) (open_values (entries s row) ds) ≡ true
unspoiled s ds m row h = all_multiples s ds m row (λ k l. none_gives (spoils s ds m row) 0 (length s.columns) h k (omega arith) (omega arith))
