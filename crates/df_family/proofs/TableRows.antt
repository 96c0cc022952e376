-- The rows of a table are rows of its problem.
use Rattle.std.proofs.Common.{◌≡◌, ℕ, zero, suc, ◌+◌, ◌-◌, ◌<◌, ◌≤◌, Bool, true, false, cond, List, [], ◌∷◌, map, find, All, Option, None, Some, refl, subst, arith}
use Rattle.std.specs.List.{range_with_len, flat_map}
use Rattle.std.proofs.lemmas.List.Elements.{All-nil, All-cons, All-head, All-tail, All-append, All-map, All-weaker}
use Rattle.df_group.specs.Elements.{order_of}
use Rattle.df_lang.specs.Problems.{Stated}
use Rattle.df_family.specs.declared.table.Row.TheVariants.{Diff, WithFixed, TwoFixed}
use Rattle.df_family.specs.declared.table.Entry.{Entry}
use Rattle.df_family.specs.Tables.{IsRow, IsFixed, rows, differences, singles, pairs, table, entry, is_wrong}
use Rattle.df_family.specs.Verdicts.{verdict_at, verdict_on, IsVerdictOn}

pub all_in_range : (a n : ℕ) → All (λ x. (a ≤ x) × (x < a + n)) (range_with_len a n)
all_in_range a zero = All-nil _
all_in_range a (suc n) =
    All-cons (λ x. (a ≤ x) × (x < a + suc n)) a (range_with_len (a + 1) n) (omega arith, omega arith)
    (All-weaker (λ x. (a + 1 ≤ x) × (x < (a + 1) + n)) (λ x. (a ≤ x) × (x < a + suc n)) (λ x h. (omega (arith, h.0), omega (arith, h.1))) (range_with_len (a + 1) n) (all_in_range (a + 1) n))

pub All-flat_map : {X Y : Type 0} (P : Y → Type 0) (f : X → List Y) (xs : List X) → All (λ x. All P (f x)) xs → All P (flat_map f xs)
All-flat_map P f [] each = All-nil P
All-flat_map P f (x ∷ xs) each = All-append P (f x) (flat_map f xs) (All-head (λ x. All P (f x)) x xs each) (All-flat_map P f xs (All-tail (λ x. All P (f x)) x xs each))

-- what a search finds is one of the list
pub found_of_all : {X : Type 0} (P : X → Type 0) (t : X → Bool) (xs : List X) (x : X) → All P xs → find t xs ≡ Some x → P x
found_of_all P t [] x each e = absurd (cc)
found_of_all {X = X} P t (y ∷ ys) x each e = go (t y) refl e (found_of_all P t ys x (All-tail P y ys each))
  where
    go : (v : Bool) → t y ≡ v → cond v (Some y) (find t ys) ≡ Some x → (find t ys ≡ Some x → P x) → P x
    go true k e rest = let same : y ≡ x = cc in subst P same (All-head P y ys each)
    go false k e rest = rest e

module _ (s : Stated) where
  differences_are : All (IsRow s) (differences s)
  differences_are =
      let n = order_of s.group in
      All-map (IsRow s) Diff (range_with_len 1 (n - 1)) (All-weaker (λ d. (1 ≤ d) × (d < 1 + (n - 1))) (λ d. d < n) (λ d h. omega (arith, h.0, h.1)) (range_with_len 1 (n - 1)) (all_in_range 1 (n - 1)))

  fixed_are : All (IsFixed s) (range_with_len 1 s.fixed)
  fixed_are = All-weaker (λ i. (1 ≤ i) × (i < 1 + s.fixed)) (IsFixed s) (λ i h. (h.0, omega (arith, h.1))) (range_with_len 1 s.fixed) (all_in_range 1 s.fixed)

  singles_are : All (IsRow s) (singles s)
  singles_are = All-map (IsRow s) WithFixed (range_with_len 1 s.fixed) fixed_are

  pairs_are : All (IsRow s) (pairs s)
  pairs_are =
      All-flat_map (IsRow s) (λ i. map (TwoFixed i) (range_with_len (i + 1) (s.fixed - i))) (range_with_len 1 s.fixed)
      (All-weaker (IsFixed s) (λ i. All (IsRow s) (map (TwoFixed i) (range_with_len (i + 1) (s.fixed - i)))) (λ i h.
      All-map (IsRow s) (TwoFixed i) (range_with_len (i + 1) (s.fixed - i))
      (All-weaker (λ j. (i + 1 ≤ j) × (j < (i + 1) + (s.fixed - i))) (λ j. IsFixed s i × IsFixed s j) (λ j k. (h, (omega (arith, k.0), omega (arith, h.0, h.1, k.1)))) (range_with_len (i + 1) (s.fixed - i)) (all_in_range (i + 1) (s.fixed - i))))
      (range_with_len 1 s.fixed) fixed_are)

  pub rows_are : All (IsRow s) (rows s)
  rows_are = All-append (IsRow s) (differences s) _ differences_are (All-append (IsRow s) (singles s) (pairs s) singles_are pairs_are)

  -- each entry of the table is of a row of the problem
  pub entries_are : All (λ (e : Entry). IsRow s e.row) (table s)
  entries_are = All-map (λ (e : Entry). IsRow s e.row) (entry s) (rows s) rows_are

  -- a verdict speaks of a row of the problem
  pub verdict_is : IsVerdictOn s (verdict_on s)
  verdict_is = go (find is_wrong (table s)) refl
    where
      go : (found : Option Entry) → find is_wrong (table s) ≡ found → IsVerdictOn s (verdict_at s found)
      go None e = tt
      go (Some x) e = found_of_all (λ (e : Entry). IsRow s e.row) is_wrong (table s) x entries_are e
