-- The number of rows that pass a test, when one of them is written.
use Rattle.std.proofs.Common.{◌≡◌, ℕ, suc, zero, ◌+◌, ◌<◌, ◌≤◌, Bool, true, false, List, [], ◌∷◌, ◌++◌, length, set, take, ap, ◌∙◌, arith, length-set, inl, inr}
use Rattle.std.proofs.lemmas.Bool.{cases_Bool}
use Rattle.std.proofs.lemmas.List.{take_more}
use Rattle.df_system.specs.declared.counted_rows.PathRow.{PathRow}
use Rattle.df_system.specs.Tallies.{one_if}
use Rattle.df_system.specs.CountedRows.{blank_row, row_at, rows_passing, is_over_row, is_unmet_row, AreCountedRows, TellsSome}
use Rattle.df_system.proofs.CountedTallies.{one_if_few}

pub one_row_le : (test : PathRow → Bool) (rs : List PathRow) (i : ℕ) → i < length rs → one_if (test (row_at rs i)) ≤ rows_passing test rs
one_row_le test [] i h = absurd (omega arith)
one_row_le test (r ∷ rs) zero h = omega arith
one_row_le test (r ∷ rs) (suc i) h = omega (arith, one_row_le test rs i (omega arith))

pub rows_passing_le : (test : PathRow → Bool) (rs : List PathRow) → rows_passing test rs ≤ length rs
rows_passing_le test [] = omega arith
rows_passing_le test (r ∷ rs) = omega (arith, rows_passing_le test rs, one_if_few (test r))

pub rows_passing-set : (test : PathRow → Bool) (rs : List PathRow) (i : ℕ) (y : PathRow) → i < length rs → rows_passing test (set rs i y) + one_if (test (row_at rs i)) ≡ rows_passing test rs + one_if (test y)
rows_passing-set test [] i y h = absurd (omega arith)
rows_passing-set test (r ∷ rs) zero y h = omega arith
rows_passing-set test (r ∷ rs) (suc i) y h = omega (arith, rows_passing-set test rs i y (omega arith))

-- where none passes
pub no_row_passes : (test : PathRow → Bool) (rs : List PathRow) (k : ℕ) → rows_passing test rs ≡ 0 → k < length rs → test (row_at rs k) ≡ false
no_row_passes test [] k h l = absurd (omega arith)
no_row_passes test (r ∷ rs) zero h l =
    elim (cases_Bool (test r)) [
      | inl passes ↦ absurd (let e : one_if (test r) ≡ 1 = ap one_if passes in omega arith)
      | inr fails ↦ fails
    ]
no_row_passes test (r ∷ rs) (suc k) h l = no_row_passes test rs k (omega arith) (omega arith)

-- where some do, one does
pub some_row_passes : (test : PathRow → Bool) (rs : List PathRow) → 0 < rows_passing test rs → (k : ℕ) × (k < length rs) × (test (row_at rs k) ≡ true)
some_row_passes test [] h = absurd (omega arith)
some_row_passes test (r ∷ rs) h =
    elim (cases_Bool (test r)) [
      | inl passes ↦ (0, omega arith, passes)
      | inr fails ↦ let later = some_row_passes test rs (let e : one_if (test r) ≡ 0 = ap one_if fails in omega arith) in (suc later.0, omega (arith, later.1), later.2)
    ]

pub counted_write : (rs : List PathRow) (row : ℕ) (after : PathRow) (over unmet over' unmet' : ℕ) → AreCountedRows rs over unmet → row < length rs → over' + one_if (is_over_row (row_at rs row)) ≡ over + one_if (is_over_row after) → unmet' + one_if (is_unmet_row (row_at rs row)) ≡ unmet + one_if (is_unmet_row after) → AreCountedRows (set rs row after) over' unmet'
counted_write rs row after over unmet over' unmet' c h o u = record {
  over_is = omega (arith, rows_passing-set is_over_row rs row after h, c.over_is);
  unmet_is = omega (arith, rows_passing-set is_unmet_row rs row after h, c.unmet_is);
  few = omega (arith, length-set rs row after, c.few);
}

rows_passing-append : (test : PathRow → Bool) (xs ys : List PathRow) → rows_passing test (xs ++ ys) ≡ rows_passing test xs + rows_passing test ys
rows_passing-append test [] ys = omega arith
rows_passing-append test (x ∷ xs) ys = omega (arith, rows_passing-append test xs ys)

-- one row more
pub rows_passing_more : (test : PathRow → Bool) (rs : List PathRow) (k : ℕ) → k < length rs → rows_passing test (take (k + 1) rs) ≡ rows_passing test (take k rs) + one_if (test (row_at rs k))
rows_passing_more test rs k h =
    ap (rows_passing test) (take_more rs k blank_row h) ∙ rows_passing-append test (take k rs) (row_at rs k ∷ []) ∙ (let e : rows_passing test (take k rs) + (one_if (test (row_at rs k)) + 0) ≡ rows_passing test (take k rs) + one_if (test (row_at rs k)) = omega arith in e)

-- a count tells whether a row passes
pub tells_by_count : (test : PathRow → Bool) (rs : List PathRow) (count : ℕ) (told : Bool) → count ≡ rows_passing test rs → (told ≡ true → 0 < count) → (told ≡ false → count ≤ 0) → TellsSome test rs told
tells_by_count test rs count told is yes_is no_is = record {
  some = λ h. some_row_passes test rs (omega (arith, yes_is h));
  none = λ h k l. no_row_passes test rs k (omega (arith, no_is h)) l;
}
