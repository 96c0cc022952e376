-- Which rows the levels bar: exactly those that have their targets, along a column and from level to level.
use Rattle.std.proofs.Common.{◌≡◌, ◌≢◌, ℕ, ◌+◌, ◌<◌, ◌≤◌, true, false, ◌||◌, leb, List, [], ◌∷◌, length, set, drop, refl, sym, ap, ◌∙◌, arith, inl, inr, ne_eqb, eq-eqb, le-leb, leb-true, length-set}
use Rattle.std.proofs.lemmas.Bool.{cases_eq, lt-leb}
use Rattle.std.proofs.lemmas.List.{get_or-set_same, get_or-set_other}
use Rattle.df_walk.specs.declared.Rules.{Rules}
use Rattle.df_walk.specs.Systems.{System, target}
use Rattle.df_system.specs.declared.counted_rows.PathRow.{PathRow}
use Rattle.df_system.specs.BarredColumns.{Barring, bars_row, with_row, IsBarredBy}
use Rattle.df_system.specs.PathRows.{Yeses, taken_in, IsBarred, IsClosed}
use Rattle.df_system.specs.CountedRows.{blank_row, row_at, AreRows, AllBarFull, AreBarring, BarFullRows}
use Rattle.df_system.proofs.BarredTrails.{length-with_row, with_row_bars}

-- a row more, among some levels
bars_other : (q row : ℕ) (levels : List (List ℕ)) → 0 < length levels → q ≢ row → bars_row (with_row row levels) q ≡ bars_row levels q
bars_other q row levels some other = with_row_bars q row levels some ∙ ap (λ b. b || bars_row levels q) (ne_eqb q row other)

bars_here : (row : ℕ) (levels : List (List ℕ)) → 0 < length levels → bars_row (with_row row levels) row ≡ true
bars_here row levels some = with_row_bars row row levels some ∙ ap (λ b. b || bars_row levels row) (eq-eqb row row refl)

-- a row that changes and has its target then is barred
pub full_more : (levels : List (List ℕ)) (rows : List PathRow) (row : ℕ) (after : PathRow) → 0 < length levels → row < length rows → BarFullRows levels rows → after.target ≤ after.taken → BarFullRows (with_row row levels) (set rows row after)
full_more levels rows row after some within bar met q h = elim (cases_eq q row) [
  | inl is ↦ rw (is, get_or-set_same rows row after blank_row within) (bars_here row levels some ∙ sym (le-leb after.target after.taken met))
  | inr other ↦ rw (get_or-set_other rows row q after blank_row other) (bars_other q row levels some other ∙ bar q (omega (arith, length-set rows row after)))
]

-- a row that changes and has its target as before, or not as before
full_same : (levels : List (List ℕ)) (rows : List PathRow) (row : ℕ) (after : PathRow) → row < length rows → BarFullRows levels rows → leb (row_at rows row).target (row_at rows row).taken ≡ leb after.target after.taken → BarFullRows levels (set rows row after)
full_same levels rows row after within bar same q h = elim (cases_eq q row) [
  | inl is ↦ rw (is, get_or-set_same rows row after blank_row within) (bar row within ∙ same)
  | inr other ↦ rw (get_or-set_other rows row q after blank_row other) (bar q (omega (arith, length-set rows row after)))
]

pub full_still : (levels : List (List ℕ)) (rows : List PathRow) (row : ℕ) (after : PathRow) → row < length rows → BarFullRows levels rows → (row_at rows row).target ≤ (row_at rows row).taken → after.target ≤ after.taken → BarFullRows levels (set rows row after)
full_still levels rows row after within bar was is = full_same levels rows row after within bar (le-leb (row_at rows row).target (row_at rows row).taken was ∙ sym (le-leb after.target after.taken is))

pub never_full : (levels : List (List ℕ)) (rows : List PathRow) (row : ℕ) (after : PathRow) → row < length rows → BarFullRows levels rows → (row_at rows row).taken < (row_at rows row).target → after.taken < after.target → BarFullRows levels (set rows row after)
never_full levels rows row after within bar was is = full_same levels rows row after within bar (lt-leb (row_at rows row).target (row_at rows row).taken was ∙ sym (lt-leb after.target after.taken is))

-- the rows that have their targets from the start, as far as they were looked at
pub record BarredFirst (initial now : Barring) (rows : List PathRow) (count : ℕ) : Type 0 where
  pub same : now.system ≡ initial.system
  pub depth : length now.levels ≡ 1
  pub done : (row : ℕ) → row < count → bars_row now.levels row ≡ leb (row_at rows row).target (row_at rows row).taken
  pub others : (row : ℕ) → count ≤ row → bars_row now.levels row ≡ false

pub first_barred_none : (initial : Barring) (rows : List PathRow) → initial.levels ≡ [] ∷ [] → BarredFirst initial initial rows 0
first_barred_none initial rows is = record {
  same = refl;
  depth = ap length is;
  done = λ row h. absurd (omega arith);
  others = λ row h. ap (λ l. bars_row l row) is;
}

pub first_barred_same : {initial now : Barring} {rows : List PathRow} {count : ℕ} → (row_at rows count).taken < (row_at rows count).target → BarredFirst initial now rows count → BarredFirst initial now rows (count + 1)
first_barred_same {initial} {now} {rows} {count} less b = record {
  same = b.same;
  depth = b.depth;
  done = λ row h. elim (cases_eq row count) [
    | inl is ↦ rw is (b.others count (omega arith) ∙ sym (lt-leb (row_at rows count).target (row_at rows count).taken less))
    | inr other ↦ b.done row (omega arith)
  ];
  others = λ row h. b.others row (omega arith);
}

pub first_barred_more : {initial now : Barring} {rows : List PathRow} {count : ℕ} (next : Barring) → next ≡ record now { levels = with_row count now.levels } → (row_at rows count).target ≤ (row_at rows count).taken → BarredFirst initial now rows count → BarredFirst initial next rows (count + 1)
first_barred_more {initial} {now} {rows} {count} next is met b =
    let some : 0 < length now.levels = omega (arith, b.depth) in
    rw is (record {
      same = b.same;
      depth = length-with_row count now.levels ∙ b.depth;
      done = λ row h. elim (cases_eq row count) [
        | inl here ↦ rw here (bars_here count now.levels some ∙ sym (le-leb (row_at rows count).target (row_at rows count).taken met))
        | inr other ↦ bars_other row count now.levels some other ∙ b.done row (omega arith)
      ];
      others = λ row h. bars_other row count now.levels some (λ e. absurd (omega arith)) ∙ b.others row (omega arith);
    })

-- what the last level bars
pub full_top : (s : System) (levels : List (List ℕ)) (chosen : List ℕ) → 0 < length levels → AllBarFull s levels chosen → (row : ℕ) → row < length s.targets → bars_row levels row ≡ leb (target s row) (taken_in s row chosen)
full_top s [] chosen some full row within = absurd (omega arith)
full_top s (rows ∷ lower) chosen some full row within = full.0 row within

-- said of the rows as they are kept
pub full_rows : {s : System} {rules : Rules} {chosen : List ℕ} {rows : List PathRow} (barring : Barring) → AreRows s rules chosen rows → AreBarring s barring chosen → BarFullRows barring.levels rows
full_rows {s} {rules} {chosen} {rows} barring are b row h =
    let within : row < length s.targets = omega (arith, are.long) in
    rw (are.targets row within, are.taken row within) (full_top s barring.levels chosen (omega (arith, b.depth)) b.full row within)

-- a level more, that of the rows
full_level : {s : System} {rules : Rules} {chosen : List ℕ} {rows : List PathRow} (levels : List (List ℕ)) → 0 < length levels → AreRows s rules chosen rows → BarFullRows levels rows → AllBarFull s (drop 1 levels) (drop 1 chosen) → AllBarFull s levels chosen
full_level [] some are bar lower = absurd (omega arith)
full_level {s} {rules} {chosen} {rows} (top ∷ lower) some are bar full = (λ row h. rw (← are.targets row h, ← are.taken row h) (bar row (omega (arith, are.long))), full)

pub barring_more : {s : System} {rules : Rules} {chosen : List ℕ} {new : List PathRow} (barring pushed next : Barring) (column : ℕ) → AreBarring s barring chosen → AreRows s rules (column ∷ chosen) new → pushed ≡ record barring { levels = [] ∷ barring.levels } → next.system ≡ pushed.system → drop 1 next.levels ≡ drop 1 pushed.levels → length next.levels ≡ length pushed.levels → BarFullRows next.levels new → AreBarring s next (column ∷ chosen)
barring_more {s} {rules} {chosen} {new} barring pushed next column b are pushed_is same lower depth bar = record {
  same = same ∙ ap (λ (p : Barring). p.system) pushed_is ∙ b.same;
  depth = omega (arith, depth, ap (λ (p : Barring). length p.levels) pushed_is, b.depth);
  full = full_level next.levels (omega (arith, depth, ap (λ (p : Barring). length p.levels) pushed_is)) are bar (rw (lower ∙ ap (λ (p : Barring). drop 1 p.levels) pushed_is) b.full);
}

pub barring_first : {s : System} {rules : Rules} {new : List PathRow} (barring : Barring) → AreRows s rules [] new → barring.system ≡ s → length barring.levels ≡ 1 → BarFullRows barring.levels new → AreBarring s barring []
barring_first {s} {rules} {new} barring are same depth bar = record { same = same; depth = depth; full = full_level barring.levels (omega arith) are bar (none barring.levels depth) }
  where
    none : (levels : List (List ℕ)) → length levels ≡ 1 → AllBarFull s (drop 1 levels) []
    none [] h = absurd (omega arith)
    none (rows ∷ []) h = tt
    none (rows ∷ lower ∷ levels) h = absurd (omega arith)

-- a level less
pub barring_less : {s : System} {chosen : List ℕ} (barring next : Barring) (column : ℕ) → AreBarring s barring (column ∷ chosen) → next ≡ record barring { levels = drop 1 barring.levels } → AreBarring s next chosen
barring_less {s} {chosen} barring next column b is = rw is (record { same = b.same; depth = depth barring.levels b.depth; full = full barring.levels b.depth b.full })
  where
    depth : (levels : List (List ℕ)) → length levels ≡ length (column ∷ chosen) + 1 → length (drop 1 levels) ≡ length chosen + 1
    depth [] h = absurd (omega arith)
    depth (rows ∷ lower) h = omega arith

    full : (levels : List (List ℕ)) → length levels ≡ length (column ∷ chosen) + 1 → AllBarFull s levels (column ∷ chosen) → AllBarFull s (drop 1 levels) chosen
    full [] h f = absurd (omega arith)
    full (rows ∷ lower) h f = f.1

-- a column is barred by the levels where it is closed, and only there
module _ {s : System} {chosen : List ℕ} (rules : Rules) (barring : Barring) (column : ℕ) (b : AreBarring s barring chosen) where
  abbrev y : Yeses
  y = record { system = s; rules = rules; chosen = chosen }

  pub closed_by_levels : IsBarredBy barring.system barring.levels column → IsClosed y column
  closed_by_levels by =
      let is : IsBarredBy s barring.levels column = rw b.same at by in
      let full = full_top s barring.levels chosen (omega (arith, b.depth)) b.full is.row is.within in
      record { row = is.row; within = is.within; full = leb-true (target s is.row) (taken_in s is.row chosen) (sym full ∙ is.barred); positive = is.positive }

  pub levels_by_closed : IsClosed y column → IsBarredBy barring.system barring.levels column
  levels_by_closed is =
      let full = full_top s barring.levels chosen (omega (arith, b.depth)) b.full is.row is.within in
      rw b.same (record { row = is.row; within = is.within; barred = full ∙ le-leb (target s is.row) (taken_in s is.row chosen) is.full; positive = is.positive })

-- with yes for a closed column its row is over
pub closed_barred : (y : Yeses) (column : ℕ) → IsClosed y column → IsBarred y column
closed_barred y column is = (is.row, is.within, is.positive, omega (arith, is.positive, is.full))
