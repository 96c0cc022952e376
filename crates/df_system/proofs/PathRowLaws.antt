-- The rows of a path under its yes columns: what a column more or less makes of them, and what they tell.
use Rattle.std.proofs.Common.{◌≡◌, inl, inr, ℕ, suc, zero, ◌+◌, ◌*◌, ◌-◌, ◌%◌, ◌^◌, ◌<◌, ◌≤◌, Bool, true, false, not, List, [], ◌∷◌, length, get_or, set, take, drop, reverse, replicate, Some, None, is_some, refl, sym, ap, ◌∙◌, arith, length-set, ltb-false, ne_eqb}
use Rattle.std.specs.Prelude.{find}
use Rattle.std.specs.List.{list_all, range_with_len}
use Rattle.std.proofs.lemmas.Bool.{cases_eq, cases_lt, cases_Bool, not-true, not-false, lt-ltb, le-ltb}
use Rattle.std.proofs.lemmas.List.{get_or-set_same, get_or-set_other, length-replicate}
use Rattle.df_lists.proofs.RangeLaws.{none_in_range}
use Rattle.df_walk.specs.declared.Cell.{Cell}
use Rattle.df_walk.specs.declared.Rules.{Rules}
use Rattle.df_walk.specs.Systems.{System, AreCells, rows_of, entries, entry, entry_of, cells, target}
use Rattle.df_walk.specs.Assignments.{common_divisor, least_row}
use Rattle.df_walk.proofs.EntryLaws.{entry_is, length-entries}
use Rattle.df_walk.proofs.RowTests.{least_row_is, least_row_none, rows_pass, row_fails}
use Rattle.df_system.specs.declared.counted_rows.PathRow.{PathRow}
use Rattle.df_system.specs.PathRows.{Yeses, taken_in, is_over_in, is_met_in, has_residue_from, IsLimit, IsBarred}
use Rattle.df_system.specs.Deadlines.{IsDeadline}
use Rattle.df_system.specs.CountedRows.{row_at, is_over_row, is_unmet_row, IsFirstRow, TellsSome, RowsAlong, with_entry, without_entry, HaveSmallSums, HaveTaken, HaveTargets, HaveDeadlines, AreRows, IsSmallColumn, IsStack}
use Rattle.df_system.proofs.DecisionTrails.{reverse_less, length-trail}
use Rattle.df_system.proofs.SortedCells.{blank, entry_in_order, rows_rise}
use Rattle.df_system.proofs.RowNeeds.{residue_told, residue_untold}

-- a yes column more
pub rows_taken : {s : System} {rules : Rules} {chosen : List ℕ} {old new : List PathRow} (column : ℕ) → AreRows s rules chosen old → RowsAlong with_entry (cells s column) old new → HaveDeadlines s rules new → AreRows s rules (column ∷ chosen) new
rows_taken {s} {rules} {chosen} {old} {new} column are along due = record {
  long = along.long ∙ are.long;
  targets = λ row h. along.same row (omega (arith, are.long)) ∙ are.targets row h;
  taken = λ row h. let step = along.each row (omega (arith, are.long)) in let was = are.taken row h in let e = entry_is s row column in omega arith;
  due = due;
}

-- and one less
pub rows_given_back : {s : System} {rules : Rules} {chosen : List ℕ} {old new : List PathRow} (column : ℕ) → AreRows s rules (column ∷ chosen) old → RowsAlong without_entry (cells s column) old new → HaveDeadlines s rules new → AreRows s rules chosen new
rows_given_back {s} {rules} {chosen} {old} {new} column are along due = record {
  long = along.long ∙ are.long;
  targets = λ row h. along.same row (omega (arith, are.long)) ∙ are.targets row h;
  taken = λ row h. let step = along.each row (omega (arith, are.long)) in let was = are.taken row h in let e = entry_is s row column in omega arith;
  due = due;
}

pub can_give_back : {s : System} {rules : Rules} {chosen : List ℕ} {rows : List PathRow} (column : ℕ) → AreRows s rules (column ∷ chosen) rows → HaveTaken (cells s column) rows
can_give_back {s} column are row h = let was = are.taken row (omega (arith, are.long)) in let e = entry_is s row column in omega arith

pub have_targets : {s : System} {rules : Rules} {chosen : List ℕ} {rows : List PathRow} → AreRows s rules chosen rows → HaveTargets s rows
have_targets are row h = are.targets row (omega (arith, are.long))

-- no sum is above so many of the greatest numbers of 32 bits
taken_small : {s : System} {trail : List ℕ} {count : ℕ} (row k : ℕ) → IsStack s trail count → k ≤ count → taken_in s row (reverse (take k trail)) ≤ k * 4294967296
taken_small row zero stack h = omega arith
taken_small {s} {trail} {count} row (suc k) stack h =
    let e : suc k - 1 ≡ k = omega arith in
    let last : reverse (take (suc k) trail) ≡ get_or trail k 0 ∷ reverse (take k trail) = rw e at (reverse_less trail (suc k) 0 (omega arith) (omega (arith, stack.places, stack.within))) in
    let small = stack.small k (omega arith) row in
    let earlier = taken_small row k stack (omega arith) in
    rw last (omega arith)

pub taken_fits : {s : System} {rules : Rules} {trail : List ℕ} {count : ℕ} {rows : List PathRow} (row : ℕ) → length s.columns ≤ 16777216 → IsStack s trail count → AreRows s rules (reverse (take count trail)) rows → row < length rows → (row_at rows row).taken + 4294967296 ≤ 2 ^ 63
taken_fits {s} {rules} {trail} {count} {rows} row few stack are h =
    let small = taken_small row count stack (omega arith) in
    let is = are.taken row (omega (arith, are.long)) in
    omega (arith, stack.within)

pub can_take : {s : System} {rules : Rules} {trail : List ℕ} {count : ℕ} {rows : List PathRow} → length s.columns ≤ 16777216 → IsStack s trail count → AreRows s rules (reverse (take count trail)) rows → HaveSmallSums rows
can_take few stack are row h = taken_fits row few stack are h

-- the stack with one column more, and with one less
pub stack_room : {s : System} {trail : List ℕ} {count : ℕ} → IsStack s trail count → length (reverse (take count trail)) < length s.columns → count < length trail
stack_room {s} {trail} {count} stack room = omega (arith, stack.places, length-trail trail count (omega (arith, stack.places, stack.within)))

pub stack_more : {s : System} {trail : List ℕ} {count : ℕ} (column : ℕ) → IsStack s trail count → count < length trail → column < length s.columns → IsSmallColumn s column → IsStack s (set trail count column) (count + 1)
stack_more {s} {trail} {count} column stack room within small = record {
  places = length-set trail count column ∙ stack.places;
  within = omega (arith, stack.places);
  columns = λ k h. elim (cases_eq k count) [
    | inl is ↦ rw (is, get_or-set_same trail count column 0 room) within
    | inr other ↦ rw (get_or-set_other trail count k column 0 other) (stack.columns k (omega arith))
  ];
  small = λ k h. elim (cases_eq k count) [
    | inl is ↦ rw (is, get_or-set_same trail count column 0 room) small
    | inr other ↦ rw (get_or-set_other trail count k column 0 other) (stack.small k (omega arith))
  ];
}

pub stack_less : {s : System} {trail : List ℕ} {count less : ℕ} → IsStack s trail count → less ≤ count → IsStack s trail less
stack_less stack h = record { places = stack.places; within = omega (arith, stack.within); columns = λ k l. stack.columns k (omega arith); small = λ k l. stack.small k (omega arith) }

pub stack_none : (s : System) (n : ℕ) → n ≡ length s.columns → IsStack s (replicate n 0) 0
stack_none s n is = record { places = length-replicate n 0 ∙ is; within = omega arith; columns = λ k h. absurd (omega arith); small = λ k h. absurd (omega arith) }

-- the deadline of a row
pub row_deadline : {s : System} {rules : Rules} {chosen : List ℕ} {rows : List PathRow} (row : ℕ) → AreRows s rules chosen rows → row < length s.targets → IsDeadline rules (entries s row) (target s row) (taken_in s row chosen) (row_at rows row).due
row_deadline {s} {rules} {chosen} {rows} row are h =
    let due = are.due row (omega (arith, are.long)) in
    rw (← are.targets row h, ← are.taken row h) due

-- the least of the first rows' deadlines
pub record LimitOf (columns : ℕ) (rows : List PathRow) (count limit : ℕ) : Type 0 where
  pub low : (row : ℕ) → row < count → limit ≤ (row_at rows row).due
  pub found : limit ≤ columns → (row : ℕ) × (row < count) × ((row_at rows row).due ≡ limit)
  pub few : limit ≤ columns + 1

pub limit_none : (columns : ℕ) (rows : List PathRow) (limit : ℕ) → limit ≡ columns + 1 → LimitOf columns rows 0 limit
limit_none columns rows limit is = record { low = λ row h. absurd (omega arith); found = λ h. absurd (omega arith); few = omega arith }

pub limit_less : {columns : ℕ} {rows : List PathRow} {count limit : ℕ} (due : ℕ) → LimitOf columns rows count limit → due ≡ (row_at rows count).due → due < limit → LimitOf columns rows (count + 1) due
limit_less {columns} {rows} {count} {limit} due l is less = record {
  low = λ row h. elim (cases_eq row count) [
    | inl same ↦ rw same (omega arith)
    | inr other ↦ omega (arith, l.low row (omega arith))
  ];
  found = λ h. (count, omega arith, sym is);
  few = omega (arith, l.few);
}

pub limit_same : {columns : ℕ} {rows : List PathRow} {count limit : ℕ} → LimitOf columns rows count limit → limit ≤ (row_at rows count).due → LimitOf columns rows (count + 1) limit
limit_same {columns} {rows} {count} {limit} l more = record {
  low = λ row h. elim (cases_eq row count) [
    | inl same ↦ rw same more
    | inr other ↦ l.low row (omega arith)
  ];
  found = λ h. let was = l.found h in (was.0, omega (arith, was.1), was.2);
  few = l.few;
}

pub limit_is : {s : System} {rules : Rules} {chosen : List ℕ} {rows : List PathRow} (count limit : ℕ) → AreRows s rules chosen rows → length rows ≤ count → count ≤ length rows → LimitOf (length s.columns) rows count limit → IsLimit (record { system = s; rules = rules; chosen = chosen }) limit
limit_is {s} {rules} {chosen} {rows} count limit are all some l = record {
  before = λ row from h lt. (row_deadline row are h).before from (omega (arith, l.low row (omega (arith, are.long))));
  after = λ h. let was = l.found h in let within : was.0 < length s.targets = omega (arith, was.1, are.long) in (was.0, within, λ from low high. (row_deadline was.0 are within).after from (omega (arith, was.2)) (omega (arith, length-entries s was.0)));
  few = l.few;
}

-- the tests of the rows are those of their system
module _ {s : System} {rules : Rules} {chosen : List ℕ} {rows : List PathRow} (are : AreRows s rules chosen rows) where
  abbrev pub y : Yeses
  y = record { system = s; rules = rules; chosen = chosen }

  over_is : (row : ℕ) → row < length s.targets → is_over_row (row_at rows row) ≡ is_over_in y row
  over_is row h = rw (are.targets row h, are.taken row h) refl

  unmet_is : (row : ℕ) → row < length s.targets → is_unmet_row (row_at rows row) ≡ not (is_met_in y row)
  unmet_is row h = rw (are.targets row h, are.taken row h) refl

  pub first_over_is : (row : ℕ) → IsFirstRow is_over_row rows (Some row) → least_row s (is_over_in y) ≡ Some row
  first_over_is row first =
      let within : row < length s.targets = omega (arith, first.0, are.long) in
      least_row_is s (is_over_in y) row within (sym (over_is row within) ∙ first.1) (λ k h. sym (over_is k (omega arith)) ∙ first.2 k h)

  pub none_over_is : IsFirstRow is_over_row rows None → least_row s (is_over_in y) ≡ None
  none_over_is none = least_row_none s (is_over_in y) (length s.targets) (omega arith) (λ k h. sym (over_is k h) ∙ none k (omega (arith, are.long)))

  pub tells_over : (told : Bool) → TellsSome is_over_row rows told → told ≡ is_some (least_row s (is_over_in y))
  tells_over true tells =
      let found = tells.some refl in
      let within : found.0 < length s.targets = omega (arith, found.1, are.long) in
      sym (some_found (is_over_in y) 0 (length s.targets) found.0 (omega arith) (omega arith) (sym (over_is found.0 within) ∙ found.2))
    where
      some_found : (p : ℕ → Bool) (a n r : ℕ) → a ≤ r → r < a + n → p r ≡ true → is_some (find p (range_with_len a n)) ≡ true
      some_found p a zero r low high is = absurd (omega arith)
      some_found p a (suc n) r low high is = elim (cases_Bool (p a)) [
        | inl here ↦ rw here refl
        | inr not_here ↦ elim (cases_eq r a) [
          | inl same ↦ absurd (let e : true ≡ false = sym is ∙ ap p same ∙ not_here in cc)
          | inr other ↦ rw not_here (some_found p (a + 1) n r (omega arith) (omega arith) is)
        ]
      ]
  tells_over false tells = sym (ap is_some (least_row_none s (is_over_in y) (length s.targets) (omega arith) (λ k h. sym (over_is k h) ∙ tells.none refl k (omega (arith, are.long)))))

  pub tells_met : (told : Bool) → TellsSome is_unmet_row rows told → not told ≡ list_all (is_met_in y) (rows_of s)
  tells_met true tells =
      let found = tells.some refl in
      let within : found.0 < length s.targets = omega (arith, found.1, are.long) in
      sym (row_fails s (is_met_in y) found.0 within (not-true (is_met_in y found.0) (sym (unmet_is found.0 within) ∙ found.2)))
  tells_met false tells = sym (rows_pass s (is_met_in y) (λ row h. not-false (is_met_in y row) (sym (unmet_is row h) ∙ tells.none refl row (omega (arith, are.long)))))

-- a positive entry is that of a cell
pub has_cell : (column : List Cell) (row : ℕ) → 0 < entry_of column row → (k : ℕ) × (k < length column) × ((get_or column k blank).row ≡ row)
has_cell [] row h = absurd (omega arith)
has_cell (cell ∷ column) row h = elim (cases_eq cell.row row) [
  | inl same ↦ (0, omega arith, same)
  | inr other ↦ let later = has_cell column row (let rest : 0 + entry_of column row ≡ entry_of column row = omega arith in rw (ne_eqb cell.row row other, rest) at h) in (suc later.0, omega (arith, later.1), later.2)
]

-- a cell above its row's need bars its column
pub barred_here : {s : System} {rules : Rules} {chosen : List ℕ} {rows : List PathRow} (column : ℕ) (column_cells : List Cell) (k : ℕ) → AreRows s rules chosen rows → column_cells ≡ cells s column → AreCells (length s.targets) column_cells → k < length column_cells → (row_at rows (get_or column_cells k blank).row).target < (row_at rows (get_or column_cells k blank).row).taken + (get_or column_cells k blank).value → IsBarred (record { system = s; rules = rules; chosen = chosen }) column
barred_here {s} {rules} {chosen} {rows} column column_cells k are is sorted more above =
    let cell = get_or column_cells k blank in
    let within = sorted.in_range k blank more in
    let e : entry s cell.row column ≡ cell.value = entry_is s cell.row column ∙ ap (λ l. entry_of l cell.row) (sym is) ∙ entry_in_order column_cells cell.row k sorted.increasing more refl in
    let goal = are.targets cell.row within in
    let has = are.taken cell.row within in
    (cell.row, within, omega (arith, sorted.positive k blank more), omega arith)

-- where no cell is, the column isn't barred
pub barred_nowhere : {s : System} {rules : Rules} {chosen : List ℕ} {rows : List PathRow} (column : ℕ) (column_cells : List Cell) (count : ℕ) → AreRows s rules chosen rows → column_cells ≡ cells s column → AreCells (length s.targets) column_cells → length column_cells ≤ count → ((k : ℕ) → k < count → (row_at rows (get_or column_cells k blank).row).taken + (get_or column_cells k blank).value ≤ (row_at rows (get_or column_cells k blank).row).target) → IsBarred (record { system = s; rules = rules; chosen = chosen }) column → ⊥
barred_nowhere {s} {rules} {chosen} {rows} column column_cells count are is sorted all fit barred =
    let row = barred.0 in
    let e : entry s row column ≡ entry_of column_cells row = entry_is s row column ∙ ap (λ l. entry_of l row) (sym is) in
    let found = has_cell column_cells row (omega (arith, barred.2)) in
    let value : entry_of column_cells row ≡ (get_or column_cells found.0 blank).value = entry_in_order column_cells row found.0 sorted.increasing found.1 found.2 in
    let here = rw found.2 at (fit found.0 (omega (arith, found.1))) in
    let goal = are.targets row barred.1 in
    let has = are.taken row barred.1 in
    absurd (omega (arith, barred.3))

-- what a row has taken with a yes column more
taken_with : (s : System) (row column : ℕ) (chosen : List ℕ) → taken_in s row (column ∷ chosen) ≡ taken_in s row chosen + entry s row column
taken_with s row column chosen = omega arith

-- the cells before this one fit their rows
abbrev pub FitBefore : List PathRow → List Cell → ℕ → Type 0
FitBefore rows column_cells count = (k : ℕ) → k < count → (row_at rows (get_or column_cells k blank).row).taken + (get_or column_cells k blank).value ≤ (row_at rows (get_or column_cells k blank).row).target

-- with the column a row isn't over that isn't now, where a cell of it fits or the column has none in it
module _ {s : System} {rules : Rules} {chosen : List ℕ} {rows : List PathRow} (column : ℕ) (column_cells : List Cell) (are : AreRows s rules chosen rows) (is : column_cells ≡ cells s column) (sorted : AreCells (length s.targets) column_cells) (none : least_row s (is_over_in (record { system = s; rules = rules; chosen = chosen })) ≡ None) where
  abbrev with_column : Yeses
  with_column = record { system = s; rules = rules; chosen = column ∷ chosen }

  entry_at_cell : (k : ℕ) → k < length column_cells → entry s (get_or column_cells k blank).row column ≡ (get_or column_cells k blank).value
  entry_at_cell k more = entry_is s (get_or column_cells k blank).row column ∙ ap (λ l. entry_of l (get_or column_cells k blank).row) (sym is) ∙ entry_in_order column_cells (get_or column_cells k blank).row k sorted.increasing more refl

  fits_with : (row count : ℕ) → FitBefore rows column_cells count → ((k : ℕ) → k < length column_cells → (get_or column_cells k blank).row ≡ row → k < count) → row < length s.targets → is_over_in with_column row ≡ false
  fits_with row count fit early within =
      let goal = are.targets row within in
      let has = are.taken row within in
      let sum = taken_with s row column chosen in
      let now = ltb-false (target s row) (taken_in s row chosen) (none_in_range (is_over_in (record { system = s; rules = rules; chosen = chosen })) 0 (length s.targets) row none (omega arith) (omega arith)) in
      elim (cases_lt 0 (entry s row column)) [
        | inl positive ↦
            let e : entry s row column ≡ entry_of column_cells row = entry_is s row column ∙ ap (λ l. entry_of l row) (sym is) in
            let found = has_cell column_cells row (omega arith) in
            let value = entry_at_cell found.0 found.1 in
            let here = rw found.2 at (fit found.0 (early found.0 found.1 found.2)) in
            let v : entry s row column ≡ (get_or column_cells found.0 blank).value = rw found.2 at value in
            le-ltb (target s row) (taken_in s row (column ∷ chosen)) (omega arith)
        | inr zero_entry ↦ le-ltb (target s row) (taken_in s row (column ∷ chosen)) (omega arith)
      ]

  -- the first cell that doesn't fit has the least row that is over with the column
  pub over_with_cell : (k : ℕ) → k < length column_cells → FitBefore rows column_cells k → (row_at rows (get_or column_cells k blank).row).target < (row_at rows (get_or column_cells k blank).row).taken + (get_or column_cells k blank).value → least_row s (is_over_in with_column) ≡ Some (get_or column_cells k blank).row
  over_with_cell k more fit above =
      let cell = get_or column_cells k blank in
      let within = sorted.in_range k blank more in
      let e = entry_at_cell k more in
      let goal = are.targets cell.row within in
      let has = are.taken cell.row within in
      let sum = taken_with s cell.row column chosen in
      least_row_is s (is_over_in with_column) cell.row within (lt-ltb (target s cell.row) (taken_in s cell.row (column ∷ chosen)) (omega arith))
      (λ row below. fits_with row k fit (λ j l here. elim (cases_lt j k) [
        | inl before ↦ before
        | inr after ↦ elim (cases_eq j k) [
          | inl same ↦ absurd (let r : cell.row ≡ row = rw same at here in omega arith)
          | inr other ↦ absurd (omega (arith, here, rows_rise column_cells k j sorted.increasing (omega arith) l))
        ]
      ]) (omega arith))

  -- and where each fits, no row is over with it
  pub none_over_with : (count : ℕ) → length column_cells ≤ count → FitBefore rows column_cells count → least_row s (is_over_in with_column) ≡ None
  none_over_with count all fit = least_row_none s (is_over_in with_column) (length s.targets) (omega arith) (λ row within. fits_with row count fit (λ k l here. omega arith) within)

-- where no row is found, none passes
pub none_passes : (s : System) (p : ℕ → Bool) (r : ℕ) → least_row s p ≡ None → r < length s.targets → p r ≡ false
none_passes s p r h within = none_in_range p 0 (length s.targets) r h (omega arith) (omega arith)

-- whether a row has a residue, seen from the row
module _ {s : System} {rules : Rules} {chosen : List ℕ} {rows : List PathRow} (row from divisor : ℕ) (r : PathRow) (are : AreRows s rules chosen rows) (within : row < length s.targets) (is : r ≡ row_at rows row) (not_over : is_over_in (record { system = s; rules = rules; chosen = chosen }) row ≡ false) (divisor_is : divisor ≡ common_divisor (drop from (entries s row))) where
  need_is : target s row ≡ taken_in s row chosen + (r.target - r.taken)
  need_is =
      let goal : r.target ≡ target s row = ap (λ (x : PathRow). x.target) is ∙ are.targets row within in
      let has : r.taken ≡ taken_in s row chosen = ap (λ (x : PathRow). x.taken) is ∙ are.taken row within in
      omega (arith, ltb-false (target s row) (taken_in s row chosen) not_over)

  pub row_residue : 1 < divisor → ((r.target - r.taken) % divisor ≡ 0 → ⊥) → has_residue_from (record { system = s; rules = rules; chosen = chosen }) from row ≡ true
  row_residue two some = residue_told (entries s row) from (target s row) (taken_in s row chosen) (r.target - r.taken) divisor need_is divisor_is two some

  pub row_no_residue : (1 < divisor → (r.target - r.taken) % divisor ≡ 0) → has_residue_from (record { system = s; rules = rules; chosen = chosen }) from row ≡ false
  row_no_residue none = residue_untold (entries s row) from (target s row) (taken_in s row chosen) (r.target - r.taken) divisor need_is divisor_is none
