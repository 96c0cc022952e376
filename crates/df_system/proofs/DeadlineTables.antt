-- The deadlines of all rows in one list, as they are made from the last column to the first.
use Rattle.std.proofs.Common.{◌≡◌, ◌≢◌, ℕ, ◌+◌, ◌*◌, ◌<◌, ◌≤◌, min, List, [], ◌∷◌, ◌++◌, length, get_or, set, drop, take, replicate, refl, sym, ap, ◌∙◌, arith, inl, inr, length-set, length-append, mul-le-mul_right, add-mul, one-mul, zero-mul}
use Rattle.std.proofs.lemmas.Bool.{cases_eq, cases_lt, cases_order}
use Rattle.std.proofs.lemmas.List.{get_or-set_same, get_or-set_other, get_or-replicate, length-replicate, get_or_append_left, get_or_at}
use Rattle.df_walk.specs.declared.Cell.{Cell}
use Rattle.df_walk.specs.declared.Rules.{Rules}
use Rattle.df_walk.specs.declared.Rules.TheVariants.{Plain}
use Rattle.df_walk.specs.Systems.{System, AreCells, entries, entry_of, cells}
use Rattle.df_walk.specs.Assignments.{total}
use Rattle.df_walk.proofs.EntryLaws.{length-entries, entry_is}
use Rattle.df_system.specs.Deadlines.{IsDeadline, AreDeadlines, AreFirst, IsFilled, IsReached, AreReachedBy, AreReached, AreRuled}
use Rattle.df_system.proofs.SortedCells.{blank, entry_in_order}
use Rattle.df_system.proofs.LinkedDivisors.{absent_before, entry_here, entry_elsewhere}
use Rattle.df_system.proofs.RowNeeds.{total_drop_le, total_drop_step, total_drop_end, plain_deadline}
use Rattle.df_system.proofs.DeadlineLaws.{deadline_never, deadline_past}

-- a row's places end where the next one's begin
pub next_row : (width r q : ℕ) → r < q → r * width + width ≤ q * width
next_row width r q h = omega (arith, mul-le-mul_right width (let x : r + 1 ≤ q = omega arith in x), add-mul r 1 width, one-mul width)

pub place_within : (width rows r n : ℕ) → r < rows → n < width → r * width + n < rows * width
place_within width rows r n h l = omega (arith, next_row width r rows h)

-- the places of two rows differ
pub places_differ : (width r q n m : ℕ) → n < width → m < width → r ≢ q → r * width + n ≢ q * width + m
places_differ width r q n m a b other e = elim (cases_order r q) [
  | inl same ↦ other same
  | inr (inl below) ↦ absurd (omega (arith, next_row width r q below))
  | inr (inr above) ↦ absurd (omega (arith, next_row width q r above))
]

-- the place after a number of rows is that of the next row
pub place_next : (width r : ℕ) → (r + 1) * width ≡ r * width + width
place_next width r = omega (arith, add-mul r 1 width, one-mul width)

-- need 0 of one row more
pub record FirstSet (rows width row never : ℕ) (deadlines : List ℕ) : Type 0 where
  pub long : length deadlines ≡ rows * width
  pub met : (r : ℕ) → r < row → get_or deadlines (r * width) 0 ≡ never
  pub others : (r need : ℕ) → r < rows → 0 < need → need < width → get_or deadlines (r * width + need) 0 ≡ 0

pub first_none : (rows width never n : ℕ) → n ≡ rows * width → FirstSet rows width 0 never (replicate n 0)
first_none rows width never n is = record {
  long = length-replicate n 0 ∙ is;
  met = λ r h. absurd (omega arith);
  others = λ r need h some low. get_or-replicate {A = ℕ} n (r * width + need) 0 0 (omega (arith, place_within width rows r need h low));
}

pub first_more : {rows width row never : ℕ} {deadlines : List ℕ} → 0 < width → row < rows → FirstSet rows width row never deadlines → FirstSet rows width (row + 1) never (set deadlines (row * width) never)
first_more {rows} {width} {row} {never} {deadlines} some h f = record {
  long = length-set deadlines (row * width) never ∙ f.long;
  met = λ r l. elim (cases_eq r row) [
    | inl same ↦ rw same (get_or-set_same deadlines (row * width) never 0 (omega (arith, f.long, place_within width rows row 0 h some)))
    | inr other ↦ get_or-set_other deadlines (row * width) (r * width) never 0 (λ e. places_differ width r row 0 0 some some other (omega arith)) ∙ f.met r (omega arith)
  ];
  others = λ r need l more low. get_or-set_other deadlines (row * width) (r * width + need) never 0 (λ e. elim (cases_eq r row) [
    | inl same ↦ absurd (let x : r * width ≡ row * width = ap (λ k. k * width) same in omega arith)
    | inr other ↦ places_differ width r row need 0 low some other (omega arith)
  ]) ∙ f.others r need l more low;
}

pub first_all : {rows width row never : ℕ} {deadlines : List ℕ} → rows ≤ row → FirstSet rows width row never deadlines → AreFirst rows width never deadlines
first_all h f = record { long = f.long; met = λ r l. f.met r (omega arith); others = f.others }

-- nothing is filled yet, and one place more
pub filled_none : (old : List ℕ) (start value : ℕ) → IsFilled old old start start value
filled_none old start value = record { inside = λ k low high. absurd (omega arith); before = λ k h. refl; past = λ k h. refl }

pub filled_more : {old now : List ℕ} {start end value : ℕ} → IsFilled old now start end value → start ≤ end → end < length now → IsFilled old (set now end value) start (end + 1) value
filled_more {old} {now} {start} {end} {value} f low within = record {
  inside = λ k l h. elim (cases_eq k end) [
    | inl same ↦ rw same (get_or-set_same now end value 0 within)
    | inr other ↦ get_or-set_other now end k value 0 other ∙ f.inside k l (omega arith)
  ];
  before = λ k h. get_or-set_other now end k value 0 (λ e. absurd (omega arith)) ∙ f.before k h;
  past = λ k h. get_or-set_other now end k value 0 (λ e. absurd (omega arith)) ∙ f.past k (omega arith);
}

-- before all columns but the ones past the end
pub reached_start : {s : System} {width never rows columns : ℕ} {deadlines : List ℕ} → rows ≡ length s.targets → columns ≡ length s.columns → never ≡ columns + 1 → 0 < width → AreFirst rows width never deadlines → AreReached s width columns (replicate rows 1) deadlines
reached_start {s} {width} {never} {rows} {columns} {deadlines} rows_is columns_is never_is some f = record {
  counted = length-replicate rows 1 ∙ rows_is;
  long = f.long ∙ ap (λ n. n * width) rows_is;
  each = λ row h.
      let es = entries s row in
      let long : length es ≡ columns = length-entries s row ∙ sym columns_is in
      let none : total (drop columns es) ≡ 0 = ap (λ k. total (drop k es)) (sym long) ∙ total_drop_end es in
      let met : get_or deadlines (row * width + 0) 0 ≡ never = ap (λ k. get_or deadlines k 0) (let x : row * width + 0 ≡ row * width = omega arith in x) ∙ f.met row (omega arith) in
      let one : get_or (replicate rows 1) row 0 ≡ 1 = get_or-replicate {A = ℕ} rows row 1 0 (omega arith) in
      rw one (record {
        within = omega arith;
        low = omega arith;
        full = λ less. omega arith;
        done = λ need l. let zero_need : need ≡ 0 = omega arith in rw (zero_need, met) (deadline_never es 0 never refl (omega arith));
        others = λ need l high. f.others row need (omega arith) (omega arith) high;
      });
}

pub reached_caps : {s : System} {width : ℕ} {counts deadlines : List ℕ} (caps other : ℕ → ℕ) → ((row : ℕ) → row < length s.targets → caps row ≡ other row) → AreReachedBy s width caps counts deadlines → AreReachedBy s width other counts deadlines
reached_caps {s} {width} caps other same r = record {
  counted = r.counted;
  long = r.long;
  each = λ row h. let is = r.each row h in let e = same row h in record { within = is.within; low = omega (arith, is.low); full = λ less. omega (arith, is.full less); done = is.done; others = is.others };
}

-- what a row has where the cells `done` of a column and all later columns count
abbrev pub part_of : System → ℕ → List Cell → ℕ → ℕ
part_of s column done row = entry_of done row + total (drop (column + 1) (entries s row))

pub reached_begin : {s : System} {width : ℕ} {counts deadlines : List ℕ} (column : ℕ) → AreReached s width (column + 1) counts deadlines → AreReachedBy s width (part_of s column []) counts deadlines
reached_begin {s} column r = reached_caps (λ row. total (drop (column + 1) (entries s row))) (part_of s column []) (λ row h. omega arith) r

pub reached_end : {s : System} {width : ℕ} {counts deadlines : List ℕ} (column : ℕ) (column_cells : List Cell) → column < length s.columns → column_cells ≡ cells s column → AreReachedBy s width (part_of s column column_cells) counts deadlines → AreReached s width column counts deadlines
reached_end {s} column column_cells within is r = reached_caps (part_of s column column_cells) (λ row. total (drop column (entries s row))) (λ row h.
    let step = total_drop_step (entries s row) column (omega (arith, length-entries s row)) in
    let entry : get_or (entries s row) column 0 ≡ entry_of column_cells row = entry_is s row column ∙ ap (λ l. entry_of l row) (sym is) in
    omega arith) r

-- a cell is done
module _ {s : System} {width : ℕ} {counts deadlines : List ℕ} (column : ℕ) (column_cells : List Cell) (k : ℕ) (within : column < length s.columns) (is : column_cells ≡ cells s column) (sorted : AreCells (length s.targets) column_cells) (more : k < length column_cells) (r : AreReachedBy s width (part_of s column (take k column_cells)) counts deadlines) where
  cell_row_within : (get_or column_cells k blank).row < length s.targets
  cell_row_within = sorted.in_range k blank more

  here : (new : List ℕ) → let cell = get_or column_cells k blank in IsFilled deadlines new (cell.row * width + get_or counts cell.row 0) (cell.row * width + min (get_or counts cell.row 0 + cell.value) width) (column + 1) → IsReached (entries s cell.row) width (part_of s column (take (k + 1) column_cells) cell.row) (cell.row * width) (min (get_or counts cell.row 0 + cell.value) width) new
  here new f =
      let cell = get_or column_cells k blank in
      let es = entries s cell.row in
      let count = get_or counts cell.row 0 in
      let old = r.each cell.row cell_row_within in
      let absent : entry_of (take k column_cells) cell.row ≡ 0 = absent_before column_cells k sorted.increasing more in
      let now : entry_of (take (k + 1) column_cells) cell.row ≡ cell.value = entry_here column_cells k sorted.increasing more in
      let entry : get_or es column 0 ≡ cell.value = entry_is s cell.row column ∙ ap (λ l. entry_of l cell.row) (sym is) ∙ entry_in_order column_cells cell.row k sorted.increasing more refl in
      let long : column < length es = omega (arith, length-entries s cell.row) in
      let step = total_drop_step es column long in
      record {
        within = omega arith;
        low = omega (arith, old.low);
        full = λ less. let was = old.full (omega arith) in omega arith;
        done = λ need l. elim (cases_lt need count) [
          | inl before ↦ rw (f.before (cell.row * width + need) (omega arith)) (old.done need before)
          | inr reached ↦ let was = old.full (omega arith) in rw (f.inside (cell.row * width + need) (omega arith) (omega arith)) (deadline_past es need column long (omega arith) (omega arith))
        ];
        others = λ need l high. f.past (cell.row * width + need) (omega arith) ∙ old.others need (omega (arith, old.within)) high;
      }

  there : (new : List ℕ) (row : ℕ) → let cell = get_or column_cells k blank in IsFilled deadlines new (cell.row * width + get_or counts cell.row 0) (cell.row * width + min (get_or counts cell.row 0 + cell.value) width) (column + 1) → row < length s.targets → row ≢ cell.row → IsReached (entries s row) width (part_of s column (take (k + 1) column_cells) row) (row * width) (get_or counts row 0) new
  there new row f h other =
      let cell = get_or column_cells k blank in
      let old = r.each row h in
      let elsewhere = entry_elsewhere column_cells k row more other in
      let same : (need : ℕ) → need < width → get_or new (row * width + need) 0 ≡ get_or deadlines (row * width + need) 0 = λ need low. elim (cases_lt row cell.row) [
        | inl below ↦ f.before (row * width + need) (omega (arith, next_row width row cell.row below))
        | inr above ↦ f.past (row * width + need) (omega (arith, next_row width cell.row row (omega arith)))
      ] in
      record {
        within = old.within;
        low = omega (arith, old.low);
        full = λ less. omega (arith, old.full less);
        done = λ need l. rw (same need (omega (arith, old.within))) (old.done need l);
        others = λ need l high. same need high ∙ old.others need l high;
      }

  pub reached_more : (new_counts new : List ℕ) → let cell = get_or column_cells k blank in new_counts ≡ set counts cell.row (min (get_or counts cell.row 0 + cell.value) width) → length new ≡ length deadlines → IsFilled deadlines new (cell.row * width + get_or counts cell.row 0) (cell.row * width + min (get_or counts cell.row 0 + cell.value) width) (column + 1) → AreReachedBy s width (part_of s column (take (k + 1) column_cells)) new_counts new
  reached_more new_counts new counts_are long f =
      let cell = get_or column_cells k blank in
      let count = min (get_or counts cell.row 0 + cell.value) width in
      rw counts_are (record {
        counted = length-set counts cell.row count ∙ r.counted;
        long = long ∙ r.long;
        each = λ row h. elim (cases_eq row cell.row) [
          | inl same ↦ rw (same, get_or-set_same counts cell.row count 0 (omega (arith, r.counted, cell_row_within))) (here new f)
          | inr other ↦ rw (get_or-set_other counts cell.row row count 0 other) (there new row f h other)
        ];
      })

-- all columns count
pub reached_all : {s : System} {width column : ℕ} {counts deadlines : List ℕ} → 0 < width → column ≡ 0 → AreReached s width column counts deadlines → AreDeadlines s Plain width deadlines
reached_all {s} {width} {column} {counts} {deadlines} some none r = record {
  some = some;
  long = r.long;
  each = λ row need h l.
      let is = r.each row h in
      let es = entries s row in
      elim (cases_lt need (get_or counts row 0)) [
        | inl reached ↦ is.done need reached
        | inr missed ↦
            let full = is.full (omega arith) in
            rw (is.others need missed l) (plain_deadline es need 0 (λ from lt. absurd (omega arith)) (λ from low high. omega (arith, total_drop_le es column from (omega arith))) (omega arith))
      ];
}

-- the deadlines of a row by the rules, one more at a time
pub record RuledPart (s : System) (rules : Rules) (width row need : ℕ) (deadlines : List ℕ) : Type 0 where
  pub long : length deadlines ≡ row * width + need
  pub rows : (r n : ℕ) → r < row → n < width → IsDeadline rules (entries s r) n 0 (get_or deadlines (r * width + n) 0)
  pub here : (n : ℕ) → n < need → IsDeadline rules (entries s row) n 0 (get_or deadlines (row * width + n) 0)

pub part_begin : {s : System} {rules : Rules} {width row : ℕ} {deadlines : List ℕ} → AreRuled s rules width row deadlines → RuledPart s rules width row 0 deadlines
part_begin r = record { long = omega (arith, r.long); rows = r.each; here = λ n h. absurd (omega arith) }

pub part_more : {s : System} {rules : Rules} {width row need : ℕ} {deadlines : List ℕ} (new : List ℕ) (d : ℕ) → new ≡ deadlines ++ d ∷ [] → need < width → RuledPart s rules width row need deadlines → IsDeadline rules (entries s row) need 0 d → RuledPart s rules width row (need + 1) new
part_more {s} {rules} {width} {row} {need} {deadlines} new d is low p due = rw is (record {
  long = omega (arith, length-append deadlines (d ∷ []), p.long);
  rows = λ r n h l. rw (get_or_append_left deadlines (d ∷ []) 0 (r * width + n) (omega (arith, p.long, next_row width r row h))) (p.rows r n h l);
  here = λ n h. elim (cases_eq n need) [
    | inl same ↦ rw (same, get_or_at deadlines d [] 0 (row * width + need) p.long) due
    | inr other ↦ rw (get_or_append_left deadlines (d ∷ []) 0 (row * width + n) (omega (arith, p.long))) (p.here n (omega arith))
  ];
})

pub part_end : {s : System} {rules : Rules} {width row need : ℕ} {deadlines : List ℕ} → need ≡ width → RuledPart s rules width row need deadlines → AreRuled s rules width (row + 1) deadlines
part_end {s} {rules} {width} {row} {need} {deadlines} is p = record {
  long = omega (arith, p.long, place_next width row);
  each = λ r n h l. elim (cases_eq r row) [
    | inl same ↦ rw same (p.here n (omega arith))
    | inr other ↦ p.rows r n (omega arith) l
  ];
}

pub ruled_none : (s : System) (rules : Rules) (width : ℕ) → AreRuled s rules width 0 []
ruled_none s rules width = record { long = sym (zero-mul width); each = λ r n h l. absurd (omega arith) }

pub ruled_all : {s : System} {rules : Rules} {width rows : ℕ} {deadlines : List ℕ} → 0 < width → rows ≡ length s.targets → AreRuled s rules width rows deadlines → AreDeadlines s rules width deadlines
ruled_all {s} {rules} {width} some is r = record { some = some; long = r.long ∙ ap (λ n. n * width) is; each = λ row need h l. r.each row need (omega arith) l }

-- a deadline as it is read
pub deadline_read : {s : System} {rules : Rules} {width : ℕ} {deadlines : List ℕ} (row need read : ℕ) → AreDeadlines s rules width deadlines → row < length s.targets → need < width → read ≡ get_or deadlines (row * width + need) 0 → IsDeadline rules (entries s row) need 0 read
deadline_read row need read d h l is = rw is (d.each row need h l)
