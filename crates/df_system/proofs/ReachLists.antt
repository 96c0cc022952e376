-- Deadlines by what a row reaches from its columns on: the lists as they are made, and what is read off them.
use Rattle.std.proofs.Common.{◌≡◌, ℕ, zero, suc, ◌+◌, ◌-◌, ◌<◌, ◌≤◌, min, ltb, true, false, List, [], ◌∷◌, ◌++◌, length, get_or, set, take, drop, refl, sym, ap, ◌∙◌, arith, inl, inr, length-set, length-append, ltb-true, lt-ltb, ltb-false}
use Rattle.std.specs.List.Sorted.{IsPartitionedBy, IsPartitionPoint}
use Rattle.std.proofs.lemmas.Bool.{cases_eq, cases_lt}
use Rattle.std.proofs.lemmas.List.{get_or-set_same, get_or-set_other, get_or_default, get_or_append_left, get_or_at, take_all}
use Rattle.df_walk.specs.declared.Cell.{Cell}
use Rattle.df_walk.specs.declared.Rules.TheVariants.{Plain}
use Rattle.df_walk.specs.Systems.{System, AreCells, entries, entry_of, cells, target}
use Rattle.df_walk.specs.Assignments.{total, cap}
use Rattle.df_walk.proofs.EntryLaws.{length-entries, entry_is}
use Rattle.df_system.specs.declared.reaches.Reach.{Reach}
use Rattle.df_system.specs.Deadlines.{IsDeadline}
use Rattle.df_system.specs.Reaches.{as_word, reach_at, reached_by, reached, IsReaching, list_at, AreReaching, AreReachingFrom, AreTotals, IsGreatestNeed, AreFar}
use Rattle.df_system.proofs.SortedCells.{blank, entry_in_order}
use Rattle.df_system.proofs.ColumnChanges.{share, entry_more, share_here, share_elsewhere}
use Rattle.df_system.proofs.LinkedDivisors.{absent_before, entry_here, entry_elsewhere}
use Rattle.df_system.proofs.RowNeeds.{total_drop_le, total_drop_step, total_drop_end, plain_deadline}
use Rattle.df_system.proofs.DeadlineTables.{part_of}

-- a place more leaves those before it
reached_before : (list : List Reach) (r : Reach) (k : ℕ) → k ≤ length list → reached_by (list ++ r ∷ []) k ≡ reached_by list k
reached_before list r zero h = refl
reached_before list r (suc k) h = ap (λ (x : Reach). x.most) (get_or_append_left list (r ∷ []) (record { due = 0; most = 0 }) k (omega arith))

reached_last : (list : List Reach) (r : Reach) → reached (list ++ r ∷ []) ≡ r.most
reached_last list r =
    let long : length (list ++ r ∷ []) ≡ suc (length list) = omega (arith, length-append list (r ∷ [])) in
    rw long (ap (λ (x : Reach). x.most) (get_or_at list r [] (record { due = 0; most = 0 }) (length list) refl))

-- no column counts
pub reaching_none : (es : List ℕ) → IsReaching es 0 []
reaching_none es = record { some = λ k h. absurd (omega arith); within = λ k h. absurd (omega arith); here = λ k h. absurd (omega arith); past = λ k h. absurd (omega arith); end = refl }

pub reaching_same : {es : List ℕ} {old new : ℕ} {list : List Reach} → old ≡ new → IsReaching es old list → IsReaching es new list
reaching_same is r = rw (← is) r

-- a column more
pub reaching_more : {es : List ℕ} {list : List Reach} (column value : ℕ) (r : Reach) → column < length es → get_or es column 0 ≡ value → r ≡ record { due = column + 1; most = as_word (reached list + value) } → IsReaching es (total (drop (column + 1) es)) list → IsReaching es (total (drop column es)) (list ++ r ∷ [])
reaching_more {es} {list} column value r within is r_is old =
    let step = total_drop_step es column within in
    let due : r.due ≡ column + 1 = ap (λ (x : Reach). x.due) r_is in
    let most : r.most ≡ as_word (total (drop column es)) = ap (λ (x : Reach). x.most) r_is ∙ (let e = old.end in let x : min (reached list + value) 4294967295 ≡ min (total (drop column es)) 4294967295 = omega arith in x) in
    let before : (k : ℕ) → k < length list → reach_at (list ++ r ∷ []) k ≡ reach_at list k = λ k h. get_or_append_left list (r ∷ []) (record { due = 0; most = 0 }) k h in
    let last : reach_at (list ++ r ∷ []) (length list) ≡ r = get_or_at list r [] (record { due = 0; most = 0 }) (length list) refl in
    let long : length (list ++ r ∷ []) ≡ length list + 1 = omega (arith, length-append list (r ∷ [])) in
    record {
      some = λ k h. elim (cases_lt k (length list)) [
        | inl less ↦ rw (before k less) (old.some k less)
        | inr more ↦ let e : k ≡ length list = omega arith in rw (e, last, due) (omega arith)
      ];
      within = λ k h. elim (cases_lt k (length list)) [
        | inl less ↦ rw (before k less) (old.within k less)
        | inr more ↦ let e : k ≡ length list = omega arith in rw (e, last, due) (omega arith)
      ];
      here = λ k h. elim (cases_lt k (length list)) [
        | inl less ↦ rw (before k less) (old.here k less)
        | inr more ↦ let e : k ≡ length list = omega arith in let f : column + 1 - 1 ≡ column = omega arith in rw (e, last, due, f) most
      ];
      past = λ k h. elim (cases_lt k (length list)) [
        | inl less ↦ reached_before list r k (omega arith) ∙ old.past k less ∙ ap (λ (x : Reach). as_word (total (drop x.due es))) (sym (before k less))
        | inr more ↦
            let e : k ≡ length list = omega arith in
            let here : (reach_at (list ++ r ∷ []) k).due ≡ column + 1 = ap (λ j. (reach_at (list ++ r ∷ []) j).due) e ∙ ap (λ (x : Reach). x.due) last ∙ due in
            reached_before list r k (omega arith) ∙ ap (reached_by list) e ∙ old.end ∙ ap (λ j. as_word (total (drop j es))) (sym here)
      ];
      end = reached_last list r ∙ most;
    }

-- what is served doesn't fall along the list
module _ {es : List ℕ} {all : ℕ} {list : List Reach} (r : IsReaching es all list) where
  rises_once : (k : ℕ) → k < length list → reached_by list k ≤ (reach_at list k).most
  rises_once k h = omega (arith, r.here k h, r.past k h, total_drop_le es ((reach_at list k).due - 1) (reach_at list k).due (omega arith))

  rises : (i n : ℕ) → i + n < length list → (reach_at list i).most ≤ (reach_at list (i + n)).most
  rises i zero h = let e : i + 0 ≡ i = omega arith in rw e (omega arith)
  rises i (suc n) h =
      let e : i + suc n ≡ suc (i + n) = omega arith in
      rw e (omega (arith, rises i n (omega arith), rises_once (suc (i + n)) (omega arith)))

  pub are_parted : (need : ℕ) → IsPartitionedBy (λ (x : Reach). ltb x.most need) list
  are_parted need i j d le lt is =
      let blank_reach : Reach = record { due = 0; most = 0 } in
      let ei = get_or_default list i d blank_reach (omega arith) in
      let ej = get_or_default list j d blank_reach lt in
      let n : i + (j - i) ≡ j = omega arith in
      let up = rises i (j - i) (omega arith) in
      rw ei (lt-ltb (reach_at list i).most need (omega (arith, rw n at up, ltb-true (reach_at list j).most need (rw ej at is))))

-- the place at which halving ends has the deadline of the need
module _ (es : List ℕ) (list : List Reach) (need place : ℕ) (r : IsReaching es (total es) list) (some : 0 < need) (fits : need ≤ 4294967295) (point : IsPartitionPoint (λ (x : Reach). ltb x.most need ≡ true) (λ (x : Reach). ltb x.most need ≡ false) list place) where
  served_before : (k : ℕ) → k ≤ place → k ≤ length list → reached_by list k < need
  served_before zero h l = some
  served_before (suc k) h l = ltb-true (reach_at list k).most need (point.0 k (record { due = 0; most = 0 }) (omega arith) (omega arith))

  pub deadline_halved : place < length list → IsDeadline Plain es need 0 (reach_at list place).due
  deadline_halved h =
      let due = (reach_at list place).due in
      let here : need ≤ (reach_at list place).most = ltb-false (reach_at list place).most need (point.1 place (record { due = 0; most = 0 }) (omega arith) h) in
      let reach = r.here place h in
      let past = r.past place h in
      let before = served_before place (omega arith) (omega arith) in
      plain_deadline es need due (λ from lt. omega (arith, total_drop_le es from (due - 1) (omega arith))) (λ from low high. omega (arith, total_drop_le es due from low)) (omega (arith, r.within place h))

  pub deadline_beyond : length list ≤ place → IsDeadline Plain es need 0 0
  deadline_beyond h =
      let before = served_before (length list) h (omega arith) in
      let end = r.end in
      plain_deadline es need 0 (λ from lt. absurd (omega arith)) (λ from low high. omega (arith, total_drop_le es 0 from (omega arith))) (omega arith)

-- lists without a place
pub list_none_more : (lists new : List (List Reach)) (list : List Reach) → new ≡ lists ++ list ∷ [] → list ≡ [] → ((k : ℕ) → k < length lists → list_at lists k ≡ []) → (k : ℕ) → k < length new → list_at new k ≡ []
list_none_more lists new list is none before k h =
    let long : length new ≡ length lists + 1 = ap length is ∙ length-append lists (list ∷ []) in
    ap (λ l. list_at l k) is ∙ elim (cases_lt k (length lists)) [
      | inl less ↦ get_or_append_left lists (list ∷ []) [] k less ∙ before k less
      | inr more ↦ let e : k ≡ length lists = omega arith in ap (list_at (lists ++ list ∷ [])) e ∙ get_or_at lists list [] [] (length lists) refl ∙ none
    ]

-- before all columns but the ones past the end
pub reaching_start : {s : System} {lists : List (List Reach)} (columns : ℕ) → columns ≡ length s.columns → length lists ≡ length s.targets → ((k : ℕ) → k < length lists → list_at lists k ≡ []) → AreReachingFrom s columns lists
reaching_start {s} {lists} columns is long none = record {
  long = long;
  each = λ row h.
      let e : total (drop columns (entries s row)) ≡ 0 = ap (λ k. total (drop k (entries s row))) (is ∙ sym (length-entries s row)) ∙ total_drop_end (entries s row) in
      rw (none row (omega arith), e) (reaching_none (entries s row));
}

reaching_caps : {s : System} {lists : List (List Reach)} (caps other : ℕ → ℕ) → ((row : ℕ) → row < length s.targets → caps row ≡ other row) → AreReaching s caps lists → AreReaching s other lists
reaching_caps caps other same r = record { long = r.long; each = λ row h. reaching_same (same row h) (r.each row h) }

pub column_begin : {s : System} {lists : List (List Reach)} (column : ℕ) → AreReachingFrom s (column + 1) lists → AreReaching s (part_of s column []) lists
column_begin {s} column r = reaching_caps (λ row. total (drop (column + 1) (entries s row))) (part_of s column []) (λ row h. omega arith) r

pub column_end : {s : System} {lists : List (List Reach)} (column : ℕ) (column_cells : List Cell) → column < length s.columns → column_cells ≡ cells s column → AreReaching s (part_of s column column_cells) lists → AreReachingFrom s column lists
column_end {s} column column_cells within is r = reaching_caps (part_of s column column_cells) (λ row. total (drop column (entries s row))) (λ row h.
    let step = total_drop_step (entries s row) column (omega (arith, length-entries s row)) in
    let entry : get_or (entries s row) column 0 ≡ entry_of column_cells row = entry_is s row column ∙ ap (λ l. entry_of l row) (sym is) in
    omega arith) r

-- a cell more
pub column_more : {s : System} {lists : List (List Reach)} (column : ℕ) (column_cells : List Cell) (k : ℕ) (new : List (List Reach)) (list : List Reach) → column < length s.columns → column_cells ≡ cells s column → AreCells (length s.targets) column_cells → k < length column_cells → list ≡ list_at lists (get_or column_cells k blank).row ++ record { due = column + 1; most = as_word (reached (list_at lists (get_or column_cells k blank).row) + (get_or column_cells k blank).value) } ∷ [] → new ≡ set lists (get_or column_cells k blank).row list → AreReaching s (part_of s column (take k column_cells)) lists → AreReaching s (part_of s column (take (k + 1) column_cells)) new
column_more {s} {lists} column column_cells k new list within is sorted more list_is new_is r =
    let cell = get_or column_cells k blank in
    let es = entries s cell.row in
    let row_within = sorted.in_range k blank more in
    let absent : entry_of (take k column_cells) cell.row ≡ 0 = absent_before column_cells k sorted.increasing more in
    let now : entry_of (take (k + 1) column_cells) cell.row ≡ cell.value = entry_here column_cells k sorted.increasing more in
    let entry : get_or es column 0 ≡ cell.value = entry_is s cell.row column ∙ ap (λ l. entry_of l cell.row) (sym is) ∙ entry_in_order column_cells cell.row k sorted.increasing more refl in
    let long : column < length es = omega (arith, length-entries s cell.row) in
    let step = total_drop_step es column long in
    let before : IsReaching es (total (drop (column + 1) es)) (list_at lists cell.row) = reaching_same (omega arith) (r.each cell.row row_within) in
    let after = reaching_more column cell.value (record { due = column + 1; most = as_word (reached (list_at lists cell.row) + cell.value) }) long entry refl before in
    rw new_is (record {
      long = length-set lists cell.row list ∙ r.long;
      each = λ row h. elim (cases_eq row cell.row) [
        | inl same ↦ rw (same, get_or-set_same lists cell.row list [] (omega (arith, r.long, row_within)), list_is) (reaching_same (omega arith) after)
        | inr other ↦ rw (get_or-set_other lists cell.row row list [] other) (reaching_same (let e = entry_elsewhere column_cells k row more other in omega arith) (r.each row h))
      ];
    })

-- the lists for needs from the width on
pub far_none : (s : System) (width most : ℕ) → most < width → IsGreatestNeed s most → AreFar s width []
far_none s width most less greatest row h = omega (arith, greatest row h)

pub far_all : (s : System) (width : ℕ) (lists : List (List Reach)) → AreReachingFrom s 0 lists → AreFar s width lists
far_all s width [] r = λ row h. absurd (omega (arith, r.long))
far_all s width (list ∷ lists) r = r

pub far_list : (s : System) (width : ℕ) (lists : List (List Reach)) (row : ℕ) → AreFar s width lists → row < length lists → row < length s.targets → IsReaching (entries s row) (total (entries s row)) (list_at lists row)
far_list s width [] row far h within = absurd (omega arith)
far_list s width (list ∷ lists) row far h within = far.each row within

-- a need that can't be met
pub deadline_missed : (es : List ℕ) (need : ℕ) → total es < need → IsDeadline Plain es need 0 0
deadline_missed es need h = plain_deadline es need 0 (λ from lt. absurd (omega arith)) (λ from low high. omega (arith, total_drop_le es 0 from (omega arith))) (omega arith)

pub far_missed : (s : System) (width : ℕ) (lists : List (List Reach)) (row need : ℕ) → AreFar s width lists → length lists ≤ row → row < length s.targets → width ≤ need → need ≤ target s row → IsDeadline Plain (entries s row) need 0 0
far_missed s width [] row need far h within wide low = deadline_missed (entries s row) need (omega (arith, far row within))
far_missed s width (list ∷ lists) row need far h within wide low = absurd (omega (arith, far.long))

-- the totals of the first cells, one cell more
pub totals_more : (rows : ℕ) (totals : List ℕ) (all : List Cell) (k value : ℕ) → k < length all → length totals ≡ rows → (get_or all k blank).row < rows → value ≡ as_word (get_or totals (get_or all k blank).row 0 + (get_or all k blank).value) → ((row : ℕ) → row < rows → get_or totals row 0 ≡ as_word (entry_of (take k all) row)) → (row : ℕ) → row < rows → get_or (set totals (get_or all k blank).row value) row 0 ≡ as_word (entry_of (take (k + 1) all) row)
totals_more rows totals all k value more long within is each row h =
    let cell = get_or all k blank in
    let e = entry_more all k row more in
    elim (cases_eq row cell.row) [
      | inl same ↦
          let here : share cell row ≡ cell.value = ap (share cell) same ∙ share_here cell in
          let was = each cell.row within in
          let at : entry_of (take k all) row ≡ entry_of (take k all) cell.row = ap (entry_of (take k all)) same in
          ap (λ r. get_or (set totals cell.row value) r 0) same ∙ get_or-set_same totals cell.row value 0 (omega arith) ∙ (let x : value ≡ min (entry_of (take (k + 1) all) row) 4294967295 = omega arith in x)
      | inr other ↦
          let none = share_elsewhere cell row other in
          get_or-set_other totals cell.row row value 0 other ∙ each row h ∙ ap as_word (let x : entry_of (take k all) row ≡ entry_of (take (k + 1) all) row = omega arith in x)
    ]

cap_none : (es : List ℕ) → cap es [] ≡ total es
cap_none [] = refl
cap_none (e ∷ es) = ap (λ n. e + n) (cap_none es)

pub totals_are : {s : System} {totals : List ℕ} (all : List Cell) (count : ℕ) → length totals ≡ length s.targets → length all ≤ count → ((row : ℕ) → entry_of all row ≡ cap (entries s row) []) → ((row : ℕ) → row < length s.targets → get_or totals row 0 ≡ as_word (entry_of (take count all) row)) → AreTotals s totals
totals_are {s} {totals} all count long done sums each = record {
  long = long;
  each = λ row h. each row h ∙ ap (λ l. as_word (entry_of l row)) (take_all count all done) ∙ ap as_word (sums row ∙ cap_none (entries s row));
}
