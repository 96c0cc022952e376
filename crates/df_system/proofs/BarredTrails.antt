-- The trail of barred rows: its levels, and the room that it needs.
use Rattle.std.proofs.Common.{◌≡◌, ℕ, zero, suc, ◌+◌, ◌-◌, ◌<◌, ◌≤◌, Bool, true, false, eqb, List, [], ◌∷◌, length, length-drop, get_or, set, take, drop, Option, Some, None, refl, sym, ap, ◌∙◌, arith, inl, inr}
use Rattle.std.specs.Prelude.{reverse, ◌||◌, ◌==◌}
use Rattle.std.specs.List.{list_any, AllByRecursion, IsDistinct}
use Rattle.std.proofs.lemmas.Bool.{eqb-true, or_cases}
use Rattle.std.proofs.lemmas.List.{take_more, take_more_set, reverse-append, length-reverse, length-take-le}
use Rattle.std.proofs.lemmas.Map.Steps.{length-le_from_distinct_below}
use Rattle.df_system.specs.BarredColumns.{bars_row, with_row}
use Rattle.df_system.specs.BarredWords.{levels_of, AreFresh, IsTrail}
use Rattle.df_system.proofs.BarredSets.{bars_more}

-- the rows of a trail
abbrev rows_in : List (Option ℕ) → List ℕ
rows_in [] = []
rows_in (None ∷ earlier) = rows_in earlier
rows_in (Some row ∷ earlier) = row ∷ rows_in earlier

pub length-with_row : (row : ℕ) (levels : List (List ℕ)) → length (with_row row levels) ≡ length levels
length-with_row row [] = refl
length-with_row row (rows ∷ levels) = refl

pub drop-with_row : (row : ℕ) (levels : List (List ℕ)) → drop 1 (with_row row levels) ≡ drop 1 levels
drop-with_row row [] = refl
drop-with_row row (rows ∷ levels) = refl

levels_some : (trail : List (Option ℕ)) → 0 < length (levels_of trail)
levels_some [] = omega arith
levels_some (None ∷ earlier) = omega arith
levels_some (Some row ∷ earlier) = omega (arith, levels_some earlier, length-with_row row (levels_of earlier))

-- each place has a row or begins a level
places_are : (trail : List (Option ℕ)) → length trail + 1 ≡ length (rows_in trail) + length (levels_of trail)
places_are [] = refl
places_are (None ∷ earlier) = omega (arith, places_are earlier)
places_are (Some row ∷ earlier) = omega (arith, places_are earlier, length-with_row row (levels_of earlier))

pub with_row_bars : (q row : ℕ) (levels : List (List ℕ)) → 0 < length levels → bars_row (with_row row levels) q ≡ ((q == row) || bars_row levels q)
with_row_bars q row [] some = absurd (omega arith)
with_row_bars q row (rows ∷ lower) some = bars_more q row rows lower

-- the levels have the rows of the trail
in_levels : (trail : List (Option ℕ)) (q : ℕ) → bars_row (levels_of trail) q ≡ list_any (eqb q) (rows_in trail)
in_levels [] q = refl
in_levels (None ∷ earlier) q = in_levels earlier q
in_levels (Some row ∷ earlier) q = with_row_bars q row (levels_of earlier) (levels_some earlier) ∙ ap (λ b. (q == row) || b) (in_levels earlier q)

all_other : (q : ℕ) (rows : List ℕ) → list_any (eqb q) rows ≡ false → AllByRecursion (λ r. eqb q r ≡ false) rows
all_other q [] h = tt
all_other q (row ∷ rows) h = go (eqb q row) refl h (all_other q rows)
  where
    go : (b : Bool) → eqb q row ≡ b → (b || list_any (eqb q) rows) ≡ false → (list_any (eqb q) rows ≡ false → AllByRecursion (λ r. eqb q r ≡ false) rows) → (eqb q row ≡ false) × AllByRecursion (λ r. eqb q r ≡ false) rows
    go true is h rest = absurd (let e = h in cc)
    go false is h rest = (is, rest h)

distinct : (n : ℕ) (trail : List (Option ℕ)) → AreFresh n trail → IsDistinct eqb (rows_in trail)
unfolding IsDistinct
distinct n [] h = tt
distinct n (None ∷ earlier) h = distinct n earlier h
distinct n (Some row ∷ earlier) h = (all_other row (rows_in earlier) (sym (in_levels earlier row) ∙ h.1), distinct n earlier h.2)

all_below : (n : ℕ) (trail : List (Option ℕ)) → AreFresh n trail → (q : ℕ) → list_any (eqb q) (rows_in trail) ≡ true → q < n
all_below n [] h q is = absurd (let e = is in cc)
all_below n (None ∷ earlier) h q is = all_below n earlier h q is
all_below n (Some row ∷ earlier) h q is = elim (or_cases (eqb q row) (list_any (eqb q) (rows_in earlier)) is) [
  | inl same ↦ omega (arith, eqb-true q row same, h.0)
  | inr before ↦ all_below n earlier h.2 q before
]

rows_few : (n : ℕ) (trail : List (Option ℕ)) → AreFresh n trail → length (rows_in trail) ≤ n
rows_few n trail h = length-le_from_distinct_below (rows_in trail) n (distinct n trail h) (all_below n trail h)

-- there is room for a row more
pub room_bar : {rows columns top : ℕ} (trail : List (Option ℕ)) (row : ℕ) → IsTrail rows columns top trail → row < rows → bars_row (levels_of trail) row ≡ false → length trail < rows + columns
room_bar {rows} {columns} {top} trail row h within new =
    let few = rows_few rows (Some row ∷ trail) (within, new, h.fresh) in
    omega (arith, few, places_are trail, h.depth, h.low)

-- and for a level more
pub room_push : {rows columns top : ℕ} (trail : List (Option ℕ)) → IsTrail rows columns top trail → top < columns → length trail < rows + columns
room_push {rows} {columns} {top} trail h less = omega (arith, rows_few rows trail h.fresh, places_are trail, h.depth)

pub trail_bar : {rows columns top : ℕ} (trail : List (Option ℕ)) (row : ℕ) → IsTrail rows columns top trail → row < rows → bars_row (levels_of trail) row ≡ false → IsTrail rows columns top (Some row ∷ trail)
trail_bar trail row h within new = record { depth = length-with_row row (levels_of trail) ∙ h.depth; low = h.low; fresh = (within, new, h.fresh) }

pub trail_push : {rows columns top : ℕ} (trail : List (Option ℕ)) → IsTrail rows columns top trail → top < columns → IsTrail rows columns (top + 1) (None ∷ trail)
trail_push trail h less = record { depth = omega (arith, h.depth); low = omega arith; fresh = h.fresh }

-- the trail with one place more
pub reverse_next : (xs : List (Option ℕ)) (k : ℕ) (x : Option ℕ) → k < length xs → reverse (take (k + 1) (set xs k x)) ≡ x ∷ reverse (take k xs)
reverse_next xs k x h = ap reverse (take_more_set xs k x h) ∙ reverse-append (take k xs) (x ∷ [])

-- and as it is read
pub reverse_at : (xs : List (Option ℕ)) (k : ℕ) (d : Option ℕ) → k < length xs → reverse (take (k + 1) xs) ≡ get_or xs k d ∷ reverse (take k xs)
reverse_at xs k d h = ap reverse (take_more xs k d h) ∙ reverse-append (take k xs) (get_or xs k d ∷ [])

pub length-reversed : (xs : List (Option ℕ)) (k : ℕ) → k ≤ length xs → length (reverse (take k xs)) ≡ k
length-reversed xs k h = length-reverse (take k xs) ∙ length-take-le k xs h

fresh_tail : (rows : ℕ) (o : Option ℕ) (trail : List (Option ℕ)) → AreFresh rows (o ∷ trail) → AreFresh rows trail
fresh_tail rows None trail h = h
fresh_tail rows (Some row) trail h = h.2

fresh_by : (rows : ℕ) (xs : List (Option ℕ)) (k d : ℕ) → k + d ≤ length xs → AreFresh rows (reverse (take (k + d) xs)) → AreFresh rows (reverse (take k xs))
fresh_by rows xs k zero l h = let e : k + zero ≡ k = omega arith in rw e at h
fresh_by rows xs k (suc d) l h =
    let e : k + suc d ≡ (k + d) + 1 = omega arith in
    let at : AreFresh rows (reverse (take ((k + d) + 1) xs)) = rw e at h in
    let next : AreFresh rows (get_or xs (k + d) None ∷ reverse (take (k + d) xs)) = rw (reverse_at xs (k + d) None (omega arith)) at at in
    fresh_by rows xs k d (omega arith) (fresh_tail rows (get_or xs (k + d) None) (reverse (take (k + d) xs)) next)

-- the trail of the levels below the last
pub trail_pop : {rows columns top : ℕ} (xs : List (Option ℕ)) (k m : ℕ) → IsTrail rows columns top (reverse (take m xs)) → k ≤ m → m ≤ length xs → 1 < length (levels_of (reverse (take m xs))) → levels_of (reverse (take k xs)) ≡ drop 1 (levels_of (reverse (take m xs))) → IsTrail rows columns (top - 1) (reverse (take k xs))
trail_pop {rows} {columns} {top} xs k m h low within some is =
    let e : k + (m - k) ≡ m = omega arith in
    record {
      depth = omega (arith, ap length is, length-drop 1 (levels_of (reverse (take m xs))), h.depth, some);
      low = omega (arith, h.low);
      fresh = fresh_by rows xs k (m - k) (omega arith) (rw e h.fresh);
    }
