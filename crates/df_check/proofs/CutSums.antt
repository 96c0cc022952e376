-- The sums of a cut, from the last row and the last column on.
use Rattle.std.proofs.Common.{◌≡◌, ℕ, suc, zero, ◌+◌, ◌-◌, ◌*◌, ◌<◌, ◌≤◌, Bool, true, false, cond, List, [], ◌∷◌, length, get_or, drop, drop-cons, map, Option, Some, None, slice_get, refl, sym, ap, ◌∙◌, arith, add-one, w64}
use Rattle.std.specs.Prelude.{ℤ, pos, negsuc, ◌+ℤ◌, ◌-ℤ◌, ◌*ℤ◌, neg_ℤ, int_lt, nat_lt, unsigned_abs, FitsSigned, slice_index_or}
use Rattle.std.specs.Int.{int_min, int_max}
use Rattle.std.specs.List.{list_all}
use Rattle.std.proofs.lemmas.Bool.{ltb-true, and_parts}
use Rattle.std.proofs.lemmas.List.{drop_all, length-map}
use Rattle.std.proofs.lemmas.Int.{ints, unsigned_abs-mul, fits_signed_from_abs}
use Rattle.df_walk.specs.declared.Cell.{Cell}
use Rattle.df_walk.specs.declared.CutRow.{CutRow}
use Rattle.df_walk.specs.Systems.{System, entry_of, entries, entry, target, cells}
use Rattle.df_walk.specs.Assignments.{Decisions, open_values, taken, cap, need}
use Rattle.df_walk.specs.Cuts.{weighted_need, weight_of, negatives, positives, open_weights, least_weight, greatest_weight}
use Rattle.df_walk.proofs.EntryLaws.{entry_is}
use Rattle.df_walk.proofs.DecisionLaws.{sums_bounded}
use Rattle.df_walk.proofs.SignedNumbers.{abs_add, abs_less}
use Rattle.df_runs.specs.WeightedSums.{IsBounded}
use Rattle.df_check.specs.Entries.{are_rows}
use Rattle.df_check.proofs.LeafLists.{here}

pub add_turns : (a b : ℤ) → a +ℤ b ≡ b +ℤ a
add_turns a b = omega (arith, ints)

-- the row at a place in front of the later ones
front : (ws : List CutRow) (k : ℕ) (d : CutRow) → k < length ws → drop k ws ≡ get_or ws k d ∷ drop (k + 1) ws
front ws k d within = drop-cons ws k d within ∙ ap (λ n. get_or ws k d ∷ drop n ws) (sym (add-one k))

pub need_front : (s : System) (ds : Decisions) (ws : List CutRow) (k : ℕ) (d : CutRow) → k < length ws → weighted_need s ds (drop k ws) ≡ ((get_or ws k d).weight *ℤ need s ds (get_or ws k d).row) +ℤ weighted_need s ds (drop (k + 1) ws)
need_front s ds ws k d within = ap (weighted_need s ds) (front ws k d within)

pub weight_front : (column : List Cell) (ws : List CutRow) (k : ℕ) (d : CutRow) → k < length ws → weight_of (drop k ws) column ≡ ((get_or ws k d).weight *ℤ pos (entry_of column (get_or ws k d).row)) +ℤ weight_of (drop (k + 1) ws) column
weight_front column ws k d within = ap (λ l. weight_of l column) (front ws k d within)

-- each row of a cut is there
pub row_there : (n : ℕ) (ws : List CutRow) (k : ℕ) (d : CutRow) → list_all (λ w. nat_lt w.row n) ws ≡ true → k < length ws → (get_or ws k d).row < n
row_there n [] k d h within = absurd (omega arith)
row_there n (w ∷ ws) zero d h within = ltb-true w.row n (and_parts (nat_lt w.row n) (list_all (λ w. nat_lt w.row n) ws) h).0
row_there n (w ∷ ws) (suc k) d h within = row_there n ws k d (and_parts (nat_lt w.row n) (list_all (λ w. nat_lt w.row n) ws) h).1 (omega arith)

-- the bound on a need
pub need_small : (s : System) (ds : Decisions) (row : ℕ) → IsBounded s 65536 8000000 8000000 → row < length s.targets → unsigned_abs (need s ds row) ≤ 524296000000
need_small s ds row b within =
    let sums = sums_bounded s ds row 8000000 (b.entries_low row) in
    omega (arith, abs_less (target s row) (taken (entries s row) ds), b.targets_low row within, b.columns_few)

-- the undecided columns from a column on
weight_at : (ws : List CutRow) (columns : List (List Cell)) (k : ℕ) → k < length columns → (d : ℤ) → get_or (map (weight_of ws) columns) k d ≡ weight_of ws (slice_index_or columns k [])
weight_at ws [] k h d = absurd (omega arith)
weight_at ws (c ∷ columns) zero h d = refl
weight_at ws (c ∷ columns) (suc k) h d = weight_at ws columns k (omega arith) d

abbrev pub open_from : System → Decisions → List CutRow → ℕ → List ℤ
open_from s ds ws column = open_values (drop column (map (weight_of ws) s.columns)) (drop column ds)

weights_from : (s : System) (ws : List CutRow) (k : ℕ) → k < length s.columns → drop k (map (weight_of ws) s.columns) ≡ weight_of ws (cells s k) ∷ drop (k + 1) (map (weight_of ws) s.columns)
weights_from s ws k within =
    let zs = map (weight_of ws) s.columns in
    drop-cons zs k (pos 0) (omega (arith, length-map s.columns (weight_of ws))) ∙ ap (λ x. x ∷ drop (suc k) zs) (weight_at ws s.columns k within (pos 0)) ∙ ap (λ n. weight_of ws (cells s k) ∷ drop n zs) (sym (add-one k))

pub open_more : (s : System) (ds : Decisions) (ws : List CutRow) (k : ℕ) → k < length s.columns → slice_get ds k ≡ Some None → open_from s ds ws k ≡ weight_of ws (cells s k) ∷ open_from s ds ws (k + 1)
open_more s ds ws k within at = rw (weights_from s ws k within, here ds k None at)

pub open_same : (s : System) (ds : Decisions) (ws : List CutRow) (k : ℕ) (b : Bool) → k < length s.columns → slice_get ds k ≡ Some (Some b) → open_from s ds ws k ≡ open_from s ds ws (k + 1)
open_same s ds ws k b within at = rw (weights_from s ws k within, here ds k (Some b) at)

pub open_none : (s : System) (ds : Decisions) (ws : List CutRow) (k : ℕ) → length s.columns ≤ k → open_from s ds ws k ≡ []
open_none s ds ws k h = ap (λ zs. open_values zs (drop k ds)) (drop_all k (map (weight_of ws) s.columns) (omega (arith, length-map s.columns (weight_of ws))))

-- one undecided column more
pub least_more : (s : System) (ds : Decisions) (ws : List CutRow) (k : ℕ) (sum z m : ℤ) → k < length s.columns → slice_get ds k ≡ Some None → sum ≡ negatives (open_from s ds ws (k + 1)) → z ≡ weight_of ws (cells s k) → m ≡ int_min z (pos 0) → sum +ℤ m ≡ negatives (open_from s ds ws k)
least_more s ds ws k sum z m within at so_far is less = rw (open_more s ds ws k within at, so_far, less, is) (add_turns (negatives (open_from s ds ws (k + 1))) (int_min (weight_of ws (cells s k)) (pos 0)))

pub greatest_more : (s : System) (ds : Decisions) (ws : List CutRow) (k : ℕ) (sum z m : ℤ) → k < length s.columns → slice_get ds k ≡ Some None → sum ≡ positives (open_from s ds ws (k + 1)) → z ≡ weight_of ws (cells s k) → m ≡ int_max z (pos 0) → sum +ℤ m ≡ positives (open_from s ds ws k)
greatest_more s ds ws k sum z m within at so_far is more = rw (open_more s ds ws k within at, so_far, more, is) (add_turns (positives (open_from s ds ws (k + 1))) (int_max (weight_of ws (cells s k)) (pos 0)))

-- a sum that fits 64 bits
pub fits : (z : ℤ) → unsigned_abs z ≤ 1000000000000000000 → FitsSigned w64 z
fits z h = fits_signed_from_abs w64 z (omega arith)
