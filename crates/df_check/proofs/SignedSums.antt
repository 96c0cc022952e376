-- Products and sums of signed numbers that fit 64 bits.
use Rattle.std.proofs.Common.{◌≡◌, ℕ, ◌+◌, ◌*◌, ◌<◌, ◌≤◌, Bool, true, false, List, length, Option, Some, None, is_some, slice_get, refl, sym, ap, ◌∙◌, arith, w64, to_z, of_z}
use Rattle.std.specs.Prelude.{ℤ, pos, negsuc, ◌+ℤ◌, ◌*ℤ◌, unsigned_abs}
use Rattle.std.specs.Int.{int_min, int_max}
use Rattle.std.proofs.Math.Nat.{mul-le-mul}
use Rattle.std.proofs.lemmas.Int.{to_z-of_z, unsigned_abs-mul}
use Rattle.std.proofs.lemmas.Bool.{true≢false}
use Rattle.df_walk.specs.declared.CutRow.{CutRow}
use Rattle.df_walk.specs.Systems.{System, cells}
use Rattle.df_walk.specs.Assignments.{Decisions}
use Rattle.df_walk.specs.Cuts.{weight_of, negatives, positives}
use Rattle.df_walk.proofs.SignedNumbers.{abs_add}
use Rattle.df_check.proofs.CutSums.{add_turns, fits, open_from, open_same, least_more, greatest_more}

-- a number that fits is kept
pub back : (z : ℤ) → unsigned_abs z ≤ 1000000000000000000 → to_z w64 (of_z w64 z) ≡ z
back z h = to_z-of_z w64 z (fits z h)

product_small : (w v : ℤ) → unsigned_abs w ≤ 32768 → unsigned_abs (w *ℤ v) ≤ 32768 * unsigned_abs v
product_small w v h = rw (unsigned_abs-mul w v) (mul-le-mul h (omega arith))

pub product_is : (w v : ℤ) → unsigned_abs w ≤ 32768 → unsigned_abs v ≤ 524296000000 → to_z w64 (of_z w64 (to_z w64 (of_z w64 w) *ℤ to_z w64 (of_z w64 v))) ≡ w *ℤ v
product_is w v h k =
    let a = back w (omega arith) in
    let b = back v (omega arith) in
    rw (a, b) (back (w *ℤ v) (omega (arith, product_small w v h)))

pub product_within : (w v : ℤ) → unsigned_abs w ≤ 32768 → unsigned_abs v ≤ 524296000000 → unsigned_abs (to_z w64 (of_z w64 (to_z w64 (of_z w64 w) *ℤ to_z w64 (of_z w64 v)))) ≤ 32768 * unsigned_abs v
product_within w v h k = let e = product_is w v h k in rw e (product_small w v h)

-- a sum
pub sum_is : (s p : ℤ) → unsigned_abs s ≤ 400000000000000000 → unsigned_abs p ≤ 400000000000000000 → to_z w64 (of_z w64 (s +ℤ to_z w64 (of_z w64 p))) ≡ s +ℤ p
sum_is s p h k =
    let e = back p (omega arith) in
    rw e (back (s +ℤ p) (omega (arith, abs_add s p)))

pub sum_within : (s p : ℤ) (n b k all : ℕ) → n ≡ k + 1 → unsigned_abs s + n * b ≤ all → unsigned_abs p ≤ b → unsigned_abs (s +ℤ p) + k * b ≤ all
sum_within s p n b k all is h small = omega (arith, abs_add s p, more)
  where
    more : n * b ≡ b + k * b
    more = ap (λ m. m * b) is ∙ omega arith

pub back_within : (z y : ℤ) → z ≡ y → unsigned_abs y ≤ 524296000000 → unsigned_abs (to_z w64 (of_z w64 z)) ≤ 524296000000
back_within z y is h = let e = back y (omega arith) in rw (is, e) h

-- one row more, in 64 bits
pub row_step : (s p w v a b goal rest : ℤ) (k n most bound all : ℕ) → n ≡ k + 1 → unsigned_abs s + n * bound ≤ all → all ≤ 300000000000000000 → 32768 * most ≤ bound → bound ≤ 17180131328000000 → most ≤ 524296000000 → w ≡ a → v ≡ b → p ≡ to_z w64 (of_z w64 w) *ℤ to_z w64 (of_z w64 v) → unsigned_abs w ≤ 32768 → unsigned_abs v ≤ most → unsigned_abs p ≤ 32768 * unsigned_abs (to_z w64 (of_z w64 v)) → s ≡ rest → goal ≡ (a *ℤ b) +ℤ rest → (to_z w64 (of_z w64 (s +ℤ to_z w64 (of_z w64 p))) ≡ goal) × (unsigned_abs (to_z w64 (of_z w64 (s +ℤ to_z w64 (of_z w64 p)))) + k * bound ≤ all)
row_step s p w v a b goal rest k n most bound all next sum_small few large low most_low w_is v_is p_is w_small v_small p_small so_far goal_is =
    let ew = back w (omega arith) in
    let ev = back v (omega arith) in
    let p_low = rw ev at p_small in
    let p_bound : unsigned_abs p ≤ bound = omega (arith, p_low) in
    let same : p ≡ a *ℤ b = p_is ∙ ap (λ x. x *ℤ to_z w64 (of_z w64 v)) (ew ∙ w_is) ∙ ap (λ y. a *ℤ y) (ev ∙ v_is) in
    let added = sum_is s p (omega arith) (omega arith) in
    (added ∙ ap (λ x. x +ℤ p) so_far ∙ ap (λ y. rest +ℤ y) same ∙ add_turns rest (a *ℤ b) ∙ sym goal_is, rw added (sum_within s p n bound k all next sum_small p_bound))

-- one undecided column more, in 64 bits
none_of : (o : Option Bool) → is_some o ≡ false → o ≡ None
none_of None h = refl
none_of (Some b) h = absurd (true≢false h)

some_of : (o : Option Bool) → is_some o ≡ true → (b : Bool) × (o ≡ Some b)
some_of None h = absurd (true≢false (sym h))
some_of (Some b) h = (b, refl)

pub least_column : (s : System) (ds : Decisions) (ws : List CutRow) (k n : ℕ) (sum w m : ℤ) (d : Option Bool) → n ≡ k + 1 → n ≤ length s.columns → length s.columns ≤ 65536 → slice_get ds k ≡ Some d → is_some d ≡ false → sum ≡ negatives (open_from s ds ws n) → w ≡ weight_of ws (cells s k) → unsigned_abs w ≤ 4194304000000 → m ≡ int_min (to_z w64 (of_z w64 w)) (pos 0) → unsigned_abs m ≤ unsigned_abs (to_z w64 (of_z w64 w)) → unsigned_abs sum + n * 4194304000000 ≤ length s.columns * 4194304000000 → (to_z w64 (of_z w64 (sum +ℤ to_z w64 (of_z w64 m))) ≡ negatives (open_from s ds ws k)) × (unsigned_abs (to_z w64 (of_z w64 (sum +ℤ to_z w64 (of_z w64 m)))) + k * 4194304000000 ≤ length s.columns * 4194304000000)
least_column s ds ws k n sum w m d next within few at none so_far is small less less_small sum_small =
    let e = back w (omega arith) in
    let low = rw e at less_small in
    let short : unsigned_abs m ≤ 4194304000000 = omega (arith, low) in
    let added = sum_is sum m (omega arith) (omega arith) in
    (added ∙ least_more s ds ws k sum w m (omega arith) (at ∙ ap Some (none_of d none)) (so_far ∙ ap (λ j. negatives (open_from s ds ws j)) next) is (less ∙ ap (λ z. int_min z (pos 0)) e), rw added (sum_within sum m n 4194304000000 k (length s.columns * 4194304000000) next sum_small short))

pub greatest_column : (s : System) (ds : Decisions) (ws : List CutRow) (k n : ℕ) (sum w m : ℤ) (d : Option Bool) → n ≡ k + 1 → n ≤ length s.columns → length s.columns ≤ 65536 → slice_get ds k ≡ Some d → is_some d ≡ false → sum ≡ positives (open_from s ds ws n) → w ≡ weight_of ws (cells s k) → unsigned_abs w ≤ 4194304000000 → m ≡ int_max (to_z w64 (of_z w64 w)) (pos 0) → unsigned_abs m ≤ unsigned_abs (to_z w64 (of_z w64 w)) → unsigned_abs sum + n * 4194304000000 ≤ length s.columns * 4194304000000 → (to_z w64 (of_z w64 (sum +ℤ to_z w64 (of_z w64 m))) ≡ positives (open_from s ds ws k)) × (unsigned_abs (to_z w64 (of_z w64 (sum +ℤ to_z w64 (of_z w64 m)))) + k * 4194304000000 ≤ length s.columns * 4194304000000)
greatest_column s ds ws k n sum w m d next within few at none so_far is small more less_small sum_small =
    let e = back w (omega arith) in
    let low = rw e at less_small in
    let short : unsigned_abs m ≤ 4194304000000 = omega (arith, low) in
    let added = sum_is sum m (omega arith) (omega arith) in
    (added ∙ greatest_more s ds ws k sum w m (omega arith) (at ∙ ap Some (none_of d none)) (so_far ∙ ap (λ j. positives (open_from s ds ws j)) next) is (more ∙ ap (λ z. int_max z (pos 0)) e), rw added (sum_within sum m n 4194304000000 k (length s.columns * 4194304000000) next sum_small short))

pub same_column : (s : System) (ds : Decisions) (ws : List CutRow) (k n : ℕ) (d : Option Bool) → n ≡ k + 1 → n ≤ length s.columns → slice_get ds k ≡ Some d → is_some d ≡ true → open_from s ds ws n ≡ open_from s ds ws k
same_column s ds ws k n d next within at some =
    let b = some_of d some in
    ap (open_from s ds ws) next ∙ sym (open_same s ds ws k b.0 (omega arith) (at ∙ ap Some b.1))
