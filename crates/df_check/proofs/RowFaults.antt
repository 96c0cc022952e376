-- The fault of an entry, by what the code finds of its row.
use Rattle.std.proofs.Common.{◌≡◌, ℕ, suc, zero, ◌+◌, ◌-◌, ◌<◌, ◌≤◌, Bool, true, false, cond, length, Option, Some, None, slice_get, refl, sym, ap, ◌∙◌, arith, eq-eqb, T, subst, w64, to_z, of_z, is_some, unsigned_abs, ◌+ℤ◌}
use Rattle.std.specs.Prelude.{ℤ, pos, negsuc, ◌-ℤ◌, ◌<ℤ◌, ◌≤ℤ◌, not, ◌&&◌, ◌%◌, ◌==◌, nat_lt, List, int_lt, ◌||◌}
use Rattle.std.specs.List.{list_all}
use Rattle.std.proofs.lemmas.Bool.{ltb-true, lt-ltb, le-ltb, ne_eqb, true≢false}
use Rattle.std.proofs.lemmas.Int.{ints, by_lt_z}
use Rattle.std.proofs.Math.Bool.{or-true}
use Rattle.df_walk.specs.declared.CutRow.{CutRow}
use Rattle.df_walk.specs.declared.Entry.TheVariants.{Over, Under, Settled, Residue, Cut}
use Rattle.df_walk.specs.Systems.{System, entries, target}
use Rattle.df_walk.specs.Assignments.{Decisions, taken, cap, need, is_met, is_multiple, is_over, is_under, is_settled, leaves_rest, open_values}
use Rattle.df_walk.specs.Cuts.{is_cut, weighted_need, least_weight, greatest_weight}
use Rattle.df_walk.specs.Logs.{is_residue}
use Rattle.df_walk.proofs.RowTests.{least_row_is, least_row_none}
use Rattle.df_walk.proofs.SignedNumbers.{below_from_test}
use Rattle.df_check.specs.declared.LogFault.{LogFault}
use Rattle.df_check.specs.declared.LogFault.TheVariants.{RowRange, NotOver, NotUnder, NotSettled, NotResidue, NotCut}
use Rattle.df_check.specs.Entries.{unless, row_fault, least_unmet, first_spoiling, column_or_none, are_rows, cut_fault, entry_fault}
use Rattle.df_check.proofs.ColumnTests.{spoiled, unspoiled}
use Rattle.df_check.proofs.SignedSums.{back}

-- no such row
pub no_row : (s : System) (row : ℕ) (holds : Bool) (fault : LogFault) → length s.targets ≤ row → row_fault s row holds fault ≡ Some RowRange
no_row s row holds fault after = let e : nat_lt row (length s.targets) ≡ false = le-ltb row (length s.targets) after in rw e

holds_in : (s : System) (row : ℕ) (holds : Bool) (fault : LogFault) → row < length s.targets → holds ≡ true → row_fault s row holds fault ≡ None
holds_in s row holds fault within h = let e = lt-ltb row (length s.targets) within in rw (e, h)

fails_in : (s : System) (row : ℕ) (holds : Bool) (fault : LogFault) → row < length s.targets → holds ≡ false → row_fault s row holds fault ≡ Some fault
fails_in s row holds fault within h = let e = lt-ltb row (length s.targets) within in rw (e, h)

-- the signs of needs
less_zero : (t k : ℕ) → (pos t -ℤ pos k) <ℤ pos 0 → t < k
less_zero t k h = omega (arith, ints)

not_less_zero : (t k : ℕ) → pos 0 ≤ℤ (pos t -ℤ pos k) → k ≤ t
not_less_zero t k h = omega (arith, ints)

above_cap : (t k c : ℕ) → pos c <ℤ (pos t -ℤ pos k) → k + c < t
above_cap t k c h = omega (arith, ints)

not_above_cap : (t k c : ℕ) → (pos t -ℤ pos k) ≤ℤ pos c → t ≤ k + c
not_above_cap t k c h = omega (arith, ints)

pub over_holds : (s : System) (ds : Decisions) (row : ℕ) → row < length s.targets → need s ds row <ℤ pos 0 → entry_fault s ds (Over row) ≡ None
over_holds s ds row within h = holds_in s row (is_over s ds row) (NotOver (need s ds row)) within (lt-ltb (target s row) (taken (entries s row) ds) (less_zero (target s row) (taken (entries s row) ds) h))

pub over_fails : (s : System) (ds : Decisions) (row : ℕ) → row < length s.targets → pos 0 ≤ℤ need s ds row → entry_fault s ds (Over row) ≡ Some (NotOver (need s ds row))
over_fails s ds row within h = fails_in s row (is_over s ds row) (NotOver (need s ds row)) within (le-ltb (target s row) (taken (entries s row) ds) (not_less_zero (target s row) (taken (entries s row) ds) h))

pub under_holds : (s : System) (ds : Decisions) (row : ℕ) → row < length s.targets → pos (cap (entries s row) ds) <ℤ need s ds row → entry_fault s ds (Under row) ≡ None
under_holds s ds row within h = holds_in s row (is_under s ds row) (NotUnder (need s ds row) (pos (cap (entries s row) ds))) within (lt-ltb (taken (entries s row) ds + cap (entries s row) ds) (target s row) (above_cap (target s row) (taken (entries s row) ds) (cap (entries s row) ds) h))

pub under_fails : (s : System) (ds : Decisions) (row : ℕ) → row < length s.targets → need s ds row ≤ℤ pos (cap (entries s row) ds) → entry_fault s ds (Under row) ≡ Some (NotUnder (need s ds row) (pos (cap (entries s row) ds)))
under_fails s ds row within h = fails_in s row (is_under s ds row) (NotUnder (need s ds row) (pos (cap (entries s row) ds))) within (le-ltb (taken (entries s row) ds + cap (entries s row) ds) (target s row) (not_above_cap (target s row) (taken (entries s row) ds) (cap (entries s row) ds) h))

-- a row that is met
zero_need : (t k : ℕ) → pos t -ℤ pos k ≡ pos 0 → t ≡ k
zero_need t k h = omega (arith, ints)

no_need : (t k : ℕ) → t ≡ k → pos t -ℤ pos k ≡ pos 0
no_need t k h = omega (arith, ints)

pub met_is : (s : System) (ds : Decisions) (row : ℕ) → need s ds row ≡ pos 0 → not (is_met s ds row) ≡ false
met_is s ds row h = ap not (eq-eqb (target s row) (taken (entries s row) ds) (zero_need (target s row) (taken (entries s row) ds) h))

pub unmet_is : (s : System) (ds : Decisions) (row : ℕ) → (need s ds row ≡ pos 0 → ⊥) → not (is_met s ds row) ≡ true
unmet_is s ds row h = ap not (ne_eqb (target s row) (taken (entries s row) ds) (λ e. h (no_need (target s row) (taken (entries s row) ds) e)))

pub least_is : (s : System) (ds : Decisions) (row : ℕ) → row < length s.targets → (need s ds row ≡ pos 0 → ⊥) → ((k : ℕ) → k < row → not (is_met s ds k) ≡ false) → least_unmet s ds ≡ Some row
least_is s ds row within h before = least_row_is s (λ r. not (is_met s ds r)) row within (unmet_is s ds row h) before

pub least_none : (s : System) (ds : Decisions) (n : ℕ) → length s.targets ≤ n → ((k : ℕ) → k < n → not (is_met s ds k) ≡ false) → least_unmet s ds ≡ None
least_none s ds n end before = least_row_none s (λ r. not (is_met s ds r)) n end before

-- a residue
false_of : (a b c : Bool) → b ≡ false → (a && b && c) ≡ false
false_of true b c h = rw h
false_of false b c h = refl

last_false : (a b : Bool) → (a && b && false) ≡ false
last_false true true = refl
last_false true false = refl
last_false false b = refl

pub not_by_column : (s : System) (ds : Decisions) (row m : ℕ) (o : Option ℕ) → o ≡ first_spoiling s ds m row → is_some o ≡ true → is_residue s ds m row ≡ false
not_by_column s ds row m None e h = absurd (true≢false (sym h))
not_by_column s ds row m (Some column) e h = false_of (nat_lt 1 m) (list_all (is_multiple m) (open_values (entries s row) ds)) (leaves_rest s ds m row) (spoiled s ds m row column (sym e))

pub not_by_size : (s : System) (ds : Decisions) (row m : ℕ) → m < 2 → is_residue s ds m row ≡ false
not_by_size s ds row m small = let low : nat_lt 1 m ≡ false = le-ltb 1 m (omega arith) in rw low

pub not_by_rest : (s : System) (ds : Decisions) (row m : ℕ) → leaves_rest s ds m row ≡ false → is_residue s ds m row ≡ false
not_by_rest s ds row m h = rw h (last_false (nat_lt 1 m) (list_all (is_multiple m) (open_values (entries s row) ds)))

pub residue_told : (s : System) (ds : Decisions) (row m : ℕ) (o : Option ℕ) (fault : LogFault) → row < length s.targets → o ≡ first_spoiling s ds m row → fault ≡ NotResidue (need s ds row) (column_or_none o) → is_residue s ds m row ≡ false → Some fault ≡ entry_fault s ds (Residue row m)
residue_told s ds row m o fault within e is h =
    ap Some is ∙ ap (λ o. Some (NotResidue (need s ds row) (column_or_none o))) e ∙ sym (fails_in s row (is_residue s ds m row) (NotResidue (need s ds row) (column_or_none (first_spoiling s ds m row))) within h)

no_column : (o : Option ℕ) → is_some o ≡ false → o ≡ None
no_column None h = refl
no_column (Some column) h = absurd (true≢false h)

pub residue_holds : (s : System) (ds : Decisions) (row m : ℕ) (o : Option ℕ) → row < length s.targets → o ≡ first_spoiling s ds m row → is_some o ≡ false → 2 ≤ m → leaves_rest s ds m row ≡ true → None ≡ entry_fault s ds (Residue row m)
residue_holds s ds row m o within e none large rest =
    let all = unspoiled s ds m row (sym e ∙ no_column o none) in
    let low = lt-ltb 1 m (omega arith) in
    sym (holds_in s row (is_residue s ds m row) (NotResidue (need s ds row) (column_or_none (first_spoiling s ds m row))) within (rw (low, all) rest))

-- what is taken is the target less the need
pub taken_is : (r t goal k : ℕ) (z : ℤ) → pos r ≡ pos t -ℤ to_z w64 (of_z w64 z) → unsigned_abs z ≤ 524296000000 → z ≡ pos goal -ℤ pos k → t ≡ goal → r ≡ k
taken_is r t goal k z h small is same = let e = back z (omega arith) in let d = rw e at h in omega (arith, ints)

near : (t : ℕ) (z : ℤ) → t < 4294967296 → unsigned_abs z ≤ 524296000000 → pos t ≤ℤ (z +ℤ pos 1152921504606846976)
near t (pos n) low small = omega (arith, ints)
near t (negsuc n) low small = omega (arith, ints)

pub not_far : (t : ℕ) (z : ℤ) → t < 4294967296 → unsigned_abs z ≤ 524296000000 → pos t ≤ℤ (to_z w64 (of_z w64 z) +ℤ pos 1152921504606846976)
not_far t z low small = let e = back z (omega arith) in rw e (near t z low small)

-- a test of two sums
below : (a b : ℤ) → a <ℤ b → int_lt a b ≡ true
below a b h = go (int_lt a b) h.lt
  where
    go : (t : Bool) → T t → t ≡ true
    go true h = refl
    go false h = absurd h

not_below : (a b : ℤ) → b ≤ℤ a → int_lt a b ≡ false
not_below a b h = go (int_lt a b) refl
  where
    go : (t : Bool) → int_lt a b ≡ t → t ≡ false
    go true is = let k : a <ℤ b = below_from_test a b is in absurd (omega (arith, ints))
    go false is = refl

-- a cut
pub cut_row : (s : System) (ds : Decisions) (ws : List CutRow) → are_rows s ws ≡ false → cut_fault s ds ws ≡ Some RowRange
cut_row s ds ws h = rw h

pub cut_below : (s : System) (ds : Decisions) (ws : List CutRow) → are_rows s ws ≡ true → weighted_need s ds ws <ℤ least_weight s ds ws → cut_fault s ds ws ≡ None
cut_below s ds ws there h = let e : int_lt (weighted_need s ds ws) (least_weight s ds ws) ≡ true = below (weighted_need s ds ws) (least_weight s ds ws) h in rw (there, e)

pub cut_above : (s : System) (ds : Decisions) (ws : List CutRow) → are_rows s ws ≡ true → greatest_weight s ds ws <ℤ weighted_need s ds ws → cut_fault s ds ws ≡ None
cut_above s ds ws there h =
    let e : int_lt (greatest_weight s ds ws) (weighted_need s ds ws) ≡ true = below (greatest_weight s ds ws) (weighted_need s ds ws) h in
    let either : is_cut s ds ws ≡ true = rw e (or-true (int_lt (weighted_need s ds ws) (least_weight s ds ws))) in
    rw (there, either)

pub cut_between : (s : System) (ds : Decisions) (ws : List CutRow) → are_rows s ws ≡ true → least_weight s ds ws ≤ℤ weighted_need s ds ws → weighted_need s ds ws ≤ℤ greatest_weight s ds ws → cut_fault s ds ws ≡ Some (NotCut (least_weight s ds ws) (greatest_weight s ds ws))
cut_between s ds ws there low high =
    let a : int_lt (weighted_need s ds ws) (least_weight s ds ws) ≡ false = not_below (weighted_need s ds ws) (least_weight s ds ws) low in
    let b : int_lt (greatest_weight s ds ws) (weighted_need s ds ws) ≡ false = not_below (greatest_weight s ds ws) (weighted_need s ds ws) high in
    rw (there, a, b)
