-- What decisions do to the tallies of a partial assignment.
use Rattle.std.proofs.Common.{◌≡◌, ℕ, ◌+◌, ◌-◌, ◌^◌, ◌<◌, Bool, true, false, List, [], length, set, Some, None, refl, sym, ap, ◌∙◌, arith}
use Rattle.std.specs.Prelude.{slice_get}
use Rattle.std.proofs.lemmas.Bool.{not-false, not-true}
use Rattle.df_lists.proofs.ListPlaces.{slice_get-set}
use Rattle.df_walk.specs.Systems.{System, entries, entry_of, cells}
use Rattle.df_walk.specs.Assignments.{Decisions, taken, cap, is_met, is_settled, least_row}
use Rattle.df_walk.proofs.EntryLaws.{entry_is}
use Rattle.df_walk.proofs.RowTests.{least_row_is, least_row_none, rows_pass, row_fails}
use Rattle.df_walk.proofs.DecisionLaws.{cap-set, taken-set_no, taken-set_yes, taken_cap_le}
use Rattle.df_system.specs.declared.tallies.Tally.{Tally}
use Rattle.df_system.specs.Tallies.{tally_at, tally_of, changed, change_of, change_back, CanChange, ChangesAlong, AreTallied, IsFirst, is_unmet_tally}
use Rattle.df_system.proofs.DecisionTrails.{set_back}

module _ (s : System) (ds : Decisions) (column row : ℕ) (free : slice_get ds column ≡ Some None) where
  yes_takes : taken (entries s row) (set ds column (Some true)) ≡ taken (entries s row) ds + entry_of (cells s column) row
  yes_takes = taken-set_yes (entries s row) ds column free ∙ ap (λ n. taken (entries s row) ds + n) (entry_is s row column)

  no_takes : taken (entries s row) (set ds column (Some false)) ≡ taken (entries s row) ds
  no_takes = taken-set_no (entries s row) ds column free

  caps : (b : Bool) → cap (entries s row) (set ds column (Some b)) + entry_of (cells s column) row ≡ cap (entries s row) ds
  caps b = ap (λ n. cap (entries s row) (set ds column (Some b)) + n) (sym (entry_is s row column)) ∙ cap-set (entries s row) ds column b free

  -- a decision can be made
  can_decide : (is : Bool) → CanChange (change_of is) (tally_of s ds row) (entry_of (cells s column) row)
  can_decide true = omega (arith, caps true)
  can_decide false = omega (arith, caps false)

  -- and has its tally
  decides : (is : Bool) → changed (change_of is) (tally_of s ds row) (entry_of (cells s column) row) ≡ tally_of s (set ds column (Some is)) row
  decides true =
      let t : taken (entries s row) ds + entry_of (cells s column) row ≡ taken (entries s row) (set ds column (Some true)) = sym yes_takes in
      let c : cap (entries s row) ds - entry_of (cells s column) row ≡ cap (entries s row) (set ds column (Some true)) = omega (arith, caps true) in
      rw (t, c)
  decides false =
      let t : taken (entries s row) ds ≡ taken (entries s row) (set ds column (Some false)) = sym no_takes in
      let c : cap (entries s row) ds - entry_of (cells s column) row ≡ cap (entries s row) (set ds column (Some false)) = omega (arith, caps false) in
      rw (t, c)

  -- it can be taken back, if all the row's entries fit
  can_undo : (b : Bool) → cap (entries s row) [] < 2 ^ 63 → CanChange (change_back (Some b)) (tally_of s (set ds column (Some b)) row) (entry_of (cells s column) row)
  can_undo true whole = omega (arith, yes_takes)
  can_undo false whole = omega (arith, no_takes, caps false, taken_cap_le (entries s row) ds)

  -- and leaves the tally from before
  undoes : (b : Bool) → changed (change_back (Some b)) (tally_of s (set ds column (Some b)) row) (entry_of (cells s column) row) ≡ tally_of s ds row
  undoes true =
      let t : taken (entries s row) (set ds column (Some true)) - entry_of (cells s column) row ≡ taken (entries s row) ds = omega (arith, yes_takes) in
      let c : cap (entries s row) (set ds column (Some true)) + entry_of (cells s column) row ≡ cap (entries s row) ds = caps true in
      rw (t, c)
  undoes false =
      let t : taken (entries s row) (set ds column (Some false)) ≡ taken (entries s row) ds = no_takes in
      let c : cap (entries s row) (set ds column (Some false)) + entry_of (cells s column) row ≡ cap (entries s row) ds = caps false in
      rw (t, c)

pub tallied_can_decide : (s : System) (ds : Decisions) (ts : List Tally) (column : ℕ) (is : Bool) → AreTallied s ds ts → slice_get ds column ≡ Some None → (row : ℕ) → row < length ts → CanChange (change_of is) (tally_at ts row) (entry_of (cells s column) row)
tallied_can_decide s ds ts column is t free row h = rw (t.each row (omega (arith, t.long))) (can_decide s ds column row free is)

pub tallied_decided : (s : System) (ds : Decisions) (ts next : List Tally) (column : ℕ) (is : Bool) → AreTallied s ds ts → slice_get ds column ≡ Some None → ChangesAlong (change_of is) (cells s column) ts next → AreTallied s (set ds column (Some is)) next
tallied_decided s ds ts next column is t free along =
    record {
      long = along.long ∙ t.long;
      each = λ row h. along.each row (omega (arith, t.long)) ∙ ap (λ a. changed (change_of is) a (entry_of (cells s column) row)) (t.each row h) ∙ decides s ds column row free is;
      whole = t.whole;
    }

-- decisions are those from before the last one, with that one made again
module _ (s : System) (ds : Decisions) (ts : List Tally) (column : ℕ) (b : Bool) (t : AreTallied s ds ts) (made : slice_get ds column ≡ Some (Some b)) where
  earlier : Decisions
  earlier = set ds column None

  free_again : slice_get (set ds column None) column ≡ Some None
  free_again = slice_get-set ds column (Some b) None made

  made_again : set (set ds column None) column (Some b) ≡ ds
  made_again = set_back ds column (Some b) None made

  tally_again : (row : ℕ) → tally_of s (set (set ds column None) column (Some b)) row ≡ tally_of s ds row
  tally_again row = ap (λ d. tally_of s d row) made_again

  pub tallied_can_undo : (row : ℕ) → row < length ts → CanChange (change_back (Some b)) (tally_at ts row) (entry_of (cells s column) row)
  tallied_can_undo row h =
      let within : row < length s.targets = omega (arith, t.long) in
      rw (t.each row within, ← tally_again row) (can_undo s (set ds column None) column row free_again b (t.whole row within))

  pub tallied_undone : (next : List Tally) → ChangesAlong (change_back (Some b)) (cells s column) ts next → AreTallied s (set ds column None) next
  tallied_undone next along =
      record {
        long = along.long ∙ t.long;
        each = λ row h. along.each row (omega (arith, t.long)) ∙ ap (λ a. changed (change_back (Some b)) a (entry_of (cells s column) row)) (t.each row h ∙ sym (tally_again row)) ∙ undoes s (set ds column None) column row free_again b;
        whole = t.whole;
      }

-- the first tally that passes is the least row's
pub first_row : (s : System) (ds : Decisions) (ts : List Tally) (test : Tally → Bool) (p : ℕ → Bool) (row : ℕ) → AreTallied s ds ts → ((k : ℕ) → test (tally_of s ds k) ≡ p k) → IsFirst test ts (Some row) → least_row s p ≡ Some row
first_row s ds ts test p row t same first =
    least_row_is s p row (omega (arith, first.0, t.long)) (sym (same row) ∙ ap test (sym (t.each row (omega (arith, first.0, t.long)))) ∙ first.1) (λ k h. sym (same k) ∙ ap test (sym (t.each k (omega (arith, first.0, t.long)))) ∙ first.2 k h)

pub first_none : (s : System) (ds : Decisions) (ts : List Tally) (test : Tally → Bool) (p : ℕ → Bool) → AreTallied s ds ts → ((k : ℕ) → test (tally_of s ds k) ≡ p k) → IsFirst test ts None → least_row s p ≡ None
first_none s ds ts test p t same none =
    least_row_none s p (length s.targets) (omega arith) (λ k h. sym (same k) ∙ ap test (sym (t.each k h)) ∙ none k (omega (arith, t.long)))

-- where no tally is unmet all is settled
pub settled_is : (s : System) (ds : Decisions) (ts : List Tally) (b : Bool) → AreTallied s ds ts → (b ≡ true → (k : ℕ) → k < length ts → is_unmet_tally (tally_at ts k) ≡ false) → (b ≡ false → (k : ℕ) × (k < length ts) × (is_unmet_tally (tally_at ts k) ≡ true)) → b ≡ is_settled s ds
settled_is s ds ts true t met unmet =
    sym (rows_pass s (is_met s ds) (λ row h. not-false (is_met s ds row) (ap is_unmet_tally (sym (t.each row h)) ∙ met refl row (omega (arith, t.long)))))
settled_is s ds ts false t met unmet =
    let bad = unmet refl in
    let within : bad.0 < length s.targets = omega (arith, bad.1, t.long) in
    sym (row_fails s (is_met s ds) bad.0 within (not-true (is_met s ds bad.0) (ap is_unmet_tally (sym (t.each bad.0 within)) ∙ bad.2)))
