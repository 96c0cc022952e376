-- How large the targets and the entries of an orbit system can be.
use Rattle.std.proofs.Common.{◌≡◌, ℕ, ◌+◌, ◌<◌, ◌≤◌, ◌-◌, Bool, true, false, cond, ◌&&◌, List, [], length, Option, None, Some, slice_index, sym, subst, arith, inl, inr}
use Rattle.std.specs.Prelude.{not, slice_index_or, IfSome}
use Rattle.std.proofs.lemmas.Bool.{cases_lt}
use Rattle.df_subsets.specs.Subsets.{same_list}
use Rattle.df_group.specs.Subgroups.{same_coset}
use Rattle.df_lang.specs.declared.problem.TheConstants.{MOST_TARGET}
use Rattle.df_lang.specs.declared.pieces.Inside.{Inside}
use Rattle.df_lang.specs.Problems.{Stated, IsStated, IsInside}
use Rattle.df_lang.specs.Targets.{target, finite_target, subgroup_at, is_finite}
use Rattle.df_walk.specs.Systems as systems
use Rattle.df_kramer_mesner.specs.OrbitSystems.{pairs_of, needed_of, columns_of, targets_of, entry_at, column_at, all_blocks, needed_entry, orbit_cover, orbit_system}
use Rattle.df_kramer_mesner.specs.Laws.{AreRows, RowsArePairsAndNeeded, AreFew, EntriesAreCounts}

cond_low : (most : ℕ) (b : Bool) (m n : ℕ) → m ≤ most → n ≤ most → cond b m n ≤ most
cond_low most true m n h k = h
cond_low most false m n h k = k

finite_low : (s : Stated) → s.lambda ≤ MOST_TARGET → (inside : Option Inside) → IfSome inside (IsInside s.names) → (p q : ℕ) → finite_target s inside p q ≤ MOST_TARGET
finite_low s low None h p q = low
finite_low s low (Some inside) h p q = cond_low MOST_TARGET (same_coset s.group (subgroup_at s inside.subgroup) q p) inside.target s.lambda h.target low

target_low : (s : Stated) → IsStated s → (p q : ℕ) → target s p q ≤ MOST_TARGET
target_low s is p q =
    cond_low MOST_TARGET (is_finite s p && is_finite s q) _ _ (finite_low s is.lambda s.inside is.inside p q)
    (cond_low MOST_TARGET (not (is_finite s p) && not (is_finite s q)) s.hole s.lambda is.hole is.lambda)

pub targets_low : (s : Stated) → IsStated s → RowsArePairsAndNeeded → (row : ℕ) → row < length (targets_of s) → slice_index (targets_of s) row ≤ MOST_TARGET
targets_low s is rows row h =
    let at = rows s (column_at s 0) in
    elim (cases_lt row (length (pairs_of s))) [
      | inl pair ↦
          let pr = slice_index_or (pairs_of s) row [] in
          let low = target_low s is (slice_index pr 0) (slice_index pr 1) in
          omega (arith, at.pair_target row pair, low)
      | inr after ↦ omega (arith, at.needed_target row after (omega (arith, h, at.targets)))
    ]

pub entries_low : (s : Stated) (most : ℕ) → 1 ≤ most → length (all_blocks s) ≤ most → RowsArePairsAndNeeded → AreFew s → EntriesAreCounts → (row column : ℕ) → row < length (targets_of s) → column < length (columns_of s) → systems.entry (orbit_system s) row column ≤ most
entries_low s most some all rows few counts row column h k =
    let b = column_at s column in
    let at = rows s b in
    let is = counts s row column h k in
    elim (cases_lt row (length (pairs_of s))) [
      | inl pair ↦ omega (arith, is, at.pair row pair, few.entry b (slice_index_or (pairs_of s) row []), all)
      | inr after ↦
          let n = slice_index_or (needed_of s) (row - length (pairs_of s)) [] in
          let one = cond_low most (same_list b n) 1 0 some (omega arith) in
          omega (arith, is, at.needed row after (omega (arith, h, at.targets)), one)
    ]
