-- The rows, columns and entries of an orbit system are numbers that may stand in a dossier.
use Rattle.std.proofs.Common.{◌≡◌, ℕ, ◌<◌, ◌≤◌, Bool, true, false, cond, List, [], length, Option, Some, None, IfSome, inl, inr, arith}
use Rattle.std.specs.Prelude.{slice_index, slice_index_or}
use Rattle.std.proofs.lemmas.Bool.{cases_lt}
use Rattle.std.proofs.lemmas.List.{length-map}
use Rattle.df_lists.proofs.ListPlaces.{In-get_or}
use Rattle.df_lists.proofs.MemberLaws.{In-filter_gives}
use Rattle.df_lang.specs.declared.pieces.Inside.{Inside}
use Rattle.df_lang.specs.Problems.{Stated, IsStated, IsInside}
use Rattle.df_lang.specs.Targets.{finite_target, target}
use Rattle.df_system.specs.Storage.{positive_cells}
use Rattle.df_kramer_mesner.specs.OrbitSystems.{pairs_of, orbits_of, entries_of, targets_of, is_kept, columns_of, column_at, orbit_system}
use Rattle.df_kramer_mesner.specs.Laws.{RowsArePairsAndNeeded, OrbitsAreKept, ColumnsAreSparse, EntriesAreCounts}
use Rattle.df_tell.proofs.LoggedEntries.{IsNumbered}

either_small : (b : Bool) (x y : ℕ) → x ≤ 2000000 → y ≤ 2000000 → cond b x y ≤ 2000000
either_small true x y h g = h
either_small false x y h g = g

finite_small : (s : Stated) (o : Option Inside) (p q : ℕ) → IsStated s → IfSome o (IsInside s.names) → finite_target s o p q ≤ 2000000
finite_small s None p q is inside = is.lambda
finite_small s (Some inside) p q is here = either_small _ inside.target s.lambda here.target is.lambda

-- a target is at most the greatest that may be stated
target_small : (s : Stated) (p q : ℕ) → IsStated s → target s p q ≤ 2000000
target_small s p q is =
    either_small _ (finite_target s s.inside p q) _ (finite_small s s.inside p q is is.inside) (either_small _ s.hole s.lambda is.hole is.lambda)

module _ (s : Stated) (is : IsStated s) (rows : RowsArePairsAndNeeded) (kept : OrbitsAreKept) where
  row_target : (row : ℕ) → row < length (targets_of s) → slice_index (targets_of s) row ≤ 2000000
  row_target row there =
      elim (cases_lt row (length (pairs_of s))) [
        | inl pair ↦ let e = (rows s []).pair_target row pair in let points = slice_index_or (pairs_of s) row [] in rw e (target_small s (slice_index points 0) (slice_index points 1) is)
        | inr needed ↦ let e = (rows s []).needed_target row (omega (arith, needed)) (omega (arith, there, (rows s []).targets)) in rw e (omega arith)
      ]

  kept_small : (b : List ℕ) → is_kept s b ≡ true → (row : ℕ) → row < length (targets_of s) → slice_index (entries_of s b) row ≤ 4294967295
  kept_small b keeps row there = omega (arith, (kept s b).within keeps row there, row_target row there)

  column_kept : (column : ℕ) → column < length (columns_of s) → is_kept s (column_at s column) ≡ true
  column_kept column there = (In-filter_gives (is_kept s) (orbits_of s) (column_at s column) (In-get_or (columns_of s) column [] there)).1

  pub is_numbered : ColumnsAreSparse → EntriesAreCounts → length (columns_of s) ≤ 4294967295 → IsNumbered (orbit_system s)
  is_numbered sparse counts few =
      let columns = length-map (columns_of s) (λ b. positive_cells 0 (entries_of s b)) in
      record {
        columns = omega (arith, few, columns);
        rows = omega (arith, (sparse s is).rows);
        entries = λ row column there within.
            let low : column < length (columns_of s) = omega (arith, within, columns) in
            let e = counts s row column there low in rw e (kept_small (column_at s column) (column_kept column low) row there);
      }
