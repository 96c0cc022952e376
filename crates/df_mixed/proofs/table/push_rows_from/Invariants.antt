use Rattle.std.proofs.Common.{◌≡◌, ◌-◌, ◌+◌, ◌++◌, ℕ, map, filter}
use Rattle.std.specs.List.{range_with_len}
use Rattle.df_mixed.specs.PairOrbits.{is_row}
use Rattle.df_mixed.specs.MixedTables.{pair_entry}
use Rattle.df_mixed.proofs.table.push_rows_from.Given as goal

abbrev pub invariant-loop-number : goal.invariant-loop-number
invariant-loop-number l = l.entries.items ≡ l.fn.entries.items ++ map (pair_entry l.problem l.shifts) (filter (is_row l.problem l.shifts) (map (λ (q : ℕ). (l.p, q)) (range_with_len (l.p + 1) (l.number - (l.p + 1)))))
