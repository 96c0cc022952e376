use Rattle.std.proofs.Common.{◌≡◌, ℕ, List, length, drop, sym, ap, subst, ◌∙◌}
use Rattle.std.specs.List.{refill}
use Rattle.std.specs.List.Sorted.{IsNonDecreasing}
use Rattle.std.proofs.lemmas.List.{take_at}
use Rattle.std.proofs.lemmas.List.Sorted.{IsNonDecreasingBy-from_sort}
use Rattle.df_subsets.specs.Subsets.{choose}
use Rattle.df_matrix.specs.MatrixParts.{AreRowsOf}
use Rattle.df_matrix.proofs.RowLists.{rows_ordered}
use Rattle.df_matrix.proofs.rows.sorted_rows.Goals as goal

refill_whole : (n : ℕ) (xs ws : List ℕ) → length ws ≡ n → refill n xs ws ≡ ws
refill_whole n xs ws e = take_at ws (drop (length ws) xs) n e

whole : (c : goal.After-rows-2-1) → refill (length c.listed_rows-rows.result.items) c.listed_rows-rows.result.items c.sort_unstable.new.self ≡ c.sort_unstable.new.self
whole c = refill_whole (length c.listed_rows-rows.result.items) c.listed_rows-rows.result.items c.sort_unstable.new.self (c.sort_unstable.ensures.len ∙ ap length c.as_mut_slice.ensures.value)

pub returns-clause-rows : goal.returns-clause-rows
returns-clause-rows c =
    subst (AreRowsOf c.args.orbits.now (choose c.args.block.now 2)) (sym (whole c))
    (rows_ordered c.args.orbits.now (choose c.args.block.now 2) c.as_mut_slice.result.now c.sort_unstable.new.self (subst (AreRowsOf c.args.orbits.now (choose c.args.block.now 2)) (sym c.as_mut_slice.ensures.value) c.listed_rows-rows.ensures) c.sort_unstable.ensures.permutation)

pub returns-clause-sorted : goal.returns-clause-sorted
returns-clause-sorted c = subst IsNonDecreasing (sym (whole c)) (IsNonDecreasingBy-from_sort (λ x. x) c.sort_unstable.new.self c.sort_unstable.ensures.sorted)
