use Rattle.std.proofs.Common.{◌≡◌, filter, get_or, false}
use Rattle.std.specs.List.{range_with_len}
use Rattle.df_matrix.proofs.columns.numbers_of.Given as goal

abbrev pub invariant-loop-i : goal.invariant-loop-i
invariant-loop-i l = l.numbers.items ≡ filter (λ k. get_or l.marks k false) (range_with_len 0 l.i)
