use Rattle.std.proofs.Common.{◌≡◌, ◌++◌, map, drop, decimal}
use Rattle.df_lang.specs.Separated.{each_after}
use Rattle.df_lang.proofs.print_statements.put_sizes_after.Given as goal

-- what is written, and what is left, are the whole
abbrev pub invariant-loop-size : goal.invariant-loop-size
invariant-loop-size l =
    l.buf.items ++ each_after 32 (map decimal (drop l.size-index l.sizes)) ≡ l.initial.buf.items ++ each_after 32 (map decimal l.sizes)
