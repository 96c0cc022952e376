use Rattle.std.proofs.Common.{◌≡◌, ◌++◌, map, drop, decimal}
use Rattle.df_lang.specs.Separated.{each_after}
use Rattle.df_lang.proofs.print_points.put_numbers_after.Given as goal

-- what is written, and what is left, are the whole
abbrev pub invariant-loop-number : goal.invariant-loop-number
invariant-loop-number l =
    l.buf.items ++ each_after l.byte (map decimal (drop l.number-index l.numbers)) ≡ l.initial.buf.items ++ each_after l.byte (map decimal l.numbers)
