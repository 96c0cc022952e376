use Rattle.std.proofs.Common.{◌≡◌, ◌≤◌, [], length, All}
use Rattle.df_group.specs.Elements.{order_of, IsFactor}
use Rattle.df_io.specs.Lines.{left}
use Rattle.df_lang.specs.Values.{factors_from}
use Rattle.df_lang.proofs.groups.factors.Given as goal

abbrev pub invariant-loop-token : goal.invariant-loop-token
invariant-loop-token l =
    (factors_from l.factors.items (left l.tokens) ≡ factors_from [] (left l.fn.tokens))
    × (l.order ≡ order_of l.factors.items)
    × (l.order ≤ 128)
    × (length l.factors.items ≤ 7)
    × All IsFactor l.factors.items

abbrev pub decreases-loop-token : goal.decreases-loop-token
decreases-loop-token l = length (left l.tokens)
