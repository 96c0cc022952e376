use Rattle.std.proofs.Common.{◌≡◌, ◌<◌, [], length, All}
use Rattle.df_io.specs.Lines.{left}
use Rattle.df_group.specs.Elements.{order_of}
use Rattle.df_lang.specs.Values.{elements_from}
use Rattle.df_lang.proofs.generators.elements.Given as goal

abbrev pub invariant-loop-token : goal.invariant-loop-token
invariant-loop-token l =
    (elements_from l.shape l.elements.items (left l.tokens) ≡ elements_from l.shape [] (left l.fn.tokens))
    × All (λ e. e < order_of l.shape) l.elements.items

abbrev pub decreases-loop-token : goal.decreases-loop-token
decreases-loop-token l = length (left l.tokens)
