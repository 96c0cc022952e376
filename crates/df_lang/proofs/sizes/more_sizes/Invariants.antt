use Rattle.std.proofs.Common.{◌≡◌, length}
use Rattle.df_io.specs.Lines.{left}
use Rattle.df_lists.specs.NumberSets.{Rises}
use Rattle.df_lang.specs.Values.{sizes_from}
use Rattle.df_lang.proofs.sizes.more_sizes.Given as goal

abbrev pub invariant-loop-token : goal.invariant-loop-token
invariant-loop-token l =
    (sizes_from l.most l.set (left l.tokens) ≡ sizes_from l.most l.fn.sizes (left l.fn.tokens))
    × Rises 2 17 l.set

abbrev pub decreases-loop-token : goal.decreases-loop-token
decreases-loop-token l = length (left l.tokens)
