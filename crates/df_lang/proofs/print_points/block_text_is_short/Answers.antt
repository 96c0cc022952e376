use Rattle.std.proofs.Common.{ℕ, ◌+◌, ◌<◌, List, [], ◌∷◌, subst, arith}
use Rattle.df_io.specs.Joined.{Each}
use Rattle.df_lists.specs.NumberSets.{Rises}
use Rattle.df_lang.specs.Problems.{IsStated}
use Rattle.df_lang.proofs.Lengths.{block_short}
use Rattle.df_lang.proofs.print_points.block_text_is_short.Goals as goal

small : (low : ℕ) (block : List ℕ) → Rises low 128 block → Each (λ p. p < 256) block
small low [] is = tt
small low (p ∷ ps) is = (omega (arith, is.1), small (p + 1) ps is.2)

pub returns : goal.returns
returns c =
    let stated = subst IsStated c.problem.view_is c.problem.invariant in
    block_short c.args.problem.now.group c.args.block.now stated.shape (small 0 c.args.block.now c.points-points.ensures.block)
