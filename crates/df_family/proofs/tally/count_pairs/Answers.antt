use Rattle.std.proofs.Common.{◌≡◌, ◌+◌, ◌*◌, ◌/◌, ◌%◌, get_or, cond, ap, sym, ◌∙◌, arith}
use Rattle.df_group.specs.Elements.{order_of}
use Rattle.df_lang.specs.Balance.{holds_both}
use Rattle.df_family.proofs.TallyLaws.{at_its_turn}
use Rattle.df_family.proofs.tally.count_pairs.Goals as goal

pub loop-i-preserved : goal.loop-i-preserved
loop-i-preserved c = λ k h.
    let n = order_of c.args.problem.now.group in
    let block = c.args.block.now in
    let i = c.loop-i.i in
    let now = c.loop-i.cells in
    let next = c.count_pairs_with.new.cells in
    at_its_turn (k / 16) i (get_or c.args.cells.now k 0) (get_or now k 0) (get_or next k 0) (cond (holds_both block (n + k / 16) (n + k % 16)) n 0) (c.loop-i.invariant k h)
    (λ e.
    let place : 16 * i + k % 16 ≡ k = omega arith in
    sym (ap (λ x. get_or next x 0) place) ∙ c.count_pairs_with.ensures.here (k % 16) (omega arith)
    ∙ ap (λ x. get_or now x 0 + cond (holds_both block (n + i) (n + k % 16)) n 0) place
    ∙ ap (λ y. get_or now k 0 + cond (holds_both block (n + y) (n + k % 16)) n 0) (sym e))
    (c.count_pairs_with.ensures.elsewhere k)
