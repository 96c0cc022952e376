use Rattle.std.proofs.Common.{◌≡◌, ◌≤◌, ◌+◌, ◌-◌, ◌*◌, ◌∙◌, ap, arith, length, get_or, drop, pos, to_z, w64}
use Rattle.df_walk.specs.declared.CutRow.{CutRow}
use Rattle.df_walk.specs.Assignments.{need}
use Rattle.df_walk.specs.Cuts.{weighted_need}
use Rattle.df_check.proofs.CutSums.{need_front}
use Rattle.df_check.proofs.SignedSums.{row_step}
use Rattle.df_check.proofs.cuts.weighted_need.Goals as goal

pub loop-place-preserved : goal.loop-place-preserved
loop-place-preserved c =
    let i = c.loop-place.invariant in
    let s = c.args.system.now in
    let ds = c.args.partial.now.decisions in
    let ws = c.args.rows.now in
    let n = c.loop-place.place in
    let next : n ≡ (n - 1) + 1 = omega (arith, c.loop-place-test.true) in
    let none : CutRow = record { weight = pos 0; row = 0 } in
    let w : CutRow = get_or ws (n - 1) none in
    let all : length ws * 17180131328000000 ≤ 300000000000000000 = omega (arith, c.requires.few) in
    let step = row_step (to_z w64 c.loop-place.sum-bits) c.weighted-sum.result c.small_weight.result c.small_need.result w.weight (need s ds w.row) (weighted_need s ds (drop (n - 1) ws)) (weighted_need s ds (drop ((n - 1) + 1) ws)) (n - 1) n 524296000000 17180131328000000 (length ws * 17180131328000000) next i.small all (omega arith) (omega arith) (omega arith) c.small_weight.ensures.value c.small_need.ensures.value c.weighted-sum.ensures.value c.small_weight.ensures.small c.small_need.ensures.small c.weighted-sum.ensures.small (i.sum ∙ ap (λ j. weighted_need s ds (drop j ws)) next) (need_front s ds ws (n - 1) none (omega (arith, i.within))) in
    record { within = omega (arith, i.within); sum = step.0; small = step.1 }
