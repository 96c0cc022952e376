use Rattle.std.proofs.Common.{◌≡◌, ◌≤◌, ◌+◌, ◌-◌, ◌*◌, ◌∙◌, ap, arith, length, get_or, drop, pos, to_z, w64}
use Rattle.df_walk.specs.declared.CutRow.{CutRow}
use Rattle.df_walk.specs.Systems.{entry_of, cells}
use Rattle.df_walk.specs.Cuts.{weight_of}
use Rattle.df_check.proofs.CutSums.{weight_front}
use Rattle.df_check.proofs.SignedSums.{row_step}
use Rattle.df_check.proofs.cuts.weight_of.Goals as goal

pub loop-place-preserved : goal.loop-place-preserved
loop-place-preserved g c =
    let i = c.loop-place.invariant in
    let column = cells c.args.system.now c.args.column in
    let ws = c.args.rows.now in
    let n = c.loop-place.place in
    let next : n ≡ (n - 1) + 1 = omega (arith, c.loop-place-test.true) in
    let none : CutRow = record { weight = pos 0; row = 0 } in
    let w : CutRow = get_or ws (n - 1) none in
    let all : length ws * 262144000000 ≤ 300000000000000000 = omega (arith, c.requires.few) in
    let step = row_step (to_z w64 c.loop-place.sum-bits) c.weighted-sum.result c.small_weight.result c.small_entry.result w.weight (pos (entry_of column w.row)) (weight_of (drop (n - 1) ws) column) (weight_of (drop ((n - 1) + 1) ws) column) (n - 1) n 8000000 262144000000 (length ws * 262144000000) next i.small all (omega arith) (omega arith) (omega arith) c.small_weight.ensures.value c.small_entry.ensures.value c.weighted-sum.ensures.value c.small_weight.ensures.small c.small_entry.ensures.small c.weighted-sum.ensures.small (i.sum ∙ ap (λ j. weight_of (drop j ws) column) next) (weight_front column ws (n - 1) none (omega (arith, i.within))) in
    record { within = omega (arith, i.within); sum = step.0; small = step.1 }
