use Rattle.std.proofs.Common.{get_or, false, ◌∙◌}
use Rattle.df_matrix.proofs.PlaceLists.{numbers_more, numbers_same}
use Rattle.df_matrix.proofs.columns.numbers_of.Goals as goal

pub loop-i-preserved-then-not-marks-i : goal.loop-i-preserved-then-not-marks-i
loop-i-preserved-then-not-marks-i c = numbers_same (λ k. get_or c.args.marks.now k false) c.loop-i.i c.loop-i.numbers.items c.loop-i.invariant c.if-not-marks-i.true

pub loop-i-preserved : goal.loop-i-preserved
loop-i-preserved c = c.in_ok-push.ensures.items ∙ numbers_more (λ k. get_or c.args.marks.now k false) c.loop-i.i c.loop-i.numbers.items c.loop-i.invariant c.if-not-marks-i.false
