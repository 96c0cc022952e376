use Rattle.std.proofs.Common.{ltb-true, ltb-false}
use Rattle.df_system.specs.CountedRows.{is_over_row}
use Rattle.df_system.proofs.PassingRows.{tells_by_count}
use Rattle.df_system.proofs.counted_rows.CountedRows.is_over.Goals as goal

pub returns : goal.returns
returns c = rw (← c.self.view_is) (tells_by_count is_over_row c.self.inside.rows.items c.self.inside.over _ c.self.invariant.over_is (λ h. ltb-true 0 c.self.inside.over h) (λ h. ltb-false 0 c.self.inside.over h))
