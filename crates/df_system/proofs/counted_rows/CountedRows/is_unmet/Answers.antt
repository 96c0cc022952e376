use Rattle.std.proofs.Common.{ltb-true, ltb-false}
use Rattle.df_system.specs.CountedRows.{is_unmet_row}
use Rattle.df_system.proofs.PassingRows.{tells_by_count}
use Rattle.df_system.proofs.counted_rows.CountedRows.is_unmet.Goals as goal

pub returns : goal.returns
returns c = rw (← c.self.view_is) (tells_by_count is_unmet_row c.self.inside.rows.items c.self.inside.unmet _ c.self.invariant.unmet_is (λ h. ltb-true 0 c.self.inside.unmet h) (λ h. ltb-false 0 c.self.inside.unmet h))
