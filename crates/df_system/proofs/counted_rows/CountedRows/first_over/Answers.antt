use Rattle.std.proofs.Common.{sym, ◌∙◌}
use Rattle.df_system.specs.CountedRows.{is_over_row}
use Rattle.df_system.proofs.PassingRows.{no_row_passes}
use Rattle.df_system.proofs.counted_rows.CountedRows.first_over.Goals as goal

pub returns-then-self-eq0 : goal.returns-then-self-eq0
returns-then-self-eq0 c = rw (← c.self.view_is) (λ k h. no_row_passes is_over_row c.self.inside.rows.items k (sym c.self.invariant.over_is ∙ c.if-self-eq0.true) h)
