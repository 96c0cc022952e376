use Rattle.std.proofs.Common.{ap, sym, ◌∙◌}
use Rattle.df_io.proofs.Writing.{writes_as, writes_nothing}
use Rattle.df_tell.specs.RunSteps.{column_text}
use Rattle.df_tell.proofs.run.write_column.Goals as goal

pub returns-then-chosen : goal.returns-then-chosen
returns-then-chosen g c = writes_as (c.as_slice.ensures.value ∙ c.fill_column.ensures ∙ ap (λ b. column_text b c.args.column) (sym c.if-chosen.true)) c.write_all.ensures

pub returns-else-chosen : goal.returns-else-chosen
returns-else-chosen g c = writes_as (ap (λ b. column_text b c.args.column) (sym c.if-chosen.false)) writes_nothing
