use Rattle.std.proofs.Common.{ap, ◌∙◌, codes}
use Rattle.df_io.proofs.Writing.{writes_as, writes_then, writes_stopped}
use Rattle.df_tell.specs.Counts.{count_line}
use Rattle.df_tell.proofs.run.write_source.Goals as goal

pub returns-in_err-write_all : goal.returns-in_err-write_all
returns-in_err-write_all g c =
    writes_stopped _ (writes_as (c.as_slice.ensures.value ∙ c.fill_count.ensures ∙ ap (count_line (codes "source ")) c.line_count.ensures) c.in_err-write_all.ensures) c.from_residual.ensures.0

pub returns : goal.returns
returns g c =
    writes_then (writes_as (c.as_slice.ensures.value ∙ c.fill_count.ensures ∙ ap (count_line (codes "source ")) c.line_count.ensures) c.in_ok-write_all.ensures) c.write_canonical.ensures
