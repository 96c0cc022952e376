use Rattle.std.proofs.Common.{◌∙◌}
use Rattle.df_io.proofs.Writing.{writes_as, writes_then, writes_stopped, writes_stopped_then}
use Rattle.df_tell.proofs.RunTexts.{path_is}
use Rattle.df_tell.proofs.run.write_path.Goals as goal

pub returns-in_err-write_all : goal.returns-in_err-write_all
returns-in_err-write_all g c =
    writes_as (path_is c.args.path.decisions.now c.args.path.length c.requires)
    (writes_stopped _ (writes_as (c.as_slice.ensures.value ∙ c.fill_length.ensures) c.in_err-write_all.ensures) c.from_residual.ensures.0)

pub returns-in_err-write_columns : goal.returns-in_err-write_columns
returns-in_err-write_columns g c =
    writes_as (path_is c.args.path.decisions.now c.args.path.length c.requires)
    (writes_stopped_then _ (writes_as (c.as_slice.ensures.value ∙ c.fill_length.ensures) c.in_ok-write_all.ensures) c.in_err-write_columns.ensures c.from_residual-in_err-write_columns.ensures.0)

pub returns : goal.returns
returns g c =
    writes_as (path_is c.args.path.decisions.now c.args.path.length c.requires)
    (writes_then (writes_as (c.as_slice.ensures.value ∙ c.fill_length.ensures) c.in_ok-write_all.ensures) (writes_then c.in_ok-write_columns.ensures c.write_all-2.ensures))
