use Rattle.std.proofs.Common.{◌∙◌}
use Rattle.df_io.proofs.Writing.{writes_as, writes_then, writes_stopped}
use Rattle.df_tell.proofs.RunTexts.{spent_end}
use Rattle.df_tell.proofs.run.write_end.Goals as goal

pub returns-in_err-write_all-in-Spent : goal.returns-in_err-write_all-in-Spent
returns-in_err-write_all-in-Spent g c =
    writes_as (spent_end c.args.ran.designs c.args.ran.nodes c.args.ran.end c.args.designs.now.search c.place-place.result.decisions.now c.in-Spent.is c.place-place.ensures.stands.search.place)
    (writes_stopped _ (writes_as (c.as_slice-in-Spent.ensures.value ∙ c.fill_end.ensures.text) c.in_err-write_all-in-Spent.ensures) c.from_residual.ensures.0)

pub returns-in_ok-write_all-in-Spent : goal.returns-in_ok-write_all-in-Spent
returns-in_ok-write_all-in-Spent g c =
    writes_as (spent_end c.args.ran.designs c.args.ran.nodes c.args.ran.end c.args.designs.now.search c.place-place.result.decisions.now c.in-Spent.is c.place-place.ensures.stands.search.place)
    (writes_then (writes_as (c.as_slice-in-Spent.ensures.value ∙ c.fill_end.ensures.text) c.in_ok-write_all-in-Spent.ensures) c.write_path.ensures)
