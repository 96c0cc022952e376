use Rattle.df_io.proofs.Writing.{writes_as, writes_then, writes_stopped, writes_stopped_then}
use Rattle.df_tell.proofs.run.write_start.Goals as goal

pub returns-in_err-write_all : goal.returns-in_err-write_all
returns-in_err-write_all g c = writes_stopped _ (writes_as c.head.ensures c.in_err-write_all.ensures) c.from_residual.ensures.0

pub returns-in_err-write_source : goal.returns-in_err-write_source
returns-in_err-write_source g c =
    writes_stopped_then _ (writes_as c.head.ensures c.in_ok-write_all.ensures) c.in_err-write_source.ensures c.from_residual-in_err-write_source.ensures.0

pub returns-in_err-write_all-2 : goal.returns-in_err-write_all-2
returns-in_err-write_all-2 g c =
    writes_then (writes_as c.head.ensures c.in_ok-write_all.ensures)
    (writes_stopped_then _ c.in_ok-write_source.ensures c.in_err-write_all-2.ensures c.from_residual-in_err-write_all-2.ensures.0)

pub returns : goal.returns
returns g c =
    writes_then (writes_as c.head.ensures c.in_ok-write_all.ensures)
    (writes_then c.in_ok-write_source.ensures (writes_then c.in_ok-write_all-2.ensures c.write_path.ensures))
