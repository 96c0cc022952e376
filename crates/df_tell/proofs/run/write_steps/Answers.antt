use Rattle.df_tell.proofs.RunSteps.{err_written}
use Rattle.df_tell.proofs.GatheredTexts.{written_whole, written_stopped, written_late}
use Rattle.df_tell.proofs.run.write_steps.Goals as goal

pub returns-in_err-ran-clause-written : goal.returns-in_err-ran-clause-written
returns-in_err-ran-clause-written g c = written_stopped (rw c.clear.ensures at c.in_err-ran.ensures.gathers) (err_written c.from_residual.result c.from_residual.ensures.0)

pub returns-in_err-write_gathered-clause-written : goal.returns-in_err-write_gathered-clause-written
returns-in_err-write_gathered-clause-written g c =
    written_late (rw c.clear.ensures at c.in_ok-ran.ensures.gathers) c.in_err-write_gathered.ensures.same (err_written c.from_residual-in_err-write_gathered.result c.from_residual-in_err-write_gathered.ensures.0)

pub returns-clause-written : goal.returns-clause-written
returns-clause-written g c = written_whole (rw c.clear.ensures at c.in_ok-ran.ensures.gathers) c.in_ok-write_gathered.ensures.same c.in_ok-write_gathered.ensures.empty
