use Rattle.df_io.proofs.Writing.{writes_as}
use Rattle.df_tell.proofs.GatheredTexts.{gathers_written, gathers_failed}
use Rattle.df_tell.proofs.gathered.write_gathered.Goals as goal

pub returns-in_err-write_all-clause-same : goal.returns-in_err-write_all-clause-same
returns-in_err-write_all-clause-same g c = gathers_failed (writes_as c.as_slice.ensures.value c.in_err-write_all.ensures) c.from_residual.ensures.0

pub returns-clause-same : goal.returns-clause-same
returns-clause-same g c = rw c.clear.ensures (gathers_written (writes_as c.as_slice.ensures.value c.in_ok-write_all.ensures))
