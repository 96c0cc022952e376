use Rattle.std.proofs.Common.{subst}
use Rattle.df_io.specs.Streams.{IsStream}
use Rattle.df_io.proofs.reading.Reading.keeps_limits.Goals as goal

pub returns : goal.returns
returns c = subst IsStream c.self.view_is c.self.invariant
