use Rattle.std.proofs.Common.{ℕ, ◌+◌, ◌-◌, cond, is_some}
use Rattle.df_io.specs.LineSteps.{Passes}
use Rattle.df_io.proofs.reading.Reading.finish.Given as goal

abbrev pub invariant-loop-self : goal.invariant-loop-self
invariant-loop-self g l = Passes g.S.Source.left g.S.Source.faults l.initial.self l.self l.initial.input l.input

-- a piece has a byte, and one byte more than the limit ends the reading
abbrev pub decreases-loop-self : goal.decreases-loop-self
decreases-loop-self g l = cond (is_some l.self.ended) 0 ((l.self.limit + 1) - l.self.taken)
