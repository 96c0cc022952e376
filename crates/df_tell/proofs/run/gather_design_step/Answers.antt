use Rattle.std.proofs.Common.{arith, refl}
use Rattle.df_tell.proofs.RunSteps.{tells_as, finds_tells, finds_pays, passes_tells}
use Rattle.df_tell.proofs.run.gather_design_step.Goals as goal

pub overflow_add-counts : goal.overflow_add-counts
overflow_add-counts g c = omega (arith, finds_pays c.args.designs.now.search c.next.new.self.search c.args.counts.now.left c.next.new.budget c.in-Design.ensures.turn)

pub returns-in-Design-clause-tells : goal.returns-in-Design-clause-tells
returns-in-Design-clause-tells g c =
    tells_as c.goes_on.ensures.same (finds_tells c.requires.search c.next.ensures.problem c.requires.silent c.in-Design.ensures.turn refl c.gather_design.ensures)

pub returns-in-Spent-clause-tells : goal.returns-in-Spent-clause-tells
returns-in-Spent-clause-tells g c = passes_tells c.requires.search c.next.ensures.problem c.requires.silent c.in-Spent.ensures.turn.passes refl

pub returns-in-Finished-clause-tells : goal.returns-in-Finished-clause-tells
returns-in-Finished-clause-tells g c = passes_tells c.requires.search c.next.ensures.problem c.requires.silent c.in-Finished.ensures.turn.passes refl
